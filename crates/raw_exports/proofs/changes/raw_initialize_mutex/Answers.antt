use Rattle.std.proofs.Common.{rules, tests}
use Rattle.answers.proofs.Converted.{told-outcome}
use Rattle.answers.specs.declared.Answer.TheVariants.{Done}
use Rattle.mutexes.specs.Mutexes as mutexes
use Rattle.raw_exports.proofs.changes.raw_initialize_mutex.Goals as goal

pub returns : goal.returns
returns c = c.change.ensures (λ w. mutexes.initialized w c.args.key) (λ w r after a ran says. told-outcome (λ x. Done) r a after.now _ says (λ x b e. e) (search (rules, tests)))
