use Rattle.std.proofs.Common.{rules, tests}
use Rattle.answers.proofs.Converted.{told-outcome}
use Rattle.answers.specs.declared.Answer.TheVariants.{Done}
use Rattle.threading.specs.Thread as thread
use Rattle.raw_exports.proofs.changes.raw_yield_current.Goals as goal

pub returns : goal.returns
returns c = c.change.ensures (λ w. thread.yielded w) (λ w r after a ran says. told-outcome (λ x. Done) r a after.now _ says (λ x b e. e) (search (rules, tests)))
