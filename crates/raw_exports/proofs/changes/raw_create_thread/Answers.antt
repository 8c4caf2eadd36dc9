use Rattle.std.proofs.Common.{rules, tests}
use Rattle.answers.proofs.Converted.{told-outcome}
use Rattle.answers.specs.declared.Answer.TheVariants as answer
use Rattle.threading.specs.Thread as thread
use Rattle.raw_exports.proofs.changes.raw_create_thread.Goals as goal

pub returns : goal.returns
returns c = c.change.ensures (λ w. thread.created w c.args.priority) (λ w r after a ran says. told-outcome (λ id. answer.Thread id.0) r a after.now _ says (λ x b e. e) (search (rules, tests)))
