use Rattle.std.proofs.Common.{rules, tests}
use Rattle.answers.proofs.Converted.{told-outcome}
use Rattle.answers.specs.declared.Answer.TheVariants as answer
use Rattle.events.specs.Events as events
use Rattle.raw_exports.proofs.changes.raw_set_event.Goals as goal

pub returns : goal.returns
returns c = c.change.ensures (λ w. events.was_set w c.args.key) (λ w r after a ran says. told-outcome answer.Flag r a after.now _ says (λ x b e. e) (search (rules, tests)))
