use Rattle.std.proofs.Common.{rules, tests}
use Rattle.answers.proofs.Converted.{told-outcome}
use Rattle.answers.specs.declared.Answer.TheVariants.{Done}
use Rattle.exports.specs.SchedulerAnswer.{truth}
use Rattle.events.specs.Events as events
use Rattle.raw_exports.proofs.changes.raw_initialize_event.Goals as goal

pub returns : goal.returns
returns c = c.change.ensures (λ w. events.initialized w c.args.key (truth c.args.manual) (truth c.args.signaled)) (λ w r after a ran says. told-outcome (λ x. Done) r a after.now _ says (λ x b e. e) (search (rules, tests)))
