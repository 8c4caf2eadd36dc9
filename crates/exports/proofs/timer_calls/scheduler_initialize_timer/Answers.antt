use Rattle.std.proofs.Common.{rules, tests}
use Rattle.answers.proofs.Converted.{told-outcome}
use Rattle.answers.specs.declared.Answer.TheVariants.{Done}
use Rattle.calls.specs.Called.{called}
use Rattle.images.specs.Place.{architecture_of, backing_of}
use Rattle.exports.specs.SchedulerAnswer.{truth}
use Rattle.model.specs.Call as call
use Rattle.exports.proofs.timer_calls.scheduler_initialize_timer.Goals as goal

pub returns : goal.returns
returns c = c.change.ensures (λ w. called w (call.InitializeTimer c.args.address (architecture_of c.args.architecture) (backing_of c.args.backing c.args.base c.args.size c.args.mapped) (truth c.args.manual))) (λ w r after a ran says. told-outcome (λ x. Done) r a after.now _ says (λ x b e. e) (search (rules, tests)))
