use Rattle.std.proofs.Common.{rules, tests}
use Rattle.answers.proofs.Converted.{told-outcome}
use Rattle.answers.specs.declared.Answer.TheVariants as answer
use Rattle.exports.specs.SchedulerAnswer.{truth}
use Rattle.arming.specs.Arm as arm
use Rattle.raw_exports.proofs.timer_calls.raw_set_timer.Goals as goal

pub returns : goal.returns
returns c = c.change.ensures (λ w. arm.timer_set w c.args.address c.args.due (truth c.args.absolute) c.args.period c.args.dpc) (λ w r after a ran says. told-outcome answer.Flag r a after.now _ says (λ x b e. e) (search (rules, tests)))
