use Rattle.std.proofs.Common.{rules, tests}
use Rattle.answers.proofs.Converted.{told-outcome}
use Rattle.answers.specs.declared.Answer.TheVariants as answer
use Rattle.calls.specs.Called.{called}
use Rattle.model.specs.Call as call
use Rattle.exports.proofs.timer_calls.scheduler_set_timer_signed.Goals as goal

pub returns : goal.returns
returns c = c.change.ensures (λ w. called w (call.SetTimerSigned c.args.address c.args.due c.args.period c.args.dpc)) (λ w r after a ran says. told-outcome answer.Flag r a after.now _ says (λ x b e. e) (search (rules, tests)))
