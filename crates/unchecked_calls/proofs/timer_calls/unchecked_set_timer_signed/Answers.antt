use Rattle.std.proofs.Common.{rules, tests}
use Rattle.answers.proofs.Converted.{told-outcome}
use Rattle.answers.specs.declared.Answer.TheVariants as answer
use Rattle.unchecked.specs.Unchecked.{unchecked}
use Rattle.model.specs.Call as call
use Rattle.unchecked_calls.proofs.timer_calls.unchecked_set_timer_signed.Goals as goal

pub returns : goal.returns
unfolding unchecked
returns c = c.change.ensures (λ w. unchecked w (call.SetTimerSigned c.args.address c.args.due c.args.period c.args.dpc)) (λ w r after a ran says. told-outcome answer.Flag r a after.now _ says (λ x b e. e) (search (rules, tests)))
