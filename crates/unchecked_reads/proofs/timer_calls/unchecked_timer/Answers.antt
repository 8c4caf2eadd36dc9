use Rattle.std.proofs.Common.{rules, tests}
use Rattle.model.specs.Call as call
use Rattle.unchecked.specs.Unchecked.{unchecked}
use Rattle.unchecked_reads.proofs.timer_calls.unchecked_timer.Goals as goal

pub returns : goal.returns
unfolding unchecked
returns c = c.timer_answer.ensures (unchecked c.args.words.now (call.Reads (call.TimerAt c.args.address))) (λ r ran. search (rules, tests)) c.args.words.now
