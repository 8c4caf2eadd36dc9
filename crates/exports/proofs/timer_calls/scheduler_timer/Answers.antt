use Rattle.std.proofs.Common.{rules, tests}
use Rattle.model.specs.Call as call
use Rattle.calls.specs.Called.{called}
use Rattle.exports.proofs.timer_calls.scheduler_timer.Goals as goal

pub returns : goal.returns
returns c = c.timer_answer.ensures (called c.args.words.now (call.Reads (call.TimerAt c.args.address))) (λ r ran. search (rules, tests)) c.args.words.now
