use Rattle.std.proofs.Common.{rules, tests}
use Rattle.model.specs.Call as call
use Rattle.calls.specs.Called.{called}
use Rattle.exports.proofs.dpc_calls.scheduler_dpc.Goals as goal

pub returns : goal.returns
returns c = c.dpc_answer.ensures (called c.args.words.now (call.Reads (call.DpcAt c.args.address))) (λ r ran. search (rules, tests)) c.args.words.now
