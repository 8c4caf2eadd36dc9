use Rattle.std.proofs.Common.{rules, tests}
use Rattle.model.specs.Call as call
use Rattle.calls.specs.Called.{called}
use Rattle.exports.proofs.dpc_calls.scheduler_start_dpc.Goals as goal

pub returns : goal.returns
returns c = c.start.ensures (λ w. called w (call.StartDpc c.args.address)) (λ w r after ran. search (rules, tests))
