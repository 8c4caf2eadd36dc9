use Rattle.std.proofs.Common.{rules, tests}
use Rattle.model.specs.Call as call
use Rattle.unchecked.specs.Unchecked.{unchecked}
use Rattle.unchecked_reads.proofs.dpc_calls.unchecked_dpc.Goals as goal

pub returns : goal.returns
unfolding unchecked
returns c = c.dpc_answer.ensures (unchecked c.args.words.now (call.Reads (call.DpcAt c.args.address))) (λ r ran. search (rules, tests)) c.args.words.now
