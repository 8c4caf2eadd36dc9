use Rattle.std.proofs.Common.{rules, tests}
use lib.ListN.{length}
use Rattle.model.specs.Call as call
use Rattle.unchecked.specs.Unchecked.{unchecked}
use Rattle.unchecked_reads.proofs.image_calls.unchecked_dpc_image.Goals as goal

pub returns : goal.returns
returns c = c.image.ensures (λ b. unchecked c.args.words.now (call.Reads (call.DpcImage c.args.address (length b))) b) (λ b r after ran. search (rules, tests))
