use Rattle.std.proofs.Common.{rules, tests}
use lib.ListN.{length}
use Rattle.model.specs.Call as call
use Rattle.calls.specs.Called.{called}
use Rattle.exports.proofs.image_calls.scheduler_dpc_image.Goals as goal

pub returns : goal.returns
returns c = c.image.ensures (λ b. called c.args.words.now (call.Reads (call.DpcImage c.args.address (length b))) b) (λ b r after ran. search (rules, tests))
