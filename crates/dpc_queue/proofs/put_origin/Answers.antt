use Rattle.dpc_queue.specs.Queue.{origin_put}
use Rattle.dpc_queue.proofs.put_origin.Goals as goal

pub returns : goal.returns
unfolding origin_put
returns c = cc
