use Rattle.dpc_queue.specs.Queue.{work_put}
use Rattle.dpc_queue.proofs.put_work.Goals as goal

pub returns : goal.returns
unfolding work_put
returns c = cc
