use Rattle.dpc_queue.specs.Queue.{withdrawn}
use Rattle.dpc_queue.proofs.withdraw.Goals as goal

pub returns : goal.returns
unfolding withdrawn
returns c = cc
