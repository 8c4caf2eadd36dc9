use Rattle.dpc_queue.specs.Queue.{raised}
use Rattle.dpc_queue.proofs.raise.Goals as goal

pub returns : goal.returns
unfolding raised
returns c = cc
