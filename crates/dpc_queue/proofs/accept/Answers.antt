use Rattle.dpc_queue.specs.Queue.{accepted}
use Rattle.dpc_queue.proofs.accept.Goals as goal

pub returns : goal.returns
unfolding accepted
returns c = cc
