use Rattle.dpc_queue.specs.Queue.{queued}
use Rattle.dpc_queue.proofs.is_queued.Goals as goal

pub returns : goal.returns
unfolding queued
returns c = cc
