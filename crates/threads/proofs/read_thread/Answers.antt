use Rattle.threads.specs.Thread.{thread_of}
use Rattle.threads.proofs.read_thread.Goals as goal

pub returns : goal.returns
unfolding thread_of
returns c = cc
