use Rattle.threads.specs.Thread.{put_wait}
use Rattle.threads.proofs.write_wait.Goals as goal

pub returns : goal.returns
unfolding put_wait
returns c = cc
