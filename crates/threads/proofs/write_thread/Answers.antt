use Rattle.threads.specs.Thread.{put_thread}
use Rattle.threads.proofs.write_thread.Goals as goal

pub returns : goal.returns
unfolding put_thread
returns c = cc
