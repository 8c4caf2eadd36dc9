use Rattle.threads.specs.Thread.{recorded}
use Rattle.threads.proofs.record_of.Goals as goal

pub returns : goal.returns
unfolding recorded
returns c = cc
