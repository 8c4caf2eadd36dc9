use Rattle.threads.specs.Thread.{all_of}
use Rattle.threads.proofs.all_of.Goals as goal

pub returns : goal.returns
unfolding all_of
returns c = cc
