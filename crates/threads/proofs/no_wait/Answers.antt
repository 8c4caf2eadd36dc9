use mathlib.Core.Path.{refl}
use Rattle.threads.specs.Thread.{no_wait}
use Rattle.threads.proofs.no_wait.Goals as goal

pub returns : goal.returns
unfolding no_wait
returns c = refl
