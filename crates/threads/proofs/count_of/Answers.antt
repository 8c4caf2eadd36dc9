use native.Mathlib.Omega.{arith}
use Rattle.std.proofs.lemmas.Grind.{common_steps}
use Rattle.threads.specs.Thread.{count_of}
use Rattle.threads.proofs.count_of.Goals as goal

pub returns : goal.returns
unfolding count_of
returns c = grind (arith, common_steps)
