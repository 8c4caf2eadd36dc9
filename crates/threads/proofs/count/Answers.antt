use native.Mathlib.Omega.{arith}
use Rattle.std.proofs.lemmas.Grind.{common_steps}
use Rattle.threads.specs.Thread.{thread_count}
use Rattle.threads.proofs.count.Goals as goal

pub returns : goal.returns
unfolding thread_count
returns c = grind (arith, common_steps)
