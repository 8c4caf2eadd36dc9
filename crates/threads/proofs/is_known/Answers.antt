use native.Mathlib.Omega.{arith}
use Rattle.std.proofs.lemmas.Grind.{common_steps}
use Rattle.threads.specs.Thread.{known}
use Rattle.threads.proofs.is_known.Goals as goal

pub returns-then-id-gt0 : goal.returns-then-id-gt0
unfolding known
returns-then-id-gt0 c = grind (arith, common_steps)

pub returns-else-id-gt0 : goal.returns-else-id-gt0
unfolding known
returns-else-id-gt0 c = grind (arith, common_steps)
