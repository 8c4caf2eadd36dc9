use native.Mathlib.Omega.{arith}
use Rattle.std.proofs.lemmas.Grind.{common_steps}
use Rattle.objects.specs.Objects.{object_count}
use Rattle.objects.proofs.count.Goals as goal

pub returns : goal.returns
unfolding object_count
returns c = grind (arith, common_steps)
