use Rattle.objects.specs.Objects.{objects_base}
use Rattle.objects.proofs.objects_base.Goals as goal

pub returns : goal.returns
unfolding objects_base
returns c = cc
