use Rattle.objects.specs.Objects.{dpcs_base}
use Rattle.objects.proofs.dpcs_base.Goals as goal

pub returns : goal.returns
unfolding dpcs_base
returns c = cc
