use Rattle.objects.specs.Objects.{put_object}
use Rattle.objects.proofs.put_object.Goals as goal

pub returns : goal.returns
unfolding put_object
returns c = cc
