use Rattle.images.specs.Field.{laid}
use Rattle.images.specs.Image.{timer_head}
use Rattle.images.proofs.put_timer_head.Goals as goal

pub returns : goal.returns
unfolding laid timer_head
returns c = cc
