use Rattle.images.specs.Image.{image, timer_image, timer_fields}
use Rattle.images.proofs.FieldLaws.{laid_both}
use Rattle.std.proofs.Common.{le-ltb, lt-ltb}
use Rattle.images.proofs.timer_bytes.Goals as goal

pub returns-then-out-size : goal.returns-then-out-size
unfolding timer_image image
returns-then-out-size c = simp (← c.timer_size-size.ensures, lt-ltb _ _ c.if-out-size.true)

pub returns : goal.returns
unfolding timer_image image timer_fields
returns c = simp (← c.timer_size-size.ensures, le-ltb _ _ c.if-out-size.false, laid_both) (cc)
