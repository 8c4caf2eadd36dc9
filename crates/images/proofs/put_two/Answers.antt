use Rattle.std.proofs.Common.{arith}
use Rattle.images.specs.Field.{laid}
use Rattle.images.specs.Image.{two_words}
use Rattle.images.proofs.PlaceLaws.{shape}
use Rattle.images.proofs.put_two.Goals as goal

pub overflow_add-at : goal.overflow_add-at
overflow_add-at c = omega (arith, c.width-width.ensures, (shape c.args.a).narrow)

pub returns : goal.returns
unfolding laid two_words
returns c = cc
