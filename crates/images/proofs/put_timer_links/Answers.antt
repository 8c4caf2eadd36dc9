use Rattle.std.proofs.Common.{◌+◌, arith}
use Rattle.images.specs.Field.{laid}
use Rattle.images.specs.Image.{timer_links}
use Rattle.images.proofs.PlaceLaws.{shape}
use Rattle.images.proofs.FieldLaws.{cut}
use Rattle.arch.specs.Width.{width_of}
use Rattle.images.proofs.put_timer_links.Goals as goal

pub overflow_add-width : goal.overflow_add-width
overflow_add-width c = omega (arith, c.width-width.ensures, (shape c.args.t.architecture).narrow)

pub returns : goal.returns
unfolding laid timer_links
returns c = cc (cut (width_of c.args.t.architecture) (c.args.t.address + 8) (shape c.args.t.architecture).narrow)
