use Rattle.std.proofs.Common.{arith, le-ltb, lt-ltb}
use Rattle.images.specs.Field.{laid}
use Rattle.images.specs.Image.{image, dpc_image, dpc_fields, dpc_head}
use Rattle.images.proofs.PlaceLaws.{shape}
use Rattle.images.proofs.FieldLaws.{laid_both}
use Rattle.images.proofs.dpc_bytes.Goals as goal

pub returns-then-out-size : goal.returns-then-out-size
unfolding dpc_image image
returns-then-out-size c = simp (← c.offsets_of-row.ensures.dpc_size, lt-ltb _ _ c.if-out-size.true)

pub put_two-requires : goal.put_two-requires
put_two-requires c = omega (arith, c.offsets_of-row.ensures.routine, (shape c.args.d.architecture).routines, (shape c.args.d.architecture).works, (shape c.args.d.architecture).deferreds)

pub returns : goal.returns
unfolding dpc_image image dpc_fields dpc_head laid
returns c = simp (← c.offsets_of-row.ensures.dpc_size, le-ltb _ _ c.if-out-size.false, laid_both) (cc)
