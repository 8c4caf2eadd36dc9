use Rattle.std.proofs.Common.{arith}
use Rattle.images.specs.Image.{work_fields}
use Rattle.images.proofs.PlaceLaws.{shape}
use Rattle.images.proofs.put_work.Goals as goal

pub put_two-requires : goal.put_two-requires
put_two-requires c = omega (arith, c.offsets_of.ensures.arguments, (shape c.args.a).works, (shape c.args.a).deferreds)

pub returns : goal.returns
unfolding work_fields
returns c = cc
