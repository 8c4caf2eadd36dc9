use Rattle.std.proofs.Common.{arith}
use Rattle.images.specs.Field.{laid}
use Rattle.images.specs.Image.{timer_times}
use Rattle.images.proofs.PlaceLaws.{shape}
use Rattle.images.proofs.put_timer_times.Goals as goal

pub overflow_sub-row : goal.overflow_sub-row
overflow_sub-row c = omega (arith, c.offsets_of-row.ensures.timer_size, (shape c.args.t.architecture).dpcs)

pub returns : goal.returns
unfolding laid timer_times
returns c = cc
