use Rattle.std.proofs.Common.{to_z-of_z}
use Rattle.clock.specs.Clock.{offset_in_range}
use Rattle.clock.proofs.by_value.offset_in_range.Goals as goal

pub returns-then-minutes-geminus840 : goal.returns-then-minutes-geminus840
unfolding offset_in_range
returns-then-minutes-geminus840 c = simp (to_z-of_z c.ranges.minutes, simp (to_z-of_z c.ranges.minutes) at c.if-minutes-geminus840.true)

pub returns-else-minutes-geminus840 : goal.returns-else-minutes-geminus840
unfolding offset_in_range
returns-else-minutes-geminus840 c = simp (to_z-of_z c.ranges.minutes, simp (to_z-of_z c.ranges.minutes) at c.if-minutes-geminus840.false)
