use Rattle.std.proofs.Common.{to_z-of_z}
use Rattle.clock.specs.Clock.{created, started}
use Rattle.clock.proofs.FormLaws.{held, failed}
use Rattle.clock.proofs.by_value.new.Goals as goal

pub returns-then-not-in_range : goal.returns-then-not-in_range
unfolding created
returns-then-not-in_range c = simp (← (to_z-of_z c.ranges.utc_offset_minutes), failed c.in_range.ensures c.if-not-in_range.true)

pub returns : goal.returns
unfolding created started
returns c = simp (to_z-of_z c.ranges.utc_offset_minutes, simp (to_z-of_z c.ranges.utc_offset_minutes) at (held c.in_range.ensures c.if-not-in_range.false))
