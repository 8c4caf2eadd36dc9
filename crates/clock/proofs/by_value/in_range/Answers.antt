use Rattle.std.proofs.Common.{to_z-of_z, le-leb, arith}
use Rattle.std.proofs.lemmas.Grind.{common_steps}
use borrow.Author.Tests.{lt-leb}
use Rattle.clock.specs.Clock.{in_range}
use Rattle.clock.proofs.by_value.in_range.Goals as goal

pub returns-then-uptime_ms-le-MOST_UPTIME_MS : goal.returns-then-uptime_ms-le-MOST_UPTIME_MS
unfolding in_range
returns-then-uptime_ms-le-MOST_UPTIME_MS c =
    let t = c.if-uptime_ms-le-MOST_UPTIME_MS.true in
    simp (le-leb _ _ t.0, le-leb _ _ t.1, le-leb _ _ t.2, c.offset_in_range.ensures, to_z-of_z c.ranges.utc_offset_minutes)

pub returns-else-uptime_ms-le-MOST_UPTIME_MS : goal.returns-else-uptime_ms-le-MOST_UPTIME_MS
unfolding in_range
returns-else-uptime_ms-le-MOST_UPTIME_MS c = grind (arith, common_steps, le-leb, lt-leb)
