use mir.Facts.{to_z-of_z}
use Rattle.exports.proofs.clock_calls.clock_new.Goals as goal

pub returns : goal.returns
returns c = simp (to_z-of_z c.ranges.utc_offset_minutes) at c.new.ensures
