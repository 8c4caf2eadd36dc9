use borrow.Author.Tests.{lt-ltb, le-ltb}
use mathlib.Core.Path.{sym, ◌∙◌}
use mir.Facts.{to_z-of_z}
use Rattle.clock_words.specs.ClockWords.{opened}
use Rattle.clock_words.proofs.operations.new.Goals as goal

pub returns-in-Ok : goal.returns-in-Ok
unfolding opened
returns-in-Ok c = simp (simp (to_z-of_z c.ranges.utc_offset_minutes) at (sym c.new.ensures ∙ c.in-Ok.is), lt-ltb _ _ c.if-words-lt7.true, c.from.ensures)

pub returns-in-Ok-2 : goal.returns-in-Ok-2
unfolding opened
returns-in-Ok-2 c = simp (simp (to_z-of_z c.ranges.utc_offset_minutes) at (sym c.new.ensures ∙ c.in-Ok.is), le-ltb _ _ c.if-words-lt7.false) (cc)

pub returns-in-Err : goal.returns-in-Err
unfolding opened
returns-in-Err c = simp (simp (to_z-of_z c.ranges.utc_offset_minutes) at (sym c.new.ensures ∙ c.in-Err.is)) (cc)
