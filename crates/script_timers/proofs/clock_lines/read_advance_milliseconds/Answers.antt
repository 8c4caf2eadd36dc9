use mathlib.Core.Path.{◌∙◌, sym}
use native.Mathlib.Omega.{arith}
use Rattle.script_lex.proofs.NumberLaws.{one-within}
use Rattle.script_timers.proofs.clock_lines.read_advance_milliseconds.Goals as goal

pub overflow_cast-result : goal.overflow_cast-result
overflow_cast-result c = record { fits = omega (arith, one-within 4294967295 _ _ (sym c.in_ok-n.was ∙ c.only_number.ensures)) }
