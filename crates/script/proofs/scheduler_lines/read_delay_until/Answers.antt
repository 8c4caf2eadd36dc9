use mathlib.Core.Path.{◌∙◌, sym}
use native.Mathlib.Omega.{arith}
use Rattle.script_lex.proofs.NumberLaws.{last_within}
use Rattle.script.proofs.scheduler_lines.read_delay_until.Goals as goal

pub overflow_cast-result : goal.overflow_cast-result
overflow_cast-result c = record { fits = omega (arith, last_within _ 255 _ _ _ (sym c.in_ok-deadline.was ∙ c.two_numbers.ensures)) }
