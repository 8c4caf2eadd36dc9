use mathlib.Core.Path.{◌∙◌, sym}
use native.Mathlib.Omega.{arith}
use Rattle.script_lex.proofs.NumberLaws.{within}
use Rattle.script.proofs.wait.read_irql.Goals as goal

pub overflow_cast-result : goal.overflow_cast-result
overflow_cast-result c = record { fits = omega (arith, within 255 _ _ (sym c.in_ok-irql.was ∙ c.number.ensures)) }
