use mathlib.Core.Path.{◌∙◌, sym}
use native.Mathlib.Omega.{arith}
use Rattle.script_lex.proofs.NumberLaws.{one-within}
use Rattle.script.proofs.scheduler_lines.read_terminate.Goals as goal

pub overflow_cast-result : goal.overflow_cast-result
overflow_cast-result c = record { fits = omega (arith, one-within 4294967295 _ _ (sym c.in_ok-n.was ∙ c.only_number.ensures)) }
