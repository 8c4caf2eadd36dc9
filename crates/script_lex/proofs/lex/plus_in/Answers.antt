use mathlib.Core.Path.{◌∙◌, sym}
use Rattle.script_lex.specs.Numbers.{plus}
use Rattle.script_lex.proofs.NumberLaws.{within}
use Rattle.script_lex.proofs.SignedLaws.{plus-fits, plus-is}
use Rattle.script_lex.proofs.lex.plus_in.Goals as goal

pub overflow_cast-result : goal.overflow_cast-result
overflow_cast-result c = plus-fits _ (within 2147483647 _ _ (sym c.in_ok-n.was ∙ c.number_in.ensures))

pub returns-in_err-n : goal.returns-in_err-n
unfolding plus
returns-in_err-n c = simp (c.from_residual.ensures, ← c.number_in.ensures, c.in_err-n.was)

pub returns : goal.returns
unfolding plus
returns c = let e = sym c.in_ok-n.was ∙ c.number_in.ensures in
    simp (← e, plus-is _ (within 2147483647 _ _ e))
