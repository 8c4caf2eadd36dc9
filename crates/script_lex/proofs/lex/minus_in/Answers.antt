use mathlib.Core.Path.{◌∙◌, sym}
use Rattle.script_lex.specs.Numbers.{minus}
use Rattle.script_lex.proofs.NumberLaws.{within}
use Rattle.script_lex.proofs.SignedLaws.{same-32}
use Rattle.script_lex.proofs.lex.minus_in.Goals as goal

pub negated-requires : goal.negated-requires
negated-requires c = within 2147483648 _ _ (sym c.in_ok-n.was ∙ c.number_in.ensures)

pub returns-in_err-n : goal.returns-in_err-n
unfolding minus
returns-in_err-n c = simp (c.from_residual.ensures, ← c.number_in.ensures, c.in_err-n.was)

pub returns : goal.returns
unfolding minus
returns c = let e = sym c.in_ok-n.was ∙ c.number_in.ensures in
    simp (← e, same-32 _ (within 2147483648 _ _ e) _ c.negated.ensures)
