use mathlib.Core.Path.{sym, ◌∙◌}
use Rattle.std.proofs.lemmas.List.{take_rest}
use Rattle.reasons.proofs.WordLaws.{numeral-none, numeral-minus, numeral-plus}
use Rattle.reasons.proofs.arguments.is_numeral.Goals as goal

pub returns-then-is_empty : goal.returns-then-is_empty
returns-then-is_empty c = simp (← c.first-word.ensures) (sym (numeral-none _ (sym c.is_empty.ensures ∙ c.if-is_empty.true)))

pub returns-then-word-eq45 : goal.returns-then-word-eq45
returns-then-word-eq45 c = simp (← c.first-word.ensures) ((simp (take_rest c.first-word.result.now 1) at c.are_digits.ensures) ∙ sym (numeral-minus c.first-word.result.now c.if-word-eq45.true))

pub returns : goal.returns
returns c = simp (← c.first-word.ensures) (c.are_digits-2.ensures ∙ sym (numeral-plus _ c.if-word-eq45.false))
