use mathlib.Core.Path.{sym, ◌∙◌}
use Rattle.std.proofs.lemmas.List.{take_rest}
use Rattle.script_lex.proofs.NumberLaws.{signed-minus, signed-plus, signed-none}
use Rattle.script_lex.proofs.lex.signed_in.Goals as goal

pub returns-then-is_empty : goal.returns-then-is_empty
returns-then-is_empty c = (sym (signed-none _ (sym c.is_empty.ensures ∙ c.if-is_empty.true)))

pub returns-then-word-eq45 : goal.returns-then-word-eq45
returns-then-word-eq45 c = ((simp (take_rest c.args.word.now 1) at c.minus_in.ensures) ∙ sym (signed-minus c.args.word.now c.if-word-eq45.true))

pub returns : goal.returns
returns c = (c.plus_in.ensures ∙ sym (signed-plus _ c.if-word-eq45.false))
