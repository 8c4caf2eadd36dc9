use mathlib.Core.Path.{sym, ◌∙◌}
use Rattle.std.proofs.Common.{arith}
use Rattle.std.proofs.lemmas.Grind.{common_steps}
use Rattle.script_lex.proofs.WordLaws.{none-is, first-others}
use Rattle.script_lex.proofs.lex.WordsIterator.next.Goals as goal

pub returns-then-is_end-clause-steps : goal.returns-then-is_end-clause-steps
returns-then-is_end-clause-steps c = let e = none-is _ (sym c.is_end.ensures ∙ c.if-is_end.true) in (e, e)

pub returns-clause-steps : goal.returns-clause-steps
returns-clause-steps c = simp (c.first-word.ensures, c.rest.ensures.words) (first-others _ (sym c.is_end.ensures ∙ c.if-is_end.false))

pub returns-clause-goes : goal.returns-clause-goes
returns-clause-goes c = let e = returns-clause-steps c in grind (arith, common_steps)
