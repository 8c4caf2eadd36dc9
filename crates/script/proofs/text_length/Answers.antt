use borrow.Author.Tests.{eq-eqb, ne_eqb}
use Rattle.script.specs.Line.{text_length}
use Rattle.script.proofs.LineLaws.{text-none}
use borrow.Author.Rules.{rules}
use Rattle.script.proofs.text_length.Goals as goal

pub returns-then-n-eq0 : goal.returns-then-n-eq0
returns-then-n-eq0 c = record { value = text-none _ c.if-n-eq0.true; upper_bound = search rules }

pub returns-then-line-n-eq13 : goal.returns-then-line-n-eq13
unfolding text_length
returns-then-line-n-eq13 c = record { value = simp (eq-eqb _ _ c.if-line-n-eq13.true); upper_bound = search rules }

pub returns : goal.returns
unfolding text_length
returns c = record { value = simp (ne_eqb _ _ c.if-line-n-eq13.false); upper_bound = search rules }
