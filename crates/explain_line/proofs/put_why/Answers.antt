use borrow.Author.Tests.{eq-eqb, ne_eqb}
use Rattle.explain_line.specs.Explain.{reason_in, why}
use Rattle.explain_line.proofs.put_why.Goals as goal

pub returns-then-number-eq28 : goal.returns-then-number-eq28
unfolding why reason_in
returns-then-number-eq28 c = simp (eq-eqb _ _ c.if-number-eq28.true, ← c.session_reason.ensures, ← c.reason_in-reason.ensures) c.put_reason.ensures

pub returns : goal.returns
unfolding why
returns c = simp (ne_eqb _ _ c.if-number-eq28.false) c.put_sentence.ensures
