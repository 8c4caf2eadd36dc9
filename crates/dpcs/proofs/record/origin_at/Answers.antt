use borrow.Author.Tests.{eq-eqb, ne_eqb}
use Rattle.dpcs.specs.Record.{origin_at}
use Rattle.dpcs.proofs.record.origin_at.Goals as goal

pub returns-then-get_in-eq0 : goal.returns-then-get_in-eq0
unfolding origin_at
returns-then-get_in-eq0 c = simp (← c.get_in.ensures, eq-eqb _ _ c.if-get_in-eq0.true)

pub returns : goal.returns
unfolding origin_at
returns c = simp (← c.get_in.ensures, ne_eqb _ _ c.if-get_in-eq0.false) (cc)
