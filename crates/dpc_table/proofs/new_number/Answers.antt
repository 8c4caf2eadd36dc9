use borrow.Author.Tests.{eq-eqb, ne_eqb}
use Rattle.dpc_table.specs.Table.{new_number}
use Rattle.dpc_table.proofs.new_number.Goals as goal

pub returns-then-n-eq0 : goal.returns-then-n-eq0
unfolding new_number
returns-then-n-eq0 c = simp (eq-eqb _ _ c.if-n-eq0.true)

pub returns : goal.returns
unfolding new_number
returns c = simp (ne_eqb _ _ c.if-n-eq0.false) (cc)
