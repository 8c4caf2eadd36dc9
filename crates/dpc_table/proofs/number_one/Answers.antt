use borrow.Author.Tests.{eq-eqb, ne_eqb}
use Rattle.dpc_table.specs.Table.{number_put, number_to}
use Rattle.dpc_table.proofs.number_one.Goals as goal

pub returns-then-get_in-eq-GONE : goal.returns-then-get_in-eq-GONE
unfolding number_put number_to
returns-then-get_in-eq-GONE c = (simp (← c.get_in.ensures, eq-eqb _ _ c.if-get_in-eq-GONE.true), simp (← c.get_in.ensures, eq-eqb _ _ c.if-get_in-eq-GONE.true))

pub returns : goal.returns
unfolding number_put number_to
returns c = (simp (← c.get_in.ensures, ne_eqb _ _ c.if-get_in-eq-GONE.false), simp (← c.get_in.ensures, ne_eqb _ _ c.if-get_in-eq-GONE.false) (cc))
