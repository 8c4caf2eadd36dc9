use borrow.Author.Tests.{le-leb, lt-leb}
use Rattle.dpc_table.specs.Table.{inserted}
use Rattle.dpc_table.proofs.insert.Goals as goal

pub returns-then-n-ge4096 : goal.returns-then-n-ge4096
unfolding inserted
returns-then-n-ge4096 c = simp (← c.get-n.ensures, le-leb _ _ c.if-n-ge4096.true)

pub returns : goal.returns
unfolding inserted
returns c = simp (← c.get-n.ensures, lt-leb _ _ c.if-n-ge4096.false) (cc)
