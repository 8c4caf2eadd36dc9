use borrow.Author.Tests.{le-leb, lt-leb}
use Rattle.dpc_table.specs.Table.{raised_number}
use Rattle.dpc_table.proofs.raised_number.Goals as goal

pub returns-then-n-position : goal.returns-then-n-position
unfolding raised_number
returns-then-n-position c = simp (le-leb _ _ c.if-n-position.true)

pub returns-then-n-ge4096 : goal.returns-then-n-ge4096
unfolding raised_number
returns-then-n-ge4096 c = simp (lt-leb _ _ c.if-n-position.false, le-leb _ _ c.if-n-ge4096.true)

pub returns : goal.returns
unfolding raised_number
returns c = simp (lt-leb _ _ c.if-n-position.false, lt-leb _ _ c.if-n-ge4096.false)
