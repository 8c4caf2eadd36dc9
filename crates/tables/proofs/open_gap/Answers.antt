use native.Mathlib.Omega.{arith}
use borrow.Author.Tests.{lt-ltb, le-ltb}
use Rattle.tables.specs.Table.{gap_opened}
use Rattle.tables.proofs.TableLaws.{entry-is}
use Rattle.tables.proofs.open_gap.Goals as goal

pub returns-then-base-gt1000000 : goal.returns-then-base-gt1000000
unfolding gap_opened
returns-then-base-gt1000000 c = simp (lt-ltb _ _ c.if-base-gt1000000.true)

pub returns-then-n-gt-MOST : goal.returns-then-n-gt-MOST
unfolding gap_opened
returns-then-n-gt-MOST c = simp (le-ltb _ _ c.if-base-gt1000000.false, lt-ltb _ _ c.if-n-gt-MOST.true)

pub returns-then-n-i : goal.returns-then-n-i
unfolding gap_opened
returns-then-n-i c = simp (le-ltb _ _ c.if-base-gt1000000.false, le-ltb _ _ c.if-n-gt-MOST.false, lt-ltb _ _ c.if-n-i.true)

pub raise-requires : goal.raise-requires
raise-requires c = omega (arith, entry-is c.args.base c.args.n c.if-base-gt1000000.false (omega arith), c.entry_at.ensures)

pub returns : goal.returns
unfolding gap_opened
returns c = simp (le-ltb _ _ c.if-base-gt1000000.false, le-ltb _ _ c.if-n-gt-MOST.false, le-ltb _ _ c.if-n-i.false) (cc)
