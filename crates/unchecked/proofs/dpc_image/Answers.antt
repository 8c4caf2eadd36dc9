use borrow.Author.Tests.{lt-ltb, le-ltb}
use Rattle.unchecked.specs.Unchecked.{fitting, unchecked}
use Rattle.unchecked.proofs.dpc_image.Goals as goal

pub returns-then-out-lt-LONGEST : goal.returns-then-out-lt-LONGEST
unfolding unchecked fitting
returns-then-out-lt-LONGEST c = simp (lt-ltb _ _ c.if-out-lt-LONGEST.true)

pub returns : goal.returns
unfolding unchecked fitting
returns c = simp (le-ltb _ _ c.if-out-lt-LONGEST.false) c.put_dpc.ensures
