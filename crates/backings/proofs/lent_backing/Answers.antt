use borrow.Author.Tests.{lt-ltb, le-ltb}
use Rattle.backings.specs.Lent.{lent_backing}
use Rattle.backings.proofs.lent_backing.Goals as goal

pub returns-then-architecture-gt1 : goal.returns-then-architecture-gt1
unfolding lent_backing
returns-then-architecture-gt1 c = simp (lt-ltb _ _ c.if-architecture-gt1.true)

pub returns-then-kind-gt1 : goal.returns-then-kind-gt1
unfolding lent_backing
returns-then-kind-gt1 c = simp (le-ltb _ _ c.if-architecture-gt1.false, lt-ltb _ _ c.if-kind-gt1.true)

pub returns : goal.returns
unfolding lent_backing
returns c = simp (le-ltb _ _ c.if-architecture-gt1.false, le-ltb _ _ c.if-kind-gt1.false) c.backing_of.ensures
