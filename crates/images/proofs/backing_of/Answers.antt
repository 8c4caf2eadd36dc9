use Rattle.std.proofs.Common.{eq-eqb, ne_eqb}
use Rattle.images.specs.Place.{backing_of}
use Rattle.images.proofs.backing_of.Goals as goal

pub returns-then-kind-eq0 : goal.returns-then-kind-eq0
unfolding backing_of
returns-then-kind-eq0 c = simp (eq-eqb _ _ c.if-kind-eq0.true)

pub returns-else-kind-eq0 : goal.returns-else-kind-eq0
unfolding backing_of
returns-else-kind-eq0 c = simp (ne_eqb _ _ c.if-kind-eq0.false)
