use Rattle.std.proofs.Common.{eq-eqb, ne_eqb}
use Rattle.images.specs.Place.{architecture_of}
use Rattle.images.proofs.architecture_of.Goals as goal

pub returns-then-n-eq0 : goal.returns-then-n-eq0
unfolding architecture_of
returns-then-n-eq0 c = simp (eq-eqb _ _ c.if-n-eq0.true)

pub returns-else-n-eq0 : goal.returns-else-n-eq0
unfolding architecture_of
returns-else-n-eq0 c = simp (ne_eqb _ _ c.if-n-eq0.false)
