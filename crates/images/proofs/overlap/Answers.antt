use Rattle.std.proofs.Common.{eq-eqb, ne_eqb}
use Rattle.images.specs.Place.{overlaps}
use Rattle.images.proofs.PlaceLaws.{overlap-behind, overlap-before}
use Rattle.images.proofs.overlap.Goals as goal

pub returns-then-n-eq0 : goal.returns-then-n-eq0
unfolding overlaps
returns-then-n-eq0 c = simp (eq-eqb _ _ c.if-n-eq0.true)

pub returns-then-m-eq0 : goal.returns-then-m-eq0
unfolding overlaps
returns-then-m-eq0 c = simp (ne_eqb _ _ c.if-n-eq0.false, eq-eqb _ _ c.if-m-eq0.true)

pub returns-then-a-b : goal.returns-then-a-b
returns-then-a-b c = overlap-behind _ _ _ _ c.if-n-eq0.false c.if-m-eq0.false c.if-a-b.true

pub returns : goal.returns
returns c = overlap-before _ _ _ _ c.if-n-eq0.false c.if-m-eq0.false c.if-a-b.false
