-- Clauses one behind another, as the check tests them.
use mathlib.Core.Bool.{Bool, cond, true, false}
use mathlib.Core.Path.{◌≡◌, refl, sym, ap, ◌∙◌}
use Rattle.model.proofs.ListLaws.{not-both}

pub and-not : (a b : Bool) → a ≡ false → b ≡ true → cond a false b ≡ true
and-not a b p q = ap (λ (t : Bool). cond t false b) p ∙ q

-- ---- and back: what a clause that passes says

pub both : (a b : Bool) → cond a b false ≡ true → (a ≡ true) × (b ≡ true)
both true b e = (refl, e)
both false b e = absurd (not-both (sym e))

pub not_first : (a b : Bool) → cond a false b ≡ true → (a ≡ false) × (b ≡ true)
not_first true b e = absurd (not-both (sym e))
not_first false b e = (refl, e)

pub if-so : (a b : Bool) → cond a b true ≡ true → a ≡ true → b ≡ true
if-so true b e q = e
if-so false b e q = absurd (not-both (sym q))

pub if-not : (a b : Bool) → cond a true b ≡ true → a ≡ false → b ≡ true
if-not true b e q = absurd (not-both q)
if-not false b e q = e
