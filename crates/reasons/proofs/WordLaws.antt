-- The digits of a word, as the code tests them.
use mathlib.Core.Path.{◌≡◌, refl, sym, ap, ◌∙◌}
use mathlib.Core.Bool.{true, false, false≢true, ◌&&◌}
use mathlib.Core.List.{List, [], ◌∷◌}
use Prim.Native.Nat.{ℕ, suc}
use native.Mathlib.Omega.{arith}
use borrow.Author.Tests.{eq-eqb, ne_eqb}
use lib.Dec.{eqb}
use lib.ListN.{length, get_or, drop}
use Rattle.std.specs.List.{list_all}
use Rattle.script_lex.specs.Numbers.{is_digit, all_digits}
use Rattle.reasons.specs.Reasons.{digits, is_numeral}

pub not-empty : (w : List ℕ) (b : ℕ) → eqb (length (b ∷ w)) 0 ≡ true → ⊥
not-empty w b e = false≢true (sym (ne_eqb (suc (length w)) 0 (λ z. omega arith)) ∙ e)

pub digits-none : (w : List ℕ) → eqb (length w) 0 ≡ true → digits w ≡ false
unfolding digits
digits-none [] e = refl
digits-none (b ∷ w) e = absurd (not-empty w b e)

pub numeral-none : (w : List ℕ) → eqb (length w) 0 ≡ true → is_numeral w ≡ false
unfolding is_numeral digits
numeral-none [] e = refl
numeral-none (b ∷ w) e = absurd (not-empty w b e)

pub digits-some : (w : List ℕ) → eqb (length w) 0 ≡ false → digits w ≡ all_digits w
unfolding digits
digits-some [] e = absurd (false≢true (sym e))
digits-some (b ∷ w) e = refl

pub numeral-minus : (w : List ℕ) → get_or w 0 0 ≡ 45 → is_numeral w ≡ digits (drop 1 w)
unfolding is_numeral
numeral-minus w e = simp (eq-eqb _ _ e)

pub numeral-plus : (w : List ℕ) → (get_or w 0 0 ≡ 45 → ⊥) → is_numeral w ≡ digits w
unfolding is_numeral
numeral-plus w n = simp (ne_eqb _ _ n)

pub all-digits : (w : List ℕ) → list_all is_digit w ≡ all_digits w
unfolding all_digits
all-digits [] = refl
all-digits (b ∷ w) = ap (λ r. is_digit b && r) (all-digits w)
