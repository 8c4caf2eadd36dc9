-- A digit taken or not, and the number scanned at each of its digits.
use Rattle.std.proofs.Common.{◌≡◌, ℕ, zero, suc, ◌+◌, ◌-◌, ◌*◌, ◌^◌, ◌<◌, ◌≤◌, Bool, true, false, ◌&&◌, ltb, leb, List, [], ◌∷◌, length, get_or, drop, sym, refl, ap, add-one, arith, drop-cons, ltb-true, lt-ltb, le-leb, leb-true, Option, Some, None, SomeIff}
use mathlib.Core.Bool.{false≢true}
use lib.Seq.{drop-nil}
use Rattle.clock_replay.specs.Decimal.{with_digit, takes, scanned}

pub record Taken (n b : ℕ) : Type 0 where
  pub least : 48 ≤ b
  pub most : b ≤ 57
  pub fits : with_digit n b < 2 ^ 64

pub taken : (n b : ℕ) → takes n b ≡ true → Taken n b
unfolding takes
taken n b = go (leb 48 b) (leb b 57) (ltb (with_digit n b) (2 ^ 64)) refl refl refl
  where
    go : (x y z : Bool) → leb 48 b ≡ x → leb b 57 ≡ y → ltb (with_digit n b) (2 ^ 64) ≡ z → (x && (y && z)) ≡ true → Taken n b
    go true true true e d f t = record { least = leb-true 48 b e; most = leb-true b 57 d; fits = ltb-true (with_digit n b) (2 ^ 64) f }
    go true true false e d f t = absurd (false≢true t)
    go true false z e d f t = absurd (false≢true t)
    go false y z e d f t = absurd (false≢true t)

-- of a digit the test is that of the sum
pub taking : (n b tens : ℕ) (r : Option ℕ) → 48 ≤ b → b ≤ 57 → tens ≡ n * 10 → SomeIff r (tens + (b - 48) < 2 ^ 64) (tens + (b - 48)) → SomeIff r (takes n b ≡ true) (with_digit n b)
unfolding takes
taking n b tens None least most e h = λ t. h (omega (arith, (taken n b t).fits))
taking n b tens (Some m) least most e h = (simp (le-leb 48 b least, le-leb b 57 most, lt-ltb (with_digit n b) (2 ^ 64) (omega (arith, h.0))), omega (arith, h.1))

drop-out : (n : ℕ) (s : List ℕ) → length s ≤ n → drop n s ≡ []
drop-out n [] h = drop-nil n
drop-out zero (b ∷ s) h = absurd (omega arith)
drop-out (suc n) (b ∷ s) h = drop-out n s (omega arith)

module _ (s : List ℕ) (at n : ℕ) where
  pub at-end : length s ≤ at → scanned (drop at s) at n ≡ record { value = n; next = at }
  unfolding scanned
  at-end h = simp (drop-out at s h)

  pub at_other : at < length s → takes n (get_or s at 0) ≡ false → scanned (drop at s) at n ≡ record { value = n; next = at }
  unfolding scanned
  at_other h e = simp (drop-cons s at 0 h, e)

  pub at-digit : at < length s → takes n (get_or s at 0) ≡ true → scanned (drop at s) at n ≡ scanned (drop (at + 1) s) (at + 1) (with_digit n (get_or s at 0))
  unfolding scanned
  at-digit h e = simp (drop-cons s at 0 h, e) (ap (λ (k : ℕ). scanned (drop k s) (at + 1) (with_digit n (get_or s at 0))) (sym (add-one at)))

-- a test that does not hold
pub refused : (n b : ℕ) → (takes n b ≡ true → ⊥) → takes n b ≡ false
refused n b = go (takes n b)
  where
    go : (t : Bool) → (t ≡ true → ⊥) → t ≡ false
    go true h = absurd (h refl)
    go false h = refl
