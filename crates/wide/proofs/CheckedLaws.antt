-- A checked operation of std answers as `checked` says of its exact result.
use Rattle.std.proofs.Common.{◌≡◌, ℕ, ◌^◌, ◌<◌, ◌≤◌, SomeIff, Option, Some, None, ap, ◌∙◌, arith, lt-ltb, le-ltb}
use Rattle.wide.specs.Checked.{checked}

pub fitting : (n : ℕ) → n < 2 ^ 64 → Some n ≡ checked n
unfolding checked
fitting n h = simp (lt-ltb _ _ h)

pub passing : (n : ℕ) → (n < 2 ^ 64 → ⊥) → None ≡ checked n
unfolding checked
passing n h = simp (le-ltb _ _ (let z : 2 ^ 64 ≤ n = omega arith in z))

pub checked_is : (r : Option ℕ) (n : ℕ) → SomeIff r (n < 2 ^ 64) n → r ≡ checked n
checked_is None n h = passing n h
checked_is (Some m) n h = ap Some h.1 ∙ fitting n h.0
