-- A number of 32 bits below 0, as the code makes it of 64.
use mathlib.Core.Path.{◌≡◌, ap, ◌∙◌}
use Prim.Native.Nat.{ℕ, zero, suc, ◌≤◌}
use native.Mathlib.Omega.{arith}
use lib.IntN.{ℤ, pos, neg_ℤ, ◌-ℤ◌, +ℤ_idl}
use mir.Syntax.{w32, w64}
use mir.Val.{SFits, to_z, of_z}
use mir.Facts.{to_z-of_z}

neg-fits : (n : ℕ) → n ≤ 2147483648 → SFits w64 (neg_ℤ (pos n))
neg-fits zero h = record { sfits = omega arith }
neg-fits (suc n) h = record { sfits = omega arith }

neg-fits-32 : (n : ℕ) → n ≤ 2147483648 → SFits w32 (neg_ℤ (pos n))
neg-fits-32 zero h = record { sfits = omega arith }
neg-fits-32 (suc n) h = record { sfits = omega arith }

module _ (n : ℕ) (h : n ≤ 2147483648) where
  same_sign : to_z w64 n ≡ pos n
  same_sign = to_z-of_z {w = w64} {z = pos n} (record { sfits = omega arith })

  below-zero : pos 0 -ℤ to_z w64 n ≡ neg_ℤ (pos n)
  below-zero = +ℤ_idl (neg_ℤ (to_z w64 n)) ∙ ap neg_ℤ same_sign

  pub difference-fits : SFits w64 (pos 0 -ℤ to_z w64 n)
  difference-fits = rw below-zero (neg-fits n h)

  difference-is : to_z w64 (of_z w64 (pos 0 -ℤ to_z w64 n)) ≡ neg_ℤ (pos n)
  difference-is = to_z-of_z difference-fits ∙ below-zero

  pub cast_fits : SFits w32 (to_z w64 (of_z w64 (pos 0 -ℤ to_z w64 n)))
  cast_fits = rw difference-is (neg-fits-32 n h)

  pub cast_is : to_z w32 (of_z w32 (to_z w64 (of_z w64 (pos 0 -ℤ to_z w64 n)))) ≡ neg_ℤ (pos n)
  cast_is = to_z-of_z cast_fits ∙ difference-is

  pub same-32 : (r : ℤ) → r ≡ neg_ℤ (pos n) → to_z w32 (of_z w32 r) ≡ neg_ℤ (pos n)
  same-32 r e = ap (λ (z : ℤ). to_z w32 (of_z w32 z)) e ∙ to_z-of_z (neg-fits-32 n h)

module _ (n : ℕ) (h : n ≤ 2147483647) where
  pub plus-fits : SFits w32 (pos n)
  plus-fits = record { sfits = omega arith }

  pub plus-is : to_z w32 n ≡ pos n
  plus-is = to_z-of_z {w = w32} {z = pos n} plus-fits
