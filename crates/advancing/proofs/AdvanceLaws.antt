-- The laws of the pass of the timeouts, as the code counts.
use Prim.Native.Nat.{ℕ, zero, suc, ◌+◌, ◌-◌, ◌≤◌, ◌<◌}
use native.Mathlib.Omega.{arith}
use mathlib.Core.List.{List}
use mathlib.Core.Path.{◌≡◌, refl}
use Rattle.advancing.specs.Advance.{expired, expired_in}

less_one : (k : ℕ) → suc k - 1 ≡ k
less_one k = omega arith

pub expired-none : (m : ℕ) (w : List ℕ) (id time : ℕ) → m ≤ 0 → expired_in m w id time ≡ w
unfolding expired_in
expired-none zero w id time h = refl
expired-none (suc m) w id time h = absurd (omega arith)

pub expired-more : (m : ℕ) (w : List ℕ) (id time : ℕ) → 0 < m → expired_in m w id time ≡ expired_in (m - 1) (expired w id time) (id + 1) time
unfolding expired_in
expired-more zero w id time h = absurd (omega arith)
expired-more (suc m) w id time h = simp (less_one m)
