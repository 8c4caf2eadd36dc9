-- The laws of the search for the record before a record, as the code counts, and that a link's place fits a word.
use Prim.Native.Nat.{ℕ, zero, suc, ◌-◌, ◌*◌, ◌^◌, ◌≤◌, ◌<◌}
use native.Mathlib.Nat.{mul-le-mul_left, mul-le-mul_right, le_trans}
use native.Mathlib.Omega.{arith}
use mathlib.Core.List.{List, [], ◌∷◌}
use mathlib.Core.Path.{◌≡◌, refl}
use borrow.Author.Tests.{eq-eqb, ne_eqb}
use Rattle.chains.specs.declared.Chain.{Chain}
use Rattle.chains.specs.Chain.{before_in, next_of, members_in}

-- a stride of 32 bits, for a record up to 4096
pub span : (stride n : ℕ) → stride < 2 ^ 32 → n ≤ 4096 → stride * n ≤ 0xffff_ffff * 4096
span stride n h k =
    let most : stride ≤ 0xffff_ffff = omega arith in
    le_trans (mul-le-mul_right n most) (mul-le-mul_left 0xffff_ffff k)

less_one : (k : ℕ) → suc k - 1 ≡ k
less_one k = omega arith

pub before-none : (k : ℕ) (w : List ℕ) (c : Chain) (before at n : ℕ) → k ≤ 0 → before_in k w c before at n ≡ before
unfolding before_in
before-none zero w c before at n h = refl
before-none (suc k) w c before at n h = omega arith

pub before-found : (k : ℕ) (w : List ℕ) (c : Chain) (before at n : ℕ) → at ≡ n → before_in k w c before at n ≡ before
unfolding before_in
before-found zero w c before at n e = refl
before-found (suc k) w c before at n e = simp (eq-eqb _ _ e)

pub before_more : (k : ℕ) (w : List ℕ) (c : Chain) (before at n : ℕ) → 0 < k → (at ≡ n → ⊥)
    → before_in k w c before at n ≡ before_in (k - 1) w c at (next_of w c at) n
unfolding before_in
before_more zero w c before at n h ne = omega arith
before_more (suc k) w c before at n h ne = simp (ne_eqb _ _ ne, less_one k)

pub members-end : (k : ℕ) (w : List ℕ) (c : Chain) (at : ℕ) → at ≡ 0 → members_in k w c at ≡ []
unfolding members_in
members-end zero w c at e = refl
members-end (suc k) w c at e = simp (eq-eqb _ _ e)

pub members-none : (k : ℕ) (w : List ℕ) (c : Chain) (at : ℕ) → k ≤ 0 → members_in k w c at ≡ []
unfolding members_in
members-none zero w c at h = refl
members-none (suc k) w c at h = absurd (omega arith)

pub members-more : (k : ℕ) (w : List ℕ) (c : Chain) (at : ℕ) → 0 < k → (at ≡ 0 → ⊥) → members_in k w c at ≡ at ∷ members_in (k - 1) w c (next_of w c at)
unfolding members_in
members-more zero w c at h n = absurd (omega arith)
members-more (suc k) w c at h n = simp (ne_eqb _ _ n, less_one k)
