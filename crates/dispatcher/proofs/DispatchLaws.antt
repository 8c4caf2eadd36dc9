-- The laws of the loops, as the code counts, and the bounds that its calls need.
use Prim.Native.Nat.{ℕ, zero, suc, ◌+◌, ◌-◌, ◌≤◌, ◌<◌}
use Rattle.std.specs.Prelude.{Option}
use native.Mathlib.Omega.{arith}
use mathlib.Core.List.{List}
use mathlib.Core.Bool.{Bool, cond, true, false}
use mathlib.Core.Path.{◌≡◌, refl}
use Rattle.std.specs.List.{fold}
use Rattle.chains.specs.Chain.{first_of, members_of}
use Rattle.chains.specs.Ready.{waiters_chain}
use Rattle.chains.proofs.WalkLaws.{fold-members}
use Rattle.dispatcher.specs.Dispatch.{no_due, due_after, soonest_in, soonest, is_waiting, noted, noted_to, listed_in, listed_to_in}

less_one : (k : ℕ) → suc k - 1 ≡ k
less_one k = omega arith

-- the smallest deadline is that of the members of the chain, one after another
pub soonest-fold : (w : List ℕ) → soonest w ≡ fold (due_after w) no_due (members_of w waiters_chain)
unfolding soonest soonest_in members_of
soonest-fold w = fold-members w waiters_chain (due_after w) (λ k at d. soonest_in k w d at) (λ at d. refl) (λ k at d. refl) 4096 (first_of w waiters_chain) no_due

pub listed-none : (m : ℕ) (w out : List ℕ) (id k : ℕ) → m ≤ 0 → listed_in m w out id k ≡ out
unfolding listed_in
listed-none zero w out id k h = refl
listed-none (suc m) w out id k h = absurd (omega arith)

pub listed_more : (m : ℕ) (w out : List ℕ) (id k : ℕ) → 0 < m → listed_in m w out id k ≡ listed_in (m - 1) w (noted w out id k) (id + 1) (noted_to w id k)
unfolding listed_in
listed_more zero w out id k h = absurd (omega arith)
listed_more (suc m) w out id k h = simp (less_one m)

pub listed-to-none : (m : ℕ) (w : List ℕ) (id k : ℕ) → m ≤ 0 → listed_to_in m w id k ≡ k
unfolding listed_to_in
listed-to-none zero w id k h = refl
listed-to-none (suc m) w id k h = absurd (omega arith)

pub listed-to-more : (m : ℕ) (w : List ℕ) (id k : ℕ) → 0 < m → listed_to_in m w id k ≡ listed_to_in (m - 1) w (id + 1) (noted_to w id k)
unfolding listed_to_in
listed-to-more zero w id k h = absurd (omega arith)
listed-to-more (suc m) w id k h = simp (less_one m)

pub noted-most : (w : List ℕ) (id k : ℕ) → noted_to w id k ≤ k + 1
unfolding noted_to
noted-most w id k = go (is_waiting w id)
  where
    go : (b : Bool) → cond b (k + 1) k ≤ k + 1
    go true = omega arith
    go false = omega arith
