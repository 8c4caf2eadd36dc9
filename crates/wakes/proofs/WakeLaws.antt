-- The laws of the wake pass, as the code counts, and the bounds that its sums need.
use Prim.Native.Nat.{ℕ, zero, suc, ◌+◌, ◌-◌, ◌≤◌, ◌<◌}
use native.Mathlib.Omega.{arith}
use mathlib.Core.List.{List}
use mathlib.Core.Bool.{Bool, cond, true, false}
use mathlib.Core.Path.{◌≡◌, refl}
use lib.Dec.{eqb}
use borrow.Author.Tests.{eq-eqb, ne_eqb}
use Rattle.chains.specs.Chain.{first_of, next_of, members_of}
use Rattle.chains.specs.Ready.{waiters_chain}
use Rattle.threads.specs.Thread.{count_of}
use Rattle.waits.specs.Lists.{first_in, index_in}
use Rattle.wakes.specs.Wake.{visited, visited_to, passed, waits_for, waits_in, waits_on}
use Rattle.std.specs.List.{list_any}
use Rattle.chains.proofs.WalkLaws.{any-members}
use Rattle.waits.proofs.ListLaws as lists
use Rattle.waits.proofs.ListLaws.{first-within}

less_one : (k : ℕ) → suc k - 1 ≡ k
less_one k = omega arith

pub count_most : (w : List ℕ) (id : ℕ) → count_of w id ≤ 64
count_most = lists.count_most

pub index-most : (w src : List ℕ) (at n all : ℕ) → index_in w src at n all ≤ n
unfolding index_in
index-most w src at n all = go (eqb all 0) (first-within n w src at 0)
  where
    go : (b : Bool) → first_in n w src at 0 ≤ 0 + n → cond b (first_in n w src at 0) 0 ≤ n
    go true h = omega arith
    go false h = omega arith

pub pass-none : (k : ℕ) (w : List ℕ) (before at : ℕ) → k ≤ 0 → passed k w before at ≡ w
unfolding passed
pass-none zero w before at h = refl
pass-none (suc k) w before at h = absurd (omega arith)

pub pass-end : (k : ℕ) (w : List ℕ) (before at : ℕ) → at ≡ 0 → passed k w before at ≡ w
unfolding passed
pass-end zero w before at e = refl
pass-end (suc k) w before at e = simp (eq-eqb _ _ e)

pub pass-more : (k : ℕ) (w : List ℕ) (before at : ℕ) → 0 < k → (at ≡ 0 → ⊥)
    → passed k w before at ≡ passed (k - 1) (visited w before at) (visited_to w before at) (next_of w waiters_chain at)
unfolding passed
pass-more zero w before at h n = absurd (omega arith)
pass-more (suc k) w before at h n = simp (ne_eqb _ _ n, less_one k)

-- the waiting threads, of which one waits for the object
pub waits-any : (w : List ℕ) (kind key : ℕ) → waits_on w kind key ≡ list_any (waits_for w kind key) (members_of w waiters_chain)
unfolding waits_on waits_in waits_for members_of
waits-any w kind key = any-members w waiters_chain (waits_for w kind key) (λ k at. waits_in k w at kind key) (λ at. refl) (λ k at. refl) 4096 (first_of w waiters_chain)
