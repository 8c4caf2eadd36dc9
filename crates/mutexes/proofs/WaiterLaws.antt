-- How many threads wait for a mutex is a sum over the waiting threads, which a number holds.
use Prim.Native.Nat.{ℕ, zero, suc, ◌+◌, ◌≤◌, ◌<◌}
use native.Mathlib.Omega.{arith}
use mathlib.Core.List.{List}
use mathlib.Core.Bool.{Bool, cond, true, false}
use mathlib.Core.Path.{◌≡◌, refl}
use lib.Dec.{eqb}
use Rattle.std.specs.List.{sum_by}
use Rattle.chains.specs.Chain.{first_of, next_of, members_of}
use Rattle.chains.specs.Ready.{waiters_chain}
use Rattle.chains.proofs.WalkLaws.{sum-members}
use Rattle.threads.specs.Thread.{count_of, places_at}
use Rattle.waits.specs.Lists.{has_pair}
use Rattle.answers.specs.Outcome.{bit}
use Rattle.mutexes.specs.Mutexes.{waits_for, waiters_in}

waits-most : (w : List ℕ) (id key : ℕ) → waits_for w id key ≤ 1
unfolding waits_for
waits-most w id key = go (has_pair (count_of w id) w (places_at id) 0 0 key)
  where
    go : (b : Bool) → bit b ≤ 1
    go true = omega arith
    go false = omega arith

waiters-most : (k : ℕ) (w : List ℕ) (at key : ℕ) → waiters_in k w at key ≤ k
unfolding waiters_in
waiters-most zero w at key = omega arith
waiters-most (suc k) w at key = go (eqb at 0) (waits-most w at key) (waiters-most k w (next_of w waiters_chain at) key)
  where
    go : (b : Bool) → waits_for w at key ≤ 1 → waiters_in k w (next_of w waiters_chain at) key ≤ k → cond b 0 (waits_for w at key + waiters_in k w (next_of w waiters_chain at) key) ≤ suc k
    go true h l = omega arith
    go false h l = omega (arith, h, l)

pub waiters-sum : (w : List ℕ) (key : ℕ) → waiters_in 4096 w (first_of w waiters_chain) key ≡ sum_by (λ id. waits_for w id key) (members_of w waiters_chain)
unfolding waiters_in members_of
waiters-sum w key = sum-members w waiters_chain (λ id. waits_for w id key) (λ k at. waiters_in k w at key) (λ at. refl) (λ k at. refl) 4096 (first_of w waiters_chain)

pub waiters-fit : (w : List ℕ) (key : ℕ) → sum_by (λ id. waits_for w id key) (members_of w waiters_chain) < 18446744073709551616
waiters-fit w key = omega (arith, waiters-most 4096 w (first_of w waiters_chain) key, waiters-sum w key)
