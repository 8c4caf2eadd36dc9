-- Who waits for what: the chain of the waiters and the threads of the log tell the same.
use Prim.Native.Nat.{ℕ, ◌+◌, ◌≤◌}
use mathlib.Core.List.{List, [], ◌∷◌}
use mathlib.Core.Bool.{Bool, true, false, cond}
use mathlib.Core.Path.{◌≡◌, refl, sym, ap, ◌∙◌}
use native.Mathlib.Omega.{arith}
use borrow.Author.Tests.{ne_eqb}
use lib.ListN.{length}
use Rattle.threads.specs.Thread as words
use Rattle.chains.specs.Chain.{first_of, next_of}
use Rattle.chains.specs.Ready.{waiters_chain}
use Rattle.waits.specs.Lists.{has_pair}
use Rattle.wakes.specs.Wake as code
use Rattle.wakes.specs.Wake.{waits_in}
use Rattle.mutexes.specs.Mutexes.{waits_for, waiters_in}
use Rattle.model.specs.Lists.{any, count_of, Mem, member}
use Rattle.model.specs.State.{State, Thread, Status, running, ready, waiting, exited, Named}
use Rattle.model.specs.Threads.{thread_at, is_waiting, status_of, wait_of}
use Rattle.model.specs.Waits.{listed, waits_on}
use Rattle.model.specs.Reads.{mutex_waiters}
use Rattle.model.proofs.ListLaws.{not-both, mem-member}
use Rattle.agreement_chains.specs.Chains.{back}
use Rattle.agreement_chains.proofs.Walks.{back_is}
use Rattle.agreement.specs.Agree.{Agreeing}
use Rattle.agreement.proofs.Headers.{threads-few}
use Rattle.agreement_wakes.proofs.Counts.{waiters-count, waiters-any, any_same, count_same}
use Rattle.agreement_wakes.proofs.Pairs.{has-pair-is}

-- the thread waits, and its list names the object
abbrev pub awaits : Named → Thread → Bool
awaits n t = listed n (wait_of t.status).objects

waits-waiting : (n : Named) (t : Thread) → awaits n t ≡ true → is_waiting t.status ≡ true
waits-waiting n t = go t.status
  where
    go : (x : Status) → listed n (wait_of x).objects ≡ true → is_waiting x ≡ true
    go running e = e
    go ready e = e
    go (waiting x) e = refl
    go (exited m) e = e

-- a walk that asks each waiter
back_any : (f : ℕ → Bool) (l : List ℕ) → back (λ y b. cond (f y) true b) false l ≡ any f l
back_any f [] = refl
back_any f (x ∷ xs) = ap (λ (b : Bool). cond (f x) true b) (back_any f xs)

back_count : (f : ℕ → Bool) (l : List ℕ) → back (λ y n. cond (f y) 1 0 + n) 0 l ≡ count_of f l
back_count f [] = refl
back_count f (x ∷ xs) = ap (λ (n : ℕ). cond (f x) 1 0 + n) (back_count f xs)

module _ (w : List ℕ) (s : State) (holder : ℕ → ℕ) (active : ℕ) (a : Agreeing w s holder active)
    (exact : (i : ℕ) → member i s.dispatcher.waiters ≡ is_waiting (thread_at s.dispatcher.threads i).status) where
  -- what the record of a waiter names
  pub waiter-names : (kind key y : ℕ) → Mem y s.dispatcher.waiters
      → has_pair (words.count_of w y) w (words.places_at y) 0 kind key ≡ awaits (record { kind = kind; key = key }) (thread_at s.dispatcher.threads y)
  waiter-names kind key y m =
      go (status_of s.dispatcher y) refl (sym (exact y) ∙ mem-member y s.dispatcher.waiters m)
    where
      p : (1 ≤ y) × (y ≤ length s.dispatcher.threads)
      p = a.shape.waiting_standing.within y m

      go : (x : Status) → status_of s.dispatcher y ≡ x → is_waiting x ≡ true
          → has_pair (words.count_of w y) w (words.places_at y) 0 kind key ≡ listed (record { kind = kind; key = key }) (wait_of (status_of s.dispatcher y)).objects
      go running e h = absurd (not-both (sym h))
      go ready e h = absurd (not-both (sym h))
      go (waiting x) e h =
          has-pair-is w s holder active a y p.0 p.1 x e kind key ∙ ap (λ (z : Status). listed (record { kind = kind; key = key }) (wait_of z).objects) (sym e)
      go (exited n) e h = absurd (not-both (sym h))

  -- some thread waits for the object
  pub waits-on-is : (kind key : ℕ) → code.waits_on w kind key ≡ waits_on s.dispatcher (record { kind = kind; key = key })
  unfolding code.waits_on waits_in
  waits-on-is kind key =
      back_is w waiters_chain (λ k y. waits_in k w y kind key) (λ y b. cond (test y) true b) false (λ k. refl)
      (λ k y h. ap (λ (t : Bool). cond t false (cond (test y) true (waits_in k w (next_of w waiters_chain y) kind key))) (ne_eqb y 0 (λ e. omega arith)))
      (length s.dispatcher.threads) 4096 s.dispatcher.waiters a.shape.waiting_standing a.waiters (omega (arith, threads-few w s holder active a))
      ∙ back_any test s.dispatcher.waiters
      ∙ any_same test (λ y. awaits n (thread_at s.dispatcher.threads y)) s.dispatcher.waiters (λ y m. waiter-names kind key y m)
      ∙ waiters-any s.dispatcher.threads s.dispatcher.waiters a.shape.waiting_standing exact (awaits n) (waits-waiting n)
    where
      test : ℕ → Bool
      test y = has_pair (words.count_of w y) w (words.places_at y) 0 kind key

      n : Named
      n = record { kind = kind; key = key }

  -- how many threads wait for a mutex
  pub mutex-waiters-is : (key : ℕ) → waiters_in 4096 w (first_of w waiters_chain) key ≡ mutex_waiters s.dispatcher key
  unfolding waiters_in waits_for mutex_waiters
  mutex-waiters-is key =
      back_is w waiters_chain (λ k y. waiters_in k w y key) (λ y m. cond (test y) 1 0 + m) 0 (λ k. refl)
      (λ k y h. ap (λ (t : Bool). cond t 0 (cond (test y) 1 0 + waiters_in k w (next_of w waiters_chain y) key)) (ne_eqb y 0 (λ e. omega arith)))
      (length s.dispatcher.threads) 4096 s.dispatcher.waiters a.shape.waiting_standing a.waiters (omega (arith, threads-few w s holder active a))
      ∙ back_count test s.dispatcher.waiters
      ∙ count_same test (λ y. awaits n (thread_at s.dispatcher.threads y)) s.dispatcher.waiters (λ y m. waiter-names 0 key y m)
      ∙ waiters-count s.dispatcher.threads s.dispatcher.waiters a.shape.waiting_standing exact (awaits n) (waits-waiting n)
    where
      test : ℕ → Bool
      test y = has_pair (words.count_of w y) w (words.places_at y) 0 0 key

      n : Named
      n = record { kind = 0; key = key }
