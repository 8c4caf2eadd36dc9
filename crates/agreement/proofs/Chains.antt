-- A thread put into a ready queue or the waiters' chain and taken out, a DPC put into the queue and taken out: on the words and in the log.
use Prim.Native.Nat.{ℕ, ◌+◌, ◌*◌, ◌≤◌}
use mathlib.Core.List.{List, [], ◌∷◌, ◌++◌}
use mathlib.Core.Logic.{inl, inr}
use mathlib.Core.Path.{◌≡◌, refl, sym, subst}
use native.Mathlib.Omega.{arith}
use lib.ListN.{length}
use Rattle.words.specs.Layout as at
use Rattle.chains.specs.Chain.{pushed, removed, unlinked}
use Rattle.chains.specs.Ready.{waiters_chain, placed_last, unplaced}
use Rattle.model.specs.Lists.{Mem, without}
use Rattle.model.specs.State.{State, Dispatcher}
use Rattle.model.specs.Threads.{thread_at}
use Rattle.model.specs.Step.{with_dispatcher}
use Rattle.agreement_chains.specs.Chains.{Holds, Standing, Same, Places}
use Rattle.agreement_chains.specs.Ready.{ReadyQueues, ReadyPlace, Room}
use Rattle.agreement_chains.proofs.Links.{prior_to, prior-mem}
use Rattle.agreement_chains.proofs.Frames.{own-place, pushed-outside, unlinked-outside, length-pushed, length_removed, length-unlinked}
use Rattle.agreement_chains.proofs.ChainLaws.{standing-last, standing-out, holds_pushed, holds-removed, holds-unlinked, removed-outside}
use Rattle.agreement_chains.proofs.Places.{waiters-apart}
use Rattle.agreement_chains.proofs.Marks.{length-placed, length-unplaced}
use Rattle.agreement_chains.proofs.Placed.{placed-last, placed-frame, taken_out, taken-frame}
use Rattle.agreement.specs.Chains.{queues_of}
use Rattle.agreement.specs.Agree.{objects_from, dpcs_from, Agreeing}
use Rattle.agreement.proofs.Places.{ready-place, chain-place, ready-cases, waiter-cases, queue-cases}
use Rattle.agreement.proofs.Frames.{numbers-depend, threads-depend, waits-depend, queues-depend, waiters-depend, work-depends, objects-depend, dpcs-depend}
use Rattle.agreement.proofs.Headers.{threads-few, dpcs-few}

-- ---- the states after

abbrev pub with_placed : Dispatcher → List ℕ → Dispatcher
with_placed d l = record { threads = d.threads; current = d.current; placed = l; waiters = d.waiters; sequence = d.sequence; objects = d.objects }

abbrev pub with_waiters : Dispatcher → List ℕ → Dispatcher
with_waiters d l = record { threads = d.threads; current = d.current; placed = d.placed; waiters = l; sequence = d.sequence; objects = d.objects }

module _ (w : List ℕ) (s : State) (holder : ℕ → ℕ) (active : ℕ) (a : Agreeing w s holder active) where
  abbrev n : ℕ
  n = length s.dispatcher.threads

  few : length s.dispatcher.threads ≤ at.most_threads
  few = threads-few w s holder active a

  fit : length s.dispatcher.threads ≤ s.limits.threads
  fit = a.shape.sizes.threads_fit

  room : Room (length s.dispatcher.threads) (length w)
  room = record { few = few; long = omega (arith, a.enough, fit) }

  abbrev priority : ℕ → ℕ
  priority i = (thread_at s.dispatcher.threads i).priority

  -- ---- the ready queues

  -- words that differ in places of the ready queues only
  ready-step : (w' : List ℕ) (placed' : List ℕ) → length w' ≡ length w → Same (λ j. ReadyPlace (length s.dispatcher.threads) j → ⊥) w w'
      → ReadyQueues w' (queues_of s.dispatcher.threads placed') → Standing (length s.dispatcher.threads) placed'
      → Agreeing w' (with_dispatcher s (with_placed s.dispatcher placed')) holder active
  ready-step w' placed' len same qs st = record {
    enough = subst (λ (m : ℕ). at.header_size + at.thread_size * s.limits.threads + 32 * (s.limits.objects + s.limits.dpcs) ≤ m) (sym len) a.enough;
    numbers = numbers-depend w w' s active
        (λ j h. same j (λ r. ready-cases ⊥ n j (ready-place n j few r) h.no-ready (λ x y. omega (arith, h.small)) (λ l. omega (arith, h.small, l.here)))) a.numbers;
    threads = threads-depend w w' s.dispatcher.threads
        (λ j f. same j (λ r. ready-cases ⊥ n j (ready-place n j few r) (λ e. omega (arith, f.here)) (λ x y. omega (arith, f.here)) (λ l. f.has.no-next (omega (arith, f.here, f.has.small, l.here))))) a.threads;
    waits = waits-depend w w' s.dispatcher.threads a.shape.fit
        (λ j f. same j (λ r. ready-cases ⊥ n j (ready-place n j few r) (λ e. omega (arith, f.here)) (λ x y. omega (arith, f.here)) (λ l. omega (arith, f.here, f.has.from, f.has.to, l.here)))) a.waits;
    queues = qs;
    waiters = waiters-depend w w' n s.dispatcher.waiters few a.shape.waiting_standing
        (λ j q. same j (λ r. waiter-cases ⊥ n j q
        (λ e. ready-cases ⊥ n j (ready-place n j few r) (λ z. omega arith) (λ x y. omega arith) (λ l. omega (arith, l.here)))
        (λ e. ready-cases ⊥ n j (ready-place n j few r) (λ z. omega arith) (λ x y. omega arith) (λ l. omega (arith, l.here)))
        (λ k. ready-cases ⊥ n j (ready-place n j few r) (λ z. omega (arith, k.here)) (λ x y. omega (arith, k.here)) (λ l. omega (arith, k.here, l.here))))) a.waiters;
    objects = objects-depend w w' (objects_from s.limits) s.dispatcher.objects
        (λ j f. same j (λ r. ready-cases ⊥ n j (ready-place n j few r) (λ e. omega (arith, f.here)) (λ x y. omega (arith, f.here)) (λ l. omega (arith, f.here, l.here, l.le, fit)))) a.objects;
    dpcs = dpcs-depend w w' (dpcs_from s.limits) holder s.dpcs.table
        (λ j f. same j (λ r. ready-cases ⊥ n j (ready-place n j few r) (λ e. omega (arith, f.here)) (λ x y. omega (arith, f.here)) (λ l. omega (arith, f.here, l.here, l.le, fit)))) a.dpcs;
    work = work-depends w w' (dpcs_from s.limits) s.dpcs.table s.dpcs.queue (dpcs-few w s holder active a) a.shape.dpcs
        (λ j q. same j (λ r. queue-cases ⊥ (dpcs_from s.limits) (length s.dpcs.table) j q
        (λ e. ready-cases ⊥ n j (ready-place n j few r) (λ z. omega arith) (λ x y. omega arith) (λ l. omega (arith, l.here)))
        (λ e. ready-cases ⊥ n j (ready-place n j few r) (λ z. omega arith) (λ x y. omega arith) (λ l. omega (arith, l.here)))
        (λ k. ready-cases ⊥ n j (ready-place n j few r) (λ z. omega (arith, k.here)) (λ x y. omega (arith, k.here)) (λ l. omega (arith, k.here, k.one, l.here, l.le, fit))))) a.work;
    shape = record {
      sizes = a.shape.sizes;
      fit = a.shape.fit;
      ready_standing = st;
      waiting_standing = a.shape.waiting_standing;
      rising = a.shape.rising;
      bounded = a.shape.bounded;
      dpcs = a.shape.dpcs;
      counted = a.shape.counted;
    };
  }

  -- placed last in the queue of its priority
  pub sim_place : (id : ℕ) → 1 ≤ id → id ≤ length s.dispatcher.threads → (Mem id s.dispatcher.placed → ⊥)
      → Agreeing (placed_last w (thread_at s.dispatcher.threads id).priority id) (with_dispatcher s (with_placed s.dispatcher (s.dispatcher.placed ++ (id ∷ [])))) holder active
  sim_place id one le absent =
      let f = a.shape.fit id one le in
      ready-step (placed_last w (priority id) id) (s.dispatcher.placed ++ (id ∷ [])) (length-placed w (priority id) id)
      (placed-frame n w priority s.dispatcher.placed room a.shape.ready_standing a.queues (priority id) id f.one f.small one le absent (λ j. ReadyPlace n j → ⊥) (λ j r q. q r))
      (placed-last n w priority s.dispatcher.placed room a.shape.ready_standing a.queues (priority id) id f.one f.small one le absent priority refl (λ y m. refl))
      (standing-last n s.dispatcher.placed id a.shape.ready_standing one le absent)

  -- taken out of it
  pub sim-unplace : (id : ℕ) → Mem id s.dispatcher.placed
      → Agreeing (unplaced w (thread_at s.dispatcher.threads id).priority id) (with_dispatcher s (with_placed s.dispatcher (without id s.dispatcher.placed))) holder active
  sim-unplace id m =
      let h = a.shape.ready_standing.within id m in
      let f = a.shape.fit id h.0 h.1 in
      ready-step (unplaced w (priority id) id) (without id s.dispatcher.placed) (length-unplaced w (priority id) id)
      (taken-frame n w priority s.dispatcher.placed room a.shape.ready_standing a.queues (priority id) id f.one f.small m refl (λ j. ReadyPlace n j → ⊥) (λ j r q. q r))
      (taken_out n w priority s.dispatcher.placed room a.shape.ready_standing a.queues (priority id) id f.one f.small m refl)
      (standing-out n s.dispatcher.placed id a.shape.ready_standing)

  -- ---- the waiters' chain

  -- words that differ in places of the waiters' chain only
  waiters-step : (w' : List ℕ) (waiters' : List ℕ) → length w' ≡ length w → Same (λ j. Places waiters_chain (length s.dispatcher.threads) j → ⊥) w w'
      → Holds w' waiters_chain waiters' → Standing (length s.dispatcher.threads) waiters'
      → Agreeing w' (with_dispatcher s (with_waiters s.dispatcher waiters')) holder active
  waiters-step w' waiters' len same hs st = record {
    enough = subst (λ (m : ℕ). at.header_size + at.thread_size * s.limits.threads + 32 * (s.limits.objects + s.limits.dpcs) ≤ m) (sym len) a.enough;
    numbers = numbers-depend w w' s active (λ j h. same j (λ r. waiter-cases ⊥ n j (place j r)
        (λ e. h.no_end (omega arith) (omega arith)) (λ e. h.no_end (omega arith) (omega arith)) (λ l. omega (arith, h.small, l.here)))) a.numbers;
    threads = threads-depend w w' s.dispatcher.threads (λ j f. same j (λ r. waiter-cases ⊥ n j (place j r)
        (λ e. omega (arith, f.here)) (λ e. omega (arith, f.here)) (λ l. f.has.no-waiter (omega (arith, f.here, f.has.small, l.here))))) a.threads;
    waits = waits-depend w w' s.dispatcher.threads a.shape.fit (λ j f. same j (λ r. waiter-cases ⊥ n j (place j r)
        (λ e. omega (arith, f.here)) (λ e. omega (arith, f.here)) (λ l. omega (arith, f.here, f.has.from, f.has.to, l.here)))) a.waits;
    queues = queues-depend w w' s.dispatcher.threads s.dispatcher.placed few a.shape.ready_standing (λ j q. same j (λ r. waiter-cases ⊥ n j (place j r)
        (λ e. ready-cases ⊥ n j q (λ z. omega arith) (λ x y. omega arith) (λ l. omega (arith, l.here)))
        (λ e. ready-cases ⊥ n j q (λ z. omega arith) (λ x y. omega arith) (λ l. omega (arith, l.here)))
        (λ k. ready-cases ⊥ n j q (λ z. omega (arith, k.here)) (λ x y. omega (arith, k.here)) (λ l. omega (arith, k.here, l.here))))) a.queues;
    waiters = hs;
    objects = objects-depend w w' (objects_from s.limits) s.dispatcher.objects (λ j f. same j (λ r. waiter-cases ⊥ n j (place j r)
        (λ e. omega (arith, f.here)) (λ e. omega (arith, f.here)) (λ l. omega (arith, f.here, l.here, l.le, fit)))) a.objects;
    dpcs = dpcs-depend w w' (dpcs_from s.limits) holder s.dpcs.table (λ j f. same j (λ r. waiter-cases ⊥ n j (place j r)
        (λ e. omega (arith, f.here)) (λ e. omega (arith, f.here)) (λ l. omega (arith, f.here, l.here, l.le, fit)))) a.dpcs;
    work = work-depends w w' (dpcs_from s.limits) s.dpcs.table s.dpcs.queue (dpcs-few w s holder active a) a.shape.dpcs
        (λ j q. same j (λ r. queue-cases ⊥ (dpcs_from s.limits) (length s.dpcs.table) j q
        (λ e. waiter-cases ⊥ n j (place j r) (λ z. omega arith) (λ z. omega arith) (λ l. omega (arith, l.here)))
        (λ e. waiter-cases ⊥ n j (place j r) (λ z. omega arith) (λ z. omega arith) (λ l. omega (arith, l.here)))
        (λ k. waiter-cases ⊥ n j (place j r) (λ z. omega (arith, k.here)) (λ z. omega (arith, k.here)) (λ l. omega (arith, k.here, k.one, l.here, l.le, fit))))) a.work;
    shape = record {
      sizes = a.shape.sizes;
      fit = a.shape.fit;
      ready_standing = a.shape.ready_standing;
      waiting_standing = st;
      rising = a.shape.rising;
      bounded = a.shape.bounded;
      dpcs = a.shape.dpcs;
      counted = a.shape.counted;
    };
  }
    where
      place : (j : ℕ) → Places waiters_chain (length s.dispatcher.threads) j → Rattle.agreement.proofs.Places.WaiterWords (length s.dispatcher.threads) j
      place j r = chain-place waiters_chain (length s.dispatcher.threads) j (omega (arith, few)) r

  -- the last to block
  pub sim-block : (id : ℕ) → 1 ≤ id → id ≤ length s.dispatcher.threads → (Mem id s.dispatcher.waiters → ⊥)
      → Agreeing (pushed w waiters_chain id) (with_dispatcher s (with_waiters s.dispatcher (s.dispatcher.waiters ++ (id ∷ [])))) holder active
  sim-block id one le absent =
      let st = a.shape.waiting_standing in
      waiters-step (pushed w waiters_chain id) (s.dispatcher.waiters ++ (id ∷ [])) (length-pushed w waiters_chain id)
      (pushed-outside (λ j. Places waiters_chain n j → ⊥) w waiters_chain s.dispatcher.waiters a.waiters id
      (λ j o q. q (own-place n (id ∷ s.dispatcher.waiters) (record { within = more; once = (absent, st.once) }) waiters_chain j o)))
      (holds_pushed n w waiters_chain s.dispatcher.waiters (waiters-apart n (length w) room) st a.waiters id one le absent)
      (standing-last n s.dispatcher.waiters id st one le absent)
    where
      more : (y : ℕ) → Mem y (id ∷ s.dispatcher.waiters) → (1 ≤ y) × (y ≤ length s.dispatcher.threads)
      more y (inl e) = (omega arith, omega arith)
      more y (inr m) = a.shape.waiting_standing.within y m

  -- out of it, found from the first on
  pub sim-unblock : (id : ℕ) → Mem id s.dispatcher.waiters
      → Agreeing (removed w waiters_chain id) (with_dispatcher s (with_waiters s.dispatcher (without id s.dispatcher.waiters))) holder active
  sim-unblock id m =
      let st = a.shape.waiting_standing in
      waiters-step (removed w waiters_chain id) (without id s.dispatcher.waiters) (length_removed w waiters_chain id)
      (removed-outside n w waiters_chain s.dispatcher.waiters (waiters-apart n (length w) room) st a.waiters id m (λ j. Places waiters_chain n j → ⊥)
      (λ j o q. q (own-place n s.dispatcher.waiters st waiters_chain j o)))
      (holds-removed n w waiters_chain s.dispatcher.waiters (waiters-apart n (length w) room) st a.waiters id m)
      (standing-out n s.dispatcher.waiters id st)

  -- out of it, where the one before is known
  pub sim-unlink : (before id : ℕ) → Mem id s.dispatcher.waiters → before ≡ prior_to 0 s.dispatcher.waiters id
      → Agreeing (unlinked w waiters_chain before id) (with_dispatcher s (with_waiters s.dispatcher (without id s.dispatcher.waiters))) holder active
  sim-unlink before id m e =
      let st = a.shape.waiting_standing in
      waiters-step (unlinked w waiters_chain before id) (without id s.dispatcher.waiters) (length-unlinked w waiters_chain before id)
      (unlinked-outside (λ j. Places waiters_chain n j → ⊥) w waiters_chain s.dispatcher.waiters before id
      (subst (λ (z : ℕ). Mem z (0 ∷ s.dispatcher.waiters)) (sym e) (prior-mem 0 s.dispatcher.waiters id)) (λ j o q. q (own-place n s.dispatcher.waiters st waiters_chain j o)))
      (holds-unlinked n w waiters_chain s.dispatcher.waiters (waiters-apart n (length w) room) st a.waiters id m before e)
      (standing-out n s.dispatcher.waiters id st)
