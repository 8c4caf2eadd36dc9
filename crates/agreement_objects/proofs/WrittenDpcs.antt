-- Agreement after the table of DPCs is written: its records, their count, the links of the queue, and nothing else.
use Prim.Native.Nat.{ℕ, ◌+◌, ◌*◌, ◌≤◌, ◌<◌}
use mathlib.Core.List.{List}
use mathlib.Core.Path.{◌≡◌, sym, subst}
use native.Mathlib.Omega.{arith}
use lib.ListN.{get_or, length}
use Rattle.words.specs.Layout as at
use Rattle.images.specs.declared.Dpc.{Dpc}
use Rattle.model.specs.State.{State}
use Rattle.model.specs.Step.{with_dpcs}
use Rattle.agreement_chains.specs.Chains.{Holds, Same}
use Rattle.agreement.specs.Records.{numbers_in}
use Rattle.agreement.specs.Chains.{queue_from}
use Rattle.agreement.specs.Shape.{DpcsFit}
use Rattle.agreement.specs.Agree.{dpcs_from, header_of, DpcTable, Agreeing}
use Rattle.agreement.proofs.Frames.{header-word, threads-depend, waits-depend, queues-depend, waiters-depend, objects-depend}
use Rattle.agreement.proofs.Headers.{threads-few}
use Rattle.agreement.proofs.Places.{ready-cases, waiter-cases}
use Rattle.agreement.proofs.Written.{row_one}

module _ (w : List ℕ) (s : State) (holder : ℕ → ℕ) (active : ℕ) (a : Agreeing w s holder active) where
  -- neither the count, an end of the queue nor a record of a DPC
  pub record Elsewhere (j : ℕ) : Type 0 where
    pub no-count : j ≡ 5 → ⊥
    pub no-first : j ≡ 23 → ⊥
    pub no_last : j ≡ 24 → ⊥
    pub no-dpc : dpcs_from s.limits ≤ j → ⊥

  pub sim-dpcs : (w' : List ℕ) (table' : List Dpc) (holder' : ℕ → ℕ) → length w' ≡ length w → Same Elsewhere w w' → get_or w' at.dpcs 0 ≡ length table' → DpcTable w' (dpcs_from s.limits) holder' table'
      → Holds w' (queue_from (dpcs_from s.limits)) (numbers_in table' s.dpcs.queue) → length table' ≤ s.limits.dpcs → DpcsFit table' s.dpcs.queue
      → Agreeing w' (with_dpcs s (record { table = table'; queue = s.dpcs.queue; counters = s.dpcs.counters })) holder' active
  sim-dpcs w' table' holder' len same count rows work room fits = record {
    enough = subst (λ (m : ℕ). at.header_size + at.thread_size * s.limits.threads + 32 * (s.limits.objects + s.limits.dpcs) ≤ m) (sym len) a.enough;
    numbers = row_one w w' 0 (header_of s active) 5 (length table') a.numbers
        (λ j o n. let h = header-word s active j o in
        same j (record { no-count = λ e. n (omega arith); no-first = λ e. h.no_end (omega arith) (omega arith); no_last = λ e. h.no_end (omega arith) (omega arith); no-dpc = λ x. omega (arith, h.small) })) count;
    threads = threads-depend w w' s.dispatcher.threads (λ j f. front j (omega (arith, f.here, f.one)) (omega (arith, f.here, f.has.small, f.le, fit))) a.threads;
    waits = waits-depend w w' s.dispatcher.threads a.shape.fit (λ j f. front j (omega (arith, f.here, f.one)) (omega (arith, f.here, f.has.to, f.le, fit))) a.waits;
    queues = queues-depend w w' s.dispatcher.threads s.dispatcher.placed (threads-few w s holder active a) a.shape.ready_standing
        (λ j r. ready-cases (get_or w' j 0 ≡ get_or w j 0) n j r (λ e. low j (omega arith) (omega arith)) (λ x y. front j (omega arith) (omega arith))
        (λ l. front j (omega (arith, l.here)) (omega (arith, l.here, l.le, fit)))) a.queues;
    waiters = waiters-depend w w' n s.dispatcher.waiters (threads-few w s holder active a) a.shape.waiting_standing
        (λ j r. waiter-cases (get_or w' j 0 ≡ get_or w j 0) n j r (λ e. low j (omega arith) (omega arith)) (λ e. low j (omega arith) (omega arith))
        (λ l. front j (omega (arith, l.here)) (omega (arith, l.here, l.le, fit)))) a.waiters;
    objects = objects-depend w w' (at.header_size + at.thread_size * s.limits.threads) s.dispatcher.objects (λ j f. front j (omega (arith, f.here)) (omega (arith, f.here, f.has, f.below, a.shape.sizes.objects_fit))) a.objects;
    dpcs = rows;
    work = work;
    shape = record {
      sizes = record { limits = a.shape.sizes.limits; threads_fit = a.shape.sizes.threads_fit; objects_fit = a.shape.sizes.objects_fit; dpcs_fit = room };
      fit = a.shape.fit;
      ready_standing = a.shape.ready_standing;
      waiting_standing = a.shape.waiting_standing;
      rising = a.shape.rising;
      bounded = a.shape.bounded;
      dpcs = fits;
      counted = a.shape.counted;
    };
  }
    where
      n : ℕ
      n = length s.dispatcher.threads

      fit : length s.dispatcher.threads ≤ s.limits.threads
      fit = a.shape.sizes.threads_fit

      -- before the table of DPCs, and not a number of the header that it writes
      front : (j : ℕ) → 25 ≤ j → j < at.header_size + at.thread_size * s.limits.threads + 32 * s.limits.objects → get_or w' j 0 ≡ get_or w j 0
      front j h k = same j (record { no-count = λ e. omega arith; no-first = λ e. omega arith; no_last = λ e. omega arith; no-dpc = λ x. omega arith })

      low : (j : ℕ) → 6 ≤ j → j < 23 → get_or w' j 0 ≡ get_or w j 0
      low j h k = same j (record { no-count = λ e. omega arith; no-first = λ e. omega arith; no_last = λ e. omega arith; no-dpc = λ x. omega arith })
