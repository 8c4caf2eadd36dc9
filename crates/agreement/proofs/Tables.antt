-- A record of a table written, on the words and in the log: of an object, or of a DPC. The list of the log is given by what stands at its
-- positions.
use Prim.Native.Nat.{ℕ, ◌+◌, ◌*◌, ◌≤◌, ◌<◌}
use mathlib.Core.List.{List}
use mathlib.Core.Option.{some}
use mathlib.Core.Path.{◌≡◌, refl, sym, ap, ◌∙◌, subst}
use native.Mathlib.Omega.{arith}
use native.Mathlib.Decide.{ℕ_discrete}
use lib.ListN.{get_or, length}
use Rattle.words.specs.Layout as at
use Rattle.images.specs.declared.Dpc.{Dpc}
use Rattle.chains.specs.Ready.{waiters_chain}
use Rattle.model.specs.Lists.{nth}
use Rattle.model.specs.Table.{Rising}
use Rattle.model.specs.State.{State, Object}
use Rattle.model.specs.Waits.{key_of}
use Rattle.model.specs.Step.{with_table, with_dpcs}
use Rattle.model.specs.Valid.{Each}
use Rattle.model.proofs.TableLaws.{some_same}
use Rattle.agreement_chains.specs.Chains.{Holds, Same}
use Rattle.agreement_chains.specs.Ready.{ReadyQueues}
use Rattle.agreement.specs.Row.{Row}
use Rattle.agreement.specs.Records.{header, object_row, dpc_row, numbers_in}
use Rattle.agreement.specs.Chains.{queues_of, queue_from}
use Rattle.agreement.specs.Shape.{ObjectFits, DpcsFit}
use Rattle.agreement.specs.Agree.{objects_from, dpcs_from, header_of, Threads, Waits, Agreeing}
use Rattle.agreement.proofs.Rows.{row-depends, says-short, Store, written, In, written-outside, length-written}
use Rattle.agreement.proofs.Places.{Inner, Any, Unlinked, ready-cases, waiter-cases, queue-cases}
use Rattle.agreement.proofs.Frames.{numbers-depend, threads-depend, waits-depend, queues-depend, waiters-depend, work-depends, objects-depend, dpcs-depend, object-short, dpc-short}
use Rattle.agreement.proofs.Headers.{threads-few, dpcs-few}

-- ---- what stands before the tables

pub record Front (w : List ℕ) (s : State) (active : ℕ) : Type 0 where
  pub numbers : Row w 0 (header_of s active)
  pub threads : Threads w s.dispatcher.threads
  pub waits : Waits w s.dispatcher.threads
  pub queues : ReadyQueues w (queues_of s.dispatcher.threads s.dispatcher.placed)
  pub waiters : Holds w waiters_chain s.dispatcher.waiters

module _ (w : List ℕ) (s : State) (holder : ℕ → ℕ) (active : ℕ) (a : Agreeing w s holder active) where
  -- the ends of the DPC queue are none of it
  pub front-stays : (w' : List ℕ) → Same (λ j. (j < at.header_size + at.thread_size * s.limits.threads) × (j ≡ at.queue_first → ⊥) × (j ≡ at.queue_last → ⊥)) w w' → Front w' s active
  front-stays w' same = record {
    numbers = numbers-depend w w' s active (λ j h. same j (omega (arith, h.small), λ e. h.no_end (omega arith) (omega arith), λ e. h.no_end (omega arith) (omega arith))) a.numbers;
    threads = threads-depend w w' s.dispatcher.threads (λ j f. same j (omega (arith, f.here, f.has.small, f.le, fit), λ e. omega (arith, f.here), λ e. omega (arith, f.here))) a.threads;
    waits = waits-depend w w' s.dispatcher.threads a.shape.fit (λ j f. same j (omega (arith, f.here, f.has.to, f.le, fit), λ e. omega (arith, f.here), λ e. omega (arith, f.here))) a.waits;
    queues = queues-depend w w' s.dispatcher.threads s.dispatcher.placed (threads-few w s holder active a) a.shape.ready_standing
        (λ j r. same j (ready-cases ((j < at.header_size + at.thread_size * s.limits.threads) × (j ≡ at.queue_first → ⊥) × (j ≡ at.queue_last → ⊥)) n j r
        (λ e. (omega arith, λ q. omega arith, λ q. omega arith)) (λ x y. (omega arith, λ q. omega arith, λ q. omega arith))
        (λ l. (omega (arith, l.here, l.le, fit), λ q. omega (arith, l.here), λ q. omega (arith, l.here))))) a.queues;
    waiters = waiters-depend w w' n s.dispatcher.waiters (threads-few w s holder active a) a.shape.waiting_standing
        (λ j r. same j (waiter-cases ((j < at.header_size + at.thread_size * s.limits.threads) × (j ≡ at.queue_first → ⊥) × (j ≡ at.queue_last → ⊥)) n j r
        (λ e. (omega arith, λ q. omega arith, λ q. omega arith)) (λ e. (omega arith, λ q. omega arith, λ q. omega arith))
        (λ l. (omega (arith, l.here, l.le, fit), λ q. omega (arith, l.here), λ q. omega (arith, l.here))))) a.waiters;
  }
    where
      n : ℕ
      n = length s.dispatcher.threads

      fit : length s.dispatcher.threads ≤ s.limits.threads
      fit = a.shape.sizes.threads_fit

  -- ---- an object

  -- position `i` holds another object, the others are as before; the stores make its row
  pub sim-object : (i : ℕ) (x' : Object) (l' : List Object) (xs : List Store) → i < length s.dispatcher.objects
      → nth l' i ≡ some x' → ((j : ℕ) → (j ≡ i → ⊥) → nth l' j ≡ nth s.dispatcher.objects j) → length l' ≡ length s.dispatcher.objects
      → Rising key_of l' → Each key_of l' ObjectFits → In Any xs
      → Row (written w (objects_from s.limits + 32 * i) xs) (objects_from s.limits + 32 * i) (object_row x')
      → Agreeing (written w (objects_from s.limits + 32 * i) xs) (with_table s l') holder active
  sim-object i x' l' xs below own others size rising bounded inside row = record {
    enough = subst (λ (m : ℕ). at.header_size + at.thread_size * s.limits.threads + 32 * (s.limits.objects + s.limits.dpcs) ≤ m) (sym (length-written w place xs)) a.enough;
    numbers = subst (λ (m : ℕ). Row w' 0 (header s.limits (length s.dispatcher.threads) m (length s.dpcs.table)
        s.dispatcher.current s.dispatcher.sequence s.now s.policy s.dpcs.counters s.timer_initializations s.dpc_initializations active)) (sym size) front.numbers;
    threads = front.threads;
    waits = front.waits;
    queues = front.queues;
    waiters = front.waiters;
    objects = λ j x e. by j x e (ℕ_discrete j i);
    dpcs = dpcs-depend w w' (dpcs_from s.limits) holder s.dpcs.table (λ j f. outside j (λ k. omega (arith, f.here, fit))) a.dpcs;
    work = work-depends w w' (dpcs_from s.limits) s.dpcs.table s.dpcs.queue (dpcs-few w s holder active a) a.shape.dpcs
        (λ j r. outside j (λ k. queue-cases ⊥ (dpcs_from s.limits) (length s.dpcs.table) j r (λ e. omega arith) (λ e. omega arith) (λ l. omega (arith, l.here, l.one, fit)))) a.work;
    shape = record {
      sizes = record {
        limits = a.shape.sizes.limits;
        threads_fit = a.shape.sizes.threads_fit;
        objects_fit = subst (λ (m : ℕ). m ≤ s.limits.objects) (sym size) a.shape.sizes.objects_fit;
        dpcs_fit = a.shape.sizes.dpcs_fit;
      };
      fit = a.shape.fit;
      ready_standing = a.shape.ready_standing;
      waiting_standing = a.shape.waiting_standing;
      rising = rising;
      bounded = bounded;
      dpcs = a.shape.dpcs;
      counted = a.shape.counted;
    };
  }
    where
      place : ℕ
      place = objects_from s.limits + 32 * i

      w' : List ℕ
      w' = written w (objects_from s.limits + 32 * i) xs

      fit : length s.dispatcher.objects ≤ s.limits.objects
      fit = a.shape.sizes.objects_fit

      -- what is not within the 32 words
      outside : (j : ℕ) → ((objects_from s.limits + 32 * i ≤ j) × (j < objects_from s.limits + 32 * i + 32) → ⊥) → get_or (written w (objects_from s.limits + 32 * i) xs) j 0 ≡ get_or w j 0
      outside j n = written-outside (λ (k : ℕ). (objects_from s.limits + 32 * i ≤ k) × (k < objects_from s.limits + 32 * i + 32) → ⊥) Any w (objects_from s.limits + 32 * i) xs inside
          (λ k d q. q (omega arith, omega arith)) j n

      front : Front w' s active
      front = front-stays w' (λ j h. outside j (λ k. omega (arith, h.0)))

      by : (j : ℕ) (x : Object) → nth l' j ≡ some x → Dec (j ≡ i) → Row w' (objects_from s.limits + 32 * j) (object_row x)
      by j x e (yes q) = subst (λ (k : ℕ). Row w' (objects_from s.limits + 32 * k) (object_row x)) (sym q)
          (subst (λ (y : Object). Row w' (objects_from s.limits + 32 * i) (object_row y)) (some_same x' x (sym own ∙ ap (nth l') (sym q) ∙ e)) row)
      by j x e (no n) = row-depends w w' (objects_from s.limits + 32 * j) (object_row x)
          (λ k o. outside k (λ z. let h = says-short (object_row x) o.word o.holds o.says in omega (arith, o.here, object-short x, n))) (a.objects j x (sym (others j n) ∙ e))

  -- ---- a DPC

  -- the same of a DPC, whose link is not written; whom the DPCs name may change
  pub sim-dpc : (i : ℕ) (d' : Dpc) (table' : List Dpc) (holder' : ℕ → ℕ) (xs : List Store) → i < length s.dpcs.table
      → nth table' i ≡ some d' → ((j : ℕ) → (j ≡ i → ⊥) → nth table' j ≡ nth s.dpcs.table j) → length table' ≡ length s.dpcs.table
      → ((j : ℕ) (d : Dpc) → (j ≡ i → ⊥) → nth s.dpcs.table j ≡ some d → holder' d.address ≡ holder d.address)
      → numbers_in table' s.dpcs.queue ≡ numbers_in s.dpcs.table s.dpcs.queue
      → DpcsFit table' s.dpcs.queue → In Unlinked xs
      → Row (written w (dpcs_from s.limits + 32 * i) xs) (dpcs_from s.limits + 32 * i) (dpc_row (holder' d'.address) d')
      → Agreeing (written w (dpcs_from s.limits + 32 * i) xs) (with_dpcs s (record { table = table'; queue = s.dpcs.queue; counters = s.dpcs.counters })) holder' active
  sim-dpc i d' table' holder' xs below own others size held numbered fits inside row = record {
    enough = subst (λ (m : ℕ). at.header_size + at.thread_size * s.limits.threads + 32 * (s.limits.objects + s.limits.dpcs) ≤ m) (sym (length-written w place xs)) a.enough;
    numbers = subst (λ (m : ℕ). Row w' 0 (header s.limits (length s.dispatcher.threads) (length s.dispatcher.objects) m
        s.dispatcher.current s.dispatcher.sequence s.now s.policy s.dpcs.counters s.timer_initializations s.dpc_initializations active)) (sym size) front.numbers;
    threads = front.threads;
    waits = front.waits;
    queues = front.queues;
    waiters = front.waiters;
    objects = objects-depend w w' (objects_from s.limits) s.dispatcher.objects (λ j f. outside j (λ k. omega (arith, k.here, f.here, f.has, f.below, a.shape.sizes.objects_fit))) a.objects;
    dpcs = λ j d e. by j d e (ℕ_discrete j i);
    work = subst (Holds w' (queue_from (dpcs_from s.limits))) (sym numbered)
        (work-depends w w' (dpcs_from s.limits) s.dpcs.table s.dpcs.queue (dpcs-few w s holder active a) a.shape.dpcs
        (λ j r. outside j (λ k. queue-cases ⊥ (dpcs_from s.limits) (length s.dpcs.table) j r
        (λ e. omega (arith, k.here)) (λ e. omega (arith, k.here)) (λ l. k.has.no-link (omega (arith, k.here, k.has.small, l.here, l.one))))) a.work);
    shape = record {
      sizes = record {
        limits = a.shape.sizes.limits;
        threads_fit = a.shape.sizes.threads_fit;
        objects_fit = a.shape.sizes.objects_fit;
        dpcs_fit = subst (λ (m : ℕ). m ≤ s.limits.dpcs) (sym size) a.shape.sizes.dpcs_fit;
      };
      fit = a.shape.fit;
      ready_standing = a.shape.ready_standing;
      waiting_standing = a.shape.waiting_standing;
      rising = a.shape.rising;
      bounded = a.shape.bounded;
      dpcs = fits;
      counted = a.shape.counted;
    };
  }
    where
      place : ℕ
      place = dpcs_from s.limits + 32 * i

      w' : List ℕ
      w' = written w (dpcs_from s.limits + 32 * i) xs

      outside : Same (λ j. Inner (dpcs_from s.limits + 32 * i) Unlinked j → ⊥) w (written w (dpcs_from s.limits + 32 * i) xs)
      outside = written-outside (λ j. Inner (dpcs_from s.limits + 32 * i) Unlinked j → ⊥) Unlinked w (dpcs_from s.limits + 32 * i) xs inside
          (λ k d q. q (record { word = k; has = d; here = refl }))

      front : Front w' s active
      front = front-stays w' (λ j h. outside j (λ k. omega (arith, k.here, h.0)))

      by : (j : ℕ) (d : Dpc) → nth table' j ≡ some d → Dec (j ≡ i) → Row w' (dpcs_from s.limits + 32 * j) (dpc_row (holder' d.address) d)
      by j d e (yes q) = subst (λ (k : ℕ). Row w' (dpcs_from s.limits + 32 * k) (dpc_row (holder' d.address) d)) (sym q)
          (subst (λ (y : Dpc). Row w' (dpcs_from s.limits + 32 * i) (dpc_row (holder' y.address) y)) (some_same d' d (sym own ∙ ap (nth table') (sym q) ∙ e)) row)
      by j d e (no n) =
          let old = sym (others j n) ∙ e in
          subst (λ (h : ℕ). Row w' (dpcs_from s.limits + 32 * j) (dpc_row h d)) (sym (held j d n old))
          (row-depends w w' (dpcs_from s.limits + 32 * j) (dpc_row (holder d.address) d)
          (λ k o. outside k (λ z. let h = says-short (dpc_row (holder d.address) d) o.word o.holds o.says in
          omega (arith, o.here, z.here, z.has.small, dpc-short (holder d.address) d, n))) (a.dpcs j d old))
