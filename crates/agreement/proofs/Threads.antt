-- A thread's record written, on the words and in the log: its scalars, or its wait.
use Prim.Native.Nat.{ℕ, ◌+◌, ◌*◌, ◌≤◌, ◌<◌}
use mathlib.Core.List.{List}
use mathlib.Core.Path.{◌≡◌, refl, sym, ap, ◌∙◌, subst}
use native.Mathlib.Omega.{arith}
use native.Mathlib.Decide.{ℕ_discrete}
use lib.ListN.{length}
use Rattle.words.specs.Layout as at
use Rattle.threads.specs.declared.Thread as stored
use Rattle.threads.specs.Thread.{put_thread}
use Rattle.chains.specs.Ready.{waiters_chain}
use Rattle.model.specs.Lists.{Mem}
use Rattle.model.specs.State.{State, Thread}
use Rattle.model.specs.Threads.{thread_at, change_at, with_thread}
use Rattle.model.specs.Step.{with_dispatcher}
use Rattle.model.proofs.ThreadLaws.{length-change, change-own, change-other}
use Rattle.agreement_chains.specs.Chains.{Holds, Standing, Same}
use Rattle.agreement_chains.specs.Ready.{ReadyQueues}
use Rattle.agreement_chains.proofs.Placed.{ready-priorities}
use Rattle.agreement.specs.Row.{Row}
use Rattle.agreement.specs.Records.{header, thread_row, status_number, exit_status, result_number, numbers_in}
use Rattle.agreement.specs.Chains.{queues_of, queue_from}
use Rattle.agreement.specs.Shape.{ThreadFits}
use Rattle.agreement.specs.Agree.{header_of, WaitOf, Enough, objects_from, dpcs_from, Objects, DpcTable, Agreeing}
use Rattle.agreement.proofs.Rows.{row-depends, says-short, blank, row-blank, row_written, written-outside, length-written}
use Rattle.agreement.proofs.Places.{Scalar, Waiting, Own, Inner, ready-cases, waiter-cases, queue-cases}
use Rattle.agreement.proofs.Frames.{numbers-depend, kept-depends, wait-depends, queues-depend, waiters-depend, work-depends, objects-depend, dpcs-depend}
use Rattle.agreement.proofs.Writers.{thread_stores, thread-stores, put-thread}
use Rattle.agreement.proofs.Headers.{threads-few, dpcs-few}

-- ---- what stays when words of one record are written that are no links

module _ (w : List ℕ) (s : State) (holder : ℕ → ℕ) (active : ℕ) (a : Agreeing w s holder active) (id : ℕ) (one : 1 ≤ id) (le : id ≤ length s.dispatcher.threads) (w' : List ℕ)
    (len : length w' ≡ length w) (same : Same (λ j. Inner (at.thread_from id) Own j → ⊥) w w') where
  abbrev n : ℕ
  n = length s.dispatcher.threads

  fit : length s.dispatcher.threads ≤ s.limits.threads
  fit = a.shape.sizes.threads_fit

  pub stays-enough : Enough w' s.limits
  stays-enough = subst (λ (m : ℕ). at.header_size + at.thread_size * s.limits.threads + 32 * (s.limits.objects + s.limits.dpcs) ≤ m) (sym len) a.enough

  pub stays-numbers : Row w' 0 (header_of s active)
  stays-numbers = numbers-depend w w' s active (λ j h. same j (λ o. omega (arith, h.small, o.here))) a.numbers

  pub stays-queues : ReadyQueues w' (queues_of s.dispatcher.threads s.dispatcher.placed)
  stays-queues = queues-depend w w' s.dispatcher.threads s.dispatcher.placed (threads-few w s holder active a) a.shape.ready_standing
      (λ j r. same j (λ o. ready-cases ⊥ n j r (λ e. omega (arith, o.here)) (λ x y. omega (arith, o.here)) (λ l. o.has.no-next (omega (arith, o.here, l.here, o.has.small))))) a.queues

  pub stays-waiters : Holds w' waiters_chain s.dispatcher.waiters
  stays-waiters = waiters-depend w w' n s.dispatcher.waiters (threads-few w s holder active a) a.shape.waiting_standing
      (λ j r. same j (λ o. waiter-cases ⊥ n j r (λ e. omega (arith, o.here)) (λ e. omega (arith, o.here)) (λ l. o.has.no-waiter (omega (arith, o.here, l.here, o.has.small))))) a.waiters

  pub stays-objects : Objects w' (objects_from s.limits) s.dispatcher.objects
  stays-objects = objects-depend w w' (objects_from s.limits) s.dispatcher.objects (λ j f. same j (λ o. omega (arith, o.here, o.has.small, f.here, fit))) a.objects

  pub stays-dpcs : DpcTable w' (dpcs_from s.limits) holder s.dpcs.table
  stays-dpcs = dpcs-depend w w' (dpcs_from s.limits) holder s.dpcs.table (λ j f. same j (λ o. omega (arith, o.here, o.has.small, f.here, fit))) a.dpcs

  pub stays-work : Holds w' (queue_from (dpcs_from s.limits)) (numbers_in s.dpcs.table s.dpcs.queue)
  stays-work = work-depends w w' (dpcs_from s.limits) s.dpcs.table s.dpcs.queue (dpcs-few w s holder active a) a.shape.dpcs
      (λ j r. same j (λ o. queue-cases ⊥ (dpcs_from s.limits) (length s.dpcs.table) j r
      (λ e. omega (arith, o.here)) (λ e. omega (arith, o.here)) (λ l. omega (arith, o.here, o.has.small, l.here, l.one, fit)))) a.work

  -- the record of another thread
  pub stays-thread : (i : ℕ) → 1 ≤ i → i ≤ length s.dispatcher.threads → (i ≡ id → ⊥) → Row w' (at.thread_from i) (thread_row (thread_at s.dispatcher.threads i))
  stays-thread i h k ne = row-depends w w' (at.thread_from i) (thread_row (thread_at s.dispatcher.threads i))
      (λ j q. same j (λ o. let z : q.word < 6 = says-short (thread_row (thread_at s.dispatcher.threads i)) q.word q.holds q.says in
      omega (arith, o.here, o.has.small, q.here, ne))) (a.threads i h k)

-- ---- the scalars

-- a thread of the log as the code writes it
abbrev pub stored_of : Thread → stored.Thread
stored_of t = record { priority = t.priority; state = status_number t.status; result = result_number t.result; status = exit_status t.status }

pub thread-writes : (w : List ℕ) (id : ℕ) (t : stored.Thread) → id ≤ at.most_threads → Same (λ j. Inner (at.thread_from id) Scalar j → ⊥) w (put_thread w id t)
thread-writes w id t h = subst (λ (v : List ℕ). Same (λ j. Inner (at.thread_from id) Scalar j → ⊥) w v) (sym (put-thread w id t h))
    (written-outside (λ j. Inner (at.thread_from id) Scalar j → ⊥) Scalar w (at.thread_from id) (thread_stores t) (thread-stores t) (λ k d q. q (record { word = k; has = d; here = refl })))

pub length-thread : (w : List ℕ) (id : ℕ) (t : stored.Thread) → id ≤ at.most_threads → length (put_thread w id t) ≡ length w
length-thread w id t h = ap (λ (v : List ℕ). length v) (put-thread w id t h) ∙ length-written w (at.thread_from id) (thread_stores t)

pub thread-shows : (w : List ℕ) (id : ℕ) (t : Thread) → id ≤ at.most_threads → at.header_size + at.thread_size * id ≤ length w → Row (put_thread w id (stored_of t)) (at.thread_from id) (thread_row t)
thread-shows w id t h long = subst (λ (v : List ℕ). Row v (at.thread_from id) (thread_row t)) (sym (put-thread w id (stored_of t) h))
    (row_written Scalar w (at.thread_from id) (blank 6) (thread_stores (stored_of t)) (thread-stores (stored_of t)) (λ k d. omega (arith, d.small)) (row-blank w (at.thread_from id) 6))

module _ (w : List ℕ) (s : State) (holder : ℕ → ℕ) (active : ℕ) (a : Agreeing w s holder active) where
  -- the premises: the record fits, a placed thread keeps its priority, and the words of a waiting one's wait are there already
  pub sim-thread : (id : ℕ) (t : Thread) → 1 ≤ id → id ≤ length s.dispatcher.threads → ThreadFits t
      → (Mem id s.dispatcher.placed → t.priority ≡ (thread_at s.dispatcher.threads id).priority) → WaitOf w id t.status
      → Agreeing (put_thread w id (stored_of t)) (with_dispatcher s (with_thread s.dispatcher id t)) holder active
  sim-thread id t one le f p x = record {
    enough = stays-enough w s holder active a id one le w' len own;
    numbers = subst (λ (m : ℕ). Row w' 0 (header s.limits m (length s.dispatcher.objects) (length s.dpcs.table)
        s.dispatcher.current s.dispatcher.sequence s.now s.policy s.dpcs.counters s.timer_initializations s.dpc_initializations active))
        (sym size) (stays-numbers w s holder active a id one le w' len own);
    threads = λ i h k. by i h (subst (λ (m : ℕ). i ≤ m) size k) (ℕ_discrete i id);
    waits = record {
      kept = λ i h k. kept-depends w w' i (waits i) (a.waits.kept i h (subst (λ (m : ℕ). i ≤ m) size k));
      current = λ i h k. by' i h (subst (λ (m : ℕ). i ≤ m) size k) (ℕ_discrete i id);
    };
    queues = ready-priorities w' (λ z. (thread_at l z).priority) (λ z. (thread_at l' z).priority) s.dispatcher.placed (λ z m. priority z m (ℕ_discrete z id))
        (stays-queues w s holder active a id one le w' len own);
    waiters = stays-waiters w s holder active a id one le w' len own;
    objects = stays-objects w s holder active a id one le w' len own;
    dpcs = stays-dpcs w s holder active a id one le w' len own;
    work = stays-work w s holder active a id one le w' len own;
    shape = record {
      sizes = record {
        limits = a.shape.sizes.limits;
        threads_fit = subst (λ (m : ℕ). m ≤ s.limits.threads) (sym size) a.shape.sizes.threads_fit;
        objects_fit = a.shape.sizes.objects_fit;
        dpcs_fit = a.shape.sizes.dpcs_fit;
      };
      fit = λ i h k. by'' i h (subst (λ (m : ℕ). i ≤ m) size k) (ℕ_discrete i id);
      ready_standing = subst (λ (m : ℕ). Standing m s.dispatcher.placed) (sym size) a.shape.ready_standing;
      waiting_standing = subst (λ (m : ℕ). Standing m s.dispatcher.waiters) (sym size) a.shape.waiting_standing;
      rising = a.shape.rising;
      bounded = a.shape.bounded;
      dpcs = a.shape.dpcs;
      counted = a.shape.counted;
    };
  }
    where
      l : List Thread
      l = s.dispatcher.threads

      l' : List Thread
      l' = change_at s.dispatcher.threads id t

      size : length (change_at s.dispatcher.threads id t) ≡ length s.dispatcher.threads
      size = length-change s.dispatcher.threads id t

      few : id ≤ at.most_threads
      few = omega (arith, threads-few w s holder active a)

      w' : List ℕ
      w' = put_thread w id (stored_of t)

      len : length (put_thread w id (stored_of t)) ≡ length w
      len = length-thread w id (stored_of t) few

      long : at.header_size + at.thread_size * id ≤ length w
      long = omega (arith, a.enough, a.shape.sizes.threads_fit)

      mine : Same (λ j. Inner (at.thread_from id) Scalar j → ⊥) w (put_thread w id (stored_of t))
      mine = thread-writes w id (stored_of t) few

      own : Same (λ j. Inner (at.thread_from id) Own j → ⊥) w (put_thread w id (stored_of t))
      own j q = mine j (λ o. q (record { word = o.word; has = record { small = omega (arith, o.has.small); no-next = o.has.no-next; no-waiter = o.has.no-waiter }; here = o.here }))

      waits : (i : ℕ) → Same (Inner (at.thread_from i) Waiting) w (put_thread w id (stored_of t))
      waits i j f = mine j (λ o. omega (arith, o.here, o.has.small, f.here, f.has.from, f.has.to))

      by : (i : ℕ) → 1 ≤ i → i ≤ length s.dispatcher.threads → Dec (i ≡ id) → Row w' (at.thread_from i) (thread_row (thread_at l' i))
      by i h k (yes e) = subst (λ (j : ℕ). Row w' (at.thread_from j) (thread_row (thread_at l' j))) (sym e)
          (subst (λ (v : Thread). Row w' (at.thread_from id) (thread_row v)) (sym (change-own l id t one le)) (thread-shows w id t few long))
      by i h k (no ne) = subst (λ (v : Thread). Row w' (at.thread_from i) (thread_row v)) (sym (change-other l id t i ne)) (stays-thread w s holder active a id one le w' len own i h k ne)

      by' : (i : ℕ) → 1 ≤ i → i ≤ length s.dispatcher.threads → Dec (i ≡ id) → WaitOf w' i (thread_at l' i).status
      by' i h k (yes e) = subst (λ (j : ℕ). WaitOf w' j (thread_at l' j).status) (sym e)
          (subst (λ (v : Thread). WaitOf w' id v.status) (sym (change-own l id t one le)) (wait-depends w w' id (waits id) t.status f.wait x))
      by' i h k (no ne) = subst (λ (v : Thread). WaitOf w' i v.status) (sym (change-other l id t i ne))
          (wait-depends w w' i (waits i) (thread_at l i).status (a.shape.fit i h k).wait (a.waits.current i h k))

      by'' : (i : ℕ) → 1 ≤ i → i ≤ length s.dispatcher.threads → Dec (i ≡ id) → ThreadFits (thread_at l' i)
      by'' i h k (yes e) = subst (λ (j : ℕ). ThreadFits (thread_at l' j)) (sym e) (subst ThreadFits (sym (change-own l id t one le)) f)
      by'' i h k (no ne) = subst ThreadFits (sym (change-other l id t i ne)) (a.shape.fit i h k)

      priority : (z : ℕ) → Mem z s.dispatcher.placed → Dec (z ≡ id) → (thread_at l z).priority ≡ (thread_at l' z).priority
      priority z m (yes e) = ap (λ (j : ℕ). (thread_at l j).priority) e ∙ sym (p (subst (λ (j : ℕ). Mem j s.dispatcher.placed) e m))
          ∙ ap (λ (v : Thread). v.priority) (sym (change-own l id t one le)) ∙ ap (λ (j : ℕ). (thread_at l' j).priority) (sym e)
      priority z m (no ne) = ap (λ (v : Thread). v.priority) (sym (change-other l id t z ne))
