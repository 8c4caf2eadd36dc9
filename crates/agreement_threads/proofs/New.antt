-- One thread more: its record and its empty wait written behind the others, on the words and in the log.
use Prim.Native.Nat.{ℕ, suc, ◌+◌, ◌*◌, ◌≤◌, ◌<◌}
use mathlib.Core.List.{List, [], ◌∷◌, ◌++◌}
use mathlib.Core.Option.{some}
use mathlib.Core.Path.{◌≡◌, sym, ap, ◌∙◌, subst}
use native.Mathlib.Omega.{arith}
use native.Mathlib.Decide.{ℕ_discrete}
use lib.ListN.{get_or, set, length, length-set}
use Rattle.words.specs.Layout as at
use Rattle.threads.specs.Thread.{put_thread, put_wait, no_wait}
use Rattle.model.specs.State.{State, Thread}
use Rattle.model.specs.Threads.{thread_at, with_new, new_thread}
use Rattle.model.specs.Step.{with_dispatcher}
use Rattle.model.proofs.ThreadLaws.{append-old, append-new, append-length}
use Rattle.agreement_chains.specs.Chains.{Standing, Same}
use Rattle.agreement_chains.proofs.Frames.{read-other}
use Rattle.agreement_chains.proofs.Placed.{ready-priorities}
use Rattle.agreement.specs.Row.{Row}
use Rattle.agreement.specs.Records.{header, thread_row}
use Rattle.agreement.specs.Shape.{ThreadFits}
use Rattle.agreement.specs.Agree.{header_of, WaitKept, WaitOf, objects_from, dpcs_from, Agreeing}
use Rattle.agreement.proofs.Rows.{row-depends, says-short}
use Rattle.agreement.proofs.Places.{ready-cases, waiter-cases, queue-cases}
use Rattle.agreement.proofs.Frames.{threads-depend, kept-depends, wait-depends, queues-depend, waiters-depend, work-depends, objects-depend, dpcs-depend}
use Rattle.agreement.proofs.Writers.{length-wait}
use Rattle.agreement.proofs.Headers.{threads-few, dpcs-few, set-number, number}
use Rattle.agreement.proofs.Threads.{stored_of, thread-writes, length-thread, thread-shows}
use Rattle.agreement.proofs.Waits.{InForm, kept-shows, wait-writes}

-- the wait of a thread that has not waited
pub no-wait-form : InForm no_wait
unfolding no_wait
no-wait-form = record { of-all = omega arith; of-timed = omega arith; few = omega arith; kinds = λ k h. absurd (omega arith) }

module _ (w : List ℕ) (s : State) (holder : ℕ → ℕ) (active : ℕ) (a : Agreeing w s holder active) (p : ℕ) (one : 1 ≤ p) (small : p ≤ 31)
    (room : length s.dispatcher.threads < s.limits.threads) where
  abbrev l : List Thread
  l = s.dispatcher.threads

  abbrev t : Thread
  t = new_thread p

  abbrev n : ℕ
  n = length s.dispatcher.threads

  abbrev id : ℕ
  id = suc (length s.dispatcher.threads)

  abbrev w₁ : List ℕ
  w₁ = set w at.threads id

  abbrev w₂ : List ℕ
  w₂ = put_wait w₁ id no_wait

  abbrev w₃ : List ℕ
  w₃ = put_thread w₂ id (stored_of t)

  few : length s.dispatcher.threads ≤ at.most_threads
  few = threads-few w s holder active a

  few' : suc (length s.dispatcher.threads) ≤ at.most_threads
  few' = omega (arith, a.shape.sizes.limits.threads, room)

  long : at.header_size + at.thread_size * suc (length s.dispatcher.threads) ≤ length w
  long = omega (arith, a.enough, room)

  len₁ : length w₁ ≡ length w
  len₁ = length-set w at.threads id

  len₂ : length w₂ ≡ length w
  len₂ = length-wait w₁ id no_wait few' ∙ len₁

  len₃ : length w₃ ≡ length w
  len₃ = length-thread w₂ id (stored_of t) few' ∙ len₂

  -- what is outside the new record
  behind : Same (λ j. at.thread_from id ≤ j → j < at.header_size + at.thread_size * id → ⊥) w₁ w₃
  behind j r =
      thread-writes w₂ id (stored_of t) few' j (λ o. r (omega (arith, o.here)) (omega (arith, o.here, o.has.small)))
      ∙ wait-writes w₁ id no_wait few' no-wait-form.few j (λ o. r (omega (arith, o.here)) (omega (arith, o.here, o.has.to)))

  same : (j : ℕ) → (j ≡ 3 → ⊥) → (at.thread_from id ≤ j → j < at.header_size + at.thread_size * id → ⊥) → get_or w₃ j 0 ≡ get_or w j 0
  same j n r = behind j r ∙ read-other w at.threads j id n

  size : length (l ++ (t ∷ [])) ≡ id
  size = append-length l t

  numbers : Row w₃ 0 (header_of (with_dispatcher s (with_new s.dispatcher t)) active)
  numbers = subst (λ (m : ℕ). Row w₃ 0 (header s.limits m (length s.dispatcher.objects) (length s.dpcs.table)
      s.dispatcher.current s.dispatcher.sequence s.now s.policy s.dpcs.counters s.timer_initializations s.dpc_initializations active)) (sym size)
      (row-depends w₁ w₃ 0 (set (header_of s active) 3 (some id))
      (λ j o. let q : o.word < 26 = says-short (set (header_of s active) 3 (some id)) o.word o.holds o.says in behind j (λ x y. omega (arith, o.here)))
      (set-number w s holder active a at.threads id (number at.threads (omega arith) (λ e. omega arith))).0)

  standing : (xs : List ℕ) → Standing n xs → Standing (length (l ++ (t ∷ []))) xs
  standing xs st = record { within = λ y m. let h = st.within y m in (h.0, omega (arith, h.1, size)); once = st.once }

  of-thread : (i : ℕ) → 1 ≤ i → i ≤ id → Dec (i ≡ id) → Row w₃ (at.thread_from i) (thread_row (thread_at (l ++ (t ∷ [])) i))
  of-thread i h k (yes e) = subst (λ (j : ℕ). Row w₃ (at.thread_from j) (thread_row (thread_at (l ++ (t ∷ [])) j))) (sym e)
      (subst (λ (x : Thread). Row w₃ (at.thread_from id) (thread_row x)) (sym (append-new l t)) (thread-shows w₂ id t few' (omega (arith, len₂, long))))
  of-thread i h k (no ne) = subst (λ (x : Thread). Row w₃ (at.thread_from i) (thread_row x)) (sym (append-old l t i (omega (arith, ne))))
      (threads-depend w w₃ l (λ j f. same j (λ e. omega (arith, f.here, f.one)) (λ x y. omega (arith, f.here, f.le, f.has.small))) a.threads i h (omega (arith, ne)))

  of-kept : (i : ℕ) → 1 ≤ i → i ≤ id → Dec (i ≡ id) → WaitKept w₃ i
  of-kept i h k (yes e) = subst (WaitKept w₃) (sym e)
      (kept-depends w₂ w₃ id (λ j f. thread-writes w₂ id (stored_of t) few' j (λ o. omega (arith, o.here, o.has.small, f.here, f.has.from)))
      (kept-shows w₁ id no_wait few' (omega (arith, len₁, long)) no-wait-form.few no-wait-form))
  of-kept i h k (no ne) = kept-depends w w₃ i
      (λ j f. same j (λ e. omega (arith, f.here, f.has.from)) (λ x y. omega (arith, f.here, f.has.to, ne))) (a.waits.kept i h (omega (arith, ne)))

  of-wait : (i : ℕ) → 1 ≤ i → i ≤ id → Dec (i ≡ id) → WaitOf w₃ i (thread_at (l ++ (t ∷ [])) i).status
  of-wait i h k (yes e) = subst (λ (j : ℕ). WaitOf w₃ j (thread_at (l ++ (t ∷ [])) j).status) (sym e)
      (subst (λ (x : Thread). WaitOf w₃ id x.status) (sym (append-new l t)) tt)
  of-wait i h k (no ne) = subst (λ (x : Thread). WaitOf w₃ i x.status) (sym (append-old l t i (omega (arith, ne))))
      (wait-depends w w₃ i (λ j f. same j (λ e. omega (arith, f.here, f.has.from)) (λ x y. omega (arith, f.here, f.has.to, ne))) (thread_at l i).status
      (a.shape.fit i h (omega (arith, ne))).wait (a.waits.current i h (omega (arith, ne))))

  of-fit : (i : ℕ) → 1 ≤ i → i ≤ id → Dec (i ≡ id) → ThreadFits (thread_at (l ++ (t ∷ [])) i)
  of-fit i h k (yes e) = subst (λ (j : ℕ). ThreadFits (thread_at (l ++ (t ∷ [])) j)) (sym e)
      (subst ThreadFits (sym (append-new l t)) (record { one = one; small = small; wait = tt }))
  of-fit i h k (no ne) = subst ThreadFits (sym (append-old l t i (omega (arith, ne)))) (a.shape.fit i h (omega (arith, ne)))

  pub sim-new : Agreeing (put_thread (put_wait (set w at.threads (suc (length s.dispatcher.threads))) (suc (length s.dispatcher.threads)) no_wait) (suc (length s.dispatcher.threads)) (stored_of (new_thread p)))
      (with_dispatcher s (with_new s.dispatcher (new_thread p))) holder active
  sim-new = record {
    enough = subst (λ (m : ℕ). at.header_size + at.thread_size * s.limits.threads + 32 * (s.limits.objects + s.limits.dpcs) ≤ m) (sym len₃) a.enough;
    numbers = numbers;
    threads = λ i h k. of-thread i h (omega (arith, size)) (ℕ_discrete i id);
    waits = record { kept = λ i h k. of-kept i h (omega (arith, size)) (ℕ_discrete i id); current = λ i h k. of-wait i h (omega (arith, size)) (ℕ_discrete i id) };
    queues = ready-priorities w₃ (λ z. (thread_at l z).priority) (λ z. (thread_at (l ++ (t ∷ [])) z).priority) s.dispatcher.placed
        (λ z m. ap (λ (x : Thread). x.priority) (sym (append-old l t z (a.shape.ready_standing.within z m).1)))
        (queues-depend w w₃ l s.dispatcher.placed few a.shape.ready_standing
        (λ j r. ready-cases (get_or w₃ j 0 ≡ get_or w j 0) n j r (λ e. same j (λ z. omega arith) (λ x y. omega arith)) (λ x y. same j (λ z. omega arith) (λ b c. omega arith))
        (λ k. same j (λ z. omega (arith, k.here)) (λ x y. omega (arith, k.here, k.le)))) a.queues);
    waiters = waiters-depend w w₃ n s.dispatcher.waiters few a.shape.waiting_standing
        (λ j r. waiter-cases (get_or w₃ j 0 ≡ get_or w j 0) n j r (λ e. same j (λ z. omega arith) (λ x y. omega arith)) (λ e. same j (λ z. omega arith) (λ x y. omega arith))
        (λ k. same j (λ z. omega (arith, k.here)) (λ x y. omega (arith, k.here, k.le)))) a.waiters;
    objects = objects-depend w w₃ (objects_from s.limits) s.dispatcher.objects (λ j f. same j (λ z. omega (arith, f.here)) (λ x y. omega (arith, f.here, room))) a.objects;
    dpcs = dpcs-depend w w₃ (dpcs_from s.limits) holder s.dpcs.table (λ j f. same j (λ z. omega (arith, f.here)) (λ x y. omega (arith, f.here, room))) a.dpcs;
    work = work-depends w w₃ (dpcs_from s.limits) s.dpcs.table s.dpcs.queue (dpcs-few w s holder active a) a.shape.dpcs
        (λ j r. queue-cases (get_or w₃ j 0 ≡ get_or w j 0) (dpcs_from s.limits) (length s.dpcs.table) j r
        (λ e. same j (λ z. omega arith) (λ x y. omega arith)) (λ e. same j (λ z. omega arith) (λ x y. omega arith))
        (λ k. same j (λ z. omega (arith, k.here, k.one)) (λ x y. omega (arith, k.here, k.one, room)))) a.work;
    shape = record {
      sizes = record {
        limits = a.shape.sizes.limits;
        threads_fit = subst (λ (m : ℕ). m ≤ s.limits.threads) (sym size) room;
        objects_fit = a.shape.sizes.objects_fit;
        dpcs_fit = a.shape.sizes.dpcs_fit;
      };
      fit = λ i h k. of-fit i h (omega (arith, size)) (ℕ_discrete i id);
      ready_standing = standing s.dispatcher.placed a.shape.ready_standing;
      waiting_standing = standing s.dispatcher.waiters a.shape.waiting_standing;
      rising = a.shape.rising;
      bounded = a.shape.bounded;
      dpcs = a.shape.dpcs;
      counted = a.shape.counted;
    };
  }
