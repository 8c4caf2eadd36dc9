-- The words without the DPCs in a range agree with the log without them.
use Prim.Native.Nat.{ℕ, ◌+◌, ◌*◌, ◌≤◌, ◌<◌}
use mathlib.Core.List.{List}
use mathlib.Core.Bool.{Bool, true, not}
use mathlib.Core.Path.{◌≡◌, sym, ap, subst}
use native.Mathlib.Omega.{arith}
use lib.ListN.{get_or, length}
use Rattle.words.specs.Layout as at
use Rattle.images.specs.declared.Dpc.{Dpc}
use Rattle.dpc_table.specs.Table.{closed_up}
use Rattle.timers.specs.Release.{dpcs_marked}
use Rattle.model.specs.Lists.{keep, Mem, present}
use Rattle.model.specs.State.{State}
use Rattle.model.specs.Dpcs.{address_of}
use Rattle.model.specs.Refusal.{dpc_overlapped}
use Rattle.model.specs.Step.{with_dpcs}
use Rattle.model.proofs.ListLaws.{mem-keep, length-keep}
use Rattle.model.proofs.TableLaws.{rising-keep, find-kept}
use Rattle.agreement.specs.Agree.{dpcs_from, header_of, Agreeing}
use Rattle.agreement.specs.Shape.{DpcsFit}
use Rattle.agreement.proofs.Frames.{header-word, threads-depend, waits-depend, queues-depend, waiters-depend, objects-depend}
use Rattle.agreement.proofs.Headers.{threads-few}
use Rattle.agreement.proofs.Places.{ready-cases, waiter-cases}
use Rattle.agreement.proofs.Written.{row_one}
use Rattle.agreement_release.proofs.DpcsClosed as closed
use Rattle.agreement_release.proofs.DpcsClosed.{queued-stays, length-closed, dpcs-counted, dpcs-kept, before-dpcs, work-kept}

module _ (w : List ℕ) (s : State) (holder : ℕ → ℕ) (active : ℕ) (a : Agreeing w s holder active) (address size : ℕ)
    (unqueued : (d : Dpc) → Mem d s.dpcs.table → dpc_overlapped address size d ≡ true → Mem d.address s.dpcs.queue → ⊥) where
  abbrev g : Dpc → Bool
  g = λ (d : Dpc). not (dpc_overlapped address size d)

  abbrev xs : List Dpc
  xs = s.dpcs.table

  abbrev w' : List ℕ
  w' = closed.w₂ w s holder active a address size unqueued

  fits : DpcsFit (keep g xs) s.dpcs.queue
  fits = record {
    rising = rising-keep address_of g xs a.shape.dpcs.rising;
    placed = λ d m. a.shape.dpcs.placed d (mem-keep g d xs m).0;
    queued = λ b m. let k = queued-stays w s holder active a address size unqueued b m in ap present (find-kept address_of g xs b k.0 k.1 k.2);
    once = a.shape.dpcs.once;
  }

  abbrev n : ℕ
  n = length s.dispatcher.threads

  fit : length s.dispatcher.threads ≤ s.limits.threads
  fit = a.shape.sizes.threads_fit

  -- what stands behind the header and before the DPCs
  front : (j : ℕ) → 25 ≤ j → j < dpcs_from s.limits → get_or w' j 0 ≡ get_or w j 0
  front j h k = before-dpcs w s holder active a address size unqueued j k (λ e. omega arith) (λ e. omega arith) (λ e. omega arith)

  word : (j : ℕ) → j < 23 → (j ≡ 5 → ⊥) → get_or w' j 0 ≡ get_or w j 0
  word j h five = before-dpcs w s holder active a address size unqueued j (omega arith) five (λ e. omega arith) (λ e. omega arith)

  pub sim-dpcs-closed : Agreeing (closed_up (dpcs_marked w address size))
      (with_dpcs s (record { table = keep (λ (d : Dpc). not (dpc_overlapped address size d)) s.dpcs.table; queue = s.dpcs.queue; counters = s.dpcs.counters })) holder active
  unfolding closed.w₂ closed.w₁
  sim-dpcs-closed = record {
    enough = subst (λ (m : ℕ). at.header_size + at.thread_size * s.limits.threads + 32 * (s.limits.objects + s.limits.dpcs) ≤ m) (sym (length-closed w s holder active a address size unqueued)) a.enough;
    numbers = row_one w w' 0 (header_of s active) 5 (length (keep g xs)) a.numbers
        (λ j o q. let h = header-word s active j o in before-dpcs w s holder active a address size unqueued j (omega (arith, h.small)) (λ e. q (omega arith))
        (λ e. h.no_end (omega arith) (omega arith)) (λ e. h.no_end (omega arith) (omega arith)))
        (dpcs-counted w s holder active a address size unqueued);
    threads = threads-depend w w' s.dispatcher.threads (λ j f. front j (omega (arith, f.here, f.one)) (omega (arith, f.here, f.has.small, f.le, fit))) a.threads;
    waits = waits-depend w w' s.dispatcher.threads a.shape.fit (λ j f. front j (omega (arith, f.here, f.one)) (omega (arith, f.here, f.has.to, f.le, fit))) a.waits;
    queues = queues-depend w w' s.dispatcher.threads s.dispatcher.placed (threads-few w s holder active a) a.shape.ready_standing
        (λ j r. ready-cases (get_or w' j 0 ≡ get_or w j 0) n j r (λ e. word j (omega arith) (λ z. omega arith)) (λ x y. front j (omega arith) (omega arith))
        (λ l. front j (omega (arith, l.here)) (omega (arith, l.here, l.le, fit)))) a.queues;
    waiters = waiters-depend w w' n s.dispatcher.waiters (threads-few w s holder active a) a.shape.waiting_standing
        (λ j r. waiter-cases (get_or w' j 0 ≡ get_or w j 0) n j r (λ e. word j (omega arith) (λ z. omega arith)) (λ e. word j (omega arith) (λ z. omega arith))
        (λ l. front j (omega (arith, l.here)) (omega (arith, l.here, l.le, fit)))) a.waiters;
    objects = objects-depend w w' (at.header_size + at.thread_size * s.limits.threads) s.dispatcher.objects (λ j f. front j (omega (arith, f.here)) (omega (arith, f.here, f.has, f.below, a.shape.sizes.objects_fit))) a.objects;
    dpcs = dpcs-kept w s holder active a address size unqueued;
    work = work-kept w s holder active a address size unqueued;
    shape = record {
      sizes = record {
        limits = a.shape.sizes.limits;
        threads_fit = a.shape.sizes.threads_fit;
        objects_fit = a.shape.sizes.objects_fit;
        dpcs_fit = omega (arith, length-keep g xs, a.shape.sizes.dpcs_fit);
      };
      fit = a.shape.fit;
      ready_standing = a.shape.ready_standing;
      waiting_standing = a.shape.waiting_standing;
      rising = a.shape.rising;
      bounded = a.shape.bounded;
      dpcs = fits;
      counted = a.shape.counted;
    };
  }
