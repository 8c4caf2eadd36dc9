-- The time to advance to: what the words find is the smallest that the log lists.
use Prim.Native.Nat.{ℕ, zero, suc, ◌+◌}
use mathlib.Core.List.{List, [], ◌∷◌, ◌++◌}
use mathlib.Core.Bool.{Bool, true, false, cond}
use mathlib.Core.Option.{none, some}
use mathlib.Core.Logic.{◌⊎◌, inl, inr}
use mathlib.Core.Path.{◌≡◌, refl, sym, ap, ◌∙◌, subst}
use native.Mathlib.Omega.{arith}
use borrow.Author.Tests.{ne_eqb}
use lib.ListN.{get_or, length}
use lib.Dec.{eqb}
use Rattle.words.specs.Layout as at
use Rattle.words.specs.Layout.{entry_at}
use Rattle.chains.specs.Ready.{waiters_chain}
use Rattle.objects.specs.Objects.{object_count}
use Rattle.wakes.specs.Wake as code
use Rattle.dispatcher.specs.Dispatch.{sooner, soonest}
use Rattle.dispatcher.specs.TimerDue.{is_awaited, timer_counts, due_with, soonest_timer_in, soonest_timer, next_time}
use Rattle.images.specs.declared.Timer.{Timer}
use Rattle.model.specs.Lists.{Mem, member, is_empty, keep, first, nth, given}
use Rattle.model.specs.State.{State, Dispatcher, Thread, Object}
use Rattle.model.specs.Threads.{thread_at, is_waiting, numbers_of, waiting_numbers}
use Rattle.model.specs.Waits.{kind_of, timers_of, waits_on}
use Rattle.model.specs.Step.{deadlines_of, dues_of, counts, smallest}
use Rattle.model.proofs.ListLaws.{not-both, mem-member, mem-append, append-mem-left, append-mem-right}
use Rattle.model.proofs.TableLaws.{none-some}
use Rattle.model.proofs.ObjectLaws.{on-timer}
use Rattle.agreement_tables.proofs.Lists.{nth_in}
use Rattle.agreement_chains.proofs.Frames.{first-is}
use Rattle.agreement.specs.Row.{Row}
use Rattle.agreement.specs.Records.{flag, timer_row, object_row}
use Rattle.agreement.specs.Agree.{objects_from, Agreeing}
use Rattle.agreement.proofs.Places.{entry_place}
use Rattle.agreement.proofs.Headers.{objects-few}
use Rattle.agreement.proofs.Lookups.{base-is, object-count-is, row-kind}
use Rattle.agreement_wakes.proofs.Waiters.{waits-on-is}
use Rattle.agreement_threads.proofs.Least.{Least, Seen, due_of, least_on, least-same, least-smallest, least-perhaps, Among, among-mem, least_step, least-stop}
use Rattle.agreement_threads.proofs.Times.{counted_due, due-among, among-due, deadline_at, least-deadline, waiter-thread, thread-waiter}

-- ---- whether some thread waits

waits-some : (n : ℕ) (l : List Thread) (i : ℕ) → is_waiting (thread_at l i).status ≡ true → is_empty (numbers_of (λ t. is_waiting t.status) n l) ≡ false
waits-some n [] zero e = absurd (not-both (sym e))
waits-some n [] (suc i) e = absurd (not-both (sym e))
waits-some n (t ∷ ts) zero e = absurd (not-both (sym e))
waits-some n (t ∷ ts) (suc i) e = go (is_waiting t.status) refl i e (λ j q. waits-some (suc n) ts (suc j) q)
  where
    go : (b : Bool) → is_waiting t.status ≡ b → (i : ℕ) → is_waiting (thread_at (t ∷ ts) (suc i)).status ≡ true
        → ((j : ℕ) → is_waiting (thread_at ts (suc j)).status ≡ true → is_empty (numbers_of (λ t. is_waiting t.status) (suc n) ts) ≡ false)
        → is_empty (cond b (n ∷ numbers_of (λ t. is_waiting t.status) (suc n) ts) (numbers_of (λ t. is_waiting t.status) (suc n) ts)) ≡ false
    go true q i e ih = refl
    go false q zero e ih = absurd (not-both (sym e ∙ q))
    go false q (suc j) e ih = ih j e

waits-none : (n : ℕ) (l : List Thread) → ((i : ℕ) → is_waiting (thread_at l i).status ≡ false) → is_empty (numbers_of (λ t. is_waiting t.status) n l) ≡ true
waits-none n [] h = refl
waits-none n (t ∷ ts) h =
    ap (λ (b : Bool). is_empty (cond b (n ∷ numbers_of (λ t. is_waiting t.status) (suc n) ts) (numbers_of (λ t. is_waiting t.status) (suc n) ts))) (h 1) ∙ waits-none (suc n) ts rest
  where
    rest : (i : ℕ) → is_waiting (thread_at ts i).status ≡ false
    rest zero = refl
    rest (suc i) = h (suc (suc i))

module _ (w : List ℕ) (s : State) (holder : ℕ → ℕ) (active : ℕ) (a : Agreeing w s holder active)
    (exact : (i : ℕ) → member i s.dispatcher.waiters ≡ is_waiting (thread_at s.dispatcher.threads i).status) where
  abbrev d : Dispatcher
  d = s.dispatcher

  abbrev base : ℕ
  base = objects_from s.limits

  -- ---- one object

  timer-counts : (p : ℕ) (t : Timer) → is_empty (waiting_numbers s.dispatcher) ≡ false → Row w p (timer_row t) → timer_counts w p ≡ counts s.dispatcher t
  unfolding timer_counts is_awaited counts
  timer-counts p t one r =
      ap (λ (n : ℕ). cond (eqb n 2) (cond (eqb (get_or w (p + at.inserted) 0) 0) false (cond (eqb (get_or w (p + at.timer_dpc) 0) 0) (cond (eqb (get_or w (p + at.signaled) 0) 0) (code.waits_on w 2 (get_or w (p + at.key) 0)) false) true)) false) (r 1 2 refl)
      ∙ ap (λ (n : ℕ). cond (eqb n 0) false (cond (eqb (get_or w (p + at.timer_dpc) 0) 0) (cond (eqb (get_or w (p + at.signaled) 0) 0) (code.waits_on w 2 (get_or w (p + at.key) 0)) false) true)) (r 5 (flag t.inserted) refl)
      ∙ ap (λ (n : ℕ). cond (eqb (flag t.inserted) 0) false (cond (eqb n 0) (cond (eqb (get_or w (p + at.signaled) 0) 0) (code.waits_on w 2 (get_or w (p + at.key) 0)) false) true)) (r 8 t.dpc refl)
      ∙ ap (λ (n : ℕ). cond (eqb (flag t.inserted) 0) false (cond (eqb t.dpc 0) (cond (eqb n 0) (code.waits_on w 2 (get_or w (p + at.key) 0)) false) true)) (r 3 (flag t.signaled) refl)
      ∙ ap (λ (b : Bool). cond (eqb (flag t.inserted) 0) false (cond (eqb t.dpc 0) (cond (eqb (flag t.signaled) 0) b false) true)) awaited
      ∙ either t.inserted t.signaled
      ∙ ap (λ (b : Bool). cond b false (cond t.inserted (cond (eqb t.dpc 0) (cond t.signaled false (waits_on d (record { kind = 2; key = t.address }))) true) false)) (sym one)
    where
      awaited : code.waits_on w 2 (get_or w (p + at.key) 0) ≡ waits_on s.dispatcher (record { kind = 2; key = t.address })
      awaited = ap (code.waits_on w 2) (r 0 t.address refl) ∙ waits-on-is w s holder active a exact 2 t.address

      either : (i g : Bool) → cond (eqb (flag i) 0) false (cond (eqb t.dpc 0) (cond (eqb (flag g) 0) (waits_on d (record { kind = 2; key = t.address })) false) true)
          ≡ cond i (cond (eqb t.dpc 0) (cond g false (waits_on d (record { kind = 2; key = t.address }))) true) false
      either true true = refl
      either true false = refl
      either false g = refl

  looked : (p : ℕ) (o : Object) → is_empty (waiting_numbers s.dispatcher) ≡ false → Row w p (object_row o) → (e : Seen) → due_with w e p ≡ given (counted_due s.dispatcher o) e (λ t. sooner e 1 t)
  unfolding due_with timer_counts
  looked p o one r e = on-timer (λ due. due_with w e p ≡ given due e (λ t. sooner e 1 t)) o (λ n. simp (r 1 (kind_of o) (row-kind o), n)) λ t q.
      let z = subst (λ (y : Object). Row w p (object_row y)) q r in
      ap (λ (b : Bool). cond b (sooner e 1 (get_or w (p + at.due) 0)) e) (timer-counts p t one z)
      ∙ ap (λ (n : ℕ). cond (counts d t) (sooner e 1 n) e) (z 6 t.due refl)
      ∙ either t (counts d t)
    where
      either : (t : Timer) (b : Bool) → cond b (sooner e 1 t.due) e ≡ given (cond b (some t.due) none) e (λ t. sooner e 1 t)
      either t true = refl
      either t false = refl

  -- ---- the walk over the table

  walked : (P : ℕ → Type 0) (ys : List Object) (i : ℕ) (e : Seen) → is_empty (waiting_numbers s.dispatcher) ≡ false
      → ((j : ℕ) (o : Object) → nth ys j ≡ some o → Row w (entry_at (objects_from s.limits) (i + j)) (object_row o))
      → Least P (due_of e) → Least (λ x. P x ⊎ Among (counted_due s.dispatcher) ys x) (due_of (soonest_timer_in (length ys) w e (objects_from s.limits) i))
  unfolding soonest_timer_in
  walked P [] i e one rows h = least-stop (counted_due d) P (due_of e) h
  walked P (o ∷ ys) i e one rows h =
      least_step (counted_due d) P o ys (due_of (soonest_timer_in (length ys) w (due_with w e (entry_at base i)) base (i + 1)))
      (walked (λ x. P x ⊎ (counted_due d o ≡ some x)) ys (i + 1) (due_with w e (entry_at base i)) one
      (λ j x q. subst (λ (k : ℕ). Row w (entry_at base k) (object_row x)) (let z : i + suc j ≡ i + 1 + j = omega arith in z) (rows (suc j) x q))
      (subst (λ (f : Seen). Least (λ x. P x ⊎ (counted_due d o ≡ some x)) (due_of f))
      (sym (looked (entry_at base i) o one (subst (λ (k : ℕ). Row w (entry_at base k) (object_row o)) (let z : i + 0 ≡ i = omega arith in z) (rows 0 o refl)) e))
      (least-perhaps P e (counted_due d o) h)))

  -- ---- all of it

  abbrev Times : ℕ → Type 0
  Times x = Among (deadline_at w s holder active a exact) s.dispatcher.waiters x ⊎ Among (counted_due s.dispatcher) s.dispatcher.objects x

  table-least : is_empty (waiting_numbers s.dispatcher) ≡ false → Least Times (due_of (soonest_timer w (soonest w)))
  unfolding soonest_timer
  table-least one =
      subst (λ (b : ℕ). Least Times (due_of (soonest_timer_in (object_count w) w (soonest w) b 0))) (sym (base-is w s holder active a))
      (subst (λ (m : ℕ). Least Times (due_of (soonest_timer_in m w (soonest w) base 0))) (sym (object-count-is w s holder active a))
      (walked (λ x. Among (deadline_at w s holder active a exact) s.dispatcher.waiters x) s.dispatcher.objects 0 (soonest w) one rows (least-deadline w s holder active a exact)))
    where
      rows : (j : ℕ) (o : Object) → nth s.dispatcher.objects j ≡ some o → Row w (entry_at (objects_from s.limits) (0 + j)) (object_row o)
      rows j o q = subst (λ (p : ℕ). Row w p (object_row o))
          (sym (entry_place base (0 + j) (omega (arith, a.shape.sizes.limits.threads)) (omega (arith, nth_in s.dispatcher.objects j o q, objects-few w s holder active a)) ∙ omega arith))
          (a.objects j o q)

  -- none counts while no thread waits
  none-counts : is_empty (waiting_numbers s.dispatcher) ≡ true → (x : ℕ) → Among (counted_due s.dispatcher) s.dispatcher.objects x → ⊥
  unfolding counts
  none-counts empty x m = let r = among-mem (counted_due d) s.dispatcher.objects x m in go r.0 r.2
    where
      go : (o : Object) → counted_due s.dispatcher o ≡ some x → ⊥
      go o = on-timer (λ due. due ≡ some x → ⊥) o (λ n. none-some x) λ t q e. none-some x (sym (ap (λ (b : Bool). cond (cond b false (cond t.inserted (cond (eqb t.dpc 0) (cond t.signaled false (waits_on d (record { kind = 2; key = t.address }))) true) false)) (some t.due) none) empty) ∙ e)

  next-least : Least Times (due_of (next_time w))
  unfolding next_time
  next-least =
      subst (λ (n : ℕ). Least Times (due_of (cond (eqb n 0) (soonest w) (soonest_timer w (soonest w))))) (sym (first-is w waiters_chain s.dispatcher.waiters a.waiters))
      (go s.dispatcher.waiters refl)
    where
      only : ((x : ℕ) → Among (counted_due s.dispatcher) s.dispatcher.objects x → ⊥) → (x : ℕ) → Times x → Among (deadline_at w s holder active a exact) s.dispatcher.waiters x
      only h x (inl m) = m
      only h x (inr m) = absurd (h x m)

      go : (l : List ℕ) → s.dispatcher.waiters ≡ l → Least Times (due_of (cond (eqb (first l) 0) (soonest w) (soonest_timer w (soonest w))))
      go [] e =
          least_on (λ x. Among (deadline_at w s holder active a exact) s.dispatcher.waiters x) Times (λ x m. inl m)
          (only (none-counts (waits-none 1 s.dispatcher.threads (λ i. sym (exact i) ∙ ap (member i) e))))
          (due_of (soonest w)) (least-deadline w s holder active a exact)
      go (y ∷ ys) e =
          let m : Mem y s.dispatcher.waiters = subst (Mem y) (sym e) (inl refl) in
          subst (λ (b : Bool). Least Times (due_of (cond b (soonest w) (soonest_timer w (soonest w))))) (sym (ne_eqb y 0 (λ z. omega (arith, a.shape.waiting_standing.within y m))))
          (table-least (waits-some 1 s.dispatcher.threads y (sym (exact y) ∙ mem-member y s.dispatcher.waiters m)))

  pub next-time-is : due_of (next_time w) ≡ smallest (deadlines_of s.dispatcher.threads ++ dues_of (keep (counts s.dispatcher) (timers_of s.dispatcher.objects)))
  next-time-is = least-same Times (λ x. Mem x times) to from (due_of (next_time w)) (smallest times) next-least (least-smallest times)
    where
      times : List ℕ
      times = deadlines_of s.dispatcher.threads ++ dues_of (keep (counts s.dispatcher) (timers_of s.dispatcher.objects))

      to : (x : ℕ) → Times x → Mem x times
      to x (inl m) = append-mem-left x (deadlines_of s.dispatcher.threads) (dues_of (keep (counts d) (timers_of d.objects))) (waiter-thread w s holder active a exact x m)
      to x (inr m) = append-mem-right x (deadlines_of s.dispatcher.threads) (dues_of (keep (counts d) (timers_of d.objects))) (among-due d s.dispatcher.objects x m)

      from : (x : ℕ) → Mem x times → Times x
      from x m = either (mem-append x (deadlines_of s.dispatcher.threads) (dues_of (keep (counts d) (timers_of d.objects))) m)
        where
          either : Mem x (deadlines_of s.dispatcher.threads) ⊎ Mem x (dues_of (keep (counts s.dispatcher) (timers_of s.dispatcher.objects))) → Times x
          either (inl m) = inl (thread-waiter w s holder active a exact x m)
          either (inr m) = inr (due-among d s.dispatcher.objects x m)
