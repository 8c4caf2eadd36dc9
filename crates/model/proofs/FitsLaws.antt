-- Every step on arguments that fit their types keeps the stored numbers in their ranges.
use Prim.Native.Nat.{ℕ, zero, suc, ◌+◌, ◌-◌, ◌^◌, ◌≤◌, ◌<◌}
use mathlib.Core.List.{List, [], ◌∷◌}
use mathlib.Core.Bool.{Bool, true, false, cond, not}
use mathlib.Core.Path.{◌≡◌, refl, sym, ap, ◌∙◌, subst}
use mathlib.Core.Logic.{inl, inr}
use mathlib.Core.Option.{Option, none, some}
use native.Mathlib.Omega.{arith}
use native.Mathlib.Decide.{ℕ_discrete}
use borrow.Author.Tests.{eqb-true, ltb-false}
use lib.Dec.{eqb, leb, ltb}
use lib.IntN.{ℤ, pos, negsuc}
use lib.ListN.{length, get_or}
use Rattle.images.specs.declared.Timer.{Timer}
use Rattle.images.specs.declared.Dpc.{Dpc}
use Rattle.images.specs.declared.DpcOrigin.TheVariants as origin
use Rattle.images.specs.declared.DpcPhase.{DpcPhase}
use Rattle.images.specs.declared.DpcPhase.TheVariants.{Idle, Queued, Running, Returning}
use Rattle.model.specs.Lists.{Mem, any, keep, is_empty, given}
use Rattle.model.specs.Table.{Rising}
use Rattle.model.specs.State.{State, Dispatcher, Dpcs, Thread, Status, running, ready, waiting, exited, WaitResult, satisfied, timeout, Named, Mutex, Event, Object, mutex, event, timer, Policy, unselected, cpu0_dispatch}
use Rattle.model.specs.Threads.{thread_at, thread_of, status_of, is_ready, wait_of, with_thread, with_objects, with_sequence, with_status, with_priority, with_result, first_thread, new_thread, ready_again, waiting_thread, becomes, created, prioritized, yielded, terminated, woken, blocked, next, ran, numbers_of}
use Rattle.model.specs.Waits.{key_of, object_at, timer_at, mutex_at, event_at, put_object, owned_by, signaled_as, is_available, first_available, is_met, index, take, take_every, takes, taken_by, named_in, no_object, can_wake, wake_one, pass, wake, reached, is_overdue, time_out_each, time_out}
use Rattle.model.specs.Dpcs.{address_of, dpc_at, phase_at, put_dpc, rephased, in_phase, is_busy, is_queued, work_of, new_work, accepted, duplicated, withdrawn, started, returned, restored}
use Rattle.model.specs.Timers.{new_timer, armed, cancelled, retimed, expired, is_periodic, next_due, due_timers, Expired, expire_one, expire_each, dpcs_after, work_queued, origin_of}
use Rattle.model.specs.Refusal.{pairs, wait_refusal, bad_list, unexpired, is_negative, signed_due, owner_number, dpc_overlapped}
use Rattle.model.specs.Answer.{gives, Refused, Done, Flag, Run}
use Rattle.model.specs.Call.{Call}
use Rattle.model.specs.Call as call
use Rattle.model.specs.Step.{refusal, effect, step, after, with_dispatcher, with_dpcs, with_table, opened, period_of, with_own_result, granted, timed_out, blocks, waited, delayed, dispatched, idle_answer, adopted, mutex_released, event_set, event_reset, events_retired, is_retired_event, timer_initialized, dpc_initialized, timer_set, cancels_work, timer_cancelled, timers_retired, is_retired_timer, configured, dpc_inserted, dpc_removed, dpc_started, dpc_returned, expired_at, advanced}
use Rattle.model.specs.Valid.{Each, sequence_of, work_at, Valid, WaitingValid}
use Rattle.model.specs.Fits.{I32, Fits, ResultFits, ThreadFits, TimerFits, Numbers}
use Rattle.model.proofs.ListLaws.{not-both, neither}
use Rattle.model.proofs.TableLaws.{none-some, find-put-own, find-put-other, rising-put, kept-found, each-put, each_keep, each-mem}
use Rattle.model.proofs.ThreadLaws.{change-either, append-either}
use Rattle.model.proofs.ObjectLaws.{map-timer, timer-found, of-kind}
use Rattle.model.proofs.DpcLaws.{phase-own, phase-other}
use Rattle.model.proofs.CreateLaws.{created-threads}
use Rattle.model.proofs.OrderLaws.{listed-due}
use Rattle.model.proofs.RowLaws.{passes}
use Rattle.model.proofs.StepLaws.{valid-step}

-- ---- threads

-- a thread's numbers, and a list of at most 64
abbrev Fit : Thread → Type 0
Fit t = ThreadFits t × (length (wait_of t.status).objects ≤ 64)

abbrev AllFit : List Thread → Type 0
AllFit l = (i : ℕ) → Fit (thread_at l i)

fit-becomes : (d : Dispatcher) (id : ℕ) (t : Thread) → AllFit d.threads → Fit t → AllFit (becomes d id t).threads
unfolding becomes
fit-becomes d id t a f i = change-either Fit d.threads id t i f (a i)

fit-with : (d : Dispatcher) (id : ℕ) (t : Thread) → AllFit d.threads → Fit t → AllFit (with_thread d id t).threads
fit-with d id t a f i = change-either Fit d.threads id t i f (a i)

fit-woken : (d : Dispatcher) (id : ℕ) (r : WaitResult) → AllFit d.threads → ResultFits (some r) → AllFit (woken d id r).threads
unfolding woken
fit-woken d id r a f = fit-becomes d id (ready_again (thread_of d id) (some r)) a ((f, tt), omega arith)

-- ---- timers

abbrev TimersFit : ℕ → List Object → Type 0
TimersFit n l = Each key_of l (TimerFits n)

later-fits : (n m : ℕ) → n ≤ m → (x : Object) → TimerFits n x → TimerFits m x
later-fits n m h = map-timer (λ t f. (f.0, f.1, omega (arith, f.2, h)))

taken-fits : (n id : ℕ) (o : Object) → TimerFits n o → TimerFits n (taken_by id o)
taken-fits n id (mutex m) f = tt
taken-fits n id (event e) f = tt
taken-fits n id (timer t) f = f

take-fits : (n id : ℕ) (l : List Object) (m : Named) → TimersFit n l → TimersFit n (take id l m)
take-fits n id l m h = go (named_in l m) refl
  where
    go : (a : Option Object) → named_in l m ≡ a → TimersFit n (given a l (λ o. put_object (taken_by id o) l))
    go none e = h
    go (some o) e = each-put key_of (TimerFits n) (taken_by id o) l (taken-fits n id o (h m.key o (of-kind m.kind (object_at l m.key) o e))) h

every-fits : (n id : ℕ) (l : List Object) (ms : List Named) → TimersFit n l → TimersFit n (take_every id l ms)
every-fits n id l [] h = h
every-fits n id l (m ∷ ms) h = every-fits n id (take id l m) ms (take-fits n id l m h)

takes-fits : (n : ℕ) (d : Dispatcher) (id : ℕ) (ms : List Named) (all : Bool) → TimersFit n d.objects → TimersFit n (takes d id ms all)
takes-fits n d id ms true h = every-fits n id d.objects ms h
takes-fits n d id ms false h = take-fits n id d.objects (get_or ms (first_available d ms) no_object) h

-- ---- the index that a wait answers

first_below : (d : Dispatcher) (ns : List Named) → any (is_available d) ns ≡ true → first_available d ns < length ns
first_below d [] e = absurd (not-both (sym e))
first_below d (n ∷ ns) e = go (is_available d n) e (first_below d ns)
  where
    go : (b : Bool) → cond b true (any (is_available d) ns) ≡ true → (any (is_available d) ns ≡ true → first_available d ns < length ns) → cond b 0 (suc (first_available d ns)) < suc (length ns)
    go true z ih = omega arith
    go false z ih = omega (arith, ih z)

index-few : (d : Dispatcher) (ns : List Named) (all : Bool) → is_met d ns all ≡ true → length ns ≤ 64 → index d ns all ≤ 63
index-few d ns true e h = omega arith
index-few d ns false e h = omega (arith, first_below d ns e)

-- ---- the wake pass and the timeouts

module _ (n : ℕ) where
  one-fits : (d : Dispatcher) (x : ℕ) → AllFit d.threads → TimersFit n d.objects → (AllFit (wake_one d x).threads) × TimersFit n (wake_one d x).objects
  unfolding wake_one woken becomes
  one-fits d x a h = go (can_wake d (wait_of (status_of d x))) refl
    where
      met : (b : Bool) → cond b false (is_met d (wait_of (status_of d x)).objects (wait_of (status_of d x)).all) ≡ true → is_met d (wait_of (status_of d x)).objects (wait_of (status_of d x)).all ≡ true
      met true e = absurd (not-both (sym e))
      met false e = e

      go : (b : Bool) → can_wake d (wait_of (status_of d x)) ≡ b → let w = wait_of (status_of d x) in
          let d' = cond b (woken (with_objects d (takes d x w.objects w.all)) x (satisfied (index d w.objects w.all))) d in (AllFit d'.threads) × TimersFit n d'.objects
      go true e =
          let w = wait_of (status_of d x) in (
            fit-woken (with_objects d (takes d x w.objects w.all)) x (satisfied (index d w.objects w.all)) a (index-few d w.objects w.all (met (is_empty w.objects) e) (a x).1),
            takes-fits n d x w.objects w.all h,
          )
      go false e = (a, h)

  pass_fits : (xs : List ℕ) (d : Dispatcher) → AllFit d.threads → TimersFit n d.objects → (AllFit (pass d xs).threads) × TimersFit n (pass d xs).objects
  pass_fits [] d a h = (a, h)
  pass_fits (x ∷ xs) d a h = let r = one-fits d x a h in pass_fits xs (wake_one d x) r.0 r.1

  wake-fits : (d : Dispatcher) → AllFit d.threads → TimersFit n d.objects → (AllFit (wake d).threads) × TimersFit n (wake d).objects
  unfolding wake
  wake-fits d a h = pass_fits d.waiters d a h

  out-fits : (xs : List ℕ) (d : Dispatcher) → AllFit d.threads → TimersFit n d.objects → (AllFit (time_out_each d xs).threads) × TimersFit n (time_out_each d xs).objects
  out-fits [] d a h = (a, h)
  out-fits (x ∷ xs) d a h = out-fits xs (woken d x timeout) (fit-woken d x timeout a tt) same
    where
      same : TimersFit n (woken d x timeout).objects
      same = unfold woken becomes in h

  time-out-fits : (now : ℕ) (d : Dispatcher) → AllFit d.threads → TimersFit n d.objects → (AllFit (time_out now d).threads) × TimersFit n (time_out now d).objects
  unfolding time_out
  time-out-fits now d a h = out-fits (numbers_of (is_overdue now) 1 d.threads) d a h

-- ---- the work of DPCs

abbrev WorksFit : List Dpc → Type 0
WorksFit l = (a : ℕ) → is_busy (phase_at l a) ≡ true → 1 ≤ work_at l a

works-rephased : (l : List Dpc) → Rising address_of l → (a : ℕ) (p : DpcPhase) → WorksFit l → (is_busy p ≡ true → 1 ≤ sequence_of (work_of p)) → WorksFit (rephased l a p)
works-rephased l r a p h f = go (dpc_at l a) refl
  where
    go : (o : Option Dpc) → dpc_at l a ≡ o → WorksFit (rephased l a p)
    go none e = subst WorksFit (sym (ap (λ (o : Option Dpc). given o l (λ (x : Dpc). put_dpc (in_phase x p) l)) e)) h
    go (some d) e = λ b busy. elim (ℕ_discrete b a) [
      | yes q ↦ subst (λ (k : ℕ). 1 ≤ work_at (rephased l a p) k) (sym q)
          (subst (λ (x : DpcPhase). 1 ≤ sequence_of (work_of x)) (sym (phase-own l r a d e p)) (f (sym (ap is_busy (ap (phase_at (rephased l a p)) q ∙ phase-own l r a d e p)) ∙ busy)))
      | no q ↦ subst (λ (x : DpcPhase). 1 ≤ sequence_of (work_of x)) (sym (phase-other l r a d e p b q)) (h b (sym (ap is_busy (phase-other l r a d e p b q)) ∙ busy))
    ]

rephased-rising : (l : List Dpc) → Rising address_of l → (a : ℕ) (p : DpcPhase) → Rising address_of (rephased l a p)
rephased-rising l r a p = go (dpc_at l a)
  where
    go : (o : Option Dpc) → Rising address_of (given o l (λ (x : Dpc). put_dpc (in_phase x p) l))
    go none = r
    go (some d) = rising-put address_of (in_phase d p) l r

works-put : (l : List Dpc) (x : Dpc) → x.phase ≡ Idle → WorksFit l → WorksFit (put_dpc x l)
works-put l x e h b busy = elim (ℕ_discrete b x.address) [
  | yes q ↦ absurd (not-both (sym busy ∙ ap is_busy (ap (phase_at (put_dpc x l)) q ∙ ap (λ (o : Option Dpc). given o Idle (λ (y : Dpc). y.phase)) (find-put-own address_of x l) ∙ e)))
  | no n ↦
      let s : phase_at (put_dpc x l) b ≡ phase_at l b = ap (λ (o : Option Dpc). given o Idle (λ (y : Dpc). y.phase)) (find-put-other address_of x l b n) in
      subst (λ (y : DpcPhase). 1 ≤ sequence_of (work_of y)) (sym s) (h b (sym (ap is_busy s) ∙ busy))
]

works-kept : (g : Dpc → Bool) (l : List Dpc) → Rising address_of l → WorksFit l → WorksFit (keep g l)
works-kept g l r h b busy = go (dpc_at (keep g l) b) refl
  where
    go : (o : Option Dpc) → dpc_at (keep g l) b ≡ o → 1 ≤ work_at (keep g l) b
    go none e = absurd (not-both (sym busy ∙ ap (λ (o : Option Dpc). is_busy (given o Idle (λ (y : Dpc). y.phase))) e))
    go (some d) e =
        let s : phase_at (keep g l) b ≡ phase_at l b = ap (λ (o : Option Dpc). given o Idle (λ (y : Dpc). y.phase)) (e ∙ sym (kept-found address_of g l r b d e).0) in
        subst (λ (y : DpcPhase). 1 ≤ sequence_of (work_of y)) (sym s) (h b (sym (ap is_busy s) ∙ busy))

-- ---- the expiry

expired-fits : (n now : ℕ) (t : Timer) → TimerFits n (timer t) → TimerFits n (timer (expired now t))
unfolding expired
expired-fits n now t f = go (is_periodic t)
  where
    go : (b : Bool) → TimerFits n (timer (cond b (retimed t true true (next_due t.due t.period_ms now)) (retimed t true false t.due)))
    go true = f
    go false = f

abbrev ExpiredFits : ℕ → Expired → Type 0
ExpiredFits n e = (TimersFit n e.objects) × (WorksFit e.dpcs.table) × (Rising address_of e.dpcs.table)

work-fits : (policy : Policy) (now : ℕ) (q : Dpcs) (t : Timer) → WorksFit q.table → Rising address_of q.table → (WorksFit (dpcs_after policy now q t).table) × Rising address_of (dpcs_after policy now q t).table
unfolding dpcs_after
work-fits unselected now q t w r = (w, r)
work-fits (cpu0_dispatch first second) now q t w r = go (eqb t.dpc 0) (phase_at q.table t.dpc)
  where
    go : (b : Bool) (p : DpcPhase) → let q' = cond b q (work_queued q first second now t p) in (WorksFit q'.table) × Rising address_of q'.table
    go true p = (w, r)
    go false Idle = unfold accepted in (works-rephased q.table r t.dpc (Queued (new_work q first second (origin_of now t))) w (λ z. omega arith), rephased-rising q.table r t.dpc (Queued (new_work q first second (origin_of now t))))
    go false (Queued x) = unfold duplicated in (w, r)
    go false (Running x) = (w, r)
    go false (Returning x) = (w, r)

each_fits : (n : ℕ) (policy : Policy) (now : ℕ) (ts : List Timer) (e : Expired) → ((t : Timer) → Mem t ts → TimerFits n (timer t)) → ExpiredFits n e → ExpiredFits n (expire_each policy now e ts)
each_fits n policy now [] e h f = f
each_fits n policy now (t ∷ ts) e h f = each_fits n policy now ts (expire_one policy now e t) (λ u m. h u (inr m)) one
  where
    one : ExpiredFits n (expire_one policy now e t)
    one = unfold expire_one in (let w = work-fits policy now e.dpcs t f.1 f.2 in
        (each-put key_of (TimerFits n) (timer (expired now t)) e.objects (expired-fits n now t (h t (inl refl))) f.0, w.0, w.1))

-- ---- open

pub numbers-opened : (p t o d : ℕ) → Numbers (opened p t o d)
unfolding opened
numbers-opened p t o d = record { threads = first; timers = λ k x z. absurd (none-some x z); works = λ a z. absurd (not-both (sym z)) }
  where
    first : (i : ℕ) → ThreadFits (thread_at (first_thread p ∷ []) i)
    first zero = (tt, omega arith)
    first (suc zero) = (tt, tt)
    first (suc (suc i)) = (tt, omega arith)

-- ---- a call

module _ (s : State) (v : Valid s) (f : Numbers s) where
  abbrev d₀ : Dispatcher
  d₀ = s.dispatcher

  abbrev n₀ : ℕ
  n₀ = s.timer_initializations

  few : (x : Status) → WaitingValid d₀ x → length (wait_of x).objects ≤ 64
  few running w = omega arith
  few ready w = omega arith
  few (waiting y) w = w.few
  few (exited n) w = omega arith

  all_fit : AllFit d₀.threads
  all_fit i = (f.threads i, few (status_of d₀ i) (v.sound.waits i))

  -- the state with another dispatcher
  with-dispatcher : (d : Dispatcher) → AllFit d.threads → TimersFit n₀ d.objects → Numbers (with_dispatcher s d)
  with-dispatcher d a t = record { threads = λ i. (a i).0; timers = t; works = f.works }

  with-table : (l : List Object) → TimersFit n₀ l → Numbers (with_table s l)
  with-table l t = record { threads = f.threads; timers = t; works = f.works }

  with-dpcs : (q : Dpcs) → WorksFit q.table → Numbers (with_dpcs s q)
  with-dpcs q w = record { threads = f.threads; timers = f.timers; works = w }

  own-result : (d : Dispatcher) → AllFit d.threads → TimersFit n₀ d.objects → (r : WaitResult) → ResultFits (some r) → Numbers (with_dispatcher s (with_own_result d (some r)))
  own-result d a t r h = with-dispatcher (with_own_result d (some r)) (fit-with d d.current (with_result (thread_of d d.current) (some r)) a ((h, (a d.current).0.1), (a d.current).1)) t

  timed-out-fits : Numbers (timed_out s).state
  unfolding timed_out
  timed-out-fits = own-result d₀ all_fit f.timers timeout tt

  blocks-fits : (ns : List Named) (all : Bool) (deadline : Option ℕ) → length ns ≤ 64 → Numbers (blocks s ns all deadline).state
  unfolding blocks blocked becomes
  blocks-fits ns all deadline h = with-dispatcher (blocked d₀ ns all deadline)
      (fit-becomes (with_sequence d₀ (d₀.sequence + 1)) d₀.current (waiting_thread (thread_of d₀ d₀.current) (record { objects = ns; all = all; deadline = deadline; sequence = d₀.sequence })) all_fit ((tt, tt), h)) f.timers

  waited-fits : (l : List ℕ) (all : Bool) (deadline : Option ℕ) (irql : ℕ) → wait_refusal s l all deadline irql ≡ 0 → Numbers (waited s (pairs l) all deadline).state
  unfolding wait_refusal bad_list waited granted
  waited-fits l all deadline irql e = go (is_met d₀ (pairs l) all) (reached deadline s.now) refl
    where
      short : length (pairs l) ≤ 64
      short =
          let a = passes (eqb d₀.current 0) 2 _ e in
          let b = passes (bad_list l) 6 _ a.1 in
          let c = neither (is_empty (pairs l)) _ b.0 in
          ltb-false 64 (length (pairs l)) (neither (ltb 64 (length (pairs l))) _ c.1).0

      go : (x y : Bool) → is_met d₀ (pairs l) all ≡ x → Numbers (cond x (granted s (pairs l) all) (cond y (timed_out s) (blocks s (pairs l) all deadline))).state
      go true y m = own-result (with_objects d₀ (takes d₀ d₀.current (pairs l) all)) all_fit (takes-fits n₀ d₀ d₀.current (pairs l) all f.timers) (satisfied (index d₀ (pairs l) all)) (index-few d₀ (pairs l) all m short)
      go false true m = timed-out-fits
      go false false m = blocks-fits (pairs l) all deadline short

  awake : (l : List Object) → TimersFit n₀ l → Numbers (with_dispatcher s (wake (with_objects d₀ l)))
  awake l t = let w = wake-fits n₀ (with_objects d₀ l) all_fit t in with-dispatcher (wake (with_objects d₀ l)) w.0 w.1

  set-fits : (address due : ℕ) (absolute : Bool) (period dpc : ℕ) → period ≤ 2 ^ 31 - 1 → Numbers (timer_set s address due absolute period dpc).state
  unfolding timer_set
  set-fits address due absolute period dpc h = go (timer_at d₀.objects address) refl
    where
      go : (o : Option Timer) → timer_at d₀.objects address ≡ o
          → Numbers (given o (gives Done s) (λ (t : Timer). gives (Flag t.inserted) (with_table s (put_object (timer (armed t due absolute period dpc)) d₀.objects)))).state
      go none e = f
      go (some t) e = with-table (put_object (timer (armed t due absolute period dpc)) d₀.objects) (each-put key_of (TimerFits n₀) (timer (armed t due absolute period dpc)) d₀.objects (fits t (f.timers address (timer t) (timer-found (object_at d₀.objects address) t e))) f.timers)
        where
          fits : (t : Timer) → TimerFits n₀ (timer t) → TimerFits n₀ (timer (armed t due absolute period dpc))
          fits t k = unfold armed in (h, k.1, k.2)

  period-fits : (p : ℤ) → I32 p → period_of p ≤ 2 ^ 31 - 1
  period-fits (pos n) h = h
  period-fits (negsuc n) h = omega arith

  -- the work that was queued or running has a sequence
  busy-work : (a : ℕ) (p : DpcPhase) → phase_at s.dpcs.table a ≡ p → is_busy p ≡ true → 1 ≤ sequence_of (work_of p)
  busy-work a p e b = subst (λ (x : DpcPhase). 1 ≤ sequence_of (work_of x)) e (f.works a (ap is_busy e ∙ b))

  idle-fits : (a : ℕ) → WorksFit (rephased s.dpcs.table a Idle)
  idle-fits a = works-rephased s.dpcs.table v.queueing.rising a Idle f.works (λ z. absurd (not-both (sym z)))

  withdrawn-fits : (a : ℕ) → WorksFit (withdrawn s.dpcs a).table
  unfolding withdrawn
  withdrawn-fits a = idle-fits a

  -- an accepted call
  pub numbers-effect : (c : Call) → Fits c → refusal c s ≡ 0 → Numbers (effect c s).state
  unfolding refusal effect
  numbers-effect (call.Open words p t o d) h e = numbers-opened p t o d
  numbers-effect (call.CreateThread p) h e = with-dispatcher (created d₀ p)
      (λ i. subst (λ (l : List Thread). Fit (thread_at l i)) (sym (created-threads d₀ p)) (append-either Fit d₀.threads (new_thread p) i ((tt, tt), omega arith) (all_fit i))) same
    where
      same : TimersFit n₀ (created d₀ p).objects
      same = unfold created becomes in f.timers
  numbers-effect (call.Priority id p) h e = unfold prioritized becomes in (go (is_ready (status_of d₀ id)))
    where
      t : Thread
      t = with_priority (thread_of d₀ id) p

      go : (b : Bool) → Numbers (with_dispatcher s (cond b (becomes d₀ id t) (with_thread d₀ id t)))
      go true = with-dispatcher (becomes d₀ id t) (fit-becomes d₀ id t all_fit (all_fit id)) (unfold becomes in f.timers)
      go false = with-dispatcher (with_thread d₀ id t) (fit-with d₀ id t all_fit (all_fit id)) f.timers
  numbers-effect (call.InitializeMutex key) h e = with-table (put_object (mutex (record { key = key; owner = 0 })) d₀.objects) (each-put key_of (TimerFits n₀) (mutex (record { key = key; owner = 0 })) d₀.objects tt f.timers)
  numbers-effect (call.InitializeEvent key manual signaled) h e = with-table (put_object (event (record { key = key; manual = manual; signaled = signaled })) d₀.objects) (each-put key_of (TimerFits n₀) (event (record { key = key; manual = manual; signaled = signaled })) d₀.objects tt f.timers)
  numbers-effect (call.AdoptMutex key owner) h e = unfold adopted in (go (mutex_at d₀.objects key))
    where
      x : Object
      x = mutex (record { key = key; owner = owner_number owner })

      go : (o : Option Mutex) → Numbers (given o (with_table s (put_object x d₀.objects)) (λ (m : Mutex). s))
      go none = with-table (put_object x d₀.objects) (each-put key_of (TimerFits n₀) x d₀.objects tt f.timers)
      go (some m) = f
  numbers-effect (call.ReleaseMutex key) h e = unfold mutex_released in (go (mutex_at d₀.objects key))
    where
      go : (o : Option Mutex) → Numbers (given o s (λ (m : Mutex). with_dispatcher s (wake (with_objects d₀ (put_object (owned_by 0 m) d₀.objects)))))
      go none = f
      go (some m) = awake (put_object (owned_by 0 m) d₀.objects) (each-put key_of (TimerFits n₀) (owned_by 0 m) d₀.objects tt f.timers)
  numbers-effect (call.SetEvent key) h e = unfold event_set in (go (event_at d₀.objects key))
    where
      go : (o : Option Event) → Numbers (given o (gives Done s) (λ (x : Event). gives (Flag x.signaled) (with_dispatcher s (wake (with_objects d₀ (put_object (signaled_as true x) d₀.objects)))))).state
      go none = f
      go (some x) = awake (put_object (signaled_as true x) d₀.objects) (each-put key_of (TimerFits n₀) (signaled_as true x) d₀.objects tt f.timers)
  numbers-effect (call.ResetEvent key) h e = unfold event_reset in (go (event_at d₀.objects key))
    where
      go : (o : Option Event) → Numbers (given o (gives Done s) (λ (x : Event). gives (Flag x.signaled) (with_table s (put_object (signaled_as false x) d₀.objects)))).state
      go none = f
      go (some x) = with-table (put_object (signaled_as false x) d₀.objects) (each-put key_of (TimerFits n₀) (signaled_as false x) d₀.objects tt f.timers)
  numbers-effect (call.RetireEventBacking base size layout) h e = unfold events_retired in (with-table (keep (λ o. not (is_retired_event base (base + size) o)) d₀.objects) (each_keep key_of (TimerFits n₀) (λ o. not (is_retired_event base (base + size) o)) d₀.objects v.sound.rising f.timers))
  numbers-effect (call.Wait l all deadline irql) h e = waited-fits l all deadline irql e
  numbers-effect (call.DelayUntil deadline irql) h e = unfold delayed in (go (leb deadline s.now))
    where
      go : (b : Bool) → Numbers (cond b (timed_out s) (blocks s [] false (some deadline))).state
      go true = timed-out-fits
      go false = blocks-fits [] false (some deadline) (omega arith)
  numbers-effect call.YieldCurrent h e = unfold yielded in (with-dispatcher (becomes d₀ d₀.current (with_status (thread_of d₀ d₀.current) ready))
      (fit-becomes d₀ d₀.current (with_status (thread_of d₀ d₀.current) ready) all_fit (((f.threads d₀.current).0, tt), omega arith)) (unfold becomes in f.timers))
  numbers-effect (call.Terminate status) h e = unfold terminated in (let t = with_status (thread_of d₀ d₀.current) (exited status) in
      let w = wake-fits n₀ (becomes d₀ d₀.current t) (fit-becomes d₀ d₀.current t all_fit (((f.threads d₀.current).0, h), omega arith)) (unfold becomes in f.timers) in
      with-dispatcher (wake (becomes d₀ d₀.current t)) w.0 w.1)
  numbers-effect (call.AdvanceTo time) h e = unfold advanced in (let l = due_timers s.policy time d₀.objects in
      let x = each_fits n₀ s.policy time l (unexpired s) (λ t m. each-mem key_of (TimerFits n₀) d₀.objects v.sound.rising f.timers (timer t) (listed-due s.policy time d₀.objects t m).0) (f.timers, f.works, v.queueing.rising) in
      let w = wake-fits n₀ (with_objects d₀ (expired_at s time).objects) all_fit x.0 in
      let t = time-out-fits n₀ time (wake (with_objects d₀ (expired_at s time).objects)) w.0 w.1 in
      record { threads = λ i. (t.0 i).0; timers = t.1; works = x.1 })
  numbers-effect (call.Dispatch out) h e = unfold dispatched in (go (eqb d₀.current 0) (is_empty d₀.placed))
    where
      run : (id : ℕ) → Numbers (with_dispatcher s (ran d₀ id))
      run id = unfold ran in (with-dispatcher (becomes d₀ id (with_status (thread_of d₀ id) running)) (fit-becomes d₀ id (with_status (thread_of d₀ id) running) all_fit (((f.threads id).0, tt), omega arith)) (unfold becomes in f.timers))

      go : (a b : Bool) → Numbers (cond a (cond b (gives (idle_answer d₀) s) (gives (Run (next d₀)) (with_dispatcher s (ran d₀ (next d₀))))) (gives (Run d₀.current) s)).state
      go true true = f
      go true false = run (next d₀)
      go false b = f
  numbers-effect (call.InitializeTimer address a b manual) h e = unfold timer_initialized new_timer in (record {
    threads = f.threads;
    timers = each-put key_of (TimerFits (n₀ + 1)) (timer (new_timer address a b manual (n₀ + 1))) d₀.objects (omega arith, omega arith, omega arith) (λ k x z. later-fits n₀ (n₀ + 1) (omega arith) x (f.timers k x z));
    works = f.works;
  })
  numbers-effect (call.InitializeDpc address a b routine context) h e = unfold dpc_initialized in (record {
    threads = f.threads;
    timers = f.timers;
    works = works-put s.dpcs.table (record { address = address; architecture = a; backing = b; routine = routine; context = context; phase = Idle }) refl f.works;
  })
  numbers-effect (call.SetTimer address due absolute period dpc) h e = set-fits address due absolute (period_of period) dpc (period-fits period h.2)
  numbers-effect (call.SetTimerSigned address d period dpc) h e = set-fits address (signed_due s.now d) (not (is_negative d)) (period_of period) dpc (period-fits period h.2)
  numbers-effect (call.CancelTimer address) h e = unfold timer_cancelled in (go (timer_at d₀.objects address) refl)
    where
      work : (b : Bool) (a : ℕ) → WorksFit (cond b (withdrawn s.dpcs a) s.dpcs).table
      work true a = withdrawn-fits a
      work false a = f.works

      go : (o : Option Timer) → timer_at d₀.objects address ≡ o
          → Numbers (given o (gives Done s) (λ (t : Timer). gives (Flag t.inserted) (with_table (with_dpcs s (cond (cancels_work s t) (withdrawn s.dpcs t.dpc) s.dpcs)) (put_object (timer (cancelled t)) d₀.objects)))).state
      go none z = f
      go (some t) z = record {
        threads = f.threads;
        timers = each-put key_of (TimerFits n₀) (timer (cancelled t)) d₀.objects (f.timers address (timer t) (timer-found (object_at d₀.objects address) t z)) f.timers;
        works = work (cancels_work s t) t.dpc;
      }
  numbers-effect (call.RetireTimerBacking address size) h e = unfold timers_retired in (record {
    threads = f.threads;
    timers = each_keep key_of (TimerFits n₀) (λ o. not (is_retired_timer address size o)) d₀.objects v.sound.rising f.timers;
    works = works-kept (λ (d : Dpc). not (dpc_overlapped address size d)) s.dpcs.table v.queueing.rising f.works;
  })
  numbers-effect (call.ConfigureDpcDispatch first second) h e = unfold configured in (record { threads = f.threads; timers = f.timers; works = f.works })
  numbers-effect (call.InsertQueueDpc address first second) h e = unfold dpc_inserted in (go (is_queued (phase_at s.dpcs.table address)))
    where
      go : (b : Bool) → Numbers (cond b (gives (Flag false) (with_dpcs s (duplicated s.dpcs))) (gives (Flag true) (with_dpcs s (accepted s.dpcs address first second origin.Caller)))).state
      go true = with-dpcs (duplicated s.dpcs) (unfold duplicated in f.works)
      go false = with-dpcs (accepted s.dpcs address first second origin.Caller)
          (unfold accepted in (works-rephased s.dpcs.table v.queueing.rising address (Queued (new_work s.dpcs first second origin.Caller)) f.works (λ z. omega arith)))
  numbers-effect (call.RemoveQueueDpc address) h e = unfold dpc_removed in (go (is_queued (phase_at s.dpcs.table address)))
    where
      go : (b : Bool) → Numbers (cond b (gives (Flag true) (with_dpcs s (withdrawn s.dpcs address))) (gives (Flag false) s)).state
      go true = with-dpcs (withdrawn s.dpcs address) (withdrawn-fits address)
      go false = f
  numbers-effect (call.StartDpc address) h e = unfold dpc_started in (go (phase_at s.dpcs.table address) refl)
    where
      go : (p : DpcPhase) → phase_at s.dpcs.table address ≡ p → Numbers (dpc_started s address p).state
      go Idle z = unfold dpc_started in f
      go (Queued w) z = unfold dpc_started in (with-dpcs (started s.dpcs address w) (unfold started in (works-rephased s.dpcs.table v.queueing.rising address (Running w) f.works (λ y. busy-work address (Queued w) z refl))))
      go (Running w) z = unfold dpc_started in f
      go (Returning w) z = unfold dpc_started in f
  numbers-effect (call.ReturnedDpc address n) h e = unfold dpc_returned in (go (phase_at s.dpcs.table address) refl)
    where
      go : (p : DpcPhase) → phase_at s.dpcs.table address ≡ p → Numbers (dpc_returned s address p).state
      go Idle z = unfold dpc_returned in f
      go (Queued w) z = unfold dpc_returned in f
      go (Running w) z = unfold dpc_returned in (with-dpcs (returned s.dpcs address w) (unfold returned in (works-rephased s.dpcs.table v.queueing.rising address (Returning w) f.works (λ y. busy-work address (Running w) z refl))))
      go (Returning w) z = unfold dpc_returned in f
  numbers-effect (call.RestoredDpc address n) h e = with-dpcs (restored s.dpcs address) (unfold restored in (idle-fits address))
  numbers-effect (call.Reads r) h e = f

  -- every step, refused or not
  pub numbers-step : (c : Call) → Fits c → Numbers (step c s).state
  unfolding step
  numbers-step c h = go (eqb (refusal c s) 0) refl
    where
      go : (b : Bool) → eqb (refusal c s) 0 ≡ b → Numbers (cond b (effect c s) (gives (Refused (refusal c s)) s)).state
      go true z = numbers-effect c h (eqb-true (refusal c s) 0 z)
      go false z = f

-- and so does any list of calls whose arguments fit
pub numbers_after : (cs : List Call) (s : State) → Valid s → Numbers s → ((c : Call) → Mem c cs → Fits c) → Numbers (after cs s)
numbers_after [] s v f h = f
numbers_after (c ∷ cs) s v f h = numbers_after cs (step c s).state (valid-step s v c) (numbers-step s v f c (h c (inl refl))) (λ x m. h x (inr m))
