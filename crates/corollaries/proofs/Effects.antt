-- An accepted call on the log answers no refusal.
use Prim.Native.Nat.{ℕ}
use mathlib.Core.List.{List, ◌++◌}
use mathlib.Core.Bool.{Bool, true, false, cond}
use mathlib.Core.Option.{Option, none, some}
use mathlib.Core.Path.{◌≡◌, refl}
use lib.Dec.{eqb, leb}
use Rattle.images.specs.declared.DpcPhase.{DpcPhase}
use Rattle.images.specs.declared.DpcPhase.TheVariants.{Idle, Queued, Running, Returning}
use Rattle.model.specs.Lists.{nth, keep, is_empty, given}
use Rattle.model.specs.State.{State, Dispatcher, Mutex, Named}
use Rattle.model.specs.Threads.{is_thread, wait_of, status_of, waiting_numbers}
use Rattle.model.specs.Waits.{mutex_at, event_at, timer_at, events_of, timers_of, is_met, reached}
use Rattle.model.specs.Dpcs.{dpc_at, phase_at, is_queued, active_dpc}
use Rattle.model.specs.Refusal.{pairs}
use Rattle.model.specs.Answer.{Answer, Outcome}
use Rattle.model.specs.Call.{Call, Read}
use Rattle.model.specs.Call as call
use Rattle.model.specs.Reads.{read_answer, number_or_none, thread_answer, pending_timer, next_dpc}
use Rattle.model.specs.Step.{effect, event_set, event_reset, granted, timed_out, blocks, waited, delayed, smallest, deadlines_of, dues_of, counts, idle_answer, dispatched, timer_set, timer_cancelled, dpc_inserted, dpc_removed, dpc_started, dpc_returned}
use Rattle.corollaries.specs.Refusals.{is_refused}

-- ---- answers that are no refusals

record Plain (a : Answer) : Type 0 where
  plain : is_refused a ≡ false

says : (a : Answer) → is_refused a ≡ false → Plain a
says a q = record { plain = q }

either : (b : Bool) (x y : Answer) → Plain x → Plain y → Plain (cond b x y)
either true x y h k = h
either false x y h k = k

perhaps : {A : Type 0} (m : Option A) (x : Answer) (f : A → Answer) → Plain x → ((z : A) → Plain (f z)) → Plain (given m x f)
perhaps none x f h k = h
perhaps (some z) x f h k = k z

-- the same of outcomes
record Goes (o : Outcome) : Type 0 where
  goes : Plain o.answer

one_of : (b : Bool) (x y : Outcome) → Goes x → Goes y → Goes (cond b x y)
one_of true x y h k = h
one_of false x y h k = k

found-or : {A : Type 0} (m : Option A) (x : Outcome) (f : A → Outcome) → Goes x → ((z : A) → Goes (f z)) → Goes (given m x f)
found-or none x f h k = h
found-or (some z) x f h k = k z

ends : (o : Outcome) → is_refused o.answer ≡ false → Goes o
ends o q = record { goes = says o.answer q }

module _ (s : State) where
  -- ---- reads

  number : (n : ℕ) → Plain (number_or_none n)
  number n = either (eqb n 0) _ _ (says _ refl) (says _ refl)

  thread : (id : ℕ) → Plain (thread_answer s.dispatcher id)
  unfolding thread_answer
  thread id = either (is_thread s.dispatcher id) _ _ (says _ refl) (says _ refl)

  read_plain : (r : Read) → Plain (read_answer r s)
  unfolding read_answer
  read_plain call.Current = number s.dispatcher.current
  read_plain (call.Thread id) = thread id
  read_plain (call.Threads position) = thread _
  read_plain (call.WaitedObject id position) = either (is_thread s.dispatcher id) _ _ (perhaps (nth (wait_of (status_of s.dispatcher id)).objects position) _ _ (says _ refl) (λ z. says _ refl)) (says _ refl)
  read_plain (call.MutexOwner key) = perhaps (mutex_at s.dispatcher.objects key) _ (λ (m : Mutex). number_or_none m.owner) (says _ refl) (λ z. number z.owner)
  read_plain (call.MutexWaiters key) = says _ refl
  read_plain (call.EventState key) = perhaps (event_at s.dispatcher.objects key) _ _ (says _ refl) (λ z. says _ refl)
  read_plain (call.EventStates position) = perhaps (nth (events_of s.dispatcher.objects) position) _ _ (says _ refl) (λ z. says _ refl)
  read_plain (call.RequireEventRelease base size layout) = says _ refl
  read_plain (call.TimerAt address) = perhaps (timer_at s.dispatcher.objects address) _ _ (says _ refl) (λ z. says _ refl)
  read_plain (call.DpcAt address) = perhaps (dpc_at s.dpcs.table address) _ _ (says _ refl) (λ z. says _ refl)
  read_plain (call.Timers position) = perhaps (nth (timers_of s.dispatcher.objects) position) _ _ (says _ refl) (λ z. says _ refl)
  read_plain (call.Dpcs position) = perhaps (nth s.dpcs.table position) _ _ (says _ refl) (λ z. says _ refl)
  read_plain (call.TimerImage address n) = perhaps (timer_at s.dispatcher.objects address) _ _ (says _ refl) (λ z. says _ refl)
  read_plain (call.DpcImage address n) = perhaps (dpc_at s.dpcs.table address) _ _ (says _ refl) (λ z. says _ refl)
  read_plain call.TimerInitializations = says _ refl
  read_plain call.DpcInitializations = says _ refl
  read_plain (call.TimerReadOverlap address size) = says _ refl
  read_plain (call.TimerMetadataOverlap address size) = says _ refl
  read_plain call.PendingTimerDpc = perhaps (pending_timer s) _ _ (says _ refl) (λ z. says _ refl)
  read_plain (call.RequireTimerRelease address size) = says _ refl
  read_plain call.DpcPolicy = says _ refl
  read_plain call.DpcCounters = says _ refl
  read_plain (call.QueuedDpcs position) = perhaps (nth s.dpcs.queue position) _ _ (says _ refl) (λ z. says _ refl)
  read_plain call.ActiveDpc = perhaps (active_dpc s.dpcs.table) _ _ (says _ refl) (λ z. says _ refl)
  read_plain call.NextDpc = perhaps (next_dpc s) _ _ (says _ refl) (λ z. says _ refl)

  -- ---- the other calls

  waits : (ns : List Named) (all : Bool) (deadline : Option ℕ) → Goes (waited s ns all deadline)
  unfolding waited granted timed_out blocks
  waits ns all deadline = one_of (is_met s.dispatcher ns all) _ _ (ends _ refl) (one_of (reached deadline s.now) _ _ (ends _ refl) (ends _ refl))

  delays : (deadline : ℕ) → Goes (delayed s deadline)
  unfolding delayed timed_out blocks
  delays deadline = one_of (leb deadline s.now) _ _ (ends _ refl) (ends _ refl)

  idles : (d : Dispatcher) → Plain (idle_answer d)
  unfolding idle_answer
  idles d = perhaps (smallest (deadlines_of d.threads ++ dues_of (keep (counts d) (timers_of d.objects)))) _ _ (either (is_empty (waiting_numbers d)) _ _ (says _ refl) (says _ refl)) (λ z. says _ refl)

  dispatches : Goes (dispatched s)
  unfolding dispatched
  dispatches =
      one_of (eqb s.dispatcher.current 0) _ _ (one_of (is_empty s.dispatcher.placed) _ _ (record { goes = idles s.dispatcher }) (ends _ refl)) (ends _ refl)

  sets : (address due : ℕ) (absolute : Bool) (period dpc : ℕ) → Goes (timer_set s address due absolute period dpc)
  unfolding timer_set
  sets address due absolute period dpc = found-or (timer_at s.dispatcher.objects address) _ _ (ends _ refl) (λ z. ends _ refl)

  starts : (address : ℕ) (p : DpcPhase) → Goes (dpc_started s address p)
  unfolding dpc_started
  starts address Idle = ends _ refl
  starts address (Queued w) = ends _ refl
  starts address (Running w) = ends _ refl
  starts address (Returning w) = ends _ refl

  returns : (address : ℕ) (p : DpcPhase) → Goes (dpc_returned s address p)
  unfolding dpc_returned
  returns address Idle = ends _ refl
  returns address (Queued w) = ends _ refl
  returns address (Running w) = ends _ refl
  returns address (Returning w) = ends _ refl

  call-goes : (c : Call) → Goes (effect c s)
  unfolding effect
  call-goes (call.Open m p t o d) = ends _ refl
  call-goes (call.CreateThread p) = ends _ refl
  call-goes (call.Priority id p) = ends _ refl
  call-goes (call.InitializeMutex key) = ends _ refl
  call-goes (call.InitializeEvent key manual signaled) = ends _ refl
  call-goes (call.AdoptMutex key owner) = ends _ refl
  call-goes (call.ReleaseMutex key) = ends _ refl
  call-goes (call.SetEvent key) = unfold event_set in (found-or (event_at s.dispatcher.objects key) _ _ (ends _ refl) (λ z. ends _ refl))
  call-goes (call.ResetEvent key) = unfold event_reset in (found-or (event_at s.dispatcher.objects key) _ _ (ends _ refl) (λ z. ends _ refl))
  call-goes (call.RetireEventBacking base size layout) = ends _ refl
  call-goes (call.Wait l all deadline irql) = waits (pairs l) all deadline
  call-goes (call.DelayUntil deadline irql) = delays deadline
  call-goes call.YieldCurrent = ends _ refl
  call-goes (call.Terminate status) = ends _ refl
  call-goes (call.AdvanceTo time) = ends _ refl
  call-goes (call.Dispatch n) = dispatches
  call-goes (call.InitializeTimer address a b manual) = ends _ refl
  call-goes (call.InitializeDpc address a b routine context) = ends _ refl
  call-goes (call.SetTimer address due absolute period dpc) = sets address due absolute _ dpc
  call-goes (call.SetTimerSigned address v period dpc) = sets address _ _ _ dpc
  call-goes (call.CancelTimer address) = unfold timer_cancelled in (found-or (timer_at s.dispatcher.objects address) _ _ (ends _ refl) (λ z. ends _ refl))
  call-goes (call.RetireTimerBacking address size) = ends _ refl
  call-goes (call.ConfigureDpcDispatch first second) = ends _ refl
  call-goes (call.InsertQueueDpc address first second) = unfold dpc_inserted in (one_of (is_queued (phase_at s.dpcs.table address)) _ _ (ends _ refl) (ends _ refl))
  call-goes (call.RemoveQueueDpc address) = unfold dpc_removed in (one_of (is_queued (phase_at s.dpcs.table address)) _ _ (ends _ refl) (ends _ refl))
  call-goes (call.StartDpc address) = starts address (phase_at s.dpcs.table address)
  call-goes (call.ReturnedDpc address n) = returns address (phase_at s.dpcs.table address)
  call-goes (call.RestoredDpc address n) = ends _ refl
  call-goes (call.Reads r) = record { goes = read_plain r }

  pub effect-plain : (c : Call) → is_refused (effect c s).answer ≡ false
  effect-plain c = (call-goes c).goes.plain
