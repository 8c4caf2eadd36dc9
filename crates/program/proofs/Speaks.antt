-- Only a dispatch answers a deadlock: so every other answer is told without the output of a dispatch.
use Prim.Native.Nat.{ℕ, suc}
use mathlib.Core.Bool.{Bool, true, false, cond}
use mathlib.Core.List.{List}
use mathlib.Core.Option.{Option, none, some}
use mathlib.Core.Path.{◌≡◌, sym, subst}
use lib.Dec.{eqb, leb}
use Rattle.answers.specs.declared.Answer as code
use Rattle.answers.specs.declared.Answer.TheVariants as answer
use Rattle.model.specs.Lists.{given, nth}
use Rattle.images.specs.declared.DpcPhase.{DpcPhase}
use Rattle.images.specs.declared.DpcPhase.TheVariants.{Idle, Queued, Running, Returning}
use Rattle.model.specs.State.{State, Named}
use Rattle.model.specs.Threads.{is_thread, status_of, wait_of}
use Rattle.model.specs.Waits.{mutex_at, event_at, events_of, timer_at, timers_of, is_met, reached}
use Rattle.model.specs.Dpcs.{phase_at, is_queued, dpc_at, active_dpc}
use Rattle.model.specs.Refusal.{pairs}
use Rattle.model.specs.Answer.{Answer, Outcome}
use Rattle.model.specs.Answer as log
use Rattle.model.specs.Call.{Call, Read}
use Rattle.model.specs.Call as call
use Rattle.model.specs.Reads.{read_answer, thread_answer, pending_timer, next_dpc}
use Rattle.model.specs.Step as does
use Rattle.model.specs.Step.{effect, step, refusal}
use Rattle.call_answers.specs.Told.{told, told_with}
use Rattle.calls.specs.Called.{meaning}
use Rattle.commands.specs.Commands.{Shown}
use Rattle.program.specs.Script.{bare}

-- an answer that is no deadlock
abbrev NoDeadlock : Answer → Type 0
NoDeadlock (log.Refused n) = Unit
NoDeadlock log.Done = Unit
NoDeadlock log.None = Unit
NoDeadlock (log.ThreadNumber n) = Unit
NoDeadlock (log.Flag b) = Unit
NoDeadlock (log.Number n) = Unit
NoDeadlock (log.Satisfied n) = Unit
NoDeadlock log.Timeout = Unit
NoDeadlock log.Blocked = Unit
NoDeadlock (log.Run n) = Unit
NoDeadlock (log.AdvanceTo n) = Unit
NoDeadlock (log.Deadlocked ns) = ⊥
NoDeadlock log.Finished = Unit
NoDeadlock (log.ThreadIs n t) = Unit
NoDeadlock (log.ObjectIs n) = Unit
NoDeadlock (log.EventIs e) = Unit
NoDeadlock (log.TimerIs t) = Unit
NoDeadlock (log.DpcIs d) = Unit
NoDeadlock (log.WorkIs x) = Unit
NoDeadlock (log.PolicyIs p) = Unit
NoDeadlock (log.CountersAre c) = Unit
NoDeadlock (log.ImageIs size bytes) = Unit

pub record Speaks (a : Answer) : Type 0 where
  pub it : NoDeadlock a

pub told_with_lem : (out : List ℕ) (a : code.Answer) (x : Answer) → told a ≡ x → Speaks x → told_with out a ≡ x
told_with_lem out (answer.Refused n) x e h = e
told_with_lem out answer.Done x e h = e
told_with_lem out answer.None x e h = e
told_with_lem out (answer.Thread n) x e h = e
told_with_lem out (answer.Flag b) x e h = e
told_with_lem out (answer.Count n) x e h = e
told_with_lem out (answer.Satisfied n) x e h = e
told_with_lem out answer.Timeout x e h = e
told_with_lem out answer.Blocked x e h = e
told_with_lem out (answer.Run n) x e h = e
told_with_lem out (answer.AdvanceTo n) x e h = e
told_with_lem out (answer.Deadlocked n) x e h = absurd (subst Speaks (sym e) h).it
told_with_lem out answer.Finished x e h = e
told_with_lem out (answer.Event key manual signaled) x e h = e

-- ---- of a choice, of what a table has

either : (b : Bool) {x y : Answer} → Speaks x → Speaks y → Speaks (cond b x y)
either true h k = h
either false h k = k

one_of : (b : Bool) (x y : Outcome) → Speaks x.answer → Speaks y.answer → Speaks (cond b x y).answer
one_of true x y h k = h
one_of false x y h k = k

found : {A : Type 0} (x : Option A) (a : Answer) (f : A → Answer) → Speaks a → ((y : A) → Speaks (f y)) → Speaks (given x a f)
found none a f h k = h
found (some y) a f h k = k y

found-out : {A : Type 0} (x : Option A) (o : Outcome) (f : A → Outcome) → Speaks o.answer → ((y : A) → Speaks (f y).answer) → Speaks (given x o f).answer
found-out none o f h k = h
found-out (some y) o f h k = k y

-- ---- reads

read-speaks : (r : Read) (s : State) → Speaks (read_answer r s)
unfolding read_answer thread_answer
read-speaks call.Current s = either (eqb s.dispatcher.current 0) (record { it = tt }) (record { it = tt })
read-speaks (call.Thread id) s = either (is_thread s.dispatcher id) (record { it = tt }) (record { it = tt })
read-speaks (call.Threads position) s = either (is_thread s.dispatcher (suc position)) (record { it = tt }) (record { it = tt })
read-speaks (call.WaitedObject id position) s = either (is_thread s.dispatcher id) (found (nth (wait_of (status_of s.dispatcher id)).objects position) _ _ (record { it = tt }) (λ y. record { it = tt })) (record { it = tt })
read-speaks (call.MutexOwner key) s = found (mutex_at s.dispatcher.objects key) _ _ (record { it = tt }) (λ m. either (eqb m.owner 0) (record { it = tt }) (record { it = tt }))
read-speaks (call.MutexWaiters key) s = record { it = tt }
read-speaks (call.EventState key) s = found (event_at s.dispatcher.objects key) _ _ (record { it = tt }) (λ y. record { it = tt })
read-speaks (call.EventStates position) s = found (nth (events_of s.dispatcher.objects) position) _ _ (record { it = tt }) (λ y. record { it = tt })
read-speaks (call.RequireEventRelease base size layout) s = record { it = tt }
read-speaks (call.TimerAt address) s = found (timer_at s.dispatcher.objects address) _ _ (record { it = tt }) (λ y. record { it = tt })
read-speaks (call.DpcAt address) s = found (dpc_at s.dpcs.table address) _ _ (record { it = tt }) (λ y. record { it = tt })
read-speaks (call.Timers position) s = found (nth (timers_of s.dispatcher.objects) position) _ _ (record { it = tt }) (λ y. record { it = tt })
read-speaks (call.Dpcs position) s = found (nth s.dpcs.table position) _ _ (record { it = tt }) (λ y. record { it = tt })
read-speaks (call.TimerImage address out) s = found (timer_at s.dispatcher.objects address) _ _ (record { it = tt }) (λ y. record { it = tt })
read-speaks (call.DpcImage address out) s = found (dpc_at s.dpcs.table address) _ _ (record { it = tt }) (λ y. record { it = tt })
read-speaks call.TimerInitializations s = record { it = tt }
read-speaks call.DpcInitializations s = record { it = tt }
read-speaks (call.TimerReadOverlap address size) s = record { it = tt }
read-speaks (call.TimerMetadataOverlap address size) s = record { it = tt }
read-speaks call.PendingTimerDpc s = found (pending_timer s) _ _ (record { it = tt }) (λ y. record { it = tt })
read-speaks (call.RequireTimerRelease address size) s = record { it = tt }
read-speaks call.DpcPolicy s = record { it = tt }
read-speaks call.DpcCounters s = record { it = tt }
read-speaks (call.QueuedDpcs position) s = found (nth s.dpcs.queue position) _ _ (record { it = tt }) (λ y. record { it = tt })
read-speaks call.ActiveDpc s = found (active_dpc s.dpcs.table) _ _ (record { it = tt }) (λ y. record { it = tt })
read-speaks call.NextDpc s = found (next_dpc s) _ _ (record { it = tt }) (λ y. record { it = tt })

-- ---- calls

waited-speaks : (s : State) (ns : List Named) (all : Bool) (deadline : Option ℕ) → Speaks (does.waited s ns all deadline).answer
unfolding does.waited does.granted does.timed_out does.blocks
waited-speaks s ns all deadline = one_of (is_met s.dispatcher ns all) _ _ (record { it = tt }) (one_of (reached deadline s.now) _ _ (record { it = tt }) (record { it = tt }))

delayed-speaks : (s : State) (deadline : ℕ) → Speaks (does.delayed s deadline).answer
unfolding does.delayed does.timed_out does.blocks
delayed-speaks s deadline = one_of (leb deadline s.now) _ _ (record { it = tt }) (record { it = tt })

returned-speaks : (s : State) (address : ℕ) (p : DpcPhase) → Speaks (does.dpc_returned s address p).answer
unfolding does.dpc_returned
returned-speaks s address Idle = record { it = tt }
returned-speaks s address (Queued w) = record { it = tt }
returned-speaks s address (Running w) = record { it = tt }
returned-speaks s address (Returning w) = record { it = tt }

effect-speaks : (c : Call) → Shown (meaning c) → (s : State) → Speaks (effect c s).answer
unfolding effect does.event_set does.event_reset does.timer_set does.timer_cancelled does.dpc_inserted does.dpc_removed
effect-speaks (call.Open words p t o d) x s = absurd x
effect-speaks (call.CreateThread p) x s = record { it = tt }
effect-speaks (call.Priority id p) x s = record { it = tt }
effect-speaks (call.InitializeMutex key) x s = record { it = tt }
effect-speaks (call.InitializeEvent key manual signaled) x s = record { it = tt }
effect-speaks (call.AdoptMutex key owner) x s = record { it = tt }
effect-speaks (call.ReleaseMutex key) x s = record { it = tt }
effect-speaks (call.SetEvent key) x s = found-out (event_at s.dispatcher.objects key) _ _ (record { it = tt }) (λ e. record { it = tt })
effect-speaks (call.ResetEvent key) x s = found-out (event_at s.dispatcher.objects key) _ _ (record { it = tt }) (λ e. record { it = tt })
effect-speaks (call.RetireEventBacking base size layout) x s = record { it = tt }
effect-speaks (call.Wait l all deadline irql) x s = waited-speaks s (pairs l) all deadline
effect-speaks (call.DelayUntil deadline irql) x s = delayed-speaks s deadline
effect-speaks call.YieldCurrent x s = record { it = tt }
effect-speaks (call.Terminate status) x s = record { it = tt }
effect-speaks (call.AdvanceTo time) x s = record { it = tt }
effect-speaks (call.Dispatch out) x s = absurd x
effect-speaks (call.InitializeTimer address a b manual) x s = record { it = tt }
effect-speaks (call.InitializeDpc address a b routine context) x s = record { it = tt }
effect-speaks (call.SetTimer address due absolute period dpc) x s = found-out (timer_at s.dispatcher.objects address) _ _ (record { it = tt }) (λ t. record { it = tt })
effect-speaks (call.SetTimerSigned address v period dpc) x s = found-out (timer_at s.dispatcher.objects address) _ _ (record { it = tt }) (λ t. record { it = tt })
effect-speaks (call.CancelTimer address) x s = found-out (timer_at s.dispatcher.objects address) _ _ (record { it = tt }) (λ t. record { it = tt })
effect-speaks (call.RetireTimerBacking address size) x s = record { it = tt }
effect-speaks (call.ConfigureDpcDispatch first second) x s = record { it = tt }
effect-speaks (call.InsertQueueDpc address first second) x s = one_of (is_queued (phase_at s.dpcs.table address)) _ _ (record { it = tt }) (record { it = tt })
effect-speaks (call.RemoveQueueDpc address) x s = one_of (is_queued (phase_at s.dpcs.table address)) _ _ (record { it = tt }) (record { it = tt })
effect-speaks (call.StartDpc address) x s = absurd x
effect-speaks (call.ReturnedDpc address n) x s = returned-speaks s address (phase_at s.dpcs.table address)
effect-speaks (call.RestoredDpc address n) x s = record { it = tt }
effect-speaks (call.Reads r) x s = read-speaks r s

pub step-speaks : (c : Call) → Shown (meaning c) → (s : State) → Speaks (step c s).answer
unfolding step
step-speaks c x s = one_of (eqb (refusal c s) 0) _ _ (effect-speaks c x s) (record { it = tt })

started-speaks : (s : State) (address : ℕ) (p : DpcPhase) → Speaks (does.dpc_started s address p).answer
unfolding does.dpc_started
started-speaks s address Idle = record { it = tt }
started-speaks s address (Queued w) = record { it = tt }
started-speaks s address (Running w) = record { it = tt }
started-speaks s address (Returning w) = record { it = tt }

pub start-speaks : (address : ℕ) (s : State) → Speaks (step (call.StartDpc address) s).answer
unfolding step effect
start-speaks address s = one_of (eqb (refusal (call.StartDpc address) s) 0) _ _ (started-speaks s address (phase_at s.dpcs.table address)) (record { it = tt })

-- a number alone speaks where its answer does
pub bare-speaks : (a : Answer) → Speaks a → Speaks (bare a)
bare-speaks (log.Refused n) h = record { it = tt }
bare-speaks log.Done h = record { it = tt }
bare-speaks log.None h = record { it = tt }
bare-speaks (log.ThreadNumber n) h = record { it = tt }
bare-speaks (log.Flag b) h = record { it = tt }
bare-speaks (log.Number n) h = record { it = tt }
bare-speaks (log.Satisfied n) h = record { it = tt }
bare-speaks log.Timeout h = record { it = tt }
bare-speaks log.Blocked h = record { it = tt }
bare-speaks (log.Run n) h = record { it = tt }
bare-speaks (log.AdvanceTo n) h = record { it = tt }
bare-speaks (log.Deadlocked ns) h = h
bare-speaks log.Finished h = record { it = tt }
bare-speaks (log.ThreadIs n t) h = record { it = tt }
bare-speaks (log.ObjectIs n) h = record { it = tt }
bare-speaks (log.EventIs e) h = record { it = tt }
bare-speaks (log.TimerIs t) h = record { it = tt }
bare-speaks (log.DpcIs d) h = record { it = tt }
bare-speaks (log.WorkIs x) h = record { it = tt }
bare-speaks (log.PolicyIs p) h = record { it = tt }
bare-speaks (log.CountersAre c) h = record { it = tt }
bare-speaks (log.ImageIs size bytes) h = record { it = tt }
