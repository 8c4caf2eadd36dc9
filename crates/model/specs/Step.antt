-- What an accepted call answers and does, and the log's step.
use Rattle.std.specs.Prelude.{ℕ, suc, ◌+◌, min, List, [], ◌∷◌, ◌++◌, Bool, true, false, cond, not, ◌&&◌, eqb, leb, ltb, ℤ, pos, negsuc}
use Rattle.std.proofs.Math.Option.{Option, none, some}
use Rattle.arch.specs.declared.Architecture.{Architecture}
use Rattle.images.specs.declared.TimerBacking.{TimerBacking}
use Rattle.images.specs.declared.Timer.{Timer}
use Rattle.images.specs.declared.Dpc.{Dpc}
use Rattle.images.specs.declared.DpcPhase.{DpcPhase}
use Rattle.images.specs.declared.DpcPhase.TheVariants.{Idle, Queued, Running, Returning}
use Rattle.images.specs.declared.DpcOrigin.TheVariants as origin
use Rattle.model.specs.Lists.{keep, is_empty, given}
use Rattle.model.specs.State.{State, Dispatcher, Dpcs, Thread, satisfied, timeout, Named, Mutex, Event, Object, mutex, event, timer, unselected, cpu0_dispatch, WaitResult}
use Rattle.model.specs.Threads.{count, thread_of, wait_of, with_thread, with_objects, with_result, first_thread, created, prioritized, yielded, terminated, blocked, next, ran, waiting_numbers}
use Rattle.model.specs.Waits.{on_event, on_timer, mutex_at, event_at, timer_at, timers_of, put_object, owned_by, signaled_as, waits_on, is_met, index, takes, wake, reached, time_out}
use Rattle.model.specs.Dpcs.{phase_at, put_dpc, is_from, is_queued, accepted, duplicated, withdrawn, started, returned, restored}
use Rattle.model.specs.Timers.{new_timer, armed, cancelled, due_timers, expire_each, Expired}
use Rattle.model.specs.Refusal.{open_refusal, create_refusal, priority_refusal, mutex_refusal, event_refusal, adopt_refusal, owner_number, release_refusal, signal_refusal, event_release_refusal, pairs, wait_refusal, delay_refusal, yield_refusal, terminate_refusal, unexpired, advance_refusal, timer_refusal, dpc_refusal, is_negative, set_refusal, signed_due, set_signed_refusal, unknown_timer, unknown_dpc, timer_overlapped, dpc_overlapped, timer_release_refusal, is_unselected, configure_refusal, insert_refusal, start_refusal, returned_refusal, restored_refusal, dispatch_refusal}
use Rattle.model.specs.Reads.{read_refusal, read_answer}
use Rattle.model.specs.Answer.{Answer, Outcome, gives, Refused, Done, ThreadNumber, Flag, Satisfied, Timeout, Blocked, Run, AdvanceTo, Deadlocked, Finished, WorkIs}
use Rattle.model.specs.Call.{Call}
use Rattle.model.specs.Call as call

-- ---- one thing of a state changed

-- other threads and objects
abbrev pub with_dispatcher : State → Dispatcher → State
with_dispatcher s d = record { limits = s.limits; dispatcher = d; dpcs = s.dpcs; now = s.now; policy = s.policy; timer_initializations = s.timer_initializations; dpc_initializations = s.dpc_initializations }

-- other DPCs
abbrev pub with_dpcs : State → Dpcs → State
with_dpcs s q = record { limits = s.limits; dispatcher = s.dispatcher; dpcs = q; now = s.now; policy = s.policy; timer_initializations = s.timer_initializations; dpc_initializations = s.dpc_initializations }

-- another table of objects
abbrev pub with_table : State → List Object → State
with_table s l = with_dispatcher s (with_objects s.dispatcher l)

-- ---- "An accepted `open` (re)starts it: limits as given, thread 1 current at the given priority, the rest empty or 0."

unfoldable pub opened : ℕ → ℕ → ℕ → ℕ → State
opened p t o d =
    record {
      limits = record { threads = t; objects = o; dpcs = d };
      dispatcher = record { threads = first_thread p ∷ []; current = 1; placed = []; waiters = []; sequence = 0; objects = [] };
      dpcs = record { table = []; queue = []; counters = record { accepted = 0; duplicates = 0; removed = 0; started = 0; returned = 0; restored = 0 } };
      now = 0;
      policy = unselected;
      timer_initializations = 0;
      dpc_initializations = 0;
    }

-- ---- mutexes and events

-- `adopt_mutex` of the Rust: a known mutex stays as it is, a new one has the owner
unfoldable pub adopted : State → ℕ → Option ℕ → State
adopted s key owner =
    let l = s.dispatcher.objects in
    given (mutex_at l key) (with_table s (put_object (mutex (record { key = key; owner = owner_number owner })) l)) (λ (m : Mutex). s)

-- "Setting an event, releasing a mutex, terminating and advancing run one wake pass"
unfoldable pub mutex_released : State → ℕ → State
mutex_released s key =
    let l = s.dispatcher.objects in
    given (mutex_at l key) s (λ (m : Mutex). with_dispatcher s (wake (with_objects s.dispatcher (put_object (owned_by 0 m) l))))

-- what the event was, and the state after
unfoldable pub event_set : State → ℕ → Outcome
event_set s key =
    let l = s.dispatcher.objects in
    given (event_at l key) (gives Done s)
    (λ (e : Event). gives (Flag e.signaled) (with_dispatcher s (wake (with_objects s.dispatcher (put_object (signaled_as true e) l)))))

-- `reset_event`: what the event was
unfoldable pub event_reset : State → ℕ → Outcome
event_reset s key =
    let l = s.dispatcher.objects in
    given (event_at l key) (gives Done s) (λ (e : Event). gives (Flag e.signaled) (with_table s (put_object (signaled_as false e) l)))

-- the events whose key is in the released memory
abbrev pub is_retired_event : ℕ → ℕ → Object → Bool
is_retired_event base end = on_event false (λ e. leb base e.key && ltb e.key end)

-- `retire_event_backing` of the Rust: they go
unfoldable pub events_retired : State → ℕ → ℕ → State
events_retired s base size = with_table s (keep (λ o. not (is_retired_event base (base + size) o)) s.dispatcher.objects)

-- ---- waiting

-- the current thread goes on, with the result of its wait, as in `wait` of the Rust
abbrev pub with_own_result : Dispatcher → Option WaitResult → Dispatcher
with_own_result d r = with_thread d d.current (with_result (thread_of d d.current) r)

-- the wait is granted: it takes its objects and answers its index
unfoldable pub granted : State → List Named → Bool → Outcome
granted s ns all =
    let d = s.dispatcher in
    let i = index d ns all in
    gives (Satisfied i) (with_dispatcher s (with_own_result (with_objects d (takes d d.current ns all)) (some (satisfied i))))

-- the wait times out at once
unfoldable pub timed_out : State → Outcome
timed_out s = gives Timeout (with_dispatcher s (with_own_result s.dispatcher (some timeout)))

-- the current thread blocks
unfoldable pub blocks : State → List Named → Bool → Option ℕ → Outcome
blocks s ns all deadline = gives Blocked (with_dispatcher s (blocked s.dispatcher ns all deadline))

-- "then grant or timeout; .." else it blocks
unfoldable pub waited : State → List Named → Bool → Option ℕ → Outcome
waited s ns all deadline =
    cond (is_met s.dispatcher ns all) (granted s ns all) (cond (reached deadline s.now) (timed_out s) (blocks s ns all deadline))

-- a delay waits for no object
unfoldable pub delayed : State → ℕ → Outcome
delayed s deadline = cond (leb deadline s.now) (timed_out s) (blocks s [] false (some deadline))

-- ---- "`advance_to` expires timers, sets the time, wakes by objects, then times out deadlines at or before it by thread number."

-- what the expiry of all that are due leaves
abbrev pub expired_at : State → ℕ → Expired
expired_at s time = expire_each s.policy time (unexpired s) (due_timers s.policy time s.dispatcher.objects)

-- the state after an advance to the time
unfoldable pub advanced : State → ℕ → State
advanced s time =
    record {
      limits = s.limits;
      dispatcher = time_out time (wake (with_objects s.dispatcher (expired_at s time).objects));
      dpcs = (expired_at s time).dpcs;
      now = time;
      policy = s.policy;
      timer_initializations = s.timer_initializations;
      dpc_initializations = s.dpc_initializations;
    }

-- ---- dispatch

-- the smallest of the numbers, none of none
abbrev pub smallest : List ℕ → Option ℕ
smallest [] = none
smallest (x ∷ xs) = given (smallest xs) (some x) (λ y. some (min x y))

-- the deadlines of the waiting threads
abbrev pub deadlines_of : List Thread → List ℕ
deadlines_of [] = []
deadlines_of (t ∷ ts) = given (wait_of t.status).deadline (deadlines_of ts) (λ x. x ∷ deadlines_of ts)

-- "A timer counts if some thread waits (a delay included), it is inserted, and it either has a DPC or is unsignaled and in a
-- waiter's list."
unfoldable pub counts : Dispatcher → Timer → Bool
counts d t =
    cond (is_empty (waiting_numbers d)) false
    (cond t.inserted
    (cond (eqb t.dpc 0) (cond t.signaled false (waits_on d (record { kind = 2; key = t.address }))) true)
    false)

-- when they are due
abbrev pub dues_of : List Timer → List ℕ
dues_of [] = []
dues_of (t ∷ ts) = t.due ∷ dues_of ts

-- "else the smallest waiting deadline or counted timer due; else finished, or deadlocked with waiting numbers rising"
unfoldable pub idle_answer : Dispatcher → Answer
idle_answer d =
    given (smallest (deadlines_of d.threads ++ dues_of (keep (counts d) (timers_of d.objects))))
    (cond (is_empty (waiting_numbers d)) Finished (Deadlocked (waiting_numbers d))) AdvanceTo

-- "Dispatch: the current thread; else the first of the highest ready queue, made current; .."
unfoldable pub dispatched : State → Outcome
dispatched s =
    let d = s.dispatcher in
    cond (eqb d.current 0)
    (cond (is_empty d.placed) (gives (idle_answer d) s) (gives (Run (next d)) (with_dispatcher s (ran d (next d)))))
    (gives (Run d.current) s)

-- ---- timers

-- a timer that is neither signaled nor inserted, with the number of its initialization
unfoldable pub timer_initialized : State → ℕ → Architecture → TimerBacking → Bool → State
timer_initialized s address a b manual =
    record {
      limits = s.limits;
      dispatcher = with_objects s.dispatcher (put_object (timer (new_timer address a b manual (s.timer_initializations + 1))) s.dispatcher.objects);
      dpcs = s.dpcs;
      now = s.now;
      policy = s.policy;
      timer_initializations = s.timer_initializations + 1;
      dpc_initializations = s.dpc_initializations;
    }

-- "new DPCs idle"
unfoldable pub dpc_initialized : State → ℕ → Architecture → TimerBacking → ℕ → ℕ → State
dpc_initialized s address a b routine context =
    record {
      limits = s.limits;
      dispatcher = s.dispatcher;
      dpcs = record {
        table = put_dpc (record { address = address; architecture = a; backing = b; routine = routine; context = context; phase = Idle }) s.dpcs.table;
        queue = s.dpcs.queue;
        counters = s.dpcs.counters;
      };
      now = s.now;
      policy = s.policy;
      timer_initializations = s.timer_initializations;
      dpc_initializations = s.dpc_initializations + 1;
    }

-- a period that is not negative
abbrev pub period_of : ℤ → ℕ
period_of (pos n) = n
period_of (negsuc n) = 0

-- `set_timer` of the Rust answers whether the timer was inserted before
unfoldable pub timer_set : State → ℕ → ℕ → Bool → ℕ → ℕ → Outcome
timer_set s address due absolute period dpc =
    given (timer_at s.dispatcher.objects address) (gives Done s)
    (λ (t : Timer). gives (Flag t.inserted) (with_table s (put_object (timer (armed t due absolute period dpc)) s.dispatcher.objects)))

-- the queued work is the timer's own
abbrev pub own_queued : Timer → DpcPhase → Bool
own_queued t Idle = false
own_queued t (Queued w) = is_from t w.origin
own_queued t (Running w) = false
own_queued t (Returning w) = false

-- "A cancel removes queued work of the same timer, arm and initialization, only if inserted under a policy."
unfoldable pub cancels_work : State → Timer → Bool
cancels_work s t =
    cond t.inserted
    (cond (is_unselected s.policy) false (cond (eqb t.dpc 0) false (own_queued t (phase_at s.dpcs.table t.dpc))))
    false

-- `cancel_timer`: whether the timer was inserted before
unfoldable pub timer_cancelled : State → ℕ → Outcome
timer_cancelled s address =
    given (timer_at s.dispatcher.objects address) (gives Done s)
    (λ (t : Timer). gives (Flag t.inserted)
    (with_table (with_dpcs s (cond (cancels_work s t) (withdrawn s.dpcs t.dpc) s.dpcs)) (put_object (timer (cancelled t)) s.dispatcher.objects)))

-- the timers that overlap the released memory
abbrev pub is_retired_timer : ℕ → ℕ → Object → Bool
is_retired_timer address size = on_timer false (timer_overlapped address size)

-- `retire_timer_backing` of the Rust: the overlapped timers and DPCs go
unfoldable pub timers_retired : State → ℕ → ℕ → State
timers_retired s address size =
    with_table (with_dpcs s (record {
      table = keep (λ (d : Dpc). not (dpc_overlapped address size d)) s.dpcs.table;
      queue = s.dpcs.queue;
      counters = s.dpcs.counters;
    })) (keep (λ o. not (is_retired_timer address size o)) s.dispatcher.objects)

-- ---- DPCs

-- `configure_dpc_dispatch`: the policy with its two arguments
unfoldable pub configured : State → ℕ → ℕ → State
configured s first second = record { limits = s.limits; dispatcher = s.dispatcher; dpcs = s.dpcs; now = s.now; policy = cpu0_dispatch first second; timer_initializations = s.timer_initializations; dpc_initializations = s.dpc_initializations }

-- `insert_queue_dpc`: whether the work was accepted
unfoldable pub dpc_inserted : State → ℕ → ℕ → ℕ → Outcome
dpc_inserted s address first second =
    cond (is_queued (phase_at s.dpcs.table address))
    (gives (Flag false) (with_dpcs s (duplicated s.dpcs)))
    (gives (Flag true) (with_dpcs s (accepted s.dpcs address first second origin.Caller)))

-- `remove_queue_dpc`: whether there was queued work
unfoldable pub dpc_removed : State → ℕ → Outcome
dpc_removed s address =
    cond (is_queued (phase_at s.dpcs.table address)) (gives (Flag true) (with_dpcs s (withdrawn s.dpcs address))) (gives (Flag false) s)

-- `start_dpc`: the work
unfoldable pub dpc_started : State → ℕ → DpcPhase → Outcome
dpc_started s address Idle = gives Done s
dpc_started s address (Queued w) = gives (WorkIs w) (with_dpcs s (started s.dpcs address w))
dpc_started s address (Running w) = gives Done s
dpc_started s address (Returning w) = gives Done s

-- `returned_dpc`
unfoldable pub dpc_returned : State → ℕ → DpcPhase → Outcome
dpc_returned s address Idle = gives Done s
dpc_returned s address (Queued w) = gives Done s
dpc_returned s address (Running w) = gives Done (with_dpcs s (returned s.dpcs address w))
dpc_returned s address (Returning w) = gives Done s

-- ---- a call

-- the number of its refusal, 0 where it is accepted
unfoldable pub refusal : Call → State → ℕ
refusal (call.Open words p t o d) s = open_refusal words p t o d
refusal (call.CreateThread p) s = create_refusal s p
refusal (call.Priority id p) s = priority_refusal s id p
refusal (call.InitializeMutex key) s = mutex_refusal s key
refusal (call.InitializeEvent key manual signaled) s = event_refusal s key
refusal (call.AdoptMutex key owner) s = adopt_refusal s key owner
refusal (call.ReleaseMutex key) s = release_refusal s key
refusal (call.SetEvent key) s = signal_refusal s key
refusal (call.ResetEvent key) s = signal_refusal s key
refusal (call.RetireEventBacking base size layout) s = event_release_refusal s base size layout
refusal (call.Wait l all deadline irql) s = wait_refusal s l all deadline irql
refusal (call.DelayUntil deadline irql) s = delay_refusal s deadline irql
refusal call.YieldCurrent s = yield_refusal s
refusal (call.Terminate status) s = terminate_refusal s
refusal (call.AdvanceTo time) s = advance_refusal s time
refusal (call.Dispatch out) s = dispatch_refusal s out
refusal (call.InitializeTimer address a b manual) s = timer_refusal s address a b
refusal (call.InitializeDpc address a b routine context) s = dpc_refusal s address a b
refusal (call.SetTimer address due absolute period dpc) s = set_refusal s address period dpc
refusal (call.SetTimerSigned address v period dpc) s = set_signed_refusal s address v period dpc
refusal (call.CancelTimer address) s = unknown_timer s address
refusal (call.RetireTimerBacking address size) s = timer_release_refusal s address size
refusal (call.ConfigureDpcDispatch first second) s = configure_refusal s first second
refusal (call.InsertQueueDpc address first second) s = insert_refusal s address
refusal (call.RemoveQueueDpc address) s = unknown_dpc s address
refusal (call.StartDpc address) s = start_refusal s address
refusal (call.ReturnedDpc address n) s = returned_refusal s address n
refusal (call.RestoredDpc address n) s = restored_refusal s address n
refusal (call.Reads r) s = read_refusal r s

-- what an accepted call answers, and the state after it
unfoldable pub effect : Call → State → Outcome
effect (call.Open words p t o d) s = gives Done (opened p t o d)
effect (call.CreateThread p) s = gives (ThreadNumber (suc (count s.dispatcher))) (with_dispatcher s (created s.dispatcher p))
effect (call.Priority id p) s = gives Done (with_dispatcher s (prioritized s.dispatcher id p))
effect (call.InitializeMutex key) s = gives Done (with_table s (put_object (mutex (record { key = key; owner = 0 })) s.dispatcher.objects))
effect (call.InitializeEvent key manual signaled) s =
    gives Done (with_table s (put_object (event (record { key = key; manual = manual; signaled = signaled })) s.dispatcher.objects))
effect (call.AdoptMutex key owner) s = gives Done (adopted s key owner)
effect (call.ReleaseMutex key) s = gives Done (mutex_released s key)
effect (call.SetEvent key) s = event_set s key
effect (call.ResetEvent key) s = event_reset s key
effect (call.RetireEventBacking base size layout) s = gives Done (events_retired s base size)
effect (call.Wait l all deadline irql) s = waited s (pairs l) all deadline
effect (call.DelayUntil deadline irql) s = delayed s deadline
effect call.YieldCurrent s = gives Done (with_dispatcher s (yielded s.dispatcher))
effect (call.Terminate status) s = gives Done (with_dispatcher s (wake (terminated s.dispatcher status)))
effect (call.AdvanceTo time) s = gives Done (advanced s time)
effect (call.Dispatch out) s = dispatched s
effect (call.InitializeTimer address a b manual) s = gives Done (timer_initialized s address a b manual)
effect (call.InitializeDpc address a b routine context) s = gives Done (dpc_initialized s address a b routine context)
effect (call.SetTimer address due absolute period dpc) s = timer_set s address due absolute (period_of period) dpc
effect (call.SetTimerSigned address v period dpc) s = timer_set s address (signed_due s.now v) (not (is_negative v)) (period_of period) dpc
effect (call.CancelTimer address) s = timer_cancelled s address
effect (call.RetireTimerBacking address size) s = gives Done (timers_retired s address size)
effect (call.ConfigureDpcDispatch first second) s = gives Done (configured s first second)
effect (call.InsertQueueDpc address first second) s = dpc_inserted s address first second
effect (call.RemoveQueueDpc address) s = dpc_removed s address
effect (call.StartDpc address) s = dpc_started s address (phase_at s.dpcs.table address)
effect (call.ReturnedDpc address n) s = dpc_returned s address (phase_at s.dpcs.table address)
effect (call.RestoredDpc address n) s = gives Done (with_dpcs s (restored s.dpcs address))
effect (call.Reads r) s = gives (read_answer r s) s

-- "A refused call changes no state": the number, and the state as it was; else the effect
unfoldable pub step : Call → State → Outcome
step c s = cond (eqb (refusal c s) 0) (effect c s) (gives (Refused (refusal c s)) s)

-- the answers of a list of calls, one after the other
abbrev pub answers : List Call → State → List Answer
answers [] s = []
answers (c ∷ cs) s = (step c s).answer ∷ answers cs (step c s).state

-- the state after a list of calls
abbrev pub after : List Call → State → State
after [] s = s
after (c ∷ cs) s = after cs (step c s).state
