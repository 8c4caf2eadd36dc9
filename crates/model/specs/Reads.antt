-- What a read answers, and what refuses it. "A read past the last position answers none."
use Rattle.std.specs.Prelude.{ℕ, suc, ◌+◌, min, List, [], ◌∷◌, Bool, true, false, cond, ◌||◌, eqb, ltb, replicate}
use Rattle.std.proofs.Math.Option.{Option, none, some}
use Rattle.images.specs.declared.Timer.{Timer}
use Rattle.images.specs.declared.Dpc.{Dpc}
use Rattle.images.specs.Place.{overlaps, timer_size, dpc_size}
use Rattle.images.specs.Image.{timer_image, dpc_image}
use Rattle.model.specs.Lists.{nth, first_of, count_of, present, given}
use Rattle.model.specs.State.{State, Dispatcher, Thread, Mutex}
use Rattle.model.specs.Threads.{is_thread, thread_of, status_of, wait_of}
use Rattle.model.specs.Waits.{mutex_at, event_at, timer_at, timers_of, events_of, listed}
use Rattle.model.specs.Dpcs.{dpc_at, active_dpc}
use Rattle.model.specs.Timers.{most}
use Rattle.model.specs.Refusal.{owner_refusal, event_release_refusal, unknown_timer, unknown_dpc, timer_image_refusal, dpc_image_refusal, timer_release_refusal}
use Rattle.model.specs.Answer.{Answer, Done, None, ThreadNumber, Flag, Number, ThreadIs, ObjectIs, EventIs, TimerIs, DpcIs, PolicyIs, CountersAre, ImageIs}
use Rattle.model.specs.Call.{Read}
use Rattle.model.specs.Call as call

-- what refuses a read: the rows of the table that name one
unfoldable pub read_refusal : Read → State → ℕ
read_refusal call.Current s = 0
read_refusal (call.Thread id) s = 0
read_refusal (call.Threads position) s = 0
read_refusal (call.WaitedObject id position) s = 0
read_refusal (call.MutexOwner key) s = owner_refusal s key
read_refusal (call.MutexWaiters key) s = 0
read_refusal (call.EventState key) s = 0
read_refusal (call.EventStates position) s = 0
read_refusal (call.RequireEventRelease base size layout) s = event_release_refusal s base size layout
read_refusal (call.TimerAt address) s = unknown_timer s address
read_refusal (call.DpcAt address) s = unknown_dpc s address
read_refusal (call.Timers position) s = 0
read_refusal (call.Dpcs position) s = 0
read_refusal (call.TimerImage address out) s = timer_image_refusal s address out
read_refusal (call.DpcImage address out) s = dpc_image_refusal s address out
read_refusal call.TimerInitializations s = 0
read_refusal call.DpcInitializations s = 0
read_refusal (call.TimerReadOverlap address size) s = 0
read_refusal (call.TimerMetadataOverlap address size) s = 0
read_refusal call.PendingTimerDpc s = 0
read_refusal (call.RequireTimerRelease address size) s = timer_release_refusal s address size
read_refusal call.DpcPolicy s = 0
read_refusal call.DpcCounters s = 0
read_refusal (call.QueuedDpcs position) s = 0
read_refusal call.ActiveDpc s = 0
read_refusal call.NextDpc s = 0

-- a thread's number, none for 0
abbrev pub number_or_none : ℕ → Answer
number_or_none n = cond (eqb n 0) None (ThreadNumber n)

-- the thread of that number
unfoldable pub thread_answer : Dispatcher → ℕ → Answer
thread_answer d id = cond (is_thread d id) (ThreadIs id (thread_of d id)) None

-- `mutex_waiters` of the Rust: how many threads wait for the mutex
unfoldable pub mutex_waiters : Dispatcher → ℕ → ℕ
mutex_waiters d key = count_of (λ (t : Thread). listed (record { kind = 0; key = key }) (wait_of t.status).objects) d.threads

-- the last of the timers, which rise by address, that begins before `end`
abbrev pub last_timer_below : ℕ → List Timer → Option Timer
last_timer_below end [] = none
last_timer_below end (t ∷ ts) = cond (ltb t.address end) (given (last_timer_below end ts) (some t) some) none

-- the same of the DPCs
abbrev pub last_dpc_below : ℕ → List Dpc → Option Dpc
last_dpc_below end [] = none
last_dpc_below end (d ∷ ds) = cond (ltb d.address end) (given (last_dpc_below end ds) (some d) some) none

-- the range's end, at most 2^64 − 1
abbrev pub end_of : ℕ → ℕ → ℕ
end_of address size = min (address + size) most

-- `timer_read_overlap` of the Rust: the last timer that begins before the range ends overlaps it
unfoldable pub timer_read_overlap : State → ℕ → ℕ → Bool
timer_read_overlap s address size =
    cond (eqb size 0) false
    (given (last_timer_below (end_of address size) (timers_of s.dispatcher.objects)) false
    (λ (t : Timer). overlaps address size t.address (timer_size t.architecture)))

-- `timer_metadata_overlap` of the Rust: that, or the last DPC that begins before the range ends does
unfoldable pub timer_metadata_overlap : State → ℕ → ℕ → Bool
timer_metadata_overlap s address size =
    cond (eqb size 0) false
    (timer_read_overlap s address size
    || given (last_dpc_below (end_of address size) s.dpcs.table) false
    (λ (d : Dpc). overlaps address size d.address (dpc_size d.architecture)))

-- `pending_timer_dpc` of the Rust: the first timer, by address, that is inserted and has a DPC
unfoldable pub pending_timer : State → Option Timer
pending_timer s = first_of (λ (t : Timer). cond t.inserted (cond (eqb t.dpc 0) false true) false) (timers_of s.dispatcher.objects)

-- the head of the queue, none while work is active
abbrev pub head_of : List Dpc → List ℕ → Option Dpc
head_of table [] = none
head_of table (a ∷ l) = dpc_at table a

-- `next_dpc` of the Rust: the head of the queue, where nothing is active
unfoldable pub next_dpc : State → Option Dpc
next_dpc s = cond (present (active_dpc s.dpcs.table)) none (head_of s.dpcs.table s.dpcs.queue)

-- an output of a length: of outputs the log is told no more
abbrev pub blank : ℕ → List ℕ
blank n = replicate n 0

-- "Image offsets come from a table with a row per architecture": the image's size, and the image at the head of the output
abbrev pub timer_image_answer : ℕ → Timer → Answer
timer_image_answer n t = ImageIs (timer_size t.architecture) (timer_image t (blank n))

-- the same for a DPC
abbrev pub dpc_image_answer : ℕ → Dpc → Answer
dpc_image_answer n d = ImageIs (dpc_size d.architecture) (dpc_image d (blank n))

-- what a read answers
unfoldable pub read_answer : Read → State → Answer
read_answer call.Current s = number_or_none s.dispatcher.current
read_answer (call.Thread id) s = thread_answer s.dispatcher id
read_answer (call.Threads position) s = thread_answer s.dispatcher (suc position)
read_answer (call.WaitedObject id position) s =
    cond (is_thread s.dispatcher id) (given (nth (wait_of (status_of s.dispatcher id)).objects position) None ObjectIs) None
read_answer (call.MutexOwner key) s = given (mutex_at s.dispatcher.objects key) None (λ (m : Mutex). number_or_none m.owner)
read_answer (call.MutexWaiters key) s = Number (mutex_waiters s.dispatcher key)
read_answer (call.EventState key) s = given (event_at s.dispatcher.objects key) None EventIs
read_answer (call.EventStates position) s = given (nth (events_of s.dispatcher.objects) position) None EventIs
read_answer (call.RequireEventRelease base size layout) s = Done
read_answer (call.TimerAt address) s = given (timer_at s.dispatcher.objects address) None TimerIs
read_answer (call.DpcAt address) s = given (dpc_at s.dpcs.table address) None DpcIs
read_answer (call.Timers position) s = given (nth (timers_of s.dispatcher.objects) position) None TimerIs
read_answer (call.Dpcs position) s = given (nth s.dpcs.table position) None DpcIs
read_answer (call.TimerImage address out) s = given (timer_at s.dispatcher.objects address) None (timer_image_answer out)
read_answer (call.DpcImage address out) s = given (dpc_at s.dpcs.table address) None (dpc_image_answer out)
read_answer call.TimerInitializations s = Number s.timer_initializations
read_answer call.DpcInitializations s = Number s.dpc_initializations
read_answer (call.TimerReadOverlap address size) s = Flag (timer_read_overlap s address size)
read_answer (call.TimerMetadataOverlap address size) s = Flag (timer_metadata_overlap s address size)
read_answer call.PendingTimerDpc s = given (pending_timer s) None TimerIs
read_answer (call.RequireTimerRelease address size) s = Done
read_answer call.DpcPolicy s = PolicyIs s.policy
read_answer call.DpcCounters s = CountersAre s.dpcs.counters
read_answer (call.QueuedDpcs position) s = given (nth s.dpcs.queue position) None Number
read_answer call.ActiveDpc s = given (active_dpc s.dpcs.table) None DpcIs
read_answer call.NextDpc s = given (next_dpc s) None DpcIs
