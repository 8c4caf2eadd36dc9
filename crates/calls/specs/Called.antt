-- What each call of the log's type does to a scheduler's words: what the code of that call is proved to do, and what the theorem over
-- lists of calls speaks of.
use Rattle.std.specs.Prelude.{ℕ, List, Bool, true, false, cond}
use Rattle.std.proofs.Math.Option.{Option, none, some}
use Rattle.answers.specs.Outcome.{Outcome}
use Rattle.opening.specs.Open.{opened}
use Rattle.threading.specs.Thread as thread
use Rattle.mutexes.specs.Mutexes as mutexes
use Rattle.events.specs.Events as events
use Rattle.event_release.specs.Release as release
use Rattle.waiting.specs.Wait as wait
use Rattle.advancing.specs.Advance as time
use Rattle.dispatcher.specs.Dispatch.{Dispatched}
use Rattle.dispatcher.specs.Read as read
use Rattle.timers.specs.Initialize as initialize
use Rattle.arming.specs.Arm as arm
use Rattle.timers.specs.Release as timer-release
use Rattle.timers.specs.Reads as timer-read
use Rattle.dpc_work.specs.Work as dpcs
use Rattle.dpc_work.specs.Work.{Started}
use Rattle.dpc_reads.specs.Reads as dpc-read
use Rattle.model.specs.Call.{Call, Read}
use Rattle.model.specs.Call as call
use Rattle.calls.specs.Guard.{Kind, Code, guarded, guarded_dispatch, guarded_start, readable, guarded_image}
use Rattle.calls.specs.Guard as kind
use Rattle.calls.specs.Images.{Imaged, timer_imaged, dpc_imaged}

-- an argument that may be absent, as the code takes it: whether it is there, and its value
abbrev pub optional : Bool → ℕ → Option ℕ
optional there n = cond there (some n) none

-- ---- calls with an argument that may be absent

abbrev pub adopts : List ℕ → ℕ → Option ℕ → Outcome
adopts w key none = mutexes.adopted w key false 0
adopts w key (some owner) = mutexes.adopted w key true owner

abbrev pub waits : List ℕ → List ℕ → Bool → Option ℕ → ℕ → Outcome
waits w l all none irql = wait.waited w l all false 0 irql
waits w l all (some deadline) irql = wait.waited w l all true deadline irql

-- ---- what a call is: which definition over the words it runs, by the kind of what it gives

pub data Reading : Type 0 where
  tells : (k : Kind) → (List ℕ → Code k) → Reading  -- an answer
  images : ℕ → (List ℕ → List ℕ → Imaged) → Reading  -- an answer, and bytes in an output of this length

pub data Meaning : Type 0 where
  opens : ℕ → (List ℕ → Outcome) → Meaning  -- of any words, as many as it says
  acts : (List ℕ → Outcome) → Meaning  -- an answer, and the words after the call
  starts : (List ℕ → Started) → Meaning  -- work, and the words after the call
  dispatches : ℕ → Meaning  -- on an output of this length
  reads : Reading → Meaning  -- the words stay

abbrev pub reading : Read → Reading
reading call.Current = tells kind.plain (λ w. thread.current_answer w)
reading (call.Thread id) = tells kind.threads (λ w. read.thread_read w id)
reading (call.Threads position) = tells kind.threads (λ w. read.threads_at w position)
reading (call.WaitedObject id position) = tells kind.places (λ w. read.waited_object w id position)
reading (call.MutexOwner key) = tells kind.plain (λ w. mutexes.owner_answer w key)
reading (call.MutexWaiters key) = tells kind.plain (λ w. mutexes.waiters_answer w key)
reading (call.EventState key) = tells kind.plain (λ w. events.event_state w key)
reading (call.EventStates position) = tells kind.plain (λ w. release.event_states w position)
reading (call.RequireEventRelease base size layout) = tells kind.plain (λ w. release.release_answer w base size layout)
reading (call.TimerAt address) = tells kind.timers (λ w. timer-read.timer_read w address)
reading (call.DpcAt address) = tells kind.dpcs (λ w. dpc-read.dpc_read w address)
reading (call.Timers position) = tells kind.timers (λ w. timer-read.timers_at w position)
reading (call.Dpcs position) = tells kind.dpcs (λ w. dpc-read.dpcs_at w position)
reading (call.TimerImage address n) = images n (λ w. timer_imaged w address)
reading (call.DpcImage address n) = images n (λ w. dpc_imaged w address)
reading call.TimerInitializations = tells kind.plain (λ w. timer-read.timer_initializations w)
reading call.DpcInitializations = tells kind.plain (λ w. dpc-read.initializations_read w)
reading (call.TimerReadOverlap address size) = tells kind.plain (λ w. timer-read.read_overlap w address size)
reading (call.TimerMetadataOverlap address size) = tells kind.plain (λ w. timer-read.metadata_overlap w address size)
reading call.PendingTimerDpc = tells kind.timers (λ w. timer-read.pending_read w)
reading (call.RequireTimerRelease address size) = tells kind.plain (λ w. timer-release.timer_release w address size)
reading call.DpcPolicy = tells kind.policies (λ w. dpc-read.policy_read w)
reading call.DpcCounters = tells kind.counts (λ w. dpc-read.counters_read w)
reading (call.QueuedDpcs position) = tells kind.plain (λ w. dpc-read.queued_dpcs w position)
reading call.ActiveDpc = tells kind.dpcs (λ w. dpc-read.active_dpc w)
reading call.NextDpc = tells kind.dpcs (λ w. dpc-read.next_dpc w)

abbrev pub meaning : Call → Meaning
meaning (call.Open words p t o d) = opens words (λ w. opened w p t o d)
meaning (call.CreateThread p) = acts (λ w. thread.created w p)
meaning (call.Priority id p) = acts (λ w. thread.prioritized w id p)
meaning (call.InitializeMutex key) = acts (λ w. mutexes.initialized w key)
meaning (call.InitializeEvent key manual signaled) = acts (λ w. events.initialized w key manual signaled)
meaning (call.AdoptMutex key owner) = acts (λ w. adopts w key owner)
meaning (call.ReleaseMutex key) = acts (λ w. mutexes.released w key)
meaning (call.SetEvent key) = acts (λ w. events.was_set w key)
meaning (call.ResetEvent key) = acts (λ w. events.was_reset w key)
meaning (call.RetireEventBacking base size layout) = acts (λ w. release.events_retired w base size layout)
meaning (call.Wait l all deadline irql) = acts (λ w. waits w l all deadline irql)
meaning (call.DelayUntil deadline irql) = acts (λ w. wait.delayed w deadline irql)
meaning call.YieldCurrent = acts (λ w. thread.yielded w)
meaning (call.Terminate status) = acts (λ w. thread.terminated w status)
meaning (call.AdvanceTo t) = acts (λ w. time.advanced w t)
meaning (call.Dispatch n) = dispatches n
meaning (call.InitializeTimer address a b manual) = acts (λ w. initialize.timer_initialized w address a b manual)
meaning (call.InitializeDpc address a b routine context) = acts (λ w. initialize.dpc_initialized w address a b routine context)
meaning (call.SetTimer address due absolute period dpc) = acts (λ w. arm.timer_set w address due absolute period dpc)
meaning (call.SetTimerSigned address v period dpc) = acts (λ w. arm.timer_set_signed w address v period dpc)
meaning (call.CancelTimer address) = acts (λ w. arm.timer_cancelled w address)
meaning (call.RetireTimerBacking address size) = acts (λ w. timer-release.timers_retired w address size)
meaning (call.ConfigureDpcDispatch first second) = acts (λ w. dpcs.configured w first second)
meaning (call.InsertQueueDpc address first second) = acts (λ w. dpcs.queue_inserted w address first second)
meaning (call.RemoveQueueDpc address) = acts (λ w. dpcs.queue_removed w address)
meaning (call.StartDpc address) = starts (λ w. dpcs.work_started w address)
meaning (call.ReturnedDpc address n) = acts (λ w. dpcs.work_returned w address n)
meaning (call.RestoredDpc address n) = acts (λ w. dpcs.work_restored w address n)
meaning (call.Reads r) = reads (reading r)

-- ---- every call: an `open` of any words; of the others, words out of form are refused with 27

-- what writes an output gives a function of it
abbrev pub ReadResult : Reading → Type 0
ReadResult (tells k f) = Code k
ReadResult (images n f) = List ℕ → Imaged

abbrev pub Result : Meaning → Type 0
Result (opens n f) = Outcome
Result (acts f) = Outcome
Result (starts f) = Started
Result (dispatches n) = List ℕ → Dispatched
Result (reads r) = ReadResult r

abbrev pub run_read : List ℕ → (r : Reading) → ReadResult r
run_read w (tells k f) = readable w k (f w)
run_read w (images n f) = λ out. guarded_image w out (f w out)

abbrev pub run : List ℕ → (m : Meaning) → Result m
run w (opens n f) = f w
run w (acts f) = guarded w (f w)
run w (starts f) = guarded_start w (f w)
run w (dispatches n) = λ out. guarded_dispatch w out
run w (reads r) = run_read w r

unfoldable pub called : List ℕ → (c : Call) → Result (meaning c)
called w c = run w (meaning c)
