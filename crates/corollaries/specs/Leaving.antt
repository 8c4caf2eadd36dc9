-- What a call leaves, by what the code's reads answer before it and after it.
use Rattle.std.specs.Prelude.{ℕ, ◌≤◌, ◌<◌, List, Bool, true, ◌≡◌, get_or}
use Rattle.std.proofs.Math.Option.{Option, none, some}
use Rattle.images.specs.declared.Timer.{Timer}
use Rattle.images.specs.declared.Dpc.{Dpc}
use Rattle.images.specs.declared.DpcWork.{DpcWork}
use Rattle.images.specs.declared.DpcPhase.TheVariants.{Queued}
use Rattle.words.specs.Layout as at
use Rattle.calls.specs.Run.{answered}
use Rattle.model.specs.State.{Thread, Wait, WaitResult, ready, waiting, satisfied, timeout, Named, Event, Counters, Policy, unselected}
use Rattle.model.specs.Answer.{Answer, Refused, None, ThreadNumber, Satisfied, Timeout, Blocked, PolicyIs, CountersAre}
use Rattle.model.specs.Call as call
use Rattle.model.specs.Acceptance.{OwnWork}
use Rattle.model.specs.Leaving.{exited_with, runs_after, waits_with, fresh_thread, fresh_dpc, one_more_removed, AfterWake, ThatThread, timer_bytes, dpc_bytes, Meets}
use Rattle.corollaries.specs.Reads.{ThreadRead, EventRead, TimerRead, DpcRead}

-- ---- reads that answer as before

-- this read does
abbrev pub Same : List ℕ → List ℕ → call.Read → Type 0
Same before after r = answered after (call.Reads r) ≡ answered before (call.Reads r)

-- those of every thread and of the current one
pub record ThreadsRead (before after : List ℕ) : Type 0 where
  pub thread : (i : ℕ) → Same before after (call.Thread i)
  pub current : Same before after call.Current

-- those of every event, mutex and timer with a key that stays
pub record ObjectsRead (before after : List ℕ) (Stays : ℕ → Type 0) : Type 0 where
  pub event : (k : ℕ) → Stays k → Same before after (call.EventState k)
  pub mutex : (k : ℕ) → Stays k → Same before after (call.MutexOwner k)
  pub timer : (k : ℕ) → Stays k → Same before after (call.TimerAt k)

-- those of every DPC with an address that stays, of their queue and of their counts
pub record DpcsRead (before after : List ℕ) (Stays : ℕ → Type 0) : Type 0 where
  pub dpc : (a : ℕ) → Stays a → Same before after (call.DpcAt a)
  pub queue : (k : ℕ) → Same before after (call.QueuedDpcs k)
  pub counters : Same before after call.DpcCounters

-- every key, and every one but this
abbrev pub Every : ℕ → Type 0
Every k = Unit

abbrev pub AllBut : ℕ → ℕ → Type 0
AllBut key k = k ≡ key → ⊥

-- ---- threads

-- what becomes of the thread of a number
abbrev pub ThreadBecomes : (Thread → Thread → Type 0) → List ℕ → List ℕ → ℕ → Type 0
ThreadBecomes R before after j = (y : Thread) → ThreadRead before j y → (z : Thread) × (ThreadRead after j z) × R y z

-- thread `i` reads as `x`, and every other as before
pub record ThreadLeft (before after : List ℕ) (i : ℕ) (x : Thread) : Type 0 where
  pub thread : ThreadRead after i x
  pub others : (j : ℕ) → (j ≡ i → ⊥) → Same before after (call.Thread j)

-- the thread has exited with the status, and none is current; of the others some may have been woken
pub record ExitRead (before after : List ℕ) (i n : ℕ) (x : Thread) : Type 0 where
  pub thread : ThreadRead after i (exited_with n x)
  pub current : answered after (call.Reads call.Current) ≡ None
  pub others : (j : ℕ) → (j ≡ i → ⊥) → ThreadBecomes (AfterWake (ThatThread i)) before after j

-- a timer that read as inserted, with a due at or before the time
pub record DueRead (before : List ℕ) (time : ℕ) (n : Named) : Type 0 where
  pub kind : n.kind ≡ 2
  pub timer : Timer
  pub read : TimerRead before n.key timer
  pub inserted : timer.inserted ≡ true
  pub due : timer.due ≤ time

-- the thread is ready, none is current, and all else reads as before
pub record YieldRead (before after : List ℕ) (i : ℕ) (x : Thread) : Type 0 where
  pub thread : ThreadLeft before after i (record { priority = x.priority; status = ready; result = x.result })
  pub current : answered after (call.Reads call.Current) ≡ None
  pub objects : ObjectsRead before after Every
  pub dpcs : DpcsRead before after Every

-- ---- a wait of the current thread

-- it goes on, with this result
pub record GoesOnRead (before after : List ℕ) (i : ℕ) (x : Thread) (r : WaitResult) : Type 0 where
  pub thread : ThreadLeft before after i (runs_after r x)
  pub current : answered after (call.Reads call.Current) ≡ ThreadNumber i

-- it waits for just these objects until the deadline, with a wait sequence above those of all that waited; none is current, and no object is touched
pub record BlocksRead (before after : List ℕ) (i : ℕ) (x : Thread) (objects : List Named) (all : Bool) (deadline : Option ℕ) : Type 0 where
  pub sequence : ℕ
  pub thread : ThreadLeft before after i (waits_with (record { objects = objects; all = all; deadline = deadline; sequence = sequence }) x)
  pub last : (j : ℕ) (z : Thread) (y : Wait) → ThreadRead before j z → z.status ≡ waiting y → y.sequence < sequence
  pub current : answered after (call.Reads call.Current) ≡ None
  pub untouched : ObjectsRead before after Every

-- not granted: a timeout, at a deadline that the time of the words has reached, or it blocks
pub data UngrantedRead (before after : List ℕ) (i : ℕ) (x : Thread) (objects : List Named) (all : Bool) (deadline : Option ℕ) (answer : Answer) : Type 0 where
  times-out : answer ≡ Timeout → (end : ℕ) → deadline ≡ some end → end ≤ get_or before at.now 0 → GoesOnRead before after i x timeout → ObjectsRead before after Every
      → UngrantedRead before after i x objects all deadline answer
  blocks : answer ≡ Blocked → ((end : ℕ) → deadline ≡ some end → get_or before at.now 0 < end) → BlocksRead before after i x objects all deadline → UngrantedRead before after i x objects all deadline answer

-- granted or not: the thread's result reads as the wait answered
pub data WaitRead (before after : List ℕ) (i : ℕ) (x : Thread) (objects : List Named) (all : Bool) (deadline : Option ℕ) (answer : Answer) : Type 0 where
  grants : (k : ℕ) → answer ≡ Satisfied k → GoesOnRead before after i x (satisfied k) → WaitRead before after i x objects all deadline answer
  otherwise : UngrantedRead before after i x objects all deadline answer → WaitRead before after i x objects all deadline answer

-- ---- a priority, a new thread

-- thread `i` reads as `x`, and all else as before
pub record OneThreadRead (before after : List ℕ) (i : ℕ) (x : Thread) : Type 0 where
  pub thread : ThreadLeft before after i x
  pub current : Same before after call.Current
  pub objects : ObjectsRead before after Every
  pub dpcs : DpcsRead before after Every

-- the number was nobody's, and is the new thread's
pub record CreateRead (before after : List ℕ) (p i : ℕ) : Type 0 where
  pub new : answered before (call.Reads (call.Thread i)) ≡ None
  pub one : OneThreadRead before after i (fresh_thread p)

-- ---- events, mutexes, timers and DPCs

-- all but the object with this key reads as before
pub record OtherwiseRead (before after : List ℕ) (key : ℕ) : Type 0 where
  pub threads : ThreadsRead before after
  pub objects : ObjectsRead before after (AllBut key)
  pub dpcs : DpcsRead before after Every
  pub policy : Same before after call.DpcPolicy

-- the event reads so
pub record EventLeft (before after : List ℕ) (key : ℕ) (x : Event) : Type 0 where
  pub event : EventRead after key x
  pub rest : OtherwiseRead before after key

-- the timer reads so
pub record TimerLeft (before after : List ℕ) (address : ℕ) (x : Timer) : Type 0 where
  pub timer : TimerRead after address x
  pub rest : OtherwiseRead before after address

-- the mutex reads as owned by this thread, or by none
pub record OwnerLeft (before after : List ℕ) (key : ℕ) (answer : Answer) : Type 0 where
  pub owner : answered after (call.Reads (call.MutexOwner key)) ≡ answer
  pub rest : OtherwiseRead before after key

-- a thread's number, or none
abbrev pub owner_answer : Option ℕ → Answer
owner_answer none = None
owner_answer (some i) = ThreadNumber i

-- the work that the timer has put into its DPC's queue, under a policy
pub record OwnQueuedRead (w : List ℕ) (x : Timer) (d : Dpc) (k : DpcWork) : Type 0 where
  pub inserted : x.inserted ≡ true
  pub policy : answered w (call.Reads call.DpcPolicy) ≡ PolicyIs unselected → ⊥
  pub some_dpc : x.dpc ≡ 0 → ⊥
  pub dpc : DpcRead w x.dpc d
  pub queued : d.phase ≡ Queued k
  pub own : OwnWork x k

-- the DPC reads as idle, every other as before, and the counters with one removal more
pub record RemovedRead (before after : List ℕ) (d : Dpc) : Type 0 where
  pub dpc : DpcRead after d.address (fresh_dpc d.address d.architecture d.backing d.routine d.context)
  pub others : (a : ℕ) → (a ≡ d.address → ⊥) → Same before after (call.DpcAt a)
  pub counters : (c : Counters) → answered before (call.Reads call.DpcCounters) ≡ CountersAre c → answered after (call.Reads call.DpcCounters) ≡ CountersAre (one_more_removed c)

-- that work is removed, and no other
pub data WorkRead (before after : List ℕ) (x : Timer) : Type 0 where
  removes : (d : Dpc) (k : DpcWork) → OwnQueuedRead before x d k → RemovedRead before after d → WorkRead before after x
  leaves : ((d : Dpc) (k : DpcWork) → OwnQueuedRead before x d k → ⊥) → DpcsRead before after Every → WorkRead before after x

-- `was`, cancelled, reads as `x`
pub record TimerCancelled (before after : List ℕ) (address : ℕ) (was x : Timer) : Type 0 where
  pub timer : TimerRead after address x
  pub threads : ThreadsRead before after
  pub objects : ObjectsRead before after (AllBut address)
  pub work : WorkRead before after was

-- the DPC reads so, and all else as before
pub record DpcLeft (before after : List ℕ) (address : ℕ) (x : Dpc) : Type 0 where
  pub dpc : DpcRead after address x
  pub threads : ThreadsRead before after
  pub objects : ObjectsRead before after Every
  pub others : DpcsRead before after (AllBut address)

-- the policy reads so, and all else as before
pub record PolicyLeft (before after : List ℕ) (p : Policy) : Type 0 where
  pub policy : answered after (call.Reads call.DpcPolicy) ≡ PolicyIs p
  pub threads : ThreadsRead before after
  pub objects : ObjectsRead before after Every
  pub dpcs : DpcsRead before after Every

-- ---- memory given back

-- every timer and every DPC that has a byte in the memory is unknown, and all else reads as before
pub record TimersGone (before after : List ℕ) (address size : ℕ) : Type 0 where
  pub timer_gone : (k : ℕ) (x : Timer) → TimerRead before k x → Meets address size k (timer_bytes x.architecture) → answered after (call.Reads (call.TimerAt k)) ≡ Refused 2
  pub timer_stays : (k : ℕ) → ((x : Timer) → TimerRead before k x → Meets address size k (timer_bytes x.architecture) → ⊥) → Same before after (call.TimerAt k)
  pub dpc_gone : (a : ℕ) (x : Dpc) → DpcRead before a x → Meets address size a (dpc_bytes x.architecture) → answered after (call.Reads (call.DpcAt a)) ≡ Refused 2
  pub dpc_stays : (a : ℕ) → ((x : Dpc) → DpcRead before a x → Meets address size a (dpc_bytes x.architecture) → ⊥) → Same before after (call.DpcAt a)
  pub events : (k : ℕ) → Same before after (call.EventState k)
  pub mutexes : (k : ℕ) → Same before after (call.MutexOwner k)
  pub queue : (k : ℕ) → Same before after (call.QueuedDpcs k)
  pub counters : Same before after call.DpcCounters
  pub threads : ThreadsRead before after

-- every event, of so many bytes, that has one in the memory is gone, and all else reads as before
pub record EventsGone (before after : List ℕ) (base size layout : ℕ) : Type 0 where
  pub event_gone : (k : ℕ) (x : Event) → EventRead before k x → Meets base size k layout → answered after (call.Reads (call.EventState k)) ≡ None
  pub event_stays : (k : ℕ) → ((x : Event) → EventRead before k x → Meets base size k layout → ⊥) → Same before after (call.EventState k)
  pub mutexes : (k : ℕ) → Same before after (call.MutexOwner k)
  pub timers : (k : ℕ) → Same before after (call.TimerAt k)
  pub dpcs : DpcsRead before after Every
  pub threads : ThreadsRead before after
