-- What a call leaves: records written out field by field, what stays as it was, and what becomes of each thread.
use Rattle.std.specs.Prelude.{ℕ, ◌+◌, ◌*◌, ◌≤◌, ◌<◌, List, Bool, true, false, cond, ◌≡◌, length, get_or}
use Rattle.std.proofs.Math.Option.{Option, none, some}
use Rattle.arch.specs.declared.Architecture.{Architecture}
use Rattle.arch.specs.declared.Architecture.TheVariants.{X64, X86}
use Rattle.images.specs.declared.TimerBacking.{TimerBacking}
use Rattle.images.specs.declared.Timer.{Timer}
use Rattle.images.specs.declared.Dpc.{Dpc}
use Rattle.images.specs.declared.DpcWork.{DpcWork}
use Rattle.images.specs.declared.DpcPhase.TheVariants.{Idle, Queued}
use Rattle.model.specs.Lists.{nth}
use Rattle.model.specs.State.{State, Thread, Wait, WaitResult, running, ready, waiting, exited, satisfied, timeout, Named, Event, Object, Counters, Policy, unselected}
use Rattle.model.specs.Threads.{is_thread, thread_of, status_of}
use Rattle.model.specs.Waits.{object_at, mutex_at, event_at, timer_at}
use Rattle.model.specs.Dpcs.{dpc_at}
use Rattle.model.specs.Answer.{Answer, Satisfied, Timeout, Blocked}
use Rattle.model.specs.Wakes.{timer_with}
use Rattle.model.specs.Acceptance.{OwnWork}

-- ---- threads

-- it has exited with the status; the rest as it was
abbrev pub exited_with : ℕ → Thread → Thread
exited_with n x = record { priority = x.priority; status = exited n; result = x.result }

-- it runs, and its last wait ended so
abbrev pub runs_after : WaitResult → Thread → Thread
runs_after r x = record { priority = x.priority; status = running; result = some r }

-- it is ready, and its last wait ended so
abbrev pub ready_after : WaitResult → Thread → Thread
ready_after r x = record { priority = x.priority; status = ready; result = some r }

-- it waits, with no result yet
abbrev pub waits_with : Wait → Thread → Thread
waits_with w x = record { priority = x.priority; status = waiting w; result = none }

-- it has the priority; the rest as it was
abbrev pub given_priority : ℕ → Thread → Thread
given_priority p x = record { priority = p; status = x.status; result = x.result }

-- a new thread is ready, and has not waited
abbrev pub fresh_thread : ℕ → Thread
fresh_thread p = record { priority = p; status = ready; result = none }

-- ---- mutexes

-- the owner that a mutex keeps: a thread's number, 0 for none
abbrev pub kept_owner : Option ℕ → ℕ
kept_owner none = 0
kept_owner (some i) = i

-- ---- timers and DPCs

-- set: not signaled, inserted, with that due, period and DPC, one arm later; the rest as it was
abbrev pub set_with : Timer → ℕ → Bool → ℕ → ℕ → Timer
set_with x due absolute period dpc =
    record {
      address = x.address;
      architecture = x.architecture;
      backing = x.backing;
      manual_reset = x.manual_reset;
      signaled = false;
      inserted = true;
      due = due;
      period_ms = period;
      dpc = dpc;
      absolute = absolute;
      arm_generation = x.arm_generation + 1;
      initialization = x.initialization;
    }

-- not inserted; the rest as it was
abbrev pub taken_out : Timer → Timer
taken_out x = timer_with x x.signaled false x.due

-- a new timer: neither signaled nor inserted, never set, with the number of its initialization
abbrev pub fresh_timer : ℕ → Architecture → TimerBacking → Bool → ℕ → Timer
fresh_timer address a b manual n =
    record {
      address = address;
      architecture = a;
      backing = b;
      manual_reset = manual;
      signaled = false;
      inserted = false;
      due = 0;
      period_ms = 0;
      dpc = 0;
      absolute = false;
      arm_generation = 0;
      initialization = n;
    }

-- a new DPC is idle, with its routine and its context
abbrev pub fresh_dpc : ℕ → Architecture → TimerBacking → ℕ → ℕ → Dpc
fresh_dpc address a b routine context = record { address = address; architecture = a; backing = b; routine = routine; context = context; phase = Idle }

-- one removal more; the other counts as they were
abbrev pub one_more_removed : Counters → Counters
one_more_removed c = record { accepted = c.accepted; duplicates = c.duplicates; removed = c.removed + 1; started = c.started; returned = c.returned; restored = c.restored }

-- ---- one record changed

-- the thread of a number, if one has it
abbrev pub thread_numbered : State → ℕ → Option Thread
thread_numbered s i = cond (is_thread s.dispatcher i) (some (thread_of s.dispatcher i)) none

-- the threads are as they were, and the same one is current
pub record SameThreads (before after : State) : Type 0 where
  pub threads : after.dispatcher.threads ≡ before.dispatcher.threads
  pub current : after.dispatcher.current ≡ before.dispatcher.current

-- thread `i` is `x`, and every other as it was
pub record ThreadPut (before after : State) (i : ℕ) (x : Thread) : Type 0 where
  pub own : thread_numbered after i ≡ some x
  pub others : (j : ℕ) → (j ≡ i → ⊥) → thread_numbered after j ≡ thread_numbered before j

-- the object with this key is `x`, and every other as it was; so are the threads
pub record ObjectPut (before after : State) (key : ℕ) (x : Object) : Type 0 where
  pub own : object_at after.dispatcher.objects key ≡ some x
  pub others : (k : ℕ) → (k ≡ key → ⊥) → object_at after.dispatcher.objects k ≡ object_at before.dispatcher.objects k
  pub threads : SameThreads before after

-- that, and the DPCs and the policy are as they were
pub record Leaves (before after : State) (key : ℕ) (x : Object) : Type 0 where
  pub object : ObjectPut before after key x
  pub dpcs : after.dpcs ≡ before.dpcs
  pub policy : after.policy ≡ before.policy

-- the DPC at this address is `x`, and every other as it was; so are the queue, the counts, the objects and the threads
pub record DpcPut (before after : State) (address : ℕ) (x : Dpc) : Type 0 where
  pub own : dpc_at after.dpcs.table address ≡ some x
  pub others : (a : ℕ) → (a ≡ address → ⊥) → dpc_at after.dpcs.table a ≡ dpc_at before.dpcs.table a
  pub queue : after.dpcs.queue ≡ before.dpcs.queue
  pub counters : after.dpcs.counters ≡ before.dpcs.counters
  pub objects : after.dispatcher.objects ≡ before.dispatcher.objects
  pub threads : SameThreads before after

-- thread `i` is `x`; every other thread, the current one, the objects and the DPCs are as they were
pub record OneThread (before after : State) (i : ℕ) (x : Thread) : Type 0 where
  pub thread : ThreadPut before after i x
  pub current : after.dispatcher.current ≡ before.dispatcher.current
  pub objects : after.dispatcher.objects ≡ before.dispatcher.objects
  pub dpcs : after.dpcs ≡ before.dpcs

-- a thread has the new number `i`, which nobody had
pub record Creates (before after : State) (p i : ℕ) : Type 0 where
  pub new : thread_numbered before i ≡ none
  pub one : OneThread before after i (fresh_thread p)

-- what becomes of the thread of a number
abbrev pub Becomes : (Thread → Thread → Type 0) → State → State → ℕ → Type 0
Becomes R before after j = (y : Thread) → thread_numbered before j ≡ some y → (z : Thread) × (thread_numbered after j ≡ some z) × R y z

-- the policy alone has changed
pub record PolicySet (before after : State) (p : Policy) : Type 0 where
  pub policy : after.policy ≡ p
  pub threads : SameThreads before after
  pub objects : after.dispatcher.objects ≡ before.dispatcher.objects
  pub dpcs : after.dpcs ≡ before.dpcs

-- ---- a wait of the current thread

-- the objects that a wait's list names, in its order: kinds and keys in turn
pub record Names (l : List ℕ) (objects : List Named) : Type 0 where
  pub named : (k : ℕ) → 2 * k + 1 < length l → nth objects k ≡ some (record { kind = get_or l (2 * k) 0; key = get_or l (2 * k + 1) 0 })
  pub no_more : (k : ℕ) → length l ≤ 2 * k + 1 → nth objects k ≡ none

-- it goes on, with this result
pub record GoesOn (before after : State) (i : ℕ) (x : Thread) (r : WaitResult) : Type 0 where
  pub thread : ThreadPut before after i (runs_after r x)
  pub current : after.dispatcher.current ≡ i

-- it waits for just these objects until the deadline, as the last of all that wait; none is current, and no object is touched
pub record Blocks (before after : State) (i : ℕ) (x : Thread) (objects : List Named) (all : Bool) (deadline : Option ℕ) : Type 0 where
  pub sequence : ℕ
  pub thread : ThreadPut before after i (waits_with (record { objects = objects; all = all; deadline = deadline; sequence = sequence }) x)
  pub last : (j : ℕ) (y : Wait) → status_of before.dispatcher j ≡ waiting y → y.sequence < sequence
  pub current : after.dispatcher.current ≡ 0
  pub untouched : after.dispatcher.objects ≡ before.dispatcher.objects

-- not granted: a timeout, at a deadline that is not ahead, or it blocks; no object is touched
pub data Ungranted (before after : State) (i : ℕ) (x : Thread) (objects : List Named) (all : Bool) (deadline : Option ℕ) (answer : Answer) : Type 0 where
  times-out : answer ≡ Timeout → (end : ℕ) → deadline ≡ some end → end ≤ before.now → GoesOn before after i x timeout → after.dispatcher.objects ≡ before.dispatcher.objects
      → Ungranted before after i x objects all deadline answer
  blocks : answer ≡ Blocked → ((end : ℕ) → deadline ≡ some end → before.now < end) → Blocks before after i x objects all deadline → Ungranted before after i x objects all deadline answer

-- granted or not: the thread's result is what the wait answers
pub data WaitLeaves (before after : State) (i : ℕ) (x : Thread) (objects : List Named) (all : Bool) (deadline : Option ℕ) (answer : Answer) : Type 0 where
  grants : (k : ℕ) → answer ≡ Satisfied k → GoesOn before after i x (satisfied k) → WaitLeaves before after i x objects all deadline answer
  otherwise : Ungranted before after i x objects all deadline answer → WaitLeaves before after i x objects all deadline answer

-- ---- a wake pass and the timeouts

-- what a waiting thread was granted its wait by: a thing of its list that the call has freed; the index is its place for "any", and 0 for "all"
pub record GrantedBy (Freed : Named → Type 0) (w : Wait) (k : ℕ) : Type 0 where
  pub place : ℕ
  pub which : Named
  pub named : nth w.objects place ≡ some which
  pub freed : Freed which
  pub index : k ≡ cond w.all 0 place

-- what a wake pass leaves of a thread: all of it, or it waited for what the call has freed and is ready with the index of its wait
pub data AfterWake (Freed : Named → Type 0) (before after : Thread) : Type 0 where
  same : after ≡ before → AfterWake Freed before after
  woken : (w : Wait) → before.status ≡ waiting w → (k : ℕ) → GrantedBy Freed w k → after ≡ ready_after (satisfied k) before → AfterWake Freed before after

-- what an advance to `time` leaves of a thread: all of it, and then its deadline, if it waits and has one, is ahead; or it waited and is
-- ready, with the index of its wait, or with a timeout at a deadline that is reached
pub data AfterAdvance (Freed : Named → Type 0) (time : ℕ) (before after : Thread) : Type 0 where
  same : after ≡ before → ((w : Wait) (d : ℕ) → before.status ≡ waiting w → w.deadline ≡ some d → time < d) → AfterAdvance Freed time before after
  woken : (w : Wait) → before.status ≡ waiting w → (k : ℕ) → GrantedBy Freed w k → after ≡ ready_after (satisfied k) before → AfterAdvance Freed time before after
  timed-out : (w : Wait) → before.status ≡ waiting w → (d : ℕ) → w.deadline ≡ some d → d ≤ time → after ≡ ready_after timeout before → AfterAdvance Freed time before after

-- the one thing that a call frees: the mutex, the event, the thread with this number
abbrev pub ThatMutex : ℕ → Named → Type 0
ThatMutex key n = n ≡ record { kind = 0; key = key }

abbrev pub ThatEvent : ℕ → Named → Type 0
ThatEvent key n = n ≡ record { kind = 1; key = key }

abbrev pub ThatThread : ℕ → Named → Type 0
ThatThread i n = n ≡ record { kind = 3; key = i }

-- what an advance frees: a timer that was inserted, with a due at or before the time
pub record DueTimer (s : State) (time : ℕ) (n : Named) : Type 0 where
  pub kind : n.kind ≡ 2
  pub timer : Timer
  pub found : timer_at s.dispatcher.objects n.key ≡ some timer
  pub inserted : timer.inserted ≡ true
  pub due : timer.due ≤ time

-- the thread has exited with the status, and none is current; of the others some may have been woken
pub record Exits (before after : State) (i n : ℕ) (x : Thread) : Type 0 where
  pub own : thread_numbered after i ≡ some (exited_with n x)
  pub current : after.dispatcher.current ≡ 0
  pub others : (j : ℕ) → (j ≡ i → ⊥) → Becomes (AfterWake (ThatThread i)) before after j

-- the thread is ready, and none is current; the objects and the DPCs are as they were
pub record Yields (before after : State) (i : ℕ) (x : Thread) : Type 0 where
  pub thread : ThreadPut before after i (record { priority = x.priority; status = ready; result = x.result })
  pub current : after.dispatcher.current ≡ 0
  pub objects : after.dispatcher.objects ≡ before.dispatcher.objects
  pub dpcs : after.dpcs ≡ before.dpcs

-- ---- a cancel

-- the work that the timer has put into its DPC's queue, under a policy
pub record OwnQueued (s : State) (x : Timer) (d : Dpc) (k : DpcWork) : Type 0 where
  pub inserted : x.inserted ≡ true
  pub policy : s.policy ≡ unselected → ⊥
  pub some_dpc : x.dpc ≡ 0 → ⊥
  pub found : dpc_at s.dpcs.table x.dpc ≡ some d
  pub queued : d.phase ≡ Queued k
  pub own : OwnWork x k

-- the DPC is idle, the others are as they were, and there is one removal more
pub record Removed (before after : State) (d : Dpc) : Type 0 where
  pub own : dpc_at after.dpcs.table d.address ≡ some (fresh_dpc d.address d.architecture d.backing d.routine d.context)
  pub others : (a : ℕ) → (a ≡ d.address → ⊥) → dpc_at after.dpcs.table a ≡ dpc_at before.dpcs.table a
  pub counters : after.dpcs.counters ≡ one_more_removed before.dpcs.counters

-- a cancel removes that work and no other
pub data CancelsWork (before after : State) (x : Timer) : Type 0 where
  removes : (d : Dpc) (k : DpcWork) → OwnQueued before x d k → Removed before after d → CancelsWork before after x
  leaves : ((d : Dpc) (k : DpcWork) → OwnQueued before x d k → ⊥) → after.dpcs ≡ before.dpcs → CancelsWork before after x

-- ---- memory given back

-- some byte of the `n` at `a` is one of the `m` at `b`
pub record Meets (a n b m : ℕ) : Type 0 where
  pub byte : ℕ
  pub from : a ≤ byte
  pub to : byte < a + n
  pub from_other : b ≤ byte
  pub to_other : byte < b + m

-- "timer size 64/40 .. DPC size 64/32 .. (x64/x86)"
abbrev pub timer_bytes : Architecture → ℕ
timer_bytes X64 = 64
timer_bytes X86 = 40

abbrev pub dpc_bytes : Architecture → ℕ
dpc_bytes X64 = 64
dpc_bytes X86 = 32

-- every timer and every DPC that has a byte in the memory is gone, and nothing else
pub record TimersRetired (before after : State) (address size : ℕ) : Type 0 where
  pub timer_gone : (k : ℕ) (x : Timer) → timer_at before.dispatcher.objects k ≡ some x → Meets address size k (timer_bytes x.architecture) → timer_at after.dispatcher.objects k ≡ none
  pub timer_stays : (k : ℕ) → ((x : Timer) → timer_at before.dispatcher.objects k ≡ some x → Meets address size k (timer_bytes x.architecture) → ⊥)
      → timer_at after.dispatcher.objects k ≡ timer_at before.dispatcher.objects k
  pub events : (k : ℕ) → event_at after.dispatcher.objects k ≡ event_at before.dispatcher.objects k
  pub mutexes : (k : ℕ) → mutex_at after.dispatcher.objects k ≡ mutex_at before.dispatcher.objects k
  pub dpc_gone : (a : ℕ) (x : Dpc) → dpc_at before.dpcs.table a ≡ some x → Meets address size a (dpc_bytes x.architecture) → dpc_at after.dpcs.table a ≡ none
  pub dpc_stays : (a : ℕ) → ((x : Dpc) → dpc_at before.dpcs.table a ≡ some x → Meets address size a (dpc_bytes x.architecture) → ⊥)
      → dpc_at after.dpcs.table a ≡ dpc_at before.dpcs.table a
  pub queue : after.dpcs.queue ≡ before.dpcs.queue
  pub counters : after.dpcs.counters ≡ before.dpcs.counters
  pub threads : SameThreads before after

-- every event, of so many bytes, that has one in the memory is gone, and nothing else
pub record EventsRetired (before after : State) (base size layout : ℕ) : Type 0 where
  pub event_gone : (k : ℕ) (x : Event) → event_at before.dispatcher.objects k ≡ some x → Meets base size k layout → event_at after.dispatcher.objects k ≡ none
  pub event_stays : (k : ℕ) → ((x : Event) → event_at before.dispatcher.objects k ≡ some x → Meets base size k layout → ⊥)
      → event_at after.dispatcher.objects k ≡ event_at before.dispatcher.objects k
  pub mutexes : (k : ℕ) → mutex_at after.dispatcher.objects k ≡ mutex_at before.dispatcher.objects k
  pub timers : (k : ℕ) → timer_at after.dispatcher.objects k ≡ timer_at before.dispatcher.objects k
  pub dpcs : after.dpcs ≡ before.dpcs
  pub threads : SameThreads before after
