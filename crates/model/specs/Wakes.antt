-- What `set_event`, `release_mutex`, `terminate` and `advance_to` do for the threads that wait, by what the reads answer before the call and after it.
use Rattle.std.specs.Prelude.{ℕ, ◌+◌, ◌*◌, ◌≤◌, ◌<◌, [], Bool, true, false, cond, ◌⊎◌, ◌≡◌}
use Rattle.std.proofs.Math.Option.{some}
use Rattle.images.specs.declared.Timer.{Timer}
use Rattle.model.specs.Lists.{Mem, nth}
use Rattle.model.specs.State.{State, Thread, ready, waiting, exited, satisfied, Wait, Named, Event}
use Rattle.model.specs.Answer.{Answer, None, ThreadNumber, ThreadIs, EventIs, TimerIs}
use Rattle.model.specs.Call.{Call, Read, SetEvent, ReleaseMutex, Terminate, AdvanceTo}
use Rattle.model.specs.Call as call
use Rattle.model.specs.Step.{step}

-- what each read answers
abbrev pub Readings : Type 0
Readings = Read → Answer

-- .. on a state of the log
abbrev pub readings_of : State → Readings
readings_of s r = (step (call.Reads r) s).answer

-- a mutex, an event, a timer, a thread as a wait's list names it
abbrev pub mutex_named : ℕ → Named
mutex_named key = record { kind = 0; key = key }

-- an event
abbrev pub event_named : ℕ → Named
event_named key = record { kind = 1; key = key }

-- a timer
abbrev pub timer_named : ℕ → Named
timer_named address = record { kind = 2; key = address }

-- a thread
abbrev pub thread_named : ℕ → Named
thread_named i = record { kind = 3; key = i }

-- ---- threads

-- the thread waits, with this wait
pub record Waits (a : Readings) (i : ℕ) (y : Wait) : Type 0 where
  pub thread : Thread
  pub read : a (call.Thread i) ≡ ThreadIs i thread
  pub waits : thread.status ≡ waiting y

-- it waited before, is ready after, and its wait was satisfied with this index
pub record Woken (a b : Readings) (i : ℕ) (y : Wait) (k : ℕ) : Type 0 where
  pub waited : Waits a i y
  pub thread : Thread
  pub read : b (call.Thread i) ≡ ThreadIs i thread
  pub is-ready : thread.status ≡ ready
  pub result : thread.result ≡ some (satisfied k)

-- .. by this object: "any" answers its place in the list, "all" answers 0
pub record WokenBy (a b : Readings) (n : Named) (i : ℕ) (y : Wait) : Type 0 where
  pub place : ℕ
  pub named : nth y.objects place ≡ some n
  pub woken : Woken a b i y (cond y.all 0 place)

-- ---- objects

-- "Available: a mutex without owner, a signaled event or timer, an exited thread."
pub data Available (a : Readings) (n : Named) : Type 0 where
  unowned : n.kind ≡ 0 → a (call.MutexOwner n.key) ≡ None → Available a n
  signaled : (e : Event) → n.kind ≡ 1 → a (call.EventState n.key) ≡ EventIs e → e.signaled ≡ true → Available a n
  expired : (t : Timer) → n.kind ≡ 2 → a (call.TimerAt n.key) ≡ TimerIs t → t.signaled ≡ true → Available a n
  ended : (x : Thread) (status : ℕ) → n.kind ≡ 3 → a (call.Thread n.key) ≡ ThreadIs n.key x → x.status ≡ exited status → Available a n

-- what the call makes available: the event that is set, the mutex that is released, the current thread, the inserted timers that are due by the time
pub data Freed (a : Readings) (c : Call) (n : Named) : Type 0 where
  by_set : (key : ℕ) → c ≡ SetEvent key → n ≡ event_named key → Freed a c n
  by_release : (key : ℕ) → c ≡ ReleaseMutex key → n ≡ mutex_named key → Freed a c n
  by_exit : (status i : ℕ) → c ≡ Terminate status → a call.Current ≡ ThreadNumber i → n ≡ thread_named i → Freed a c n
  by_expiry : (time : ℕ) (t : Timer) → c ≡ AdvanceTo time → n.kind ≡ 2 → a (call.TimerAt n.key) ≡ TimerIs t → t.inserted ≡ true → t.due ≤ time → Freed a c n

-- the thread has it: it owns the mutex; an auto-reset event or timer is cleared, any other is signaled still; a thread has exited
pub data Took (b : Readings) (i : ℕ) (n : Named) : Type 0 where
  owns : n.kind ≡ 0 → b (call.MutexOwner n.key) ≡ ThreadNumber i → Took b i n
  event : (e : Event) → n.kind ≡ 1 → b (call.EventState n.key) ≡ EventIs e → e.signaled ≡ e.manual → Took b i n
  timer : (t : Timer) → n.kind ≡ 2 → b (call.TimerAt n.key) ≡ TimerIs t → t.signaled ≡ t.manual_reset → Took b i n
  thread : (x : Thread) (status : ℕ) → n.kind ≡ 3 → b (call.Thread n.key) ≡ ThreadIs n.key x → x.status ≡ exited status → Took b i n

-- it goes to one thread alone: a mutex, an auto-reset event or timer
pub data Single (b : Readings) (n : Named) : Type 0 where
  mutex : n.kind ≡ 0 → Single b n
  event : (e : Event) → n.kind ≡ 1 → b (call.EventState n.key) ≡ EventIs e → e.manual ≡ false → Single b n
  timer : (t : Timer) → n.kind ≡ 2 → b (call.TimerAt n.key) ≡ TimerIs t → t.manual_reset ≡ false → Single b n

-- it wakes no thread
abbrev pub Untaken : Readings → Readings → Named → Type 0
Untaken a b n = (i : ℕ) (y : Wait) → WokenBy a b n i y → ⊥

-- a thread with a lesser wait sequence was woken by it, and it goes to one alone
pub record TakenFirst (a b : Readings) (sequence : ℕ) (n : Named) : Type 0 where
  pub number : ℕ
  pub for : Wait
  pub earlier : for.sequence < sequence
  pub got : WokenBy a b n number for
  pub single : Single b n

-- ---- timers

-- with another signal, insertion and due; the rest as it was
abbrev pub timer_with : Timer → Bool → Bool → ℕ → Timer
timer_with t signal inserted due =
    record {
      address = t.address;
      architecture = t.architecture;
      backing = t.backing;
      manual_reset = t.manual_reset;
      signaled = signal;
      inserted = inserted;
      due = due;
      period_ms = t.period_ms;
      dpc = t.dpc;
      absolute = t.absolute;
      arm_generation = t.arm_generation;
      initialization = t.initialization;
    }

-- what an advance to `time` makes of a timer that is due by then, but for its signal, which a woken thread may have taken. Without a period it is
-- inserted no more. With one, of ms of 10,000 ticks, it is due again: at the first time ahead that is whole periods after its due
pub data Expires (time : ℕ) (t u : Timer) : Type 0 where
  once : t.period_ms ≡ 0 → u ≡ timer_with t u.signaled false t.due → Expires time t u
  again : (n : ℕ) → (t.period_ms ≡ 0 → ⊥) → time < t.due + n * (10000 * t.period_ms) → t.due + n * (10000 * t.period_ms) ≤ time + 10000 * t.period_ms
      → u ≡ timer_with t u.signaled true (t.due + n * (10000 * t.period_ms)) → Expires time t u

-- ---- the calls that run a wake pass

pub data RunsPass (c : Call) : Type 0 where
  set_event : (key : ℕ) → c ≡ SetEvent key → RunsPass c
  release-mutex : (key : ℕ) → c ≡ ReleaseMutex key → RunsPass c
  terminate : (status : ℕ) → c ≡ Terminate status → RunsPass c
  advance-to : (time : ℕ) → c ≡ AdvanceTo time → RunsPass c

abbrev pub Advances : Call → Type 0
Advances c = (time : ℕ) × (c ≡ AdvanceTo time)

-- one of them, `a` before and `b` after
pub record WakePass (a b : Readings) (c : Call) : Type 0 where
  -- a wait for any was satisfied by what the call made available, and the thread has taken it
  pub any_took : (i : ℕ) (y : Wait) (k : ℕ) → Woken a b i y k → y.all ≡ false → (n : Named) × (nth y.objects k ≡ some n) × (Freed a c n) × Took b i n
  -- for all: every listed object was available or made so, and the thread has taken each
  pub all_took : (i : ℕ) (y : Wait) (k : ℕ) → Woken a b i y k → y.all ≡ true → (k ≡ 0) × ((n : Named) → Mem n y.objects → (Available a n ⊎ Freed a c n) × Took b i n)
  -- what has woken two threads is available still
  pub shared : (n : Named) (i j : ℕ) (y z : Wait) → WokenBy a b n i y → WokenBy a b n j z → (i ≡ j) ⊎ Available b n
  -- what wakes no thread is available if the call made it so, and else as it was
  pub freed_stays : (n : Named) → Freed a c n → Untaken a b n → Available b n
  pub same_mutex : (key : ℕ) → (Freed a c (mutex_named key) → ⊥) → Untaken a b (mutex_named key) → b (call.MutexOwner key) ≡ a (call.MutexOwner key)
  pub same_event : (key : ℕ) → (Freed a c (event_named key) → ⊥) → Untaken a b (event_named key) → b (call.EventState key) ≡ a (call.EventState key)
  pub same_timer : (address : ℕ) → (Freed a c (timer_named address) → ⊥) → Untaken a b (timer_named address) → b (call.TimerAt address) ≡ a (call.TimerAt address)
  -- nothing else becomes available: no other thread exits, no other mutex is released
  pub nothing_else : (n : Named) → Available b n → Available a n ⊎ Freed a c n
  -- of an event the signal alone may change, and of a timer that does not expire; a timer that is due expires
  pub only_signal : (key : ℕ) (e : Event) → a (call.EventState key) ≡ EventIs e → (x : Bool) × (b (call.EventState key) ≡ EventIs (record { key = e.key; manual = e.manual; signaled = x }))
  pub timer_stays : (address : ℕ) (t : Timer) → a (call.TimerAt address) ≡ TimerIs t
      → (u : Timer) × (b (call.TimerAt address) ≡ TimerIs u) × ((Freed a c (timer_named address) → ⊥) → u ≡ timer_with t u.signaled t.inserted t.due)
      × ((time : ℕ) → c ≡ AdvanceTo time → t.inserted ≡ true → t.due ≤ time → Expires time t u)
  -- only an advance touches DPCs
  pub same_dpc : Advances c ⊎ ((address : ℕ) → b (call.DpcAt address) ≡ a (call.DpcAt address))
  pub same_queue : Advances c ⊎ ((k : ℕ) → b (call.QueuedDpcs k) ≡ a (call.QueuedDpcs k))
  pub same_counters : Advances c ⊎ (b call.DpcCounters ≡ a call.DpcCounters)
  -- what the call makes available goes to who waits for it, unless a thread with a lesser wait sequence has taken it
  pub goes_any : (i : ℕ) (y : Wait) → Waits a i y → y.all ≡ false → (k : ℕ) (n : Named) → nth y.objects k ≡ some n → Freed a c n
      → ((m : ℕ) × (m ≤ k) × Woken a b i y m) ⊎ TakenFirst a b y.sequence n
  -- .. and to who waits for all of some that are there
  pub goes_all : (i : ℕ) (y : Wait) → Waits a i y → y.all ≡ true → (y.objects ≡ [] → ⊥) → ((n : Named) → Mem n y.objects → Available a n ⊎ Freed a c n)
      → Woken a b i y 0 ⊎ ((n : Named) × (Mem n y.objects) × TakenFirst a b y.sequence n)
