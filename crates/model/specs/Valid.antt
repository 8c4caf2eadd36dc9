-- The states that calls lead to: document 01's form, as far as it concerns the state, and demand 3's clauses.
use Rattle.std.specs.Prelude.{ℕ, ◌+◌, ◌≤◌, ◌<◌, List, [], ◌∷◌, true, false, cond, ◌≡◌, length, eqb}
use Rattle.std.proofs.Math.Option.{Option, none, some}
use Rattle.images.specs.declared.Dpc.{Dpc}
use Rattle.images.specs.declared.DpcWork.{DpcWork}
use Rattle.images.specs.declared.DpcPhase.TheVariants.{Queued}
use Rattle.images.specs.Place.{location_refusal, timer_size, dpc_size}
use Rattle.model.specs.Lists.{Mem, Distinct, member, count_of, present}
use Rattle.model.specs.Table.{find, Rising}
use Rattle.model.specs.State.{most_threads, State, Limits, Dispatcher, Thread, Status, running, ready, waiting, exited, Wait, Named, Object, Counters, Policy, unselected, cpu0_dispatch}
use Rattle.model.specs.Threads.{count, thread_at, status_of, priority_of, is_ready, is_waiting, is_running, is_live, wait_of}
use Rattle.model.specs.Waits.{key_of, on_mutex, on_timer, exists, can_wake, reached}
use Rattle.model.specs.Dpcs.{address_of, dpc_at, phase_at, is_queued, is_active, is_returning, is_from, work_of}
use Rattle.model.specs.Timers.{lifetime}
use Rattle.model.specs.Refusal.{has_duplicate}

-- the values of `f` rise along the list, so none stands twice
abbrev pub RisingBy : (ℕ → ℕ) → List ℕ → Type 0
RisingBy f [] = Unit
RisingBy f (x ∷ xs) = ((y : ℕ) → Mem y xs → f x < f y) × RisingBy f xs

-- every record of a table
module _ {A : Type 0} (key : A → ℕ) where
  -- what holds of every record that is found
  abbrev pub Each : List A → (A → Type 0) → Type 0
  Each l P = (k : ℕ) (x : A) → find key l k ≡ some x → P x

-- ---- "limits .. pass their checks"

-- threads 1 to the largest number, objects and DPCs at most 4096
pub record LimitsValid (l : Limits) : Type 0 where
  pub some_thread : 1 ≤ l.threads
  pub threads : l.threads ≤ most_threads
  pub objects : l.objects ≤ 4096
  pub dpcs : l.dpcs ≤ 4096

-- ---- threads

-- the wait sequence of a thread
abbrev pub sequence_at : List Thread → ℕ → ℕ
sequence_at l i = (wait_of (thread_at l i).status).sequence

-- where the threads stand
pub record Standing (threads : List Thread) (placed waiters : List ℕ) (current sequence : ℕ) : Type 0 where
  -- ready threads are exactly the placed ones, once each
  pub placed_ready : (i : ℕ) → member i placed ≡ is_ready (thread_at threads i).status
  pub placed_once : Distinct placed
  -- waiters are exactly the waiting threads, rising by sequence; "wait sequences are distinct and below the next"
  pub waiters_waiting : (i : ℕ) → member i waiters ≡ is_waiting (thread_at threads i).status
  pub waiters_rising : RisingBy (sequence_at threads) waiters
  pub below : (i : ℕ) → Mem i waiters → sequence_at threads i < sequence
  -- "only the current one runs"
  pub current_runs : (i : ℕ) → 1 ≤ i → eqb i current ≡ is_running (thread_at threads i).status

-- "waited objects exist, no wait list names an object twice"; at most 64 of kinds 0 to 3; a delay has a deadline
pub record WaitValid (d : Dispatcher) (w : Wait) : Type 0 where
  pub few : length w.objects ≤ 64
  pub kinds : (n : Named) → Mem n w.objects → n.kind ≤ 3
  pub once : has_duplicate w.objects ≡ false
  pub exist : (n : Named) → Mem n w.objects → exists d n ≡ true
  pub delay : w.objects ≡ [] → present w.deadline ≡ true

-- what a waiting thread waits for is in order
abbrev pub WaitingValid : Dispatcher → Status → Type 0
WaitingValid d running = Unit
WaitingValid d ready = Unit
WaitingValid d (waiting w) = WaitValid d w
WaitingValid d (exited n) = Unit

-- "owners are live"
abbrev pub OwnerLive : Dispatcher → Object → Type 0
OwnerLive d = on_mutex Unit (λ m. cond (eqb m.owner 0) true (is_live d m.owner) ≡ true)

-- "stored numbers pass their checks (16 is none of these)": no mutex or event at 0, and 15 for a timer
abbrev pub Placed : Object → Type 0
Placed x = on_timer (key_of x ≡ 0 → ⊥) (λ t. location_refusal t.address (timer_size t.architecture) t.architecture t.backing ≡ 0) x

-- the threads and the objects, in the midst of a call too
pub record Sound (l : Limits) (d : Dispatcher) : Type 0 where
  pub some : 1 ≤ count d
  pub few : count d ≤ l.threads
  pub priorities : (i : ℕ) → 1 ≤ i → i ≤ count d → (1 ≤ priority_of d i) × (priority_of d i ≤ 31)
  pub standing : Standing d.threads d.placed d.waiters d.current d.sequence
  pub waits : (i : ℕ) → WaitingValid d (status_of d i)
  pub owners : Each key_of d.objects (OwnerLive d)
  pub rising : Rising key_of d.objects
  pub room : length d.objects ≤ l.objects
  pub places : Each key_of d.objects Placed

-- demand 3: no waiter that could be satisfied is left waiting; a delay waits for no object
abbrev pub Quiet : Dispatcher → Type 0
Quiet d = (i : ℕ) → can_wake d (wait_of (status_of d i)) ≡ false

-- demand 3: no reached deadline is left
abbrev pub InTime : ℕ → Dispatcher → Type 0
InTime now d = (i : ℕ) → reached (wait_of (status_of d i)).deadline now ≡ false

-- ---- DPCs

-- the sequence of the work at an address
abbrev pub sequence_of : Option DpcWork → ℕ
sequence_of none = 0
sequence_of (some w) = w.sequence

-- by the address of its DPC
abbrev pub work_at : List Dpc → ℕ → ℕ
work_at l a = sequence_of (work_of (phase_at l a))

-- how much work is running or returning, and how much is returning
abbrev pub active_count : List Dpc → ℕ
active_count l = count_of (λ (d : Dpc). is_active d.phase) l

-- the returning work
abbrev pub returning_count : List Dpc → ℕ
returning_count l = count_of (λ (d : Dpc). is_returning d.phase) l

-- 15 for a DPC
abbrev pub DpcPlaced : Dpc → Type 0
DpcPlaced d = location_refusal d.address (dpc_size d.architecture) d.architecture d.backing ≡ 0

-- the DPCs, their queue and their counts
pub record Queueing (limit : ℕ) (table : List Dpc) (queue : List ℕ) (c : Counters) : Type 0 where
  pub rising : Rising address_of table
  pub room : length table ≤ limit
  pub places : Each address_of table DpcPlaced
  -- the queue holds each queued DPC once, by acceptance
  pub queued : (a : ℕ) → member a queue ≡ is_queued (phase_at table a)
  pub once : Distinct queue
  pub by_acceptance : RisingBy (work_at table) queue
  -- "no queued or active work bears a sequence not yet given"
  pub given_out : (a : ℕ) → work_at table a ≤ c.accepted
  pub lived : c.accepted ≤ lifetime
  -- acceptances = removals + restorations + queued + active work
  pub sum : c.accepted ≡ c.removed + c.restored + length queue + active_count table
  -- "starts less restorations is the active work, at most one, and returns less restorations the returning work"
  pub starts : c.started ≡ c.restored + active_count table
  pub one_active : active_count table ≤ 1
  pub returns : c.returned ≡ c.restored + returning_count table

-- ---- timers and their DPCs

-- "an inserted timer's DPC, if any, exists", and work of it that is queued is the timer's own
abbrev pub Served : List Dpc → Object → Type 0
Served table = on_timer Unit (λ t.
    t.inserted ≡ true → (t.dpc ≡ 0 → ⊥)
    → (present (dpc_at table t.dpc) ≡ true) × ((w : DpcWork) → phase_at table t.dpc ≡ Queued w → is_from t w.origin ≡ true))

-- ".. and serves no other"
abbrev pub Alone : Object → Object → Type 0
Alone x y = on_timer Unit (λ t. on_timer Unit (λ u. t.inserted ≡ true → u.inserted ≡ true → (t.dpc ≡ 0 → ⊥) → t.dpc ≡ u.dpc → t.address ≡ u.address) y) x

-- timers and DPCs together
pub record Linked (objects : List Object) (table : List Dpc) : Type 0 where
  pub served : Each key_of objects (Served table)
  pub alone : Each key_of objects (λ x. Each key_of objects (λ y. Alone x y))
  -- "no key stands twice"
  pub apart : (k : ℕ) → present (find key_of objects k) ≡ true → present (dpc_at table k) ≡ false

-- ---- all of it

-- the arguments are not 0 and differ
abbrev pub PolicyValid : Policy → Type 0
PolicyValid unselected = Unit
PolicyValid (cpu0_dispatch first second) = (first ≡ 0 → ⊥) × (second ≡ 0 → ⊥) × (first ≡ second → ⊥)

-- a valid state
pub record Valid (s : State) : Type 0 where
  pub limits : LimitsValid s.limits
  pub sound : Sound s.limits s.dispatcher
  pub quiet : Quiet s.dispatcher
  pub in_time : InTime s.now s.dispatcher
  pub queueing : Queueing s.limits.dpcs s.dpcs.table s.dpcs.queue s.dpcs.counters
  pub linked : Linked s.dispatcher.objects s.dpcs.table
  pub policy : PolicyValid s.policy
  pub timers_lived : s.timer_initializations ≤ lifetime
  pub dpcs_lived : s.dpc_initializations ≤ lifetime
