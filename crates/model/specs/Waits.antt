-- Objects, what a wait takes, the wake pass and the timeouts: the rest of "Waiting and dispatch".
use Rattle.std.specs.Prelude.{ℕ, suc, List, [], ◌∷◌, Bool, true, false, cond, ◌&&◌, get_or, eqb, leb}
use Rattle.std.proofs.Math.Option.{Option, none, some}
use Rattle.images.specs.declared.Timer.{Timer}
use Rattle.model.specs.Lists.{any, is_empty, present, given}
use Rattle.model.specs.Table.{find, put}
use Rattle.model.specs.State.{Dispatcher, Thread, Wait, satisfied, timeout, Named, Mutex, Event, Object, mutex, event, timer}
use Rattle.model.specs.Threads.{is_thread, has_exited, status_of, wait_of, with_objects, woken, numbers_of}

-- ---- objects

-- the key of the table: a timer's is its address
abbrev pub key_of : Object → ℕ
key_of (mutex m) = m.key
key_of (event e) = e.key
key_of (timer t) = t.address

-- "0 mutex, 1 event, 2 timer"
abbrev pub kind_of : Object → ℕ
kind_of (mutex m) = 0
kind_of (event e) = 1
kind_of (timer t) = 2

-- what is said of a mutex, and of every other kind alike
abbrev pub on_mutex {ℓ} : {A : Type ℓ} → A → (Mutex → A) → Object → A
on_mutex b f (mutex m) = f m
on_mutex b f (event e) = b
on_mutex b f (timer t) = b

-- .. of an event
abbrev pub on_event {ℓ} : {A : Type ℓ} → A → (Event → A) → Object → A
on_event b f (mutex m) = b
on_event b f (event e) = f e
on_event b f (timer t) = b

-- .. of a timer
abbrev pub on_timer {ℓ} : {A : Type ℓ} → A → (Timer → A) → Object → A
on_timer b f (mutex m) = b
on_timer b f (event e) = b
on_timer b f (timer t) = f t

-- the object with that key, of whatever kind
abbrev pub object_at : List Object → ℕ → Option Object
object_at l k = find key_of l k

-- the object, if it is of the kind
abbrev pub as_mutex : Option Object → Option Mutex
as_mutex none = none
as_mutex (some o) = on_mutex none some o

-- .. an event
abbrev pub as_event : Option Object → Option Event
as_event none = none
as_event (some o) = on_event none some o

-- .. a timer
abbrev pub as_timer : Option Object → Option Timer
as_timer none = none
as_timer (some o) = on_timer none some o

-- the mutex, the event, the timer with that key
abbrev pub mutex_at : List Object → ℕ → Option Mutex
mutex_at l k = as_mutex (object_at l k)

-- the event with that key
abbrev pub event_at : List Object → ℕ → Option Event
event_at l k = as_event (object_at l k)

-- the timer with that key
abbrev pub timer_at : List Object → ℕ → Option Timer
timer_at l k = as_timer (object_at l k)

-- a new object, or another record for one that is there
abbrev pub put_object : Object → List Object → List Object
put_object x l = put key_of x l

-- the timers, rising by address; the events, rising by key
abbrev pub timers_of : List Object → List Timer
timers_of [] = []
timers_of (o ∷ l) = on_timer (timers_of l) (λ t. t ∷ timers_of l) o

-- the events
abbrev pub events_of : List Object → List Event
events_of [] = []
events_of (o ∷ l) = on_event (events_of l) (λ e. e ∷ events_of l) o

-- the mutexes
abbrev pub mutexes_of : List Object → List Mutex
mutexes_of [] = []
mutexes_of (o ∷ l) = on_mutex (mutexes_of l) (λ m. m ∷ mutexes_of l) o

-- ---- changed records

-- a mutex with an owner
abbrev pub owned_by : ℕ → Mutex → Object
owned_by id m = mutex (record { key = m.key; owner = id })

-- the event signaled or not; the rest as it was
abbrev pub signaled_as : Bool → Event → Object
signaled_as b e = event (record { key = e.key; manual = e.manual; signaled = b })

-- a timer with another signal; the rest as it was
abbrev pub with_signal : Timer → Bool → Timer
with_signal t b =
    record {
      address = t.address;
      architecture = t.architecture;
      backing = t.backing;
      manual_reset = t.manual_reset;
      signaled = b;
      inserted = t.inserted;
      due = t.due;
      period_ms = t.period_ms;
      dpc = t.dpc;
      absolute = t.absolute;
      arm_generation = t.arm_generation;
      initialization = t.initialization;
    }

-- ---- objects as a list names them

-- the same kind and key
abbrev pub same_named : Named → Named → Bool
same_named a b = eqb a.kind b.kind && eqb a.key b.key

-- the list names it
abbrev pub listed : Named → List Named → Bool
listed n l = any (λ x. same_named x n) l

-- the object, if it is of the kind that the list says
abbrev pub of_kind : ℕ → Option Object → Option Object
of_kind k none = none
of_kind k (some o) = cond (eqb (kind_of o) k) (some o) none

-- the object that the list means
abbrev pub named_in : List Object → Named → Option Object
named_in l n = of_kind n.kind (object_at l n.key)

-- the listed object exists: a mutex, an event or a timer of the table, or a thread
abbrev pub exists : Dispatcher → Named → Bool
exists d n = cond (eqb n.kind 3) (is_thread d n.key) (present (named_in d.objects n))

-- some thread waits for it
abbrev pub waits_on : Dispatcher → Named → Bool
waits_on d n = any (λ (t : Thread). listed n (wait_of t.status).objects) d.threads

-- ---- "Available: a mutex without owner, a signaled event or timer, an exited thread."

-- "a mutex without owner, a signaled event or timer"
abbrev pub is_free : Object → Bool
is_free (mutex m) = eqb m.owner 0
is_free (event e) = e.signaled
is_free (timer t) = t.signaled

-- whether the listed object is available
abbrev pub is_available : Dispatcher → Named → Bool
is_available d n =
    cond (eqb n.kind 3)
    (cond (is_thread d n.key) (has_exited (status_of d n.key)) false)
    (given (named_in d.objects n) false is_free)

-- ---- "Taking sets a mutex's owner and clears an auto-reset event or timer."

-- what taking does to each kind
abbrev pub taken_by : ℕ → Object → Object
taken_by id (mutex m) = owned_by id m
taken_by id (event e) = signaled_as (cond e.manual e.signaled false) e
taken_by id (timer t) = timer (with_signal t (cond t.manual_reset t.signaled false))

-- an exited thread that is taken stays as it is
abbrev pub take : ℕ → List Object → Named → List Object
take id l n = given (named_in l n) l (λ o. put_object (taken_by id o) l)

-- all of the list, one after the other
abbrev pub take_every : ℕ → List Object → List Named → List Object
take_every id l [] = l
take_every id l (n ∷ ns) = take_every id (take id l n) ns

-- ---- "'Any' takes the first available in list order and answers its index; 'all' takes every one or none and answers 0."

-- every one is available
abbrev pub every_available : Dispatcher → List Named → Bool
every_available d [] = true
every_available d (n ∷ ns) = cond (is_available d n) (every_available d ns) false

-- the position of the first that is available, or how many there are
abbrev pub first_available : Dispatcher → List Named → ℕ
first_available d [] = 0
first_available d (n ∷ ns) = cond (is_available d n) 0 (suc (first_available d ns))

-- the wait can be granted
abbrev pub is_met : Dispatcher → List Named → Bool → Bool
is_met d ns all = cond all (every_available d ns) (any (is_available d) ns)

-- the index that it answers
abbrev pub index : Dispatcher → List Named → Bool → ℕ
index d ns all = cond all 0 (first_available d ns)

-- a thread is no object of the table, so to take it is to take nothing
abbrev pub no_object : Named
no_object = record { kind = 3; key = 0 }

-- the objects after it has taken what it waits for
abbrev pub takes : Dispatcher → ℕ → List Named → Bool → List Object
takes d id ns all = cond all (take_every id d.objects ns) (take id d.objects (get_or ns (first_available d ns) no_object))

-- ---- the wake pass

-- "Delays are skipped."
abbrev pub can_wake : Dispatcher → Wait → Bool
can_wake d w = cond (is_empty w.objects) false (is_met d w.objects w.all)

-- the thread takes what it waits for, if it can, and is woken; else it waits on
unfoldable pub wake_one : Dispatcher → ℕ → Dispatcher
wake_one d id =
    let w = wait_of (status_of d id) in
    cond (can_wake d w) (woken (with_objects d (takes d id w.objects w.all)) id (satisfied (index d w.objects w.all))) d

-- each thread of the list once, in its order
abbrev pub pass : Dispatcher → List ℕ → Dispatcher
pass d [] = d
pass d (x ∷ xs) = pass (wake_one d x) xs

-- "one wake pass, by wait sequence": the order of blocking is the order of the sequences
unfoldable pub wake : Dispatcher → Dispatcher
wake d = pass d d.waiters

-- ---- timeouts

-- a deadline at or before the time
abbrev pub reached : Option ℕ → ℕ → Bool
reached none now = false
reached (some t) now = leb t now

-- its deadline is at or before the time
abbrev pub is_overdue : ℕ → Thread → Bool
is_overdue now t = reached (wait_of t.status).deadline now

-- each thread of the list times out, in its order
abbrev pub time_out_each : Dispatcher → List ℕ → Dispatcher
time_out_each d [] = d
time_out_each d (x ∷ xs) = time_out_each (woken d x timeout) xs

-- "then times out deadlines at or before it by thread number"
unfoldable pub time_out : ℕ → Dispatcher → Dispatcher
time_out now d = time_out_each d (numbers_of (is_overdue now) 1 d.threads)
