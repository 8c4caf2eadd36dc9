-- Threads, and where they stand: "Waiting and dispatch" of document 01, as far as it speaks of threads alone.
use Rattle.std.specs.Prelude.{ℕ, zero, suc, ◌+◌, List, [], ◌∷◌, ◌++◌, Bool, true, false, cond, get_or, set, length, eqb, leb}
use Rattle.std.proofs.Math.Option.{Option, none, some}
use Rattle.model.specs.Lists.{keep, first, without, largest}
use Rattle.model.specs.State.{Dispatcher, Thread, Status, running, ready, waiting, exited, Wait, WaitResult, Named, Object}

-- ---- a thread

-- it is the current one
abbrev pub is_running : Status → Bool
is_running running = true
is_running ready = false
is_running (waiting w) = false
is_running (exited n) = false

-- it stands in a ready queue
abbrev pub is_ready : Status → Bool
is_ready running = false
is_ready ready = true
is_ready (waiting w) = false
is_ready (exited n) = false

-- it is blocked, a delay included
abbrev pub is_waiting : Status → Bool
is_waiting running = false
is_waiting ready = false
is_waiting (waiting w) = true
is_waiting (exited n) = false

-- it has ended
abbrev pub has_exited : Status → Bool
has_exited running = false
has_exited ready = false
has_exited (waiting w) = false
has_exited (exited n) = true

-- what a thread waits for; one that does not wait waits for no object and has no deadline
abbrev pub no_wait : Wait
no_wait = record { objects = []; all = false; deadline = none; sequence = 0 }

-- the wait of a waiting thread
abbrev pub wait_of : Status → Wait
wait_of running = no_wait
wait_of ready = no_wait
wait_of (waiting w) = w
wait_of (exited n) = no_wait

-- for a number that no thread has: it stands nowhere
abbrev pub no_one : Thread
no_one = record { priority = 0; status = exited 0; result = none }

-- "threads number 1 upward": thread 1 is the first of the list
abbrev pub thread_at : List Thread → ℕ → Thread
thread_at l zero = no_one
thread_at l (suc n) = get_or l n no_one

-- with another record for one thread
abbrev pub change_at : List Thread → ℕ → Thread → List Thread
change_at l zero t = l
change_at l (suc n) t = set l n t

-- ---- the threads of a dispatcher

-- how many threads there are
abbrev pub count : Dispatcher → ℕ
count d = length d.threads

-- the thread of a number
abbrev pub thread_of : Dispatcher → ℕ → Thread
thread_of d id = thread_at d.threads id

-- what a thread does, by its number
abbrev pub status_of : Dispatcher → ℕ → Status
status_of d id = (thread_of d id).status

-- its priority
abbrev pub priority_of : Dispatcher → ℕ → ℕ
priority_of d id = (thread_of d id).priority

-- a number that a thread has
abbrev pub is_thread : Dispatcher → ℕ → Bool
is_thread d id = cond (eqb id 0) false (leb id (count d))

-- a thread that has not exited
abbrev pub is_live : Dispatcher → ℕ → Bool
is_live d id = cond (is_thread d id) (cond (has_exited (status_of d id)) false true) false

-- ---- one thing of a dispatcher changed

-- another record for one thread, which stays where it stands
abbrev pub with_thread : Dispatcher → ℕ → Thread → Dispatcher
with_thread d id t = record { threads = change_at d.threads id t; current = d.current; placed = d.placed; waiters = d.waiters; sequence = d.sequence; objects = d.objects }

-- another table of objects
abbrev pub with_objects : Dispatcher → List Object → Dispatcher
with_objects d l = record { threads = d.threads; current = d.current; placed = d.placed; waiters = d.waiters; sequence = d.sequence; objects = l }

-- another wait sequence
abbrev pub with_sequence : Dispatcher → ℕ → Dispatcher
with_sequence d n = record { threads = d.threads; current = d.current; placed = d.placed; waiters = d.waiters; sequence = n; objects = d.objects }

-- one thread more, not yet placed
abbrev pub with_new : Dispatcher → Thread → Dispatcher
with_new d t = record { threads = d.threads ++ (t ∷ []); current = d.current; placed = d.placed; waiters = d.waiters; sequence = d.sequence; objects = d.objects }

-- ---- where a thread stands by its status

-- "is placed last in its priority's queue": in one list for all priorities, last of all
abbrev pub placed_as : Status → ℕ → List ℕ → List ℕ
placed_as running id l = without id l
placed_as ready id l = without id l ++ (id ∷ [])
placed_as (waiting w) id l = without id l
placed_as (exited n) id l = without id l

-- the waiting threads stand in the order of blocking
abbrev pub waiters_as : Status → ℕ → List ℕ → List ℕ
waiters_as running id l = without id l
waiters_as ready id l = without id l
waiters_as (waiting w) id l = without id l ++ (id ∷ [])
waiters_as (exited n) id l = without id l

-- "Blocking, yielding and exiting leave none current."
abbrev pub current_as : Status → ℕ → ℕ → ℕ
current_as running id c = id
current_as ready id c = cond (eqb c id) 0 c
current_as (waiting w) id c = cond (eqb c id) 0 c
current_as (exited n) id c = cond (eqb c id) 0 c

-- the thread leaves where it stood, and stands where its new status puts it
unfoldable pub becomes : Dispatcher → ℕ → Thread → Dispatcher
becomes d id t =
    record {
      threads = change_at d.threads id t;
      current = current_as t.status id d.current;
      placed = placed_as t.status id d.placed;
      waiters = waiters_as t.status id d.waiters;
      sequence = d.sequence;
      objects = d.objects;
    }

-- ---- records

-- a thread that does something else
abbrev pub with_status : Thread → Status → Thread
with_status t x = record { priority = t.priority; status = x; result = t.result }

-- one with another priority
abbrev pub with_priority : Thread → ℕ → Thread
with_priority t p = record { priority = p; status = t.status; result = t.result }

-- one whose last wait ended otherwise
abbrev pub with_result : Thread → Option WaitResult → Thread
with_result t r = record { priority = t.priority; status = t.status; result = r }

-- thread 1 as `open` makes it: it runs, and has not waited
abbrev pub first_thread : ℕ → Thread
first_thread p = record { priority = p; status = running; result = none }

-- a created thread: it is ready, and has not waited
abbrev pub new_thread : ℕ → Thread
new_thread p = record { priority = p; status = ready; result = none }

-- a thread that is ready after a wait that ended so
abbrev pub ready_again : Thread → Option WaitResult → Thread
ready_again t r = with_result (with_status t ready) r

-- a thread that blocks: its wait has no result yet
abbrev pub waiting_thread : Thread → Wait → Thread
waiting_thread t w = with_result (with_status t (waiting w)) none

-- ---- what becomes of a thread

-- "A thread created .. is placed last in its priority's queue."
unfoldable pub created : Dispatcher → ℕ → Dispatcher
created d p = becomes (with_new d (new_thread p)) (suc (count d)) (new_thread p)

-- ".. or, while ready, given a priority, even the same, is placed last in its priority's queue."
unfoldable pub prioritized : Dispatcher → ℕ → ℕ → Dispatcher
prioritized d id p =
    let t = with_priority (thread_of d id) p in
    cond (is_ready t.status) (becomes d id t) (with_thread d id t)

-- "A thread .. yielding .. is placed last in its priority's queue."
unfoldable pub yielded : Dispatcher → Dispatcher
yielded d = becomes d d.current (with_status (thread_of d d.current) ready)

-- `terminate`: the current thread exits with the status
unfoldable pub terminated : Dispatcher → ℕ → Dispatcher
terminated d status = becomes d d.current (with_status (thread_of d d.current) (exited status))

-- "A thread .. woken, timed out .. is placed last in its priority's queue."
unfoldable pub woken : Dispatcher → ℕ → WaitResult → Dispatcher
woken d id r = becomes d id (ready_again (thread_of d id) (some r))

-- the current thread blocks, with the next wait sequence
unfoldable pub blocked : Dispatcher → List Named → Bool → Option ℕ → Dispatcher
blocked d objects all deadline =
    let w : Wait = record { objects = objects; all = all; deadline = deadline; sequence = d.sequence } in
    becomes (with_sequence d (d.sequence + 1)) d.current (waiting_thread (thread_of d d.current) w)

-- ---- dispatch

-- the ready queue of a priority
abbrev pub queue_of : Dispatcher → ℕ → List ℕ
queue_of d p = keep (λ x. eqb (priority_of d x) p) d.placed

-- "the first of the highest ready queue": of those placed with the highest priority, the first; 0 where none is placed
abbrev pub next : Dispatcher → ℕ
next d = first (queue_of d (largest (priority_of d) d.placed))

-- ".. made current"
unfoldable pub ran : Dispatcher → ℕ → Dispatcher
ran d id = becomes d id (with_status (thread_of d id) running)

-- the numbers, from `n` on, of the threads that pass the test
abbrev pub numbers_of : (Thread → Bool) → ℕ → List Thread → List ℕ
numbers_of f n [] = []
numbers_of f n (t ∷ ts) = cond (f t) (n ∷ numbers_of f (suc n) ts) (numbers_of f (suc n) ts)

-- "waiting numbers rising"
abbrev pub waiting_numbers : Dispatcher → List ℕ
waiting_numbers d = numbers_of (λ t. is_waiting t.status) 1 d.threads
