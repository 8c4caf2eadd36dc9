-- The threads in form. States are 1 running, 2 ready, 3 waiting, 4 exited.
use Rattle.std.specs.Prelude.{Bool, cond, true, false, not, ℕ, zero, suc, ◌+◌, List, Option, Some, None, get_or, eqb, leb, ltb}
use Rattle.words.specs.Layout as at
use Rattle.words.specs.Layout.{thread_at}
use Rattle.threads.specs.Thread.{thread_of, known, thread_count, count_of, places_at}
use Rattle.waits.specs.Lists.{bad_kind_in, unknown_in, duplicate_in}
use Rattle.opening.specs.Open.{bad_priority}
use Rattle.form_threads.specs.declared.Counts.{Counts}

unfoldable pub has_state : List ℕ → ℕ → ℕ → Bool
has_state w id state = eqb (get_or w (thread_at id + at.state) 0) state

-- there is a thread of this number that has not exited
unfoldable pub live : List ℕ → ℕ → Bool
live w id = cond (known w id) (not (has_state w id 4)) false

unfoldable pub bad_state : ℕ → Bool
bad_state state = cond (ltb state 1) true (ltb 4 state)

-- a priority, a state, a wait result, and an exit status of 32 bits
unfoldable pub record_passes : List ℕ → ℕ → Bool
record_passes w id =
    let t = thread_of w id in
    cond (bad_priority t.priority) false (cond (bad_state t.state) false (cond (ltb 65 t.result) false (leb t.status 4294967295)))

-- words that say nothing hold 0: the exit status of a thread that has not exited
unfoldable pub exit_passes : List ℕ → ℕ → Bool
exit_passes w id = cond (has_state w id 4) true (eqb (get_or w (thread_at id + at.status) 0) 0)

-- the wait that a thread has, or had last: whether for all, whether timed, how many places, then their kinds
unfoldable pub wait_passes : List ℕ → ℕ → Bool
wait_passes w id =
    cond (ltb 1 (get_or w (thread_at id + at.wait_all) 0)) false
    (cond (ltb 1 (get_or w (thread_at id + at.has_deadline) 0)) false
    (cond (ltb 64 (get_or w (thread_at id + at.wait_count) 0)) false (not (bad_kind_in (count_of w id) w (places_at id) 0))))

-- a thread that waits for no object is delayed, until a time
unfoldable pub delay_passes : List ℕ → ℕ → Bool
delay_passes w id = cond (has_state w id 3) (cond (eqb (count_of w id) 0) (eqb (get_or w (thread_at id + at.has_deadline) 0) 1) true) true

-- document 01: stored numbers pass their checks, of a thread
unfoldable pub thread_numbers : List ℕ → ℕ → Bool
thread_numbers w id =
    cond (record_passes w id) (cond (exit_passes w id) (cond (wait_passes w id) (delay_passes w id) false) false) false

-- document 01: only the current one runs
unfoldable pub runs_if_current : List ℕ → ℕ → Bool
runs_if_current w id = cond (eqb (get_or w at.current 0) id) (has_state w id 1) (not (has_state w id 1))

-- document 01: waited objects exist
unfoldable pub waits_for_known : List ℕ → ℕ → Bool
waits_for_known w id = cond (has_state w id 3) (not (unknown_in (count_of w id) w w (places_at id) 0)) true

-- document 01: no wait list names an object twice
unfoldable pub waits_for_each_once : List ℕ → ℕ → Bool
waits_for_each_once w id = cond (has_state w id 3) (not (duplicate_in (count_of w id) w (places_at id) 0)) true

unfoldable pub thread_passes : List ℕ → ℕ → Bool
thread_passes w id = cond (thread_numbers w id) (cond (runs_if_current w id) (cond (waits_for_known w id) (waits_for_each_once w id) false) false) false

-- the `m` threads from `id` on pass
unfoldable pub threads_in : ℕ → List ℕ → ℕ → Bool
threads_in zero w id = true
threads_in (suc m) w id = cond (thread_passes w id) (threads_in m w (id + 1)) false

unfoldable pub threads_pass : List ℕ → Bool
threads_pass w = threads_in (thread_count w) w 1

-- ---- how many threads have a state

unfoldable pub one_if : List ℕ → ℕ → ℕ → ℕ
one_if w id state = cond (has_state w id state) 1 0

-- of the `m` threads from `id` on
unfoldable pub state_count_in : ℕ → List ℕ → ℕ → ℕ → ℕ
state_count_in zero w id state = 0
state_count_in (suc m) w id state = one_if w id state + state_count_in m w (id + 1) state

unfoldable pub state_count : List ℕ → ℕ → ℕ
state_count w state = state_count_in (thread_count w) w 1 state

-- ---- what one pass says: where every thread passes, how many are ready and how many wait

unfoldable pub threads_seen : List ℕ → Option Counts
threads_seen w = cond (threads_pass w) (Some (record { ready = state_count w 2; waiting = state_count w 3 })) None
