-- The words after a thread is woken and after the wake pass.
use Rattle.std.specs.Prelude.{Bool, cond, true, false, ℕ, zero, suc, ◌+◌, List, eqb}
use Rattle.chains.specs.Chain.{first_of, next_of, unlinked}
use Rattle.chains.specs.Ready.{waiters_chain, placed_last}
use Rattle.threads.specs.Thread.{thread_of, put_thread, count_of, all_of, places_at}
use Rattle.waits.specs.Lists.{has_pair, met_in, index_in, takes_own}

-- state 2 is ready
unfoldable pub made_ready : List ℕ → ℕ → ℕ → List ℕ
made_ready w id result =
    let t = thread_of w id in
    placed_last (put_thread w id (record { priority = t.priority; state = 2; result = result; status = t.status })) t.priority id

-- result 2 + i is: satisfied by the object at place i
unfoldable pub awoken : List ℕ → ℕ → ℕ → List ℕ
awoken w before id =
    let i = index_in w w (places_at id) (count_of w id) (all_of w id) in
    let granted = takes_own w id (places_at id) (count_of w id) (all_of w id) in
    made_ready (unlinked granted waiters_chain before id) id (i + 2)

-- a waiting thread can be granted its wait; a delay, which waits for no object, cannot
unfoldable pub grantable : List ℕ → ℕ → Bool
grantable w id = cond (eqb (count_of w id) 0) false (met_in w w (places_at id) (count_of w id) (all_of w id))

unfoldable pub visited : List ℕ → ℕ → ℕ → List ℕ
visited w before id = cond (grantable w id) (awoken w before id) w

-- who comes before the next thread of the pass
unfoldable pub visited_to : List ℕ → ℕ → ℕ → ℕ
visited_to w before id = cond (grantable w id) before id

-- at most `k` waiting threads from `at` on
unfoldable pub passed : ℕ → List ℕ → ℕ → ℕ → List ℕ
passed zero w before at = w
passed (suc k) w before at = cond (eqb at 0) w (passed k (visited w before at) (visited_to w before at) (next_of w waiters_chain at))

unfoldable pub awake : List ℕ → List ℕ
awake w = passed 4096 w 0 (first_of w waiters_chain)

-- a thread's wait names the object
unfoldable pub waits_for : List ℕ → ℕ → ℕ → ℕ → Bool
waits_for w kind key id = has_pair (count_of w id) w (places_at id) 0 kind key

-- one of at most `k` waiting threads from `at` on waits for the object
unfoldable pub waits_in : ℕ → List ℕ → ℕ → ℕ → ℕ → Bool
waits_in zero w at kind key = false
waits_in (suc k) w at kind key =
    cond (eqb at 0) false (cond (has_pair (count_of w at) w (places_at at) 0 kind key) true (waits_in k w (next_of w waiters_chain at) kind key))

unfoldable pub waits_on : List ℕ → ℕ → ℕ → Bool
waits_on w kind key = waits_in 4096 w (first_of w waiters_chain) kind key
