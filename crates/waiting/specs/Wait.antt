-- Waiting: what refuses a wait, what it answers, and the words after it.
use Rattle.std.specs.Prelude.{ℕ, ◌+◌, ◌-◌, ◌/◌, ◌%◌, ◌^◌, Bool, true, false, cond, List, length, replicate, ◌==◌, nat_le, nat_lt, slice_index, slice_index_or, slice_set}
use Rattle.words.specs.Layout as at
use Rattle.words.specs.Layout.{thread_at}
use Rattle.chains.specs.Chain.{pushed}
use Rattle.chains.specs.Ready.{waiters_chain}
use Rattle.threads.specs.declared.Wait.{Wait}
use Rattle.threads.specs.Thread.{thread_of, put_thread, put_wait, recorded}
use Rattle.waits.specs.Lists.{bad_kind_in, duplicate_in, unknown_in, owned_in, met_in, index_in, takes_list}
use Rattle.answers.specs.declared.Answer.{Answer}
use Rattle.answers.specs.declared.Answer.TheVariants as answer
use Rattle.waiting.specs.declared.WaitResult.{WaitResult}
use Rattle.waiting.specs.declared.WaitResult.TheVariants as ended
use Rattle.waiting.specs.declared.WaitOutcome.{WaitOutcome}
use Rattle.waiting.specs.declared.WaitOutcome.TheVariants as wait
use Rattle.answers.specs.Outcome.{Outcome, outcome, unless, bit}

-- ---- what refuses

-- how many pairs a list has, at most 64
unfoldable pub pair_count : List ℕ → ℕ
pair_count list = cond (nat_le (length list / 2) 64) (length list / 2) 64

-- 7 list of 0, over 64, duplicate, odd length or kind over 3
unfoldable pub list_refusal : List ℕ → ℕ
list_refusal list =
    cond (length list % 2 == 0)
    (cond (length list == 0) 7 (cond (nat_lt 128 (length list)) 7 (cond (bad_kind_in (pair_count list) list 0 0) 7 (cond (duplicate_in (pair_count list) list 0 0) 7 0))))
    7

-- 3 no current thread; 7; 2; 8 a listed mutex is the caller's own
unfoldable pub wait_refusal : List ℕ → List ℕ → ℕ
wait_refusal w list =
    let id = slice_index_or w at.current 0 in
    cond (id == 0) 3
    (cond (list_refusal list == 0) (cond (unknown_in (pair_count list) w list 0 0) 2 (cond (owned_in (pair_count list) w id list 0 0) 8 0)) (list_refusal list))

-- 9 IRQL over 1; 24 wait sequence at 2^64 - 1
unfoldable pub block_refusal : List ℕ → ℕ → ℕ
block_refusal w irql = cond (nat_lt 1 irql) 9 (cond (nat_le (2 ^ 64 - 1) (slice_index w at.sequence)) 24 0)

-- there is a deadline and it is at or before the time
unfoldable pub reached : List ℕ → Bool → ℕ → Bool
reached w timed deadline = cond timed (nat_le deadline (slice_index w at.now)) false

-- ---- the words after

-- result 1 is a timeout, 2 + i satisfied by the object at place i
unfoldable pub with_result : List ℕ → ℕ → ℕ → List ℕ
with_result w id result = slice_set w (thread_at id + at.result) result

unfoldable pub left : List ℕ → ℕ → List ℕ
left w sequence = slice_set (slice_set w at.current 0) at.sequence ((sequence + 1) % 2 ^ 64)

-- state 3 is waiting; the last in the order of blocking
unfoldable pub parked : List ℕ → ℕ → List ℕ
parked w id =
    let t = thread_of w id in
    pushed (put_thread w id (record { priority = t.priority; state = 3; result = 0; status = t.status })) waiters_chain id

unfoldable pub blocked_words : List ℕ → ℕ → Wait → List ℕ
blocked_words w id x = parked (put_wait (left w x.sequence) id x) id

unfoldable pub granted : List ℕ → ℕ → List ℕ → ℕ → ℕ → Outcome
granted w id list n all =
    let i = index_in w list 0 n all in
    outcome (answer.Satisfied i) (with_result (takes_list w id list n all) id ((i + 2) % 2 ^ 64))

unfoldable pub timed_out : List ℕ → ℕ → Outcome
timed_out w id = outcome answer.Timeout (with_result w id 1)

-- a wait that nothing grants: then timeout; 9; 24; else it blocks
unfoldable pub decided : List ℕ → ℕ → Bool → ℕ → Wait → Outcome
decided w id timed irql x =
    cond (reached w timed x.deadline) (timed_out w id) (unless (block_refusal w irql) w (outcome answer.Blocked (blocked_words w id x)))

unfoldable pub decided_list : List ℕ → ℕ → List ℕ → ℕ → ℕ → Bool → ℕ → ℕ → Outcome
decided_list w id list n all timed deadline irql = decided w id timed irql (recorded list n all (bit timed) deadline (slice_index w at.sequence))

-- ---- the calls

unfoldable pub waited : List ℕ → List ℕ → Bool → Bool → ℕ → ℕ → Outcome
waited w list all timed deadline irql =
    let id = slice_index_or w at.current 0 in
    let n = pair_count list in
    unless (wait_refusal w list) w
    (cond (met_in w list 0 n (bit all)) (granted w id list n (bit all)) (decided_list w id list n (bit all) timed deadline irql))

-- a wait for no object
unfoldable pub delay_wait : ℕ → ℕ → Wait
delay_wait deadline sequence = record { all = 0; timed = 1; deadline = deadline; sequence = sequence; count = 0; places = replicate 128 0 }

-- delay_until: 9; 3; then timeout; 24
unfoldable pub delayed : List ℕ → ℕ → ℕ → Outcome
delayed w deadline irql =
    let id = slice_index_or w at.current 0 in
    cond (nat_lt 1 irql) (outcome (answer.Refused 9) w)
    (cond (id == 0) (outcome (answer.Refused 3) w) (decided w id true irql (delay_wait deadline (slice_index w at.sequence))))

-- ---- what a call tells

abbrev pub told_result : WaitResult → Answer
told_result (ended.Satisfied i) = answer.Satisfied i
told_result ended.Timeout = answer.Timeout

abbrev pub told : WaitOutcome → Answer
told (wait.Immediate r) = told_result r
told wait.Blocked = answer.Blocked
