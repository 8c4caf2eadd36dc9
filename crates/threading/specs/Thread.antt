-- The calls on threads: what refuses them, their answers, and the words after them.
use Rattle.std.specs.Prelude.{ℕ, zero, suc, ◌+◌, ◌%◌, ◌^◌, Bool, true, false, cond, List, ◌==◌, nat_le, slice_index, slice_set, Option, Some, None}
use Rattle.words.specs.Layout as at
use Rattle.words.specs.Layout.{entry_at}
use Rattle.chains.specs.Ready.{placed_last, unplaced}
use Rattle.threads.specs.declared.Thread.{Thread}
use Rattle.threads.specs.Thread.{thread_of, put_thread, put_wait, no_wait, known}
use Rattle.objects.specs.Objects.{objects_base, object_count}
use Rattle.waits.specs.Object.{exited}
use Rattle.wakes.specs.Wake.{made_ready, awake}
use Rattle.answers.specs.declared.ThreadId.{ThreadId}
use Rattle.answers.specs.declared.Answer.{Answer}
use Rattle.answers.specs.declared.Answer.TheVariants as answer
use Rattle.answers.specs.Outcome.{Outcome, outcome, unless}
use Rattle.opening.specs.Open.{bad_priority}

-- the thread of a number, 0 for none
abbrev pub numbered : ℕ → Option ThreadId
numbered id = cond (id == 0) None (Some (record { 0 = id }))

unfoldable pub current_answer : List ℕ → Answer
current_answer w = cond (slice_index w at.current == 0) answer.None (answer.Thread (slice_index w at.current))

-- ---- create_thread: 1; 4 thread table full

unfoldable pub create_refusal : List ℕ → ℕ → ℕ
create_refusal w priority = cond (bad_priority priority) 1 (cond (nat_le (slice_index w at.thread_limit) (slice_index w at.threads)) 4 0)

-- thread `id` ready for the first time
unfoldable pub created_thread : List ℕ → ℕ → ℕ → List ℕ
created_thread w id priority =
    placed_last (put_thread (put_wait (slice_set w at.threads id) id no_wait) id (record { priority = priority; state = 2; result = 0; status = 0 })) priority id

unfoldable pub created : List ℕ → ℕ → Outcome
created w priority =
    let id = (slice_index w at.threads + 1) % 2 ^ 64 in
    unless (create_refusal w priority) w (outcome (answer.Thread id) (created_thread w id priority))

-- ---- priority: 1; 2 unknown thread; 11 exited

unfoldable pub priority_refusal : List ℕ → ℕ → ℕ → ℕ
priority_refusal w id priority = cond (bad_priority priority) 1 (cond (known w id) (cond (exited w id) 11 0) 2)

unfoldable pub with_priority : List ℕ → ℕ → Thread → ℕ → List ℕ
with_priority w id t priority = put_thread w id (record { priority = priority; state = t.state; result = t.result; status = t.status })

-- a ready thread is placed last, even at the same priority
unfoldable pub moved : List ℕ → ℕ → ℕ → List ℕ
moved w id priority =
    let t = thread_of w id in
    cond (t.state == 2) (placed_last (with_priority (unplaced w t.priority id) id t priority) priority id) (with_priority w id t priority)

unfoldable pub prioritized : List ℕ → ℕ → ℕ → Outcome
prioritized w id priority = unless (priority_refusal w id priority) w (outcome answer.Done (moved w id priority))

-- ---- yield_current: 3 no current thread

unfoldable pub yielded_words : List ℕ → ℕ → List ℕ
yielded_words w id = made_ready (slice_set w at.current 0) id (thread_of w id).result

unfoldable pub yielded : List ℕ → Outcome
yielded w = cond (slice_index w at.current == 0) (outcome (answer.Refused 3) w) (outcome answer.Done (yielded_words w (slice_index w at.current)))

-- ---- terminate: 3; 10 owns a mutex

unfoldable pub owner_at : List ℕ → ℕ → ℕ → ℕ → Bool
owner_at w base i id = cond (slice_index w (entry_at base i + at.kind) == 0) (slice_index w (entry_at base i + at.owner) == id) false

-- one of the `m` objects from place `i` on is a mutex of the thread's
unfoldable pub owns_in : ℕ → List ℕ → ℕ → ℕ → ℕ → Bool
owns_in zero w base i id = false
owns_in (suc m) w base i id = cond (owner_at w base i id) true (owns_in m w base (i + 1) id)

unfoldable pub owns_mutex : List ℕ → ℕ → Bool
owns_mutex w id = owns_in (object_count w) w (objects_base w) 0 id

unfoldable pub terminate_refusal : List ℕ → ℕ
terminate_refusal w = cond (slice_index w at.current == 0) 3 (cond (owns_mutex w (slice_index w at.current)) 10 0)

-- state 4 is exited
unfoldable pub exited_words : List ℕ → ℕ → ℕ → List ℕ
exited_words w id status =
    let t = thread_of w id in
    slice_set (put_thread w id (record { priority = t.priority; state = 4; result = t.result; status = status })) at.current 0

unfoldable pub terminated : List ℕ → ℕ → Outcome
terminated w status = unless (terminate_refusal w) w (outcome answer.Done (awake (exited_words w (slice_index w at.current) status)))
