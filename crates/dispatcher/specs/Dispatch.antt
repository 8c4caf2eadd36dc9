-- The parts of a dispatch: the smallest waiting deadline, the first of a queue made current, the waiting numbers, and what a dispatch answers.
use Rattle.std.specs.Prelude.{Bool, cond, ℕ, zero, suc, ◌+◌, List, get_or, set, eqb, leb, Option, Some, None}
use Rattle.words.specs.Layout as at
use Rattle.words.specs.Layout.{thread_at}
use Rattle.chains.specs.Chain.{first_of, next_of}
use Rattle.chains.specs.Ready.{ready_chain, waiters_chain, unplaced}
use Rattle.threads.specs.Thread.{thread_of, put_thread, thread_count}
use Rattle.answers.specs.declared.Answer.{Answer}
use Rattle.answers.specs.declared.Answer.TheVariants as answer
use Rattle.answers.specs.Outcome.{Outcome, outcome}

-- ---- the smallest waiting deadline

unfoldable pub no_due : Option ℕ
no_due = None

unfoldable pub due_at : ℕ → Option ℕ
due_at deadline = Some deadline

-- the sooner of what was seen, if anything was, and one more
abbrev pub sooner_of : Option ℕ → ℕ → Option ℕ
sooner_of None deadline = due_at deadline
sooner_of (Some at) deadline = cond (leb at deadline) (Some at) (due_at deadline)

unfoldable pub sooner : Option ℕ → ℕ → ℕ → Option ℕ
sooner d timed deadline = cond (eqb timed 0) d (sooner_of d deadline)

unfoldable pub due_after : List ℕ → Option ℕ → ℕ → Option ℕ
due_after w d id = sooner d (get_or w (thread_at id + at.has_deadline) 0) (get_or w (thread_at id + at.deadline) 0)

-- of at most `k` waiting threads from `id` on
unfoldable pub soonest_in : ℕ → List ℕ → Option ℕ → ℕ → Option ℕ
soonest_in zero w d id = d
soonest_in (suc k) w d id = cond (eqb id 0) d (soonest_in k w (due_after w d id) (next_of w waiters_chain id))

unfoldable pub soonest : List ℕ → Option ℕ
soonest w = soonest_in 4096 w no_due (first_of w waiters_chain)

-- ---- the first thread of a queue made current; state 1 is running

unfoldable pub ran : List ℕ → ℕ → Outcome
ran w p =
    let id = first_of w (ready_chain p) in
    let t = thread_of w id in
    outcome (answer.Run id)
    (set (put_thread (unplaced w p id) id (record { priority = t.priority; state = 1; result = t.result; status = t.status })) at.current id)

-- ---- the waiting threads' numbers; state 3 is waiting

unfoldable pub is_waiting : List ℕ → ℕ → Bool
is_waiting w id = eqb (get_or w (thread_at id + at.state) 0) 3

unfoldable pub noted : List ℕ → List ℕ → ℕ → ℕ → List ℕ
noted w out id k = cond (is_waiting w id) (set out k id) out

unfoldable pub noted_to : List ℕ → ℕ → ℕ → ℕ
noted_to w id k = cond (is_waiting w id) (k + 1) k

-- the `m` threads from `id` on, whose numbers go to place `k` and behind it; and the place behind the last
unfoldable pub listed_in : ℕ → List ℕ → List ℕ → ℕ → ℕ → List ℕ
listed_in zero w out id k = out
listed_in (suc m) w out id k = listed_in m w (noted w out id k) (id + 1) (noted_to w id k)

unfoldable pub listed_to_in : ℕ → List ℕ → ℕ → ℕ → ℕ
listed_to_in zero w id k = k
listed_to_in (suc m) w id k = listed_to_in m w (id + 1) (noted_to w id k)

unfoldable pub listed : List ℕ → List ℕ → List ℕ
listed w out = listed_in (thread_count w) w out 1 0

unfoldable pub listed_to : List ℕ → ℕ
listed_to w = listed_to_in (thread_count w) w 1 0

-- ---- what a dispatch answers

pub record Dispatched : Type 0 where
  pub answer : Answer
  pub words : List ℕ
  pub output : List ℕ

abbrev pub told : Answer → List ℕ → List ℕ → Dispatched
told a w out = record { answer = a; words = w; output = out }
