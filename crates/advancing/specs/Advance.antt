-- The passing of time: wakes by objects, then timeouts by thread number.
use Rattle.std.specs.Prelude.{Bool, cond, false, ℕ, zero, suc, ◌+◌, List, get_or, set, eqb, leb, ltb}
use Rattle.words.specs.Layout as at
use Rattle.words.specs.Layout.{thread_at}
use Rattle.chains.specs.Chain.{removed}
use Rattle.chains.specs.Ready.{waiters_chain}
use Rattle.threads.specs.Thread.{thread_count}
use Rattle.wakes.specs.Wake.{made_ready, awake}
use Rattle.answers.specs.declared.Answer.TheVariants as answer
use Rattle.answers.specs.Outcome.{Outcome, outcome, unless}
use Rattle.expiry_advance.specs.Advance.{expiry_refusal, expiry_words}

-- the thread waits (state 3) with a deadline at or before the time
unfoldable pub overdue : List ℕ → ℕ → ℕ → Bool
overdue w id time =
    cond (eqb (get_or w (thread_at id + at.state) 0) 3) (cond (eqb (get_or w (thread_at id + at.has_deadline) 0) 0) false (leb (get_or w (thread_at id + at.deadline) 0) time)) false

-- result 1 is a timeout
unfoldable pub expired : List ℕ → ℕ → ℕ → List ℕ
expired w id time = cond (overdue w id time) (made_ready (removed w waiters_chain id) id 1) w

-- the `m` threads from `id` on
unfoldable pub expired_in : ℕ → List ℕ → ℕ → ℕ → List ℕ
expired_in zero w id time = w
expired_in (suc m) w id time = expired_in m (expired w id time) (id + 1) time

unfoldable pub expired_all : List ℕ → ℕ → List ℕ
expired_all w time = expired_in (thread_count w) w 1 time

-- 12 time goes back; then what refuses an expiry. Document 01: expires timers, sets the time, wakes by objects, then times out
-- deadlines
unfoldable pub advanced : List ℕ → ℕ → Outcome
advanced w time =
    cond (ltb time (get_or w at.now 0)) (outcome (answer.Refused 12) w)
    (unless (expiry_refusal w time) w (outcome answer.Done (expired_all (awake (set (expiry_words w time) at.now time)) time)))
