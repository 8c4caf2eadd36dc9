-- Opening: which limits and priorities there are, the words needed, and the words of a new scheduler.
use Rattle.std.specs.Prelude.{Bool, cond, true, ℕ, zero, suc, ◌+◌, ◌*◌, List, set, length, ltb}
use Rattle.words.specs.Layout as at
use Rattle.threads.specs.Thread.{put_thread, put_wait, no_wait}
use Rattle.answers.specs.declared.Answer.{Answer}
use Rattle.answers.specs.declared.Answer.TheVariants.{Refused, Done, Count}
use Rattle.answers.specs.Outcome.{Outcome, outcome, unless}

-- priorities are 1 to 31
unfoldable pub bad_priority : ℕ → Bool
bad_priority p = cond (ltb p 1) true (ltb 31 p)

-- limits are 1 to 256 threads, up to 4096 objects, up to 4096 DPCs
unfoldable pub bad_limits : ℕ → ℕ → ℕ → Bool
bad_limits t o d = cond (ltb t 1) true (cond (ltb at.most_threads t) true (cond (ltb 4096 o) true (ltb 4096 d)))

abbrev pub words_needed : ℕ → ℕ → ℕ → ℕ
words_needed t o d = at.header_size + at.thread_size * t + at.record_size * (o + d)

unfoldable pub sized : ℕ → ℕ → ℕ → Answer
sized t o d = cond (bad_limits t o d) (Refused 27) (Count (words_needed t o d))

unfoldable pub open_refusal : List ℕ → ℕ → ℕ → ℕ → ℕ → ℕ
open_refusal w priority t o d = cond (bad_priority priority) 1 (cond (bad_limits t o d) 27 (cond (ltb (length w) (words_needed t o d)) 27 0))

-- the first `k` words 0
unfoldable pub cleared : ℕ → List ℕ → List ℕ
cleared zero w = w
cleared (suc k) w = set (cleared k w) k 0

-- the limits, one thread, and thread 1 current
unfoldable pub limited : List ℕ → ℕ → ℕ → ℕ → List ℕ
limited w t o d = set (set (set (set (set w at.thread_limit t) at.object_limit o) at.dpc_limit d) at.threads 1) at.current 1

-- state 1 is running
unfoldable pub started : List ℕ → ℕ → ℕ → ℕ → ℕ → List ℕ
started w priority t o d =
    put_thread (put_wait (limited (cleared at.unused w) t o d) 1 no_wait) 1 (record { priority = priority; state = 1; result = 0; status = 0 })

unfoldable pub opened : List ℕ → ℕ → ℕ → ℕ → ℕ → Outcome
opened w priority t o d = unless (open_refusal w priority t o d) w (outcome Done (started w priority t o d))
