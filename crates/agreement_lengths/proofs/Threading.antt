-- The calls on threads, and an opening: as many words.
use Prim.Native.Nat.{ℕ, zero, suc}
use mathlib.Core.List.{List}
use mathlib.Core.Path.{◌≡◌, refl}
use lib.ListN.{length, length-set}
use Rattle.threads.specs.declared.Thread.{Thread}
use Rattle.opening.specs.Open.{cleared, limited, started, opened}
use Rattle.threading.specs.Thread.{created_thread, created, with_priority, moved, prioritized, yielded_words, yielded, exited_words, terminated}
use Rattle.agreement_chains.proofs.Marks.{length-placed, length-unplaced}
use Rattle.agreement_lengths.proofs.Lengths.{length-cond, cond_same, words-cond}
use Rattle.agreement_lengths.proofs.Threads.{length-put-thread, length-put-wait}
use Rattle.agreement_lengths.proofs.Waits.{length-made-ready, length-awake}

-- ---- open

length-cleared : (k : ℕ) (w : List ℕ) → length (cleared k w) ≡ length w
unfolding cleared
length-cleared zero w = refl
length-cleared (suc k) w = simp (length-set, length-cleared k w)

length-limited : (w : List ℕ) (t o d : ℕ) → length (limited w t o d) ≡ length w
unfolding limited
length-limited w t o d = simp length-set

pub length-started : (w : List ℕ) (priority t o d : ℕ) → length (started w priority t o d) ≡ length w
unfolding started
length-started w priority t o d = simp (length-put-thread, length-put-wait, length-limited, length-cleared)

pub length-opened : (w : List ℕ) (priority t o d : ℕ) → length (opened w priority t o d).words ≡ length w
unfolding opened
length-opened w priority t o d = simp (words-cond, cond_same, length-started)

-- ---- create_thread

pub length-created-thread : (w : List ℕ) (id priority : ℕ) → length (created_thread w id priority) ≡ length w
unfolding created_thread
length-created-thread w id priority = simp (length-placed, length-put-thread, length-put-wait, length-set)

pub length-created : (w : List ℕ) (priority : ℕ) → length (created w priority).words ≡ length w
unfolding created
length-created w priority = simp (words-cond, cond_same, length-created-thread)

-- ---- priority

length-with-priority : (w : List ℕ) (id : ℕ) (t : Thread) (priority : ℕ) → length (with_priority w id t priority) ≡ length w
unfolding with_priority
length-with-priority w id t priority = simp length-put-thread

pub length_moved : (w : List ℕ) (id priority : ℕ) → length (moved w id priority) ≡ length w
unfolding moved
length_moved w id priority = simp (length-cond, cond_same, length-placed, length-with-priority, length-unplaced)

pub length-prioritized : (w : List ℕ) (id priority : ℕ) → length (prioritized w id priority).words ≡ length w
unfolding prioritized
length-prioritized w id priority = simp (words-cond, cond_same, length_moved)

-- ---- yield_current

pub length-yielded-words : (w : List ℕ) (id : ℕ) → length (yielded_words w id) ≡ length w
unfolding yielded_words
length-yielded-words w id = simp (length-made-ready, length-set)

pub length-yielded : (w : List ℕ) → length (yielded w).words ≡ length w
unfolding yielded
length-yielded w = simp (words-cond, cond_same, length-yielded-words)

-- ---- terminate

pub length-exited-words : (w : List ℕ) (id status : ℕ) → length (exited_words w id status) ≡ length w
unfolding exited_words
length-exited-words w id status = simp (length-set, length-put-thread)

pub length-terminated : (w : List ℕ) (status : ℕ) → length (terminated w status).words ≡ length w
unfolding terminated
length-terminated w status = simp (words-cond, cond_same, length-awake, length-exited-words)
