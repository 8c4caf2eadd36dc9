-- Whose turn it is, by what the code's reads answer before a call and after it.
use Rattle.std.specs.Prelude.{ℕ, List, [], ◌∷◌, false, ◌≡◌, ◌⊎◌}
use Rattle.calls.specs.Run.{answered, left}
use Rattle.model.specs.State.{Thread, Wait, ready, waiting}
use Rattle.model.specs.Call.{Call, Priority}
use Rattle.model.specs.Turns.{EarlierWithin}
use Rattle.corollaries.specs.Reads.{ThreadRead}
use Rattle.corollaries.specs.Refusals.{is_refused}

-- the thread reads as ready
abbrev pub ReadsReady : List ℕ → ℕ → Type 0
ReadsReady w i = (x : Thread) × (ThreadRead w i x) × (x.status ≡ ready)

-- the call gives the thread a priority, be it the same, and is not refused
abbrev pub Prioritizes : List ℕ → Call → ℕ → Type 0
Prioritizes w c i = (p : ℕ) × (c ≡ Priority i p) × (is_refused (answered w c) ≡ false)

-- the call places the thread: after it the thread is ready, and before it was not, or is given a priority
pub record Places (w : List ℕ) (c : Call) (i : ℕ) : Type 0 where
  pub is-ready : ReadsReady (left w c) i
  pub newly : (ReadsReady w i → ⊥) ⊎ Prioritizes w c i

-- the thread is ready before the calls and after each of them, and none of them gives it a priority
abbrev pub StaysReady : ℕ → List ℕ → List Call → Type 0
StaysReady i w [] = ReadsReady w i
StaysReady i w (c ∷ cs) = ReadsReady w i × (Prioritizes w c i → ⊥) × StaysReady i (left w c) cs

-- a thread that waited, and that the call made ready
pub record MadeReady (w : List ℕ) (c : Call) (i : ℕ) : Type 0 where
  pub waiter : Thread
  pub read : ThreadRead w i waiter
  pub for : Wait
  pub waited : waiter.status ≡ waiting for
  pub thread : Thread
  pub reads : ThreadRead (left w c) i thread
  pub is-ready : thread.status ≡ ready

-- one call makes both ready, the first of them earlier
pub record Together (w : List ℕ) (c : Call) (i j : ℕ) : Type 0 where
  pub first : MadeReady w c i
  pub second : MadeReady w c j
  pub earlier : EarlierWithin i j first.for second.for first.thread second.thread
