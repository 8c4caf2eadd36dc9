-- Whose turn it is: which calls place a thread last in its queue, told by the statuses before a call and after it.
use Rattle.std.specs.Prelude.{ℕ, ◌<◌, List, [], ◌∷◌, ◌≡◌, ◌⊎◌}
use Rattle.std.proofs.Math.Option.{some}
use Rattle.model.specs.State.{State, Thread, Wait, ready, waiting, satisfied, timeout}
use Rattle.model.specs.Threads.{thread_of, status_of}
use Rattle.model.specs.Call.{Call, Priority}
use Rattle.model.specs.Step.{step, refusal}

-- the thread is ready
abbrev pub IsReady : State → ℕ → Type 0
IsReady s i = status_of s.dispatcher i ≡ ready

-- the call gives the thread a priority, be it the same, and is not refused
abbrev pub Prioritizes : Call → State → ℕ → Type 0
Prioritizes c s i = (p : ℕ) × (c ≡ Priority i p) × (refusal c s ≡ 0)

-- the call places the thread: after it the thread is ready, and before it was not, or is given a priority
pub record Places (c : Call) (s : State) (i : ℕ) : Type 0 where
  pub is-ready : IsReady (step c s).state i
  pub newly : (IsReady s i → ⊥) ⊎ Prioritizes c s i

-- the thread is ready before the calls and after each of them, and none of them gives it a priority
abbrev pub StaysReady : ℕ → List Call → State → Type 0
StaysReady i [] s = IsReady s i
StaysReady i (c ∷ cs) s = IsReady s i × (Prioritizes c s i → ⊥) × StaysReady i cs (step c s).state

-- of two threads that waited and that one call made ready, the first was made ready earlier within the call: threads that got what they
-- waited for come before those that timed out, those that got it by their wait sequences, and those that timed out by their numbers
pub data EarlierWithin (i j : ℕ) (x y : Wait) (p q : Thread) : Type 0 where
  wakes-first : (k : ℕ) → p.result ≡ some (satisfied k) → q.result ≡ some timeout → EarlierWithin i j x y p q
  by_sequence : (k l : ℕ) → p.result ≡ some (satisfied k) → q.result ≡ some (satisfied l) → x.sequence < y.sequence → EarlierWithin i j x y p q
  by_number : p.result ≡ some timeout → q.result ≡ some timeout → i < j → EarlierWithin i j x y p q

-- one call makes both ready, the first of them earlier
pub record Together (c : Call) (s : State) (i j : ℕ) : Type 0 where
  pub first : Wait
  pub second : Wait
  pub first_waits : status_of s.dispatcher i ≡ waiting first
  pub second_waits : status_of s.dispatcher j ≡ waiting second
  pub first_ready : IsReady (step c s).state i
  pub second_ready : IsReady (step c s).state j
  pub earlier : EarlierWithin i j first second (thread_of (step c s).state.dispatcher i) (thread_of (step c s).state.dispatcher j)
