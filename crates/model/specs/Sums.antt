-- The duplicates and the acceptances of a list of calls, added up call by call from what calls answer. `ask` is what a call would be answered.
use Rattle.std.specs.Prelude.{ℕ, ◌+◌, List, [], ◌∷◌, Bool, true, false, not, ◌&&◌, ◌≡◌, eqb, leb}
use Rattle.images.specs.declared.Timer.{Timer}
use Rattle.images.specs.declared.Dpc.{Dpc}
use Rattle.model.specs.Lists.{Mem, nth, count_of, given}
use Rattle.model.specs.Dpcs.{is_queued}
use Rattle.model.specs.Answer.{Answer, Refused, Done, None, Flag, TimerIs, DpcIs}
use Rattle.model.specs.Call.{Call, Open, InsertQueueDpc, AdvanceTo}
use Rattle.model.specs.Call as call

-- the timer is inserted, due by the time, and has a DPC
abbrev pub expires : ℕ → Timer → Bool
expires time t = t.inserted && (leb t.due time && not (eqb t.dpc 0))

-- the expiries of an advance to the time, counted before it: those whose DPC reads as queued, and the others with a DPC
pub record Expiries (ask : Call → Answer) (time again anew : ℕ) : Type 0 where
  -- all timers, as `timers` answers them by their positions
  pub timers : List Timer
  pub read : (n : ℕ) → ask (call.Reads (call.Timers n)) ≡ given (nth timers n) None TimerIs
  -- which DPC `dpc` answers as queued
  pub queued : ℕ → Bool
  pub dpcs : (t : Timer) → Mem t timers → expires time t ≡ true → (x : Dpc) × (ask (call.Reads (call.DpcAt t.dpc)) ≡ DpcIs x) × (queued t.dpc ≡ is_queued x.phase)
  pub old : again ≡ count_of (λ t. expires time t && queued t.dpc) timers
  pub new : anew ≡ count_of (λ t. expires time t && not (queued t.dpc)) timers

-- neither an `open` nor an insert nor an advance
pub record Neither (c : Call) : Type 0 where
  pub not_open : (m p t o d : ℕ) → c ≡ Open m p t o d → ⊥
  pub not_insert : (a first second : ℕ) → c ≡ InsertQueueDpc a first second → ⊥
  pub not_advance : (time : ℕ) → c ≡ AdvanceTo time → ⊥

-- with one more call the sums `d` of duplicates and `a` of acceptances are `e` and `b`
pub data Adds (ask : Call → Answer) (c : Call) (d a e b : ℕ) : Type 0 where
  -- an `open` starts anew
  restarts : (m p t o n : ℕ) → c ≡ Open m p t o n → ask c ≡ Done → e ≡ 0 → b ≡ 0 → Adds ask c d a e b
  -- an insert that answered no is a duplicate, one that answered yes an acceptance
  repeats : (x first second : ℕ) → c ≡ InsertQueueDpc x first second → ask c ≡ Flag false → e ≡ d + 1 → b ≡ a → Adds ask c d a e b
  accepts : (x first second : ℕ) → c ≡ InsertQueueDpc x first second → ask c ≡ Flag true → e ≡ d → b ≡ a + 1 → Adds ask c d a e b
  -- an advance: the expiries at queued work, and the others with a DPC
  expiries : (time again anew : ℕ) → c ≡ AdvanceTo time → ask c ≡ Done → Expiries ask time again anew → e ≡ d + again → b ≡ a + anew → Adds ask c d a e b
  -- a refused call and every other adds nothing
  refused : (n : ℕ) → ask c ≡ Refused n → e ≡ d → b ≡ a → Adds ask c d a e b
  other : Neither c → e ≡ d → b ≡ a → Adds ask c d a e b

-- the sums of a list of calls, the first on `x`: `run` is what a call leaves, and `ask` what it answers
module _ {X : Type 0} (ask : X → Call → Answer) (run : X → Call → X) where
  abbrev pub Sums : X → List Call → ℕ → ℕ → ℕ → ℕ → Type 0
  Sums x [] d a e b = (e ≡ d) × (b ≡ a)
  Sums x (c ∷ cs) d a e b = (d₁ a₁ : ℕ) × (Adds (ask x) c d a d₁ a₁) × Sums (run x c) cs d₁ a₁ e b
