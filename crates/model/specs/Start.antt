-- How a history begins: its first call, and the state that the log begins with.
use Rattle.std.specs.Prelude.{ℕ, ◌≡◌}
use Rattle.model.specs.State.{State}
use Rattle.model.specs.Call.{Call, Open}
use Rattle.model.specs.Refusal.{open_refusal}
use Rattle.model.specs.Step.{opened}

pub data Start : Type 0 where
  by_open : ℕ → ℕ → ℕ → ℕ → Start  -- an `open`: a priority, the limits of threads, objects and DPCs

-- its call, on `m` lent words
abbrev pub first_call : ℕ → Start → Call
first_call m (by_open p t o d) = Open m p t o d

-- the table accepts the call
abbrev pub Accepted : ℕ → Start → Type 0
Accepted m (by_open p t o d) = open_refusal m p t o d ≡ 0

-- the log's state after the call
abbrev pub begun : Start → State
begun (by_open p t o d) = opened p t o d
