-- Which thread is the right one to run: "the first of the highest ready queue", in words.
use Rattle.std.specs.Prelude.{ℕ, ◌≤◌, ◌≡◌, ◌⊎◌}
use Rattle.model.specs.Lists.{Mem, Before}
use Rattle.model.specs.State.{Dispatcher, ready}
use Rattle.model.specs.Threads.{priority_of, status_of}

-- it is placed, and so ready; no placed thread has a higher priority; of those with its priority it was placed earliest
pub record Right (d : Dispatcher) (t : ℕ) : Type 0 where
  pub placed : Mem t d.placed
  pub is-ready : status_of d t ≡ ready
  pub highest : (i : ℕ) → Mem i d.placed → priority_of d i ≤ priority_of d t
  pub earliest : (i : ℕ) → Mem i d.placed → priority_of d i ≡ priority_of d t → (i ≡ t) ⊎ Before t i d.placed
