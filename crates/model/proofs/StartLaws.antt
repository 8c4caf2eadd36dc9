-- An accepted start, over the log.
use Prim.Native.Nat.{ℕ}
use mathlib.Core.Path.{◌≡◌}
use Rattle.model.specs.State.{State}
use Rattle.model.specs.Answer.{gives, Done}
use Rattle.model.specs.Call.{Open}
use Rattle.model.specs.Step.{refusal, effect, step}
use Rattle.model.specs.Start.{Start, by_open, first_call, Accepted, begun}
use Rattle.model.specs.Valid.{Valid}
use Rattle.model.specs.Fits.{Numbers}
use Rattle.model.proofs.StepLaws.{valid-opened}
use Rattle.model.proofs.FitsLaws.{numbers-opened}
use Rattle.model.proofs.WdkLaws.{step_is}

-- whatever was before, its call answers that it is done and leaves its state
pub first_step : (m : ℕ) (start : Start) → Accepted m start → (s : State) → step (first_call m start) s ≡ gives Done (begun start)
unfolding refusal effect
first_step m (by_open p t o d) e s = step_is (Open m p t o d) s e

-- .. and a call that the table accepts, whatever was before, is an accepted start
pub first-accepted : (m : ℕ) (start : Start) (s : State) → refusal (first_call m start) s ≡ 0 → Accepted m start
unfolding refusal
first-accepted m (by_open p t o d) s e = e

pub valid-begun : (m : ℕ) (start : Start) → Accepted m start → Valid (begun start)
valid-begun m (by_open p t o d) e = valid-opened m p t o d e

pub numbers-begun : (m : ℕ) (start : Start) → Accepted m start → Numbers (begun start)
numbers-begun m (by_open p t o d) e = numbers-opened p t o d
