-- The exported sizing call, and the words that the exported `open` then asks for.
use Rattle.std.specs.Prelude.{ℕ, ◌≤◌, ◌<◌, ◌≡◌, List, length}
use Rattle.opening.specs.Open.{sized}
use Rattle.model.specs.Call as call
use Rattle.calls.specs.Called.{called}
use Rattle.calls.specs.Guard as kind
use Rattle.exports.specs.SchedulerAnswer.{Given, changed_by}
use Rattle.exports.specs.RecordCall.{read_by}

-- what the sizing call gives on an output
abbrev pub sizing : ℕ → ℕ → ℕ → List ℕ → Given
sizing t o d out = read_by kind.plain out out (sized t o d)

-- the number that `open` gives, on words and an output
abbrev pub open_number : ℕ → ℕ → ℕ → ℕ → List ℕ → List ℕ → ℕ
open_number p t o d w out = (changed_by w out (called w (call.Open (length w) p t o d))).number

-- `n` words and more are enough for these limits, and fewer are refused by 27, on any output of four words and more
pub record Enough (p t o d n : ℕ) : Type 0 where
  pub enough : (w out : List ℕ) → n ≤ length w → 4 ≤ length out → open_number p t o d w out ≡ 0
  pub fewer : (w out : List ℕ) → length w < n → 4 ≤ length out → open_number p t o d w out ≡ 27
