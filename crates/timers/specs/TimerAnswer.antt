-- What a read of a timer tells, in one type with the number of its refusal.
-- The code answers a Result where it is asked for an address, else an Option; behind the form check that is in a Result.
use Rattle.std.specs.Prelude.{ℕ}
use Rattle.images.specs.declared.Timer as images

pub data TimerAnswer : Type 0 where
  Refused : ℕ → TimerAnswer
  None : TimerAnswer
  Timer : images.Timer → TimerAnswer
