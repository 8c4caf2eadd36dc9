-- What a read of a thread tells, in one type with the number of its refusal. The code answers an Option, and behind the form check a Result of it.
use Rattle.std.specs.Prelude.{ℕ}
use Rattle.dispatcher.specs.declared.read.ThreadView.{ThreadView}

pub data ThreadAnswer : Type 0 where
  Refused : ℕ → ThreadAnswer
  Thread : ThreadView → ThreadAnswer
  None : ThreadAnswer
