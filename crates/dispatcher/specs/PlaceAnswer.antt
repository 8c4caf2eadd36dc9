-- What a read of an object that a thread waits for tells, in one type with the number of its refusal. The code answers an Option, and behind the form check a Result of it.
use Rattle.std.specs.Prelude.{ℕ}
use Rattle.dispatcher.specs.declared.read.Place.{Place}

pub data PlaceAnswer : Type 0 where
  Refused : ℕ → PlaceAnswer
  Object : Place → PlaceAnswer
  None : PlaceAnswer
