-- What a read of a DPC tells, in one type with the number of its refusal.
-- The code answers a Result where it is asked for an address, else an Option; behind the form check that is in a Result.
use Rattle.std.specs.Prelude.{ℕ}
use Rattle.images.specs.declared.Dpc as images

pub data DpcAnswer : Type 0 where
  Refused : ℕ → DpcAnswer
  None : DpcAnswer
  Dpc : images.Dpc → DpcAnswer
