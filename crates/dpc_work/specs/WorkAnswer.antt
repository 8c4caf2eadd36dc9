-- What the start of work tells, in one type with the number of its refusal. The code answers a Result.
use Rattle.std.specs.Prelude.{ℕ}
use Rattle.images.specs.declared.DpcWork.{DpcWork}

pub data WorkAnswer : Type 0 where
  Refused : ℕ → WorkAnswer
  Work : DpcWork → WorkAnswer
