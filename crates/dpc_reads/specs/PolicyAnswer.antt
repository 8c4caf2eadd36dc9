-- What a read of the policy tells, in one type with the number of its refusal. The code answers a DpcPolicy, and behind the form check a Result of it.
use Rattle.std.specs.Prelude.{ℕ}

pub data PolicyAnswer : Type 0 where
  Refused : ℕ → PolicyAnswer
  Unselected : PolicyAnswer
  Cpu0Dispatch : ℕ → ℕ → PolicyAnswer
