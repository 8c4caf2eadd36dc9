-- The numbers of document 01's table.
use Rattle.std.specs.Prelude.{ℕ, Result, Ok, Err, ⊤}
use Rattle.clock.specs.declared.ClockError.{ClockError}
use Rattle.clock.specs.declared.ClockError.TheVariants.{InvalidConfiguration, Overflow, OutOfForm}

abbrev pub error_number : ClockError → ℕ
error_number InvalidConfiguration = 25
error_number Overflow = 26
error_number OutOfForm = 27

-- 0 where the call is accepted
abbrev pub refusal_number : Result ⊤ ClockError → ℕ
refusal_number (Ok done) = 0
refusal_number (Err e) = error_number e
