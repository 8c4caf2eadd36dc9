-- Signed periods and dues, taken apart by sign. `negsuc n` is - (n + 1).
use Rattle.std.specs.Prelude.{Bool, true, false, ℕ, ◌+◌, ℤ, pos, negsuc}

abbrev pub negative : ℤ → Bool
negative (pos n) = false
negative (negsuc n) = true

abbrev pub whole : ℤ → ℕ
whole (pos n) = n
whole (negsuc n) = 0

abbrev pub magnitude : ℤ → ℕ
magnitude (pos n) = 0
magnitude (negsuc n) = n + 1
