-- What a checked operation answers, of its exact result.
use Rattle.std.specs.Prelude.{cond, ℕ, ◌^◌, ltb, Option, Some, None}

unfoldable pub checked : ℕ → Option ℕ
checked n = cond (ltb n (2 ^ 64)) (Some n) None
