-- A decimal number in a text.
use Rattle.std.specs.Prelude.{ℕ, ◌+◌, ◌-◌, ◌*◌, ◌^◌, Bool, cond, ◌&&◌, List, [], ◌∷◌, nat_le, nat_lt}
use Rattle.clock_replay.specs.declared.decimal.Number.{Number}

-- `n` with the digit `b` behind it
abbrev pub with_digit : ℕ → ℕ → ℕ
with_digit n b = n * 10 + (b - 48)

-- `b` is a digit, and the number with it fits 64 bits
unfoldable pub takes : ℕ → ℕ → Bool
takes n b = nat_le 48 b && (nat_le b 57 && nat_lt (with_digit n b) (2 ^ 64))

-- the number that the digits at the head of a text tell, behind `n`, and the place behind them; the text starts at place `at`
unfoldable pub scanned : List ℕ → ℕ → ℕ → Number
scanned [] at n = record { value = n; next = at }
scanned (b ∷ bs) at n = cond (takes n b) (scanned bs (at + 1) (with_digit n b)) (record { value = n; next = at })
