-- A word has 64 bits.
use Rattle.std.specs.Prelude.{ℕ, ◌^◌, ◌<◌, List, get_or}

-- every slice of u64 has it
abbrev pub Words : List ℕ → Type 0
Words w = (i : ℕ) → get_or w i 0 < 2 ^ 64
