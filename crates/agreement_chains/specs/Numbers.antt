-- New numbers of DPCs: which words tell them, and which DPCs stay.
use Rattle.std.specs.Prelude.{ℕ, zero, suc, ◌+◌, ◌*◌, ◌≤◌, List, Bool, cond, not, ◌≡◌, ◌⊎◌, get_or, eqb}
use Rattle.words.specs.Layout as at
use Rattle.dpcs.specs.Record.{place_at}

-- what the new numbers of the DPCs 1 to `n` are read from: the limits, and that word of their records
abbrev pub Told : List ℕ → ℕ → ℕ → Type 0
Told w n j = (j ≤ 1) ⊎ ((y : ℕ) × (1 ≤ y) × (y ≤ n) × (j ≡ place_at w y + at.new_number))

-- the DPC at position `i` is not marked to go: its phase is not 9
abbrev pub stays : List ℕ → ℕ → ℕ → Bool
stays w base i = not (eqb (get_or w (base + 32 * i + at.phase) 0) 9)

-- how many positions below `i` pass the test
abbrev pub kept_below : (ℕ → Bool) → ℕ → ℕ
kept_below f zero = 0
kept_below f (suc i) = cond (f i) (suc (kept_below f i)) (kept_below f i)
