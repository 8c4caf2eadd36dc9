-- A row: what the words from a place on hold. `some n`: the word is n. `none`: nothing is said of the word here.
use Rattle.std.specs.Prelude.{ℕ, ◌+◌, List, ◌≡◌, get_or}
use Rattle.std.proofs.Math.Option.{Option, none, some}

abbrev pub Row : List ℕ → ℕ → List (Option ℕ) → Type 0
Row w at row = (k n : ℕ) → get_or row k none ≡ some n → get_or w (at + k) 0 ≡ n

-- the places of which a row says something
pub record Of (at : ℕ) (row : List (Option ℕ)) (j : ℕ) : Type 0 where
  pub word : ℕ
  pub holds : ℕ
  pub says : get_or row word none ≡ some holds
  pub here : j ≡ at + word
