-- A table: a list of records that rises by a key of theirs.
use Rattle.std.specs.Prelude.{ℕ, ◌<◌, List, [], ◌∷◌, cond, eqb, ltb}
use Rattle.std.proofs.Math.Option.{Option, none, some}

module _ {A : Type 0} (key : A → ℕ) where
  -- the record with that key
  abbrev pub find : List A → ℕ → Option A
  find [] k = none
  find (x ∷ xs) k = cond (eqb (key x) k) (some x) (find xs k)

  -- in the place of the record with its key, or put in where the keys keep rising
  abbrev pub put : A → List A → List A
  put x [] = x ∷ []
  put x (y ∷ ys) = cond (ltb (key x) (key y)) (x ∷ y ∷ ys) (cond (eqb (key y) (key x)) (x ∷ ys) (y ∷ put x ys))

  -- every key of the list is above `k`
  abbrev pub Above : ℕ → List A → Type 0
  Above k [] = Unit
  Above k (x ∷ xs) = (k < key x) × Above k xs

  -- the keys rise, so none stands twice
  abbrev pub Rising : List A → Type 0
  Rising [] = Unit
  Rising (x ∷ xs) = Above (key x) xs × Rising xs
