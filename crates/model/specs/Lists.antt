-- Lists: those that pass a test, how many, whether one does, who stands in one.
use Rattle.std.specs.Prelude.{ℕ, zero, suc, ◌+◌, max, List, [], ◌∷◌, Bool, cond, not, true, false, ◌≡◌, ◌⊎◌, eqb}
use Rattle.std.proofs.Math.Option.{Option, none, some}

module _ {A : Type 0} where
  -- those that pass the test, in their order
  abbrev pub keep : (A → Bool) → List A → List A
  keep f [] = []
  keep f (x ∷ xs) = cond (f x) (x ∷ keep f xs) (keep f xs)

  -- whether one of them passes the test
  abbrev pub any : (A → Bool) → List A → Bool
  any f [] = false
  any f (x ∷ xs) = cond (f x) true (any f xs)

  -- whether each of them passes the test
  abbrev pub every : (A → Bool) → List A → Bool
  every f [] = true
  every f (x ∷ xs) = cond (f x) (every f xs) false

  -- how many of them pass the test
  abbrev pub count_of : (A → Bool) → List A → ℕ
  count_of f [] = 0
  count_of f (x ∷ xs) = cond (f x) 1 0 + count_of f xs

  -- whether there is none
  abbrev pub is_empty : List A → Bool
  is_empty [] = true
  is_empty (x ∷ xs) = false

  -- the one at a position, from 0 on
  abbrev pub nth : List A → ℕ → Option A
  nth [] n = none
  nth (x ∷ xs) zero = some x
  nth (x ∷ xs) (suc n) = nth xs n

  -- the first that passes the test
  abbrev pub first_of : (A → Bool) → List A → Option A
  first_of f [] = none
  first_of f (x ∷ xs) = cond (f x) (some x) (first_of f xs)

  -- it stands in the list
  abbrev pub Mem : A → List A → Type 0
  Mem y [] = ⊥
  Mem y (x ∷ xs) = (y ≡ x) ⊎ Mem y xs

  -- whether there is a value
  abbrev pub present : Option A → Bool
  present none = false
  present (some x) = true

-- what `f` makes of the value, or `b` where there is none
module _ {A B : Type 0} where
  abbrev pub given : Option A → B → (A → B) → B
  given none b f = b
  given (some x) b f = f x

-- ---- lists of numbers

-- the first, or 0
abbrev pub first : List ℕ → ℕ
first [] = 0
first (x ∷ xs) = x

-- all but the first
abbrev pub rest : List ℕ → List ℕ
rest [] = []
rest (x ∷ xs) = xs

-- the list without a number
abbrev pub without : ℕ → List ℕ → List ℕ
without id l = keep (λ x. not (eqb x id)) l

-- whether it stands in the list
abbrev pub member : ℕ → List ℕ → Bool
member y [] = false
member y (x ∷ xs) = cond (eqb x y) true (member y xs)

-- none stands twice
abbrev pub Distinct : List ℕ → Type 0
Distinct [] = Unit
Distinct (x ∷ xs) = (Mem x xs → ⊥) × Distinct xs

-- the largest value of `f` on the list, 0 on the empty one
abbrev pub largest : (ℕ → ℕ) → List ℕ → ℕ
largest f [] = 0
largest f (x ∷ xs) = max (f x) (largest f xs)

-- `t` stands in the list with `i` somewhere behind it
abbrev pub Before : ℕ → ℕ → List ℕ → Type 0
Before t i [] = ⊥
Before t i (x ∷ xs) = ((t ≡ x) × Mem i xs) ⊎ Before t i xs
