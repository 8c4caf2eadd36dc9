-- When the words of a chain hold a list of record numbers, and which words these are.
use Rattle.std.specs.Prelude.{ℕ, ◌≤◌, ◌<◌, List, [], ◌∷◌, ◌≡◌, ◌⊎◌, get_or}
use Rattle.chains.specs.declared.Chain.{Chain}
use Rattle.chains.specs.Chain.{link_at}
use Rattle.model.specs.Lists.{Mem, Distinct}

-- after `before` come the records of the list, and then none
abbrev pub Linked : List ℕ → Chain → ℕ → List ℕ → Type 0
Linked w c before [] = get_or w (link_at c before) 0 ≡ 0
Linked w c before (x ∷ xs) = (get_or w (link_at c before) 0 ≡ x) × Linked w c x xs

-- the last of the list, or `d` where it is empty
abbrev pub last_from : ℕ → List ℕ → ℕ
last_from d [] = d
last_from d (x ∷ xs) = last_from x xs

-- the first, the links and the last of the chain are those of the list
pub record Holds (w : List ℕ) (c : Chain) (xs : List ℕ) : Type 0 where
  pub chain : Linked w c 0 xs
  pub last : get_or w c.last 0 ≡ last_from 0 xs

-- numbers of 1 to `n`, none twice
pub record Standing (n : ℕ) (xs : List ℕ) : Type 0 where
  pub within : (y : ℕ) → Mem y xs → (1 ≤ y) × (y ≤ n)
  pub once : Distinct xs

-- ---- regions

-- words that hold the same at every place of a region
abbrev pub Same : (ℕ → Type 0) → List ℕ → List ℕ → Type 0
Same R w w' = (j : ℕ) → R j → get_or w' j 0 ≡ get_or w j 0

-- the places of a chain that holds the list
abbrev pub Own : Chain → List ℕ → ℕ → Type 0
Own c xs j = (j ≡ c.last) ⊎ ((y : ℕ) × (Mem y (0 ∷ xs)) × (j ≡ link_at c y))

-- the places of a chain of any of the records 1 to `n`
abbrev pub Places : Chain → ℕ → ℕ → Type 0
Places c n j = (j ≡ c.last) ⊎ ((y : ℕ) × (y ≤ n) × (j ≡ link_at c y))

-- first, last and the links of the records 1 to `n` are places of their own, below `m`; link 0 is the first
pub record Apart (c : Chain) (n m : ℕ) : Type 0 where
  pub few : n ≤ 4096
  pub links : (y z : ℕ) → y ≤ n → z ≤ n → link_at c y ≡ link_at c z → y ≡ z
  pub not_last : (y : ℕ) → y ≤ n → link_at c y ≡ c.last → ⊥
  pub link_in : (y : ℕ) → y ≤ n → link_at c y < m
  pub last_in : c.last < m

-- ---- walks

-- something carried along a list
module _ {A : Type 0} where
  abbrev pub along : (A → ℕ → A) → A → List ℕ → A
  along step a [] = a
  along step a (x ∷ xs) = along step (step a x) xs

-- something put together from the end of a list back
module _ {B : Type 0} where
  abbrev pub back : (ℕ → B → B) → B → List ℕ → B
  back join end [] = end
  back join end (x ∷ xs) = join x (back join end xs)
