-- The words of a line. A line is a list of bytes.
use Rattle.std.specs.Prelude.{Bool, cond, true, false, List, [], ◌∷◌, ℕ, suc, ◌-◌, eqb, take, drop}

-- a space or a tab
unfoldable pub blank : ℕ → Bool
blank b = cond (eqb b 32) true (eqb b 9)

-- `b` in front of the first piece
unfoldable pub grown : ℕ → List (List ℕ) → List (List ℕ)
grown b [] = (b ∷ []) ∷ []
grown b (w ∷ ws) = (b ∷ w) ∷ ws

-- what stands between the blanks; where two blanks stand side by side, an empty piece
unfoldable pub pieces : List ℕ → List (List ℕ)
pieces [] = [] ∷ []
pieces (b ∷ s) = cond (blank b) ([] ∷ pieces s) (grown b (pieces s))

-- the pieces that are not empty
unfoldable pub full : List (List ℕ) → List (List ℕ)
full [] = []
full ([] ∷ ws) = full ws
full ((b ∷ w) ∷ ws) = (b ∷ w) ∷ full ws

unfoldable pub words_of : List ℕ → List (List ℕ)
words_of s = full (pieces s)

-- the words from place `at` of a line on
abbrev pub words_at : List ℕ → ℕ → List (List ℕ)
words_at s at = words_of (drop at s)

-- ---- lists of words

-- the first word, an empty one where there is none
unfoldable pub first : List (List ℕ) → List ℕ
first [] = []
first (w ∷ ws) = w

unfoldable pub others : List (List ℕ) → List (List ℕ)
others [] = []
others (w ∷ ws) = ws

unfoldable pub none : List (List ℕ) → Bool
none [] = true
none (w ∷ ws) = false

unfoldable pub same : List ℕ → List ℕ → Bool
same [] [] = true
same [] (b ∷ t) = false
same (a ∷ s) [] = false
same (a ∷ s) (b ∷ t) = cond (eqb a b) (same s t) false

-- ---- places

-- how many blanks stand at the head, and how many bytes up to the first blank
unfoldable pub blanks : List ℕ → ℕ
blanks [] = 0
blanks (b ∷ s) = cond (blank b) (suc (blanks s)) 0

unfoldable pub letters : List ℕ → ℕ
letters [] = 0
letters (b ∷ s) = cond (blank b) 0 (suc (letters s))

-- the bytes from place `from` to place `to`
unfoldable pub part : ℕ → ℕ → List ℕ → List ℕ
part from to s = take (to - from) (drop from s)
