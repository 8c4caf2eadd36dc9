-- Words of a line as they are shown.
use Rattle.std.specs.Prelude.{cond, List, [], ◌∷◌, ◌++◌, ℕ, zero, suc, ltb, take}
use Rattle.script_lex.specs.Text.{bytes_of}
use Rattle.script_lex.specs.Words.{first, others}

-- a question mark, 63, for what is not printable ASCII
unfoldable pub visible : ℕ → ℕ
visible b = cond (ltb b 32) 63 (cond (ltb 126 b) 63 b)

unfoldable pub shown : List ℕ → List ℕ
shown [] = []
shown (b ∷ w) = visible b ∷ shown w

unfoldable pub skipped : ℕ → List (List ℕ) → List (List ℕ)
skipped zero ws = ws
skipped (suc n) ws = skipped n (others ws)

-- word `p`, as far as 40 bytes, in quotes
unfoldable pub quoted : ℕ → List (List ℕ) → List ℕ
quoted p ws = bytes_of "`" ++ shown (take 40 (first (skipped p ws))) ++ bytes_of "`"
