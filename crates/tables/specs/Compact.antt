-- The words after the records with a mark are taken out of a table, and how many stay.
use Rattle.std.specs.Borrow.{Bor}
use Rattle.std.specs.Prelude.{◌≡◌, Bool, cond, ℕ, zero, suc, ◌+◌, List, get_or, set, eqb, ltb}
use Rattle.words.specs.Layout.{entry_at}

-- word `k` of the record at a place is the mark
unfoldable pub is_marked : List ℕ → ℕ → ℕ → ℕ → Bool
is_marked w place k mark = eqb (get_or w (place + k) 0) mark

-- `m` words from word `k` on of the record at place `from` copied to the one at place `to`, the first first
unfoldable pub copied_in : ℕ → List ℕ → ℕ → ℕ → ℕ → List ℕ
copied_in zero w from to k = w
copied_in (suc m) w from to k = copied_in m (set w (to + k) (get_or w (from + k) 0)) from to (k + 1)

unfoldable pub copied : List ℕ → ℕ → ℕ → List ℕ
copied w from to = copied_in 32 w from to 0

-- record `i` as record `j`
unfoldable pub moved : List ℕ → ℕ → ℕ → ℕ → List ℕ
moved w base i j = cond (eqb i j) w (copied w (entry_at base i) (entry_at base j))

-- the test is what a closure answers of the words and a place
abbrev pub Tells : (Bor (List ℕ) → ℕ → Bool → Type 0) → (List ℕ → ℕ → Bool) → Type 0
Tells post test = (w : Bor (List ℕ)) (place : ℕ) (r : Bool) → post w place r → r ≡ test w.now place

-- `m` records from record `i` on, of which those at whose place the test answers yes go, and the others become record `j` and on
unfoldable pub retained_in : (List ℕ → ℕ → Bool) → ℕ → List ℕ → ℕ → ℕ → ℕ → List ℕ
retained_in test zero w base i j = w
retained_in test (suc m) w base i j =
    cond (test w (entry_at base i)) (retained_in test m w base (i + 1) j) (retained_in test m (moved w base i j) base (i + 1) (j + 1))

-- where the next one would go after them
unfoldable pub retained_to_in : (List ℕ → ℕ → Bool) → ℕ → List ℕ → ℕ → ℕ → ℕ → ℕ
retained_to_in test zero w base i j = j
retained_to_in test (suc m) w base i j =
    cond (test w (entry_at base i)) (retained_to_in test m w base (i + 1) j) (retained_to_in test m (moved w base i j) base (i + 1) (j + 1))

unfoldable pub retained : (List ℕ → ℕ → Bool) → List ℕ → ℕ → ℕ → List ℕ
retained test w base n = cond (ltb 8191 n) w (retained_in test n w base 0 0)

-- how many stay
unfoldable pub retained_to : (List ℕ → ℕ → Bool) → List ℕ → ℕ → ℕ → ℕ
retained_to test w base n = cond (ltb 8191 n) n (retained_to_in test n w base 0 0)

-- a record that has no mark moved to `j`, and where the next one goes
unfoldable pub kept : List ℕ → ℕ → ℕ → ℕ → ℕ → ℕ → List ℕ
kept w base i j k mark = cond (is_marked w (entry_at base i) k mark) w (moved w base i j)

unfoldable pub kept_to : List ℕ → ℕ → ℕ → ℕ → ℕ → ℕ → ℕ
kept_to w base i j k mark = cond (is_marked w (entry_at base i) k mark) j (j + 1)

-- `m` records from record `i` on, of which those that stay go to `j` and on
unfoldable pub compacted_in : ℕ → List ℕ → ℕ → ℕ → ℕ → ℕ → ℕ → List ℕ
compacted_in zero w base i j k mark = w
compacted_in (suc m) w base i j k mark = compacted_in m (kept w base i j k mark) base (i + 1) (kept_to w base i j k mark) k mark

-- where the next one would go after them
unfoldable pub compacted_to_in : ℕ → List ℕ → ℕ → ℕ → ℕ → ℕ → ℕ → ℕ
compacted_to_in zero w base i j k mark = j
compacted_to_in (suc m) w base i j k mark = compacted_to_in m (kept w base i j k mark) base (i + 1) (kept_to w base i j k mark) k mark

unfoldable pub compacted : List ℕ → ℕ → ℕ → ℕ → ℕ → List ℕ
compacted w base n k mark = cond (ltb 8191 n) w (compacted_in n w base 0 0 k mark)

-- how many stay
unfoldable pub compacted_to : List ℕ → ℕ → ℕ → ℕ → ℕ → ℕ
compacted_to w base n k mark = cond (ltb 8191 n) n (compacted_to_in n w base 0 0 k mark)
