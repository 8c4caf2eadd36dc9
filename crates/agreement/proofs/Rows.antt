-- Rows, and runs of stores: a store shows at its own place alone, so a row keeps what is not stored and says what is.
use Prim.Native.Nat.{ℕ, zero, suc, ◌+◌, ◌<◌}
use mathlib.Core.List.{List, [], ◌∷◌, ◌++◌}
use mathlib.Core.Option.{Option, none, some}
use mathlib.Core.Path.{◌≡◌, refl, sym, ap, ◌∙◌, subst}
use native.Mathlib.Omega.{arith}
use native.Mathlib.Decide.{ℕ_discrete}
use lib.ListN.{get_or, set, length, length-set, replicate, drop}
use lib.Seq.{get_or-set_other}
use Rattle.model.proofs.TableLaws.{some_same, none-some}
use Rattle.agreement_chains.specs.Chains.{Same}
use Rattle.agreement_chains.proofs.Frames.{read-other, read_same, set-outside}
use Rattle.agreement.specs.Row.{Row, Of}

-- ---- a row depends on the places of which it says something

pub row-depends : (w w' : List ℕ) (at : ℕ) (row : List (Option ℕ)) → Same (Of at row) w w' → Row w at row → Row w' at row
row-depends w w' at row same a k n e = same (at + k) (record { word = k; holds = n; says = e; here = refl }) ∙ a k n e

pub says-short : (row : List (Option ℕ)) (k n : ℕ) → get_or row k none ≡ some n → k < length row
says-short [] k n e = absurd (none-some n e)
says-short (x ∷ xs) zero n e = omega arith
says-short (x ∷ xs) (suc k) n e = omega (arith, says-short xs k n e)

-- it says nothing of a word that it leaves out
pub silent : (row : List (Option ℕ)) (at j k : ℕ) (o : Of at row j) → get_or row k none ≡ none → o.word ≡ k → ⊥
silent row at j k o e q = none-some o.holds (sym e ∙ ap (λ (i : ℕ). get_or row i none) (sym q) ∙ o.says)

-- ---- a store in a row

set_says : (row : List (Option ℕ)) (k v n : ℕ) → get_or (set row k (some v)) k none ≡ some n → v ≡ n
set_says [] k v n e = absurd (none-some n e)
set_says (x ∷ xs) zero v n e = some_same v n e
set_says (x ∷ xs) (suc k) v n e = set_says xs k v n e

pub row-set : (w : List ℕ) (at : ℕ) (row : List (Option ℕ)) (k v : ℕ) → at + k < length w → Row w at row → Row (set w (at + k) v) at (set row k (some v))
row-set w at row k v h a i n e = go (ℕ_discrete i k)
  where
    go : Dec (i ≡ k) → get_or (set w (at + k) v) (at + i) 0 ≡ n
    go (yes q) =
        ap (λ (m : ℕ). get_or (set w (at + k) v) (at + m) 0) q ∙ read_same w (at + k) v h
        ∙ set_says row k v n (subst (λ (m : ℕ). get_or (set row k (some v)) m none ≡ some n) q e)
    go (no q) = read-other w (at + k) (at + i) v (λ z. q (omega arith)) ∙ a i n (sym (get_or-set_other row k i (some v) none q) ∙ e)

-- ---- longer and shorter rows

-- a row that says nothing
abbrev pub blank : ℕ → List (Option ℕ)
blank n = replicate n none

blank_none : (n k : ℕ) → get_or (blank n) k none ≡ none
blank_none zero k = refl
blank_none (suc n) zero = refl
blank_none (suc n) (suc k) = blank_none n k

pub row-blank : (w : List ℕ) (at n : ℕ) → Row w at (blank n)
row-blank w at n k m e = absurd (none-some m (sym (blank_none n k) ∙ e))

pub row_more : (w : List ℕ) (at : ℕ) (row : List (Option ℕ)) (m : ℕ) → Row w at row → Row w at (row ++ blank m)
row_more w at row m a k n e = a k n (go row k e)
  where
    go : (row : List (Option ℕ)) (k : ℕ) → get_or (row ++ blank m) k none ≡ some n → get_or row k none ≡ some n
    go [] k e = absurd (none-some n (sym (blank_none m k) ∙ e))
    go (x ∷ xs) zero e = e
    go (x ∷ xs) (suc k) e = go xs k e

pub row-less : (w : List ℕ) (at : ℕ) (row more : List (Option ℕ)) → Row w at (row ++ more) → Row w at row
row-less w at row more a k n e = a k n (go row k e)
  where
    go : (row : List (Option ℕ)) (k : ℕ) → get_or row k none ≡ some n → get_or (row ++ more) k none ≡ some n
    go [] k e = absurd (none-some n e)
    go (x ∷ xs) zero e = e
    go (x ∷ xs) (suc k) e = go xs k e

-- the words of a row from its word `m` on
pub row_drop : (w : List ℕ) (at : ℕ) (row : List (Option ℕ)) (m : ℕ) → Row w at row → Row w (at + m) (drop m row)
row_drop w at row zero a = subst (λ (p : ℕ). Row w p row) (let e : at ≡ at + 0 = omega arith in e) a
row_drop w at [] (suc m) a = λ k n e. absurd (none-some n e)
row_drop w at (x ∷ xs) (suc m) a =
    subst (λ (p : ℕ). Row w p (drop m xs)) (let e : at + 1 + m ≡ at + suc m = omega arith in e)
    (row_drop w (at + 1) xs m (λ k n e. ap (λ (p : ℕ). get_or w p 0) (let q : at + 1 + k ≡ at + suc k = omega arith in q) ∙ a (suc k) n e))

-- ---- a run of stores, each in a word from a place on: every writer of a record is one

pub record Store : Type 0 where
  pub word : ℕ
  pub value : ℕ

abbrev pub store : ℕ → ℕ → Store
store k v = record { word = k; value = v }

abbrev pub written : List ℕ → ℕ → List Store → List ℕ
written w at [] = w
written w at (x ∷ xs) = written (set w (at + x.word) x.value) at xs

-- what the row says afterwards
abbrev pub rewritten : List (Option ℕ) → List Store → List (Option ℕ)
rewritten row [] = row
rewritten row (x ∷ xs) = rewritten (set row x.word (some x.value)) xs

-- the stores are in words with a property
abbrev pub In : (ℕ → Type 0) → List Store → Type 0
In D [] = Unit
In D (x ∷ xs) = D x.word × In D xs

pub length-written : (w : List ℕ) (at : ℕ) (xs : List Store) → length (written w at xs) ≡ length w
length-written w at [] = refl
length-written w at (x ∷ xs) = length-written (set w (at + x.word) x.value) at xs ∙ length-set w (at + x.word) x.value

pub written-outside : (R : ℕ → Type 0) (D : ℕ → Type 0) (w : List ℕ) (at : ℕ) (xs : List Store) → In D xs → ((k : ℕ) → D k → R (at + k) → ⊥) → Same R w (written w at xs)
written-outside R D w at [] i n j r = refl
written-outside R D w at (x ∷ xs) i n j r =
    written-outside R D (set w (at + x.word) x.value) at xs i.1 n j r ∙ set-outside R w (at + x.word) x.value (n x.word i.0) j r

pub row_written : (D : ℕ → Type 0) (w : List ℕ) (at : ℕ) (row : List (Option ℕ)) (xs : List Store) → In D xs → ((k : ℕ) → D k → at + k < length w)
    → Row w at row → Row (written w at xs) at (rewritten row xs)
row_written D w at row [] i h a = a
row_written D w at row (x ∷ xs) i h a =
    row_written D (set w (at + x.word) x.value) at (set row x.word (some x.value)) xs i.1
    (λ k d. subst (λ (m : ℕ). at + k < m) (sym (length-set w (at + x.word) x.value)) (h k d))
    (row-set w at row x.word x.value (h x.word i.0) a)
