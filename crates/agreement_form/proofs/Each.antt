-- Lists of what a function makes of numbers one behind another, and rows built word by word.
use Prim.Native.Nat.{ℕ, zero, suc, ◌+◌, ◌≤◌, ◌<◌}
use mathlib.Core.List.{List, [], ◌∷◌}
use mathlib.Core.Bool.{not}
use mathlib.Core.Option.{Option, none, some}
use mathlib.Core.Path.{◌≡◌, refl, sym, ap, ◌∙◌, subst}
use mathlib.Core.Logic.{inl, inr}
use native.Mathlib.Omega.{arith}
use native.Mathlib.Decide.{ℕ_discrete}
use lib.ListN.{get_or, length}
use lib.Dec.{eqb}
use Rattle.model.specs.Lists.{nth, Mem}
use Rattle.model.specs.Table.{Above, Rising}
use Rattle.model.proofs.TableLaws.{none-some, some_same}
use Rattle.agreement.specs.Row.{Row}
use Rattle.agreement.specs.Records.{flag}
use Rattle.agreement_form.specs.Decoded.{each}

module _ {A : Type 0} (f : ℕ → A) where
  pub length-each : (m i : ℕ) → length (each f m i) ≡ m
  length-each zero i = refl
  length-each (suc m) i = ap suc (length-each m (i + 1))

  pub nth-each : (m i k : ℕ) → k < m → nth (each f m i) k ≡ some (f (i + k))
  nth-each zero i k h = absurd (omega arith)
  nth-each (suc m) i zero h = ap (λ (j : ℕ). some (f j)) (let z : i ≡ i + 0 = omega arith in z)
  nth-each (suc m) i (suc k) h = nth-each m (i + 1) k (omega arith) ∙ ap (λ (j : ℕ). some (f j)) (let z : i + 1 + k ≡ i + suc k = omega arith in z)

  pub each-nth : (m i k : ℕ) (x : A) → nth (each f m i) k ≡ some x → (k < m) × (x ≡ f (i + k))
  each-nth zero i k x e = absurd (none-some x e)
  each-nth (suc m) i zero x e = (omega arith, sym (some_same (f i) x e) ∙ ap f (let z : i ≡ i + 0 = omega arith in z))
  each-nth (suc m) i (suc k) x e =
      let h = each-nth m (i + 1) k x e in
      (omega (arith, h.0), h.1 ∙ ap f (let z : i + 1 + k ≡ i + suc k = omega arith in z))

  pub mem-each : (m i : ℕ) (x : A) → Mem x (each f m i) → (k : ℕ) × (i ≤ k) × (k < i + m) × (x ≡ f k)
  mem-each zero i x e = absurd e
  mem-each (suc m) i x (inl e) = (i, omega arith, omega arith, e)
  mem-each (suc m) i x (inr e) =
      let h = mem-each m (i + 1) x e in
      (h.0, omega (arith, h.1), omega (arith, h.2), h.3)

  pub read-each : (m i k : ℕ) (d : A) → k < m → get_or (each f m i) k d ≡ f (i + k)
  read-each zero i k d h = absurd (omega arith)
  read-each (suc m) i zero d h = ap f (let z : i ≡ i + 0 = omega arith in z)
  read-each (suc m) i (suc k) d h = read-each m (i + 1) k d (omega arith) ∙ ap f (let z : i + 1 + k ≡ i + suc k = omega arith in z)

  pub read_past : (m i k : ℕ) (d : A) → m ≤ k → get_or (each f m i) k d ≡ d
  read_past zero i k d h = refl
  read_past (suc m) i zero d h = absurd (omega arith)
  read_past (suc m) i (suc k) d h = read_past m (i + 1) k d (omega arith)

  -- keys that rise from each to the next
  module _ (key : A → ℕ) where
    above-each : (m i k : ℕ) → ((j : ℕ) → i ≤ j → j < i + m → k < key (f j)) → Above key k (each f m i)
    above-each zero i k h = tt
    above-each (suc m) i k h = (h i (omega arith) (omega arith), above-each m (i + 1) k (λ j p q. h j (omega arith) (omega arith)))

    rises-to : (m i j : ℕ) → ((l : ℕ) → i ≤ l → suc l < i + m → key (f l) < key (f (suc l))) → i < j → j < i + m → key (f i) < key (f j)
    rises-to m i zero h p q = absurd (omega arith)
    rises-to m i (suc j) h p q = go (ℕ_discrete i j) (λ r. rises-to m i j h (omega arith) (omega arith))
      where
        go : Dec (i ≡ j) → ((i ≡ j → ⊥) → key (f i) < key (f j)) → key (f i) < key (f (suc j))
        go (yes e) ih = subst (λ (l : ℕ). key (f i) < key (f (suc l))) e (h i (omega arith) (omega arith))
        go (no e) ih = omega (arith, ih e, h j (omega arith) (omega arith))

    pub rising-each : (m i : ℕ) → ((l : ℕ) → i ≤ l → suc l < i + m → key (f l) < key (f (suc l))) → Rising key (each f m i)
    rising-each zero i h = tt
    rising-each (suc m) i h =
        (above-each m (i + 1) (key (f i)) (λ j p q. rises-to (suc m) i j h (omega arith) (omega arith)), rising-each m (i + 1) (λ l p q. h l (omega arith) (omega arith)))

-- ---- rows

-- the words from word `k` of a record on
pub record From (w : List ℕ) (at k : ℕ) (row : List (Option ℕ)) : Type 0 where
  pub read : (j n : ℕ) → get_or row j none ≡ some n → get_or w (at + (k + j)) 0 ≡ n

pub row_from : (w : List ℕ) (at : ℕ) (row : List (Option ℕ)) → From w at 0 row → Row w at row
row_from w at row h j n e = ap (λ (p : ℕ). get_or w p 0) (let z : at + j ≡ at + (0 + j) = omega arith in z) ∙ h.read j n e

module _ {w : List ℕ} {at : ℕ} where
  pub ends : {k : ℕ} → From w at k []
  ends {k} = record { read = λ j n e. absurd (none-some n e) }

  pub says : {k n : ℕ} {row : List (Option ℕ)} → get_or w (at + k) 0 ≡ n → From w at (k + 1) row → From w at k (some n ∷ row)
  says {k} {n} {row} e h = record { read = go }
    where
      go : (j m : ℕ) → get_or (some n ∷ row) j none ≡ some m → get_or w (at + (k + j)) 0 ≡ m
      go zero m q = ap (λ (p : ℕ). get_or w p 0) (let z : at + (k + 0) ≡ at + k = omega arith in z) ∙ e ∙ some_same n m q
      go (suc j) m q = ap (λ (p : ℕ). get_or w p 0) (let z : at + (k + suc j) ≡ at + (k + 1 + j) = omega arith in z) ∙ h.read j m q

  pub skips : {k : ℕ} {row : List (Option ℕ)} → From w at (k + 1) row → From w at k (none ∷ row)
  skips {k} {row} h = record { read = go }
    where
      go : (j m : ℕ) → get_or (none ∷ row) j none ≡ some m → get_or w (at + (k + j)) 0 ≡ m
      go zero m q = absurd (none-some m q)
      go (suc j) m q = ap (λ (p : ℕ). get_or w p 0) (let z : at + (k + suc j) ≡ at + (k + 1 + j) = omega arith in z) ∙ h.read j m q

  -- a word of which the row may say something or not
  pub may : {k : ℕ} (o : Option ℕ) {row : List (Option ℕ)} → ((n : ℕ) → o ≡ some n → get_or w (at + k) 0 ≡ n) → From w at (k + 1) row → From w at k (o ∷ row)
  may none e h = skips h
  may (some n) e h = says (e n refl) h

-- a number that is a flag
pub flag-number : (n : ℕ) → n ≤ 1 → n ≡ flag (not (eqb n 0))
flag-number zero h = refl
flag-number (suc zero) h = refl
flag-number (suc (suc n)) h = absurd (omega arith)
