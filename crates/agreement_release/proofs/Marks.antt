-- Marks: 9 written to word 1 of the records of a table that pass a test of their words. What stands elsewhere stays.
use Prim.Native.Nat.{ℕ, zero, suc, ◌+◌, ◌*◌, ◌≤◌, ◌<◌}
use mathlib.Core.List.{List}
use mathlib.Core.Bool.{Bool, true, false, cond}
use mathlib.Core.Path.{◌≡◌, refl, sym, ap, ap₂, ◌∙◌, subst}
use native.Mathlib.Omega.{arith}
use native.Mathlib.Decide.{ℕ_discrete}
use lib.ListN.{get_or, set, length, length-set}
use Rattle.timers.specs.Record.{each_in}
use Rattle.agreement_tables.specs.Tables.{Copied, Whole}
use Rattle.agreement_chains.proofs.Frames.{read-other, read_same}
use Rattle.agreement.proofs.Places.{entry_place}

-- one record
abbrev pub marked : (List ℕ → ℕ → Bool) → List ℕ → ℕ → List ℕ
marked test w place = cond (test w place) (set w (place + 1) 9) w

-- the records from `i` on, `m` of them
pub record Marks (test : List ℕ → ℕ → Bool) (base : ℕ) (w w' : List ℕ) (i m : ℕ) : Type 0 where
  pub size : length w' ≡ length w
  pub others : (j : ℕ) → ((t : ℕ) → i ≤ t → t < i + m → j ≡ base + 32 * t + 1 → ⊥) → get_or w' j 0 ≡ get_or w j 0
  pub marks : (t : ℕ) → i ≤ t → t < i + m → get_or w' (base + 32 * t + 1) 0 ≡ cond (test w (base + 32 * t)) 9 (get_or w (base + 32 * t + 1) 0)

-- the test asks of words of the record alone
abbrev pub Own : (List ℕ → ℕ → Bool) → Type 0
Own test = (w w' : List ℕ) (p : ℕ) → Copied Whole w p w' p → test w' p ≡ test w p

module _ (test : List ℕ → ℕ → Bool) (own : Own test) (base : ℕ) (low : base ≤ 1000000) where
  -- the store of one record
  module _ (w : List ℕ) (i : ℕ) where
    length_marked : length (marked test w (base + 32 * i)) ≡ length w
    length_marked = go (test w (base + 32 * i))
      where
        go : (b : Bool) → length (cond b (set w (base + 32 * i + 1) 9) w) ≡ length w
        go true = length-set w (base + 32 * i + 1) 9
        go false = refl

    marked_other : (j : ℕ) → (j ≡ base + 32 * i + 1 → ⊥) → get_or (marked test w (base + 32 * i)) j 0 ≡ get_or w j 0
    marked_other j n = go (test w (base + 32 * i))
      where
        go : (b : Bool) → get_or (cond b (set w (base + 32 * i + 1) 9) w) j 0 ≡ get_or w j 0
        go true = read-other w (base + 32 * i + 1) j 9 n
        go false = refl

    marked-own : base + 32 * i + 1 < length w → get_or (marked test w (base + 32 * i)) (base + 32 * i + 1) 0 ≡ cond (test w (base + 32 * i)) 9 (get_or w (base + 32 * i + 1) 0)
    marked-own h = go (test w (base + 32 * i))
      where
        go : (b : Bool) → get_or (cond b (set w (base + 32 * i + 1) 9) w) (base + 32 * i + 1) 0 ≡ cond b 9 (get_or w (base + 32 * i + 1) 0)
        go true = read_same w (base + 32 * i + 1) 9 h
        go false = refl

  marks-in : (m : ℕ) (w : List ℕ) (i : ℕ) → i + m ≤ 8192 → base + 32 * (i + m) ≤ length w → Marks test base w (each_in m (marked test) w base i) i m
  unfolding each_in
  marks-in zero w i few long = record { size = refl; others = λ j f. refl; marks = λ t x y. absurd (omega arith) }
  marks-in (suc m) w i few long =
      subst (λ (p : ℕ). Marks test base w (each_in m (marked test) (marked test w p) base (i + 1)) i (suc m)) (sym (entry_place base i low (omega arith)))
      (go (marks-in m (marked test w (base + 32 * i)) (i + 1) (omega arith) (omega (arith, length_marked w i))))
    where
      go : Marks test base (marked test w (base + 32 * i)) (each_in m (marked test) (marked test w (base + 32 * i)) base (i + 1)) (i + 1) m
          → Marks test base w (each_in m (marked test) (marked test w (base + 32 * i)) base (i + 1)) i (suc m)
      go rest = record {
        size = rest.size ∙ length_marked w i;
        others = λ j f. rest.others j (λ t x y. f t (omega arith) (omega arith)) ∙ marked_other w i j (f i (omega arith) (omega arith));
        marks = λ t x y. by t x y (ℕ_discrete t i);
      }
        where
          by : (t : ℕ) → i ≤ t → t < i + suc m → Dec (t ≡ i)
              → get_or (each_in m (marked test) (marked test w (base + 32 * i)) base (i + 1)) (base + 32 * t + 1) 0 ≡ cond (test w (base + 32 * t)) 9 (get_or w (base + 32 * t + 1) 0)
          by t x y (yes e) =
              ap (λ (u : ℕ). get_or (each_in m (marked test) (marked test w (base + 32 * i)) base (i + 1)) (base + 32 * u + 1) 0) e
              ∙ rest.others (base + 32 * i + 1) (λ u p q z. omega arith)
              ∙ marked-own w i (omega arith)
              ∙ ap (λ (u : ℕ). cond (test w (base + 32 * u)) 9 (get_or w (base + 32 * u + 1) 0)) (sym e)
          by t x y (no n) =
              rest.marks t (omega (arith, n)) (omega arith)
              ∙ ap₂ (λ (b : Bool) (k : ℕ). cond b 9 k) (own w (marked test w (base + 32 * i)) (base + 32 * t) (λ k l d. marked_other w i (base + 32 * t + k) (λ z. n (omega arith))))
              (marked_other w i (base + 32 * t + 1) (λ z. n (omega arith)))

  -- the whole table
  pub marks-all : (n : ℕ) (w : List ℕ) → n ≤ 4096 → base + 32 * n ≤ length w → Marks test base w (each_in n (marked test) w base 0) 0 n
  marks-all n w few long = marks-in n w 0 (omega arith) (omega arith)
