-- The list of a wait: the words and the log refuse the same lists, and see the same pairs in the others.
use Prim.Native.Nat.{ℕ, suc, ◌+◌, ◌*◌, ◌/◌, ◌%◌, ◌≤◌}
use mathlib.Core.List.{List, [], ◌∷◌}
use mathlib.Core.Bool.{Bool, true, false, cond}
use mathlib.Core.Logic.{◌⊎◌, inl, inr}
use mathlib.Core.Path.{◌≡◌, refl, sym, ap, ◌∙◌}
use native.Mathlib.Omega.{arith}
use borrow.Author.Tests.{eq-eqb, ne_eqb, ltb-true, ltb-false, lt-ltb, le-ltb, le-leb}
use lib.ListN.{length}
use lib.Dec.{eqb, leb, ltb}
use Rattle.waits.specs.Lists.{bad_kind_in, duplicate_in}
use Rattle.waiting.specs.Wait.{pair_count, list_refusal}
use Rattle.model.specs.Lists.{any, is_empty}
use Rattle.model.specs.State.{Named}
use Rattle.model.specs.Refusal.{pairs, has_duplicate, bad_list}
use Rattle.model.proofs.ListLaws.{neither}
use Rattle.agreement_wakes.proofs.Lists.{from_start, pairs-row, duplicate-in, bad-kind-in}

-- two numbers to a pair, and perhaps one over
pub halves : (l : List ℕ) → (length l ≡ 2 * length (pairs l)) ⊎ (length l ≡ 2 * length (pairs l) + 1)
halves [] = inl refl
halves (x ∷ []) = inr refl
halves (x ∷ y ∷ l) = go (halves l)
  where
    go : (length l ≡ 2 * length (pairs l)) ⊎ (length l ≡ 2 * length (pairs l) + 1)
        → (suc (suc (length l)) ≡ 2 * suc (length (pairs l))) ⊎ (suc (suc (length l)) ≡ 2 * suc (length (pairs l)) + 1)
    go (inl e) = inl (omega arith)
    go (inr e) = inr (omega arith)

abbrev pub over_kind : Named → Bool
over_kind n = ltb 3 n.kind

-- ---- at most 64 pairs

pub count-few : (l : List ℕ) → length (pairs l) ≤ 64 → pair_count l ≡ length (pairs l)
unfolding pair_count
count-few l h = ap (λ (n : ℕ). cond (leb n 64) n 64) half ∙ ap (λ (b : Bool). cond b (length (pairs l)) 64) (le-leb (length (pairs l)) 64 h)
  where
    go : (length l ≡ 2 * length (pairs l)) ⊎ (length l ≡ 2 * length (pairs l) + 1) → length l / 2 ≡ length (pairs l)
    go (inl e) = omega arith
    go (inr e) = omega arith

    half : length l / 2 ≡ length (pairs l)
    half = go (halves l)

-- ---- what a good list is

pub record Good (l : List ℕ) : Type 0 where
  pub few : length (pairs l) ≤ 64
  pub kinds : any over_kind (pairs l) ≡ false

pub good : (l : List ℕ) → bad_list l ≡ false → Good l
unfolding bad_list
good l e =
    let a = neither (is_empty (pairs l)) (cond (ltb 64 (length (pairs l))) true (cond (has_duplicate (pairs l)) true (cond (eqb (length l % 2) 1) true (any over_kind (pairs l))))) e in
    let b = neither (ltb 64 (length (pairs l))) (cond (has_duplicate (pairs l)) true (cond (eqb (length l % 2) 1) true (any over_kind (pairs l)))) a.1 in
    let c = neither (has_duplicate (pairs l)) (cond (eqb (length l % 2) 1) true (any over_kind (pairs l))) b.1 in
    let d = neither (eqb (length l % 2) 1) (any over_kind (pairs l)) c.1 in
    record { few = ltb-false 64 (length (pairs l)) b.0; kinds = d.1 }

-- ---- 7 in the same cases

pub list-refusal : (l : List ℕ) → list_refusal l ≡ cond (bad_list l) 7 0
unfolding list_refusal bad_list
list-refusal l = go (halves l)
  where
    empty : length l ≡ 2 * length (pairs l) → eqb (length l) 0 ≡ is_empty (pairs l)
    empty h = by (pairs l) refl
      where
        by : (ns : List Named) → pairs l ≡ ns → eqb (length l) 0 ≡ is_empty ns
        by [] e = eq-eqb (length l) 0 (omega (arith, h, ap (λ (ns : List Named). length ns) e))
        by (x ∷ xs) e = ne_eqb (length l) 0 (λ z. omega (arith, h, ap (λ (ns : List Named). length ns) e))

    over : length l ≡ 2 * length (pairs l) → (b : Bool) → ltb 64 (length (pairs l)) ≡ b → ltb 128 (length l) ≡ b
    over h true e = lt-ltb 128 (length l) (let z = ltb-true 64 (length (pairs l)) e in omega arith)
    over h false e = le-ltb 128 (length l) (let z = ltb-false 64 (length (pairs l)) e in omega arith)

    -- an odd list is bad whatever else it is
    odd : (x y z : Bool) → ◌≡◌ {A = ℕ} 7 (cond (cond x true (cond y true (cond z true true))) 7 0)
    odd true y z = refl
    odd false true z = refl
    odd false false true = refl
    odd false false false = refl

    last : (x y : Bool) → ◌≡◌ {A = ℕ} (cond x 7 (cond y 7 0)) (cond (cond y true x) 7 0)
    last true true = refl
    last true false = refl
    last false true = refl
    last false false = refl

    even : (x y : Bool) → ltb 64 (length (pairs l)) ≡ y
        → ◌≡◌ {A = ℕ} (cond x 7 (cond y 7 (cond (bad_kind_in (pair_count l) l 0 0) 7 (cond (duplicate_in (pair_count l) l 0 0) 7 0))))
        (cond (cond x true (cond y true (cond (has_duplicate (pairs l)) true (any over_kind (pairs l))))) 7 0)
    even true y e = refl
    even false true e = refl
    even false false e =
        ap (λ (m : ℕ). cond (bad_kind_in m l 0 0) 7 (cond (duplicate_in m l 0 0) 7 0)) (count-few l (ltb-false 64 (length (pairs l)) e))
        ∙ ap (λ (b : Bool). cond b 7 (cond (duplicate_in (length (pairs l)) l 0 0) 7 0)) (bad-kind-in l 0 (pairs l) 0 (from_start l 0 (pairs l) (pairs-row l)))
        ∙ ap (λ (b : Bool). cond (any over_kind (pairs l)) 7 (cond b 7 0)) (duplicate-in l 0 (pairs l) 0 (from_start l 0 (pairs l) (pairs-row l)))
        ∙ last (any over_kind (pairs l)) (has_duplicate (pairs l))

    -- the code's number by the remainder and two tests, and the log's by the remainder
    coded : ℕ → Bool → Bool → ℕ
    coded m x y = cond (eqb m 0) (cond x 7 (cond y 7 (cond (bad_kind_in (pair_count l) l 0 0) 7 (cond (duplicate_in (pair_count l) l 0 0) 7 0)))) 7

    logged : ℕ → ℕ
    logged m = cond (cond (is_empty (pairs l)) true (cond (ltb 64 (length (pairs l))) true (cond (has_duplicate (pairs l)) true (cond (eqb m 1) true (any over_kind (pairs l)))))) 7 0

    go : (length l ≡ 2 * length (pairs l)) ⊎ (length l ≡ 2 * length (pairs l) + 1) → coded (length l % 2) (eqb (length l) 0) (ltb 128 (length l)) ≡ logged (length l % 2)
    go (inl h) =
        let r : length l % 2 ≡ 0 = omega arith in
        ap (λ (m : ℕ). coded m (eqb (length l) 0) (ltb 128 (length l))) r
        ∙ ap (λ (b : Bool). coded 0 b (ltb 128 (length l))) (empty h)
        ∙ ap (coded 0 (is_empty (pairs l))) (over h (ltb 64 (length (pairs l))) refl)
        ∙ even (is_empty (pairs l)) (ltb 64 (length (pairs l))) refl
        ∙ ap logged (sym r)
    go (inr h) =
        let r : length l % 2 ≡ 1 = omega arith in
        ap (λ (m : ℕ). coded m (eqb (length l) 0) (ltb 128 (length l))) r
        ∙ odd (is_empty (pairs l)) (ltb 64 (length (pairs l))) (has_duplicate (pairs l))
        ∙ ap logged (sym r)
