-- The walks over a list of objects, wherever it stands: in the words or with the caller.
use Prim.Native.Nat.{ℕ, zero, suc, ◌+◌, ◌*◌, ◌<◌}
use mathlib.Core.List.{List, [], ◌∷◌}
use mathlib.Core.Bool.{Bool, true, false, cond, not, ◌&&◌}
use mathlib.Core.Option.{none, some}
use mathlib.Core.Path.{◌≡◌, refl, sym, ap, ◌∙◌, subst}
use native.Mathlib.Omega.{arith}
use borrow.Author.Tests.{ltb-true, ltb-false, lt-ltb, le-ltb}
use lib.ListN.{get_or, length, drop}
use lib.Dec.{eqb, ltb}
use Rattle.waits.specs.Object as object
use Rattle.waits.specs.Lists.{kind_in, key_in, is_pair, has_pair, duplicate_in, bad_kind_in, unknown_in, owned_in, every_in, first_in, met_in, index_in}
use Rattle.model.specs.Lists.{any}
use Rattle.model.specs.State.{State, Named}
use Rattle.model.specs.Waits.{listed, exists, is_available, every_available, first_available, is_met, index, no_object}
use Rattle.model.specs.Refusal.{pairs, has_duplicate, is_own}
use Rattle.model.proofs.TableLaws.{none-some, some_same}
use Rattle.agreement.specs.Row.{Row}
use Rattle.agreement.specs.Records.{flag, places_row}
use Rattle.agreement.specs.Agree.{Agreeing}
use Rattle.agreement.proofs.Rows.{row_drop}
use Rattle.agreement_wakes.proofs.Tests.{valid-is, available-is, owned-is}

-- ---- the pair at a place of the list

-- the pairs of `src` from `at` on are those of the list from pair `i` on
abbrev pub From : List ℕ → ℕ → ℕ → List Named → Type 0
From src at i ns = Row src (at + 2 * i) (places_row ns)

pub from_start : (src : List ℕ) (at : ℕ) (ns : List Named) → Row src at (places_row ns) → From src at 0 ns
from_start src at ns r = subst (λ (p : ℕ). Row src p (places_row ns)) (let e : at ≡ at + 2 * 0 = omega arith in e) r

module _ (src : List ℕ) (at i : ℕ) (n : Named) (ns : List Named) (r : From src at i (n ∷ ns)) where
  pub kind-at : kind_in src at i ≡ n.kind
  unfolding kind_in
  kind-at = ap (λ (p : ℕ). get_or src p 0) (let e : at + 2 * i ≡ at + 2 * i + 0 = omega arith in e) ∙ r 0 n.kind refl

  pub key-at : key_in src at i ≡ n.key
  unfolding key_in
  key-at = ap (λ (p : ℕ). get_or src p 0) (let e : at + (2 * i + 1) ≡ at + 2 * i + 1 = omega arith in e) ∙ r 1 n.key refl

  pub from_next : From src at (i + 1) ns
  from_next = subst (λ (p : ℕ). Row src p (places_row ns)) (let e : at + 2 * i + 2 ≡ at + 2 * (i + 1) = omega arith in e) (row_drop src (at + 2 * i) (places_row (n ∷ ns)) 2 r)

-- ---- the rest of a list from a place on

from-drop : (src : List ℕ) (at : ℕ) (ns : List Named) (i j : ℕ) → From src at j ns → From src at (j + i) (drop i ns)
from-drop src at ns zero j r = subst (λ (k : ℕ). From src at k ns) (let e : j ≡ j + 0 = omega arith in e) r
from-drop src at [] (suc i) j r = λ k m e. absurd (none-some m e)
from-drop src at (n ∷ ns) (suc i) j r =
    subst (λ (k : ℕ). From src at k (drop i ns)) (let e : j + 1 + i ≡ j + suc i = omega arith in e) (from-drop src at ns i (j + 1) (from_next src at j n ns r))

pub from_at : (src : List ℕ) (at : ℕ) (ns : List Named) (i : ℕ) → Row src at (places_row ns) → From src at i (drop i ns)
from_at src at ns i r = subst (λ (k : ℕ). From src at k (drop i ns)) (let e : 0 + i ≡ i = omega arith in e) (from-drop src at ns i 0 (from_start src at ns r))

drop_at : (ns : List Named) (i : ℕ) → i < length ns → drop i ns ≡ get_or ns i no_object ∷ drop (suc i) ns
drop_at [] i h = absurd (omega arith)
drop_at (n ∷ ns) zero h = refl
drop_at (n ∷ ns) (suc i) h = drop_at ns i (omega arith)

pub drop-next : (ns : List Named) (i : ℕ) (m : Named) (ms : List Named) → drop i ns ≡ m ∷ ms → drop (i + 1) ns ≡ ms
drop-next ns i m ms e = ap (λ (k : ℕ). drop k ns) (let q : i + 1 ≡ suc i = omega arith in q) ∙ go ns i e
  where
    tail : List Named → List Named
    tail [] = []
    tail (n ∷ ns) = ns

    go : (ns : List Named) (i : ℕ) → drop i ns ≡ m ∷ ms → drop (suc i) ns ≡ ms
    go [] zero e = ap tail e
    go [] (suc i) e = ap tail e
    go (n ∷ ns) zero e = ap tail e
    go (n ∷ ns) (suc i) e = go ns i e

-- the pair at a place
pub pair_read : (src : List ℕ) (at : ℕ) (ns : List Named) (i : ℕ) → Row src at (places_row ns) → i < length ns
    → (kind_in src at i ≡ (get_or ns i no_object).kind) × (key_in src at i ≡ (get_or ns i no_object).key)
pair_read src at ns i r h =
    let f = subst (λ (l : List Named). From src at i l) (drop_at ns i h) (from_at src at ns i r) in
    (kind-at src at i (get_or ns i no_object) (drop (suc i) ns) f, key-at src at i (get_or ns i no_object) (drop (suc i) ns) f)

-- ---- the caller's list

pub pairs-row : (l : List ℕ) → Row l 0 (places_row (pairs l))
pairs-row l k n e = ap (λ (p : ℕ). get_or l p 0) (let q : 0 + k ≡ k = omega arith in q) ∙ go l k e
  where
    go : (l : List ℕ) (k : ℕ) → get_or (places_row (pairs l)) k none ≡ some n → get_or l k 0 ≡ n
    go [] k e = absurd (none-some n e)
    go (x ∷ []) k e = absurd (none-some n e)
    go (x ∷ y ∷ l) zero e = some_same x n e
    go (x ∷ y ∷ l) (suc zero) e = some_same y n e
    go (x ∷ y ∷ l) (suc (suc k)) e = go l k e

-- ---- tests that ask nothing of the objects

same-pair : (a b : Bool) → cond b a false ≡ a && b
same-pair true true = refl
same-pair true false = refl
same-pair false true = refl
same-pair false false = refl

module _ (src : List ℕ) (at : ℕ) where
  pub pair-in : (ns : List Named) (i : ℕ) → From src at i ns → (n : Named) → has_pair (length ns) src at i n.kind n.key ≡ listed n ns
  unfolding has_pair is_pair
  pair-in [] i r n = refl
  pair-in (x ∷ ns) i r n =
      simp (kind-at src at i x ns r, key-at src at i x ns r, pair-in ns (i + 1) (from_next src at i x ns r) n, same-pair (eqb x.kind n.kind) (eqb x.key n.key))

  pub duplicate-in : (ns : List Named) (i : ℕ) → From src at i ns → duplicate_in (length ns) src at i ≡ has_duplicate ns
  unfolding duplicate_in
  duplicate-in [] i r = refl
  duplicate-in (x ∷ ns) i r =
      let q = from_next src at i x ns r in
      simp (kind-at src at i x ns r, key-at src at i x ns r, pair-in ns (i + 1) q x, duplicate-in ns (i + 1) q)

  pub bad-kind-in : (ns : List Named) (i : ℕ) → From src at i ns → bad_kind_in (length ns) src at i ≡ any (λ (n : Named). ltb 3 n.kind) ns
  unfolding bad_kind_in
  bad-kind-in [] i r = refl
  bad-kind-in (x ∷ ns) i r = simp (kind-at src at i x ns r, bad-kind-in ns (i + 1) (from_next src at i x ns r))

-- ---- tests of the objects

ltb-suc : (m n : ℕ) → ltb (suc m) (suc n) ≡ ltb m n
ltb-suc m n = go (ltb m n) refl
  where
    go : (b : Bool) → ltb m n ≡ b → ltb (suc m) (suc n) ≡ ltb m n
    go true e = lt-ltb (suc m) (suc n) (omega (arith, ltb-true m n e)) ∙ sym e
    go false e = le-ltb (suc m) (suc n) (omega (arith, ltb-false m n e)) ∙ sym e

module _ (w : List ℕ) (s : State) (holder : ℕ → ℕ) (active : ℕ) (a : Agreeing w s holder active) (src : List ℕ) (at : ℕ) where
  reads-available : (i : ℕ) (n : Named) (ns : List Named) → From src at i (n ∷ ns) → object.available w (kind_in src at i) (key_in src at i) ≡ is_available s.dispatcher n
  reads-available i n ns r =
      ap (λ (k : ℕ). object.available w k (key_in src at i)) (kind-at src at i n ns r) ∙ ap (λ (k : ℕ). object.available w n.kind k) (key-at src at i n ns r)
      ∙ available-is w s holder active a n

  reads-valid : (i : ℕ) (n : Named) (ns : List Named) → From src at i (n ∷ ns) → object.valid w (kind_in src at i) (key_in src at i) ≡ exists s.dispatcher n
  reads-valid i n ns r =
      ap (λ (k : ℕ). object.valid w k (key_in src at i)) (kind-at src at i n ns r) ∙ ap (λ (k : ℕ). object.valid w n.kind k) (key-at src at i n ns r)
      ∙ valid-is w s holder active a n

  pub unknown-in : (ns : List Named) (i : ℕ) → From src at i ns → unknown_in (length ns) w src at i ≡ any (λ (n : Named). not (exists s.dispatcher n)) ns
  unfolding unknown_in
  unknown-in [] i r = refl
  unknown-in (n ∷ ns) i r =
      ap (λ (b : Bool). cond b (unknown_in (length ns) w src at (i + 1)) true) (reads-valid i n ns r)
      ∙ ap (λ (b : Bool). cond (exists s.dispatcher n) b true) (unknown-in ns (i + 1) (from_next src at i n ns r))
      ∙ turn (exists s.dispatcher n) (any (λ (n : Named). not (exists s.dispatcher n)) ns)
    where
      turn : (b c : Bool) → cond b c true ≡ cond (not b) true c
      turn true c = refl
      turn false c = refl

  pub owned_in_lem : (ns : List Named) (i : ℕ) → From src at i ns → owned_in (length ns) w s.dispatcher.current src at i ≡ any (is_own s.dispatcher) ns
  unfolding owned_in
  owned_in_lem [] i r = refl
  owned_in_lem (n ∷ ns) i r = simp (kind-at src at i n ns r, key-at src at i n ns r, owned-is w s holder active a n, owned_in_lem ns (i + 1) (from_next src at i n ns r))

  pub every_in_lem : (ns : List Named) (i : ℕ) → From src at i ns → every_in (length ns) w src at i ≡ every_available s.dispatcher ns
  unfolding every_in
  every_in_lem [] i r = refl
  every_in_lem (n ∷ ns) i r = simp (reads-available i n ns r, every_in_lem ns (i + 1) (from_next src at i n ns r))

  pub first-in : (ns : List Named) (i : ℕ) → From src at i ns → first_in (length ns) w src at i ≡ i + first_available s.dispatcher ns
  unfolding first_in
  first-in [] i r = omega arith
  first-in (n ∷ ns) i r =
      ap (λ (b : Bool). cond b i (first_in (length ns) w src at (i + 1))) (reads-available i n ns r)
      ∙ ap (λ (k : ℕ). cond (is_available s.dispatcher n) i k) (first-in ns (i + 1) (from_next src at i n ns r))
      ∙ go (is_available s.dispatcher n)
    where
      go : (b : Bool) → cond b i (i + 1 + first_available s.dispatcher ns) ≡ i + cond b 0 (suc (first_available s.dispatcher ns))
      go true = omega arith
      go false = omega arith

  -- some object is available: the first that is stands before the end
  pub first_any : (ns : List Named) → ltb (first_available s.dispatcher ns) (length ns) ≡ any (is_available s.dispatcher) ns
  first_any [] = refl
  first_any (n ∷ ns) = go (is_available s.dispatcher n) (first_any ns)
    where
      go : (b : Bool) → ltb (first_available s.dispatcher ns) (length ns) ≡ any (is_available s.dispatcher) ns
          → ltb (cond b 0 (suc (first_available s.dispatcher ns))) (suc (length ns)) ≡ cond b true (any (is_available s.dispatcher) ns)
      go true e = lt-ltb 0 (suc (length ns)) (omega arith)
      go false e = ltb-suc (first_available s.dispatcher ns) (length ns) ∙ e

  pub first-is : (ns : List Named) → Row src at (places_row ns) → first_in (length ns) w src at 0 ≡ first_available s.dispatcher ns
  first-is ns r = let e = first-in ns 0 (from_start src at ns r) in omega (arith, e)

  pub met-in : (ns : List Named) (all : Bool) → Row src at (places_row ns) → met_in w src at (length ns) (flag all) ≡ is_met s.dispatcher ns all
  unfolding met_in
  met-in ns true r = every_in_lem ns 0 (from_start src at ns r)
  met-in ns false r = ap (λ (k : ℕ). ltb k (length ns)) (first-is ns r) ∙ first_any ns

  pub index_in_lem : (ns : List Named) (all : Bool) → Row src at (places_row ns) → index_in w src at (length ns) (flag all) ≡ index s.dispatcher ns all
  unfolding index_in
  index_in_lem ns true r = refl
  index_in_lem ns false r = first-is ns r
