-- Where the active DPC stands, after one of the table has entered another phase.
use Prim.Native.Nat.{ℕ, ◌+◌, ◌≤◌}
use mathlib.Core.List.{List, [], ◌∷◌, ◌++◌}
use mathlib.Core.Bool.{Bool, true, false, cond, not}
use mathlib.Core.Option.{Option, none, some}
use mathlib.Core.Logic.{inl, inr}
use mathlib.Core.Path.{◌≡◌, refl, sym, ap, ◌∙◌, subst}
use native.Mathlib.Omega.{arith}
use borrow.Author.Tests.{eqb-true, ne_eqb, ltb-true}
use lib.Dec.{eqb, ltb}
use Rattle.images.specs.declared.Dpc.{Dpc}
use Rattle.images.specs.declared.DpcPhase.{DpcPhase}
use Rattle.model.specs.Lists.{Mem, first_of, count_of, present, given}
use Rattle.model.specs.Table.{find, put, Rising}
use Rattle.model.specs.Dpcs.{address_of, dpc_at, in_phase, put_dpc, rephased, is_active, active_dpc}
use Rattle.model.specs.Valid.{active_count}
use Rattle.model.proofs.ListLaws.{not-both}
use Rattle.model.proofs.TableLaws.{some_same, none-some, found}
use Rattle.agreement_tables.specs.Tables.{below}
use Rattle.agreement_tables.proofs.Lists.{above-nth, find_at}
use Rattle.agreement.specs.Records.{active_address}

-- ---- a record put in the place of another

pub record Replaces {A : Type 0} (x z : A) (l l' : List A) : Type 0 where
  pub before : List A
  pub behind : List A
  pub old : l ≡ before ++ (z ∷ behind)
  pub new : l' ≡ before ++ (x ∷ behind)

pub put-replaces : {A : Type 0} (key : A → ℕ) (x z : A) (l : List A) → Rising key l → find key l (key x) ≡ some z → Replaces x z l (put key x l)
put-replaces key x z [] r e = absurd (none-some z e)
put-replaces {A} key x z (y ∷ ys) r e = go (ltb (key x) (key y)) (eqb (key y) (key x)) refl refl e (put-replaces key x z ys r.1)
  where
    go : (a b : Bool) → ltb (key x) (key y) ≡ a → eqb (key y) (key x) ≡ b → cond b (some y) (find key ys (key x)) ≡ some z → (find key ys (key x) ≡ some z → Replaces x z ys (put key x ys))
        → Replaces x z (y ∷ ys) (cond a (x ∷ y ∷ ys) (cond b (x ∷ ys) (y ∷ put key x ys)))
    go true true p q h ih = absurd (omega (arith, ltb-true (key x) (key y) p, eqb-true (key y) (key x) q))
    go true false p q h ih =
        let m = found key ys (key x) z h in
        let o = above-nth key (key y) ys r.0 (below key (key x) ys) z (find_at key ys r.1 (key x) z h) in
        absurd (omega (arith, ltb-true (key x) (key y) p, m.1))
    go false true p q h ih = record { before = []; behind = ys; old = ap (λ (v : A). v ∷ ys) (some_same y z h); new = refl }
    go false false p q h ih =
        let m = ih h in
        record { before = y ∷ m.before; behind = m.behind; old = ap (λ (l : List A). y ∷ l) m.old; new = ap (λ (l : List A). y ∷ l) m.new }

-- ---- the first that passes a test, where one record is another

module _ {A : Type 0} (f : A → Bool) (x z : A) where
  first-same : (key : A → ℕ) → f x ≡ f z → key x ≡ key z → (before behind : List A) → given (first_of f (before ++ (x ∷ behind))) 0 key ≡ given (first_of f (before ++ (z ∷ behind))) 0 key
  first-same key e k [] behind = ap (λ (b : Bool). given (cond b (some x) (first_of f behind)) 0 key) e ∙ go (f z)
    where
      go : (b : Bool) → given (cond b (some x) (first_of f behind)) 0 key ≡ given (cond b (some z) (first_of f behind)) 0 key
      go true = k
      go false = refl
  first-same key e k (y ∷ before) behind = go (f y) (first-same key e k before behind)
    where
      go : (b : Bool) → given (first_of f (before ++ (x ∷ behind))) 0 key ≡ given (first_of f (before ++ (z ∷ behind))) 0 key
          → given (cond b (some y) (first_of f (before ++ (x ∷ behind)))) 0 key ≡ given (cond b (some y) (first_of f (before ++ (z ∷ behind)))) 0 key
      go true h = refl
      go false h = h

  first-own : f x ≡ true → (before behind : List A) → present (first_of f (before ++ (z ∷ behind))) ≡ false → first_of f (before ++ (x ∷ behind)) ≡ some x
  first-own t [] behind n = ap (λ (b : Bool). cond b (some x) (first_of f behind)) t
  first-own t (y ∷ before) behind n = go (f y) n (first-own t before behind)
    where
      go : (b : Bool) → present (cond b (some y) (first_of f (before ++ (z ∷ behind)))) ≡ false
          → (present (first_of f (before ++ (z ∷ behind))) ≡ false → first_of f (before ++ (x ∷ behind)) ≡ some x)
          → cond b (some y) (first_of f (before ++ (x ∷ behind))) ≡ some x
      go true m ih = absurd (not-both m)
      go false m ih = ih m

  none_first : (l : List A) → count_of f l ≡ 0 → first_of f l ≡ none
  none_first [] e = refl
  none_first (y ∷ l) e = go (f y) e (none_first l)
    where
      go : (b : Bool) → cond b 1 0 + count_of f l ≡ 0 → (count_of f l ≡ 0 → first_of f l ≡ none) → cond b (some y) (first_of f l) ≡ none
      go true m ih = absurd (omega arith)
      go false m ih = ih (omega arith)

  one_of : f z ≡ true → (before behind : List A) → 1 ≤ count_of f (before ++ (z ∷ behind))
  one_of t [] behind = let q : ◌≡◌ {A = ℕ} (cond (f z) 1 0) 1 = ap {B = ℕ} (λ (b : Bool). cond b 1 0) t in omega arith
  one_of t (y ∷ before) behind = omega (arith, one_of t before behind)

  first-gone : f x ≡ false → f z ≡ true → (before behind : List A) → count_of f (before ++ (z ∷ behind)) ≤ 1 → first_of f (before ++ (x ∷ behind)) ≡ none
  first-gone n t [] behind h =
      let q : ◌≡◌ {A = ℕ} (cond (f z) 1 0) 1 = ap {B = ℕ} (λ (b : Bool). cond b 1 0) t in
      ap (λ (b : Bool). cond b (some x) (first_of f behind)) n ∙ none_first behind (omega arith)
  first-gone n t (y ∷ before) behind h = go (f y) h (first-gone n t before behind) (one_of t before behind)
    where
      go : (b : Bool) → cond b 1 0 + count_of f (before ++ (z ∷ behind)) ≤ 1
          → (count_of f (before ++ (z ∷ behind)) ≤ 1 → first_of f (before ++ (x ∷ behind)) ≡ none) → 1 ≤ count_of f (before ++ (z ∷ behind))
          → cond b (some y) (first_of f (before ++ (x ∷ behind))) ≡ none
      go true m ih o = absurd (omega arith)
      go false m ih o = ih (omega arith)

-- ---- one DPC in another phase

module _ (l : List Dpc) (r : Rising address_of l) (a : ℕ) (d : Dpc) (f : dpc_at l a ≡ some d) (p : DpcPhase) where
  abbrev acts : Dpc → Bool
  acts x = is_active x.phase

  named : d.address ≡ a
  named = (found address_of l a d f).1

  replaces : Replaces (in_phase d p) d l (rephased l a p)
  replaces = subst (Replaces (in_phase d p) d l) (ap (λ (o : Option Dpc). given o l (λ x. put_dpc (in_phase x p) l)) (sym f)) (put-replaces address_of (in_phase d p) d l r (ap (dpc_at l) named ∙ f))

  -- as active as before
  pub active-same : is_active p ≡ is_active d.phase → active_address (rephased l a p) ≡ active_address l
  active-same e =
      let m = replaces in
      ap active_address m.new ∙ first-same acts (in_phase d p) d address_of e refl m.before m.behind ∙ sym (ap active_address m.old)

  -- the one that is active, where none was
  pub active-starts : is_active p ≡ true → present (active_dpc l) ≡ false → active_address (rephased l a p) ≡ a
  active-starts e n =
      let m = replaces in
      ap active_address m.new
      ∙ ap (λ (o : Option Dpc). given o 0 address_of) (first-own acts (in_phase d p) d e m.before m.behind (ap (λ (t : List Dpc). present (active_dpc t)) (sym m.old) ∙ n))
      ∙ named

  -- none is, where it was the only one
  pub active-ends : is_active p ≡ false → is_active d.phase ≡ true → active_count l ≤ 1 → active_address (rephased l a p) ≡ 0
  active-ends e t h =
      let m = replaces in
      ap active_address m.new
      ∙ ap (λ (o : Option Dpc). given o 0 address_of) (first-gone acts (in_phase d p) d e t m.before m.behind (subst (λ (u : List Dpc). active_count u ≤ 1) m.old h))

-- ---- 0 for none, for no DPC stands at 0

pub active-none : (l : List Dpc) → ((d : Dpc) → Mem d l → d.address ≡ 0 → ⊥) → eqb (active_address l) 0 ≡ not (present (active_dpc l))
active-none [] n = refl
active-none (d ∷ l) n = go (is_active d.phase) (active-none l (λ x m. n x (inr m)))
  where
    go : (b : Bool) → eqb (active_address l) 0 ≡ not (present (active_dpc l)) → eqb (given (cond b (some d) (active_dpc l)) 0 address_of) 0 ≡ not (present (cond b (some d) (active_dpc l)))
    go true h = ne_eqb d.address 0 (n d (inl refl))
    go false h = h
