-- A record put in the place of its like; which timer has a DPC does not depend on signals and owners.
use Prim.Native.Nat.{ℕ, ◌<◌}
use mathlib.Core.List.{List, [], ◌∷◌, ◌++◌}
use mathlib.Core.Bool.{Bool, true, false, cond}
use mathlib.Core.Option.{some}
use mathlib.Core.Logic.{inl, inr}
use mathlib.Core.Path.{◌≡◌, refl, sym, ap, ◌∙◌, subst}
use native.Mathlib.Omega.{arith}
use borrow.Author.Tests.{ltb-true, eqb-true}
use lib.Dec.{eqb, ltb}
use Rattle.images.specs.declared.Timer.{Timer}
use Rattle.model.specs.Lists.{Mem, given, first_of}
use Rattle.model.specs.Table.{find, put, Above, Rising}
use Rattle.model.specs.State.{Object}
use Rattle.model.specs.Waits.{key_of, on_timer, object_at, put_object, timers_of}
use Rattle.model.proofs.TableLaws.{none-some, some_same, found}
use Rattle.model.proofs.ObjectLaws.{on-timer₂}
use Rattle.agreement.specs.Records.{holds, holder_of}

-- ---- where the record stands

module _ {A : Type 0} (key : A → ℕ) where
  above-mem : (k : ℕ) (l : List A) → Above key k l → (x : A) → Mem x l → k < key x
  above-mem k [] a x m = absurd m
  above-mem k (y ∷ ys) a x (inl e) = subst (λ (z : A). k < key z) (sym e) a.0
  above-mem k (y ∷ ys) a x (inr m) = above-mem k ys a.1 x m

  pub record Split (x o : A) (l l' : List A) : Type 0 where
    pub before : List A
    pub behind : List A
    pub was : l ≡ before ++ (o ∷ behind)
    pub is : l' ≡ before ++ (x ∷ behind)

  pub put-split : (x o : A) (l : List A) → Rising key l → find key l (key x) ≡ some o → Split x o l (put key x l)
  put-split x o [] r e = absurd (none-some o e)
  put-split x o (y ∷ ys) r e = go (ltb (key x) (key y)) (eqb (key y) (key x)) refl refl e (put-split x o ys r.1)
    where
      go : (b c : Bool) → ltb (key x) (key y) ≡ b → eqb (key y) (key x) ≡ c → cond c (some y) (find key ys (key x)) ≡ some o
          → (find key ys (key x) ≡ some o → Split x o ys (put key x ys))
          → Split x o (y ∷ ys) (cond b (x ∷ y ∷ ys) (cond c (x ∷ ys) (y ∷ put key x ys)))
      go true true p q h ih = absurd (omega (arith, ltb-true (key x) (key y) p, eqb-true (key y) (key x) q))
      go true false p q h ih =
          let f = found key ys (key x) o h in
          absurd (omega (arith, ltb-true (key x) (key y) p, f.1, above-mem (key y) ys r.0 o f.0))
      go false true p q h ih = record { before = []; behind = ys; was = ap (λ (z : A). z ∷ ys) (some_same y o h); is = refl }
      go false false p q h ih =
          let t = ih h in
          record { before = y ∷ t.before; behind = t.behind; was = ap {B = List A} (λ l. y ∷ l) t.was; is = ap {B = List A} (λ l. y ∷ l) t.is }

  -- a record that is there is put there
  pub put_self : (x : A) (l : List A) → Rising key l → find key l (key x) ≡ some x → put key x l ≡ l
  put_self x l r e = let t = put-split x x l r e in t.is ∙ sym t.was

-- ---- who has a DPC

-- the first that has it, this object or one of the others
abbrev pub held_by : ℕ → Object → ℕ → ℕ
held_by a x k = on_timer k (λ t. cond (holds a t) t.address k) x

holder-cons : (x : Object) (l : List Object) (a : ℕ) → holder_of (x ∷ l) a ≡ held_by a x (holder_of l a)
holder-cons x l a = on-timer₂ (λ ts k. given (first_of (holds a) ts) 0 (λ (t : Timer). t.address) ≡ k) x (λ n. refl) (λ t q. go t (holds a t))
  where
    go : (t : Timer) (b : Bool) → given (cond b (some t) (first_of (holds a) (timers_of l))) 0 (λ (t : Timer). t.address) ≡ cond b t.address (holder_of l a)
    go t true = refl
    go t false = refl

holder-split : (a : ℕ) (x o : Object) → ((k : ℕ) → held_by a x k ≡ held_by a o k) → (ys zs : List Object) → holder_of (ys ++ (x ∷ zs)) a ≡ holder_of (ys ++ (o ∷ zs)) a
holder-split a x o h [] zs = holder-cons x zs a ∙ h (holder_of zs a) ∙ sym (holder-cons o zs a)
holder-split a x o h (y ∷ ys) zs = holder-cons y (ys ++ (x ∷ zs)) a ∙ ap (held_by a y) (holder-split a x o h ys zs) ∙ sym (holder-cons y (ys ++ (o ∷ zs)) a)

pub holder-put : (a : ℕ) (x o : Object) → ((k : ℕ) → held_by a x k ≡ held_by a o k) → (l : List Object) → Rising key_of l → object_at l (key_of x) ≡ some o
    → holder_of (put_object x l) a ≡ holder_of l a
holder-put a x o h l r e =
    let t = put-split key_of x o l r e in
    ap (λ (l : List Object). holder_of l a) t.is ∙ holder-split a x o h t.before t.behind ∙ sym (ap (λ (l : List Object). holder_of l a) t.was)
