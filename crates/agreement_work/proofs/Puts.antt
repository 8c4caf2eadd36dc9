-- Who has a DPC after an object got another record: the same, or its own key, or none.
use Prim.Native.Nat.{ℕ, ◌≤◌}
use mathlib.Core.List.{List, [], ◌∷◌}
use mathlib.Core.Bool.{Bool, true, false, cond}
use mathlib.Core.Option.{Option, none, some}
use mathlib.Core.Logic.{⊎_elim}
use mathlib.Core.Path.{◌≡◌, refl, sym, ap, ◌∙◌}
use native.Mathlib.Omega.{arith}
use lib.Dec.{eqb, ltb}
use borrow.Author.Tests.{ltb-true, eqb-true, ne_eqb}
use Rattle.images.specs.declared.Timer.{Timer}
use Rattle.model.specs.Lists.{Mem, given}
use Rattle.model.specs.Table.{Above, Rising}
use Rattle.model.specs.State.{Object, timer}
use Rattle.model.specs.Waits.{key_of, object_at, as_timer, timer_at, put_object}
use Rattle.model.specs.Refusal.{is_inserted}
use Rattle.model.proofs.TableLaws.{some_same, none-some, found, mem-found, find-put-own, mem-put, rising-put}
use Rattle.model.proofs.ObjectLaws.{on-timer₂}
use Rattle.agreement.specs.Records.{holds, holder_of}
use Rattle.agreement_work.proofs.Holders.{has, holder-cons, holder-no, holder-tail, holder-absent, holder-is}

above-none : (l : List Object) (j k : ℕ) → j ≤ k → Above key_of k l → object_at l j ≡ none
above-none [] j k le h = refl
above-none (y ∷ ys) j k le h =
    ap (λ (b : Bool). cond b (some y) (object_at ys j)) (ne_eqb (key_of y) j (λ e. omega (arith, h.0))) ∙ above-none ys j k le h.1

-- whether the object at a key has it
abbrev pub has_at : List Object → ℕ → ℕ → Bool
has_at l k a = given (object_at l k) false (has a)

-- it has the DPC just if the object before it had
pub holder-put : (x : Object) (l : List Object) → Rising key_of l → (a : ℕ) → has a x ≡ has_at l (key_of x) a → holder_of (put_object x l) a ≡ holder_of l a
holder-put x [] r a e = holder-no x [] a e
holder-put x (y ∷ ys) r a e = go (ltb (key_of x) (key_of y)) (eqb (key_of y) (key_of x)) refl refl e (holder-put x ys r.1 a)
  where
    go : (b c : Bool) → ltb (key_of x) (key_of y) ≡ b → eqb (key_of y) (key_of x) ≡ c → has a x ≡ given (cond c (some y) (object_at ys (key_of x))) false (has a)
        → (has a x ≡ has_at ys (key_of x) a → holder_of (put_object x ys) a ≡ holder_of ys a)
        → holder_of (cond b (x ∷ y ∷ ys) (cond c (x ∷ ys) (y ∷ put_object x ys))) a ≡ holder_of (y ∷ ys) a
    go true true p q h ih = absurd (omega (arith, ltb-true (key_of x) (key_of y) p, eqb-true (key_of y) (key_of x) q))
    go true false p q h ih =
        holder-no x (y ∷ ys) a
        (h ∙ ap (λ (o : Option Object). given o false (has a)) (above-none ys (key_of x) (key_of y) (omega (arith, ltb-true (key_of x) (key_of y) p)) r.0))
    go false true p q h ih =
        holder-cons x ys a ∙ ap (λ (b : Bool). cond b (key_of x) (holder_of ys a)) h
        ∙ ap (λ (k : ℕ). cond (has a y) k (holder_of ys a)) (sym (eqb-true (key_of y) (key_of x) q)) ∙ sym (holder-cons y ys a)
    go false false p q h ih = holder-tail y (put_object x ys) ys a (ih h)

-- it has the DPC, and no other does
pub holder-put-own : (x : Object) (l : List Object) (a : ℕ) → has a x ≡ true → ((y : Object) → Mem y l → has a y ≡ true → key_of y ≡ key_of x)
    → holder_of (put_object x l) a ≡ key_of x
holder-put-own x l a t h =
    holder-is (put_object x l) a (key_of x) (λ y m e. ⊎_elim (λ (q : y ≡ x). ap key_of q) (λ (n : Mem y l). h y n e) (mem-put key_of x l y m))
    x (found key_of (put_object x l) (key_of x) x (find-put-own key_of x l)).0 t

-- it has the DPC no longer, and no other does
pub holder-put-none : (x : Object) (l : List Object) → Rising key_of l → (a : ℕ) → has a x ≡ false → ((y : Object) → Mem y l → has a y ≡ true → key_of y ≡ key_of x)
    → holder_of (put_object x l) a ≡ 0
holder-put-none x l r a f h = holder-absent (put_object x l) a none_has
  where
    own : (z : Object) → Mem z (put_object x l) → key_of z ≡ key_of x → has a z ≡ false
    own z m e =
        ap (has a) (some_same z x (sym (mem-found key_of (put_object x l) (rising-put key_of x l r) z m) ∙ ap (object_at (put_object x l)) e ∙ find-put-own key_of x l)) ∙ f

    none_has : (z : Object) → Mem z (put_object x l) → has a z ≡ false
    none_has z m = go (has a z) refl
      where
        go : (b : Bool) → has a z ≡ b → has a z ≡ false
        go true e = own z m (⊎_elim (λ (q : z ≡ x). ap key_of q) (λ (n : Mem z l). h z n e) (mem-put key_of x l z m))
        go false e = e

-- ---- by kind

module _ (l : List Object) (r : Rising key_of l) where
  -- no timer in the place of no timer
  pub holder-plain : (x : Object) (a : ℕ) → has a x ≡ false → timer_at l (key_of x) ≡ none → holder_of (put_object x l) a ≡ holder_of l a
  holder-plain x a f e = holder-put x l r a (f ∙ go (object_at l (key_of x)) e)
    where
      go : (o : Option Object) → as_timer o ≡ none → false ≡ given o false (has a)
      go none = λ q. refl
      go (some x) = on-timer₂ (λ o b. o ≡ none → false ≡ b) x (λ n q. refl) (λ t e q. absurd (none-some t (sym q)))

  -- a timer in the place of one, where both have the DPC or neither
  pub holder-timer : (t u : Timer) → object_at l t.address ≡ some (timer u) → (a : ℕ) → holds a t ≡ holds a u → holder_of (put_object (timer t) l) a ≡ holder_of l a
  holder-timer t u e a q = holder-put (timer t) l r a (q ∙ ap (λ (o : Option Object). given o false (has a)) (sym e))

  -- the same insertion and the same DPC
  pub holder-same : (t u : Timer) → object_at l t.address ≡ some (timer u) → t.inserted ≡ u.inserted → t.dpc ≡ u.dpc → (a : ℕ)
      → holder_of (put_object (timer t) l) a ≡ holder_of l a
  holder-same t u e i d a =
      holder-timer t u e a (ap (λ (b : Bool). cond b (eqb t.dpc a) false) i ∙ ap (λ (k : ℕ). cond u.inserted (eqb k a) false) d)

  -- a timer that is not inserted, in the place of no inserted timer
  pub holder-idle : (t : Timer) → t.inserted ≡ false → is_inserted l t.address ≡ false → (a : ℕ) → holder_of (put_object (timer t) l) a ≡ holder_of l a
  holder-idle t f e a = holder-put (timer t) l r a (ap (λ (b : Bool). cond b (eqb t.dpc a) false) f ∙ go (object_at l t.address) e)
    where
      go : (o : Option Object) → given (as_timer o) false (λ (u : Timer). u.inserted) ≡ false → false ≡ given o false (has a)
      go none = λ q. refl
      go (some x) = on-timer₂ (λ o b. given o false (λ (u : Timer). u.inserted) ≡ false → false ≡ b) x (λ n q. refl) (λ u e q. ap (λ (b : Bool). cond b (eqb u.dpc a) false) (sym q))
