-- The inserted timer that has a DPC, among the objects: none has it, or the first that has it does.
use Prim.Native.Nat.{ℕ}
use mathlib.Core.List.{List, [], ◌∷◌}
use mathlib.Core.Bool.{Bool, true, false, cond}
use mathlib.Core.Option.{some}
use mathlib.Core.Logic.{◌⊎◌, inl, inr}
use mathlib.Core.Path.{◌≡◌, refl, sym, ap, ◌∙◌}
use Rattle.images.specs.declared.Timer.{Timer}
use Rattle.model.specs.Lists.{Mem, keep, first_of, given}
use Rattle.model.specs.State.{Object, timer}
use Rattle.model.specs.Waits.{key_of, on_timer, timers_of}
use Rattle.model.proofs.ListLaws.{not-both}
use Rattle.model.proofs.ObjectLaws.{on-timer₂, timer-passes}
use Rattle.agreement.specs.Records.{holds, holder_of}

-- the object is an inserted timer that has the DPC
abbrev pub has : ℕ → Object → Bool
has a = on_timer false (holds a)

pub holder-cons : (x : Object) (l : List Object) (a : ℕ) → holder_of (x ∷ l) a ≡ cond (has a x) (key_of x) (holder_of l a)
holder-cons x l a = on-timer₂ (λ ts b. given (first_of (holds a) ts) 0 (λ (u : Timer). u.address) ≡ cond b (key_of x) (holder_of l a)) x (λ n. refl)
    (λ t q. go t (holds a t) ∙ ap (λ (k : ℕ). cond (holds a t) k (holder_of l a)) (sym (ap key_of q)))
  where
    go : (t : Timer) (b : Bool) → given (cond b (some t) (first_of (holds a) (timers_of l))) 0 (λ (u : Timer). u.address) ≡ cond b t.address (holder_of l a)
    go t true = refl
    go t false = refl

pub holder-yes : (x : Object) (l : List Object) (a : ℕ) → has a x ≡ true → holder_of (x ∷ l) a ≡ key_of x
holder-yes x l a e = holder-cons x l a ∙ ap (λ (b : Bool). cond b (key_of x) (holder_of l a)) e

pub holder-no : (x : Object) (l : List Object) (a : ℕ) → has a x ≡ false → holder_of (x ∷ l) a ≡ holder_of l a
holder-no x l a e = holder-cons x l a ∙ ap (λ (b : Bool). cond b (key_of x) (holder_of l a)) e

-- the same behind one more object
pub holder-tail : (x : Object) (l l' : List Object) (a : ℕ) → holder_of l a ≡ holder_of l' a → holder_of (x ∷ l) a ≡ holder_of (x ∷ l') a
holder-tail x l l' a e = holder-cons x l a ∙ ap (λ (n : ℕ). cond (has a x) (key_of x) n) e ∙ sym (holder-cons x l' a)

-- none has it
pub holder-absent : (l : List Object) (a : ℕ) → ((x : Object) → Mem x l → has a x ≡ false) → holder_of l a ≡ 0
holder-absent [] a h = refl
holder-absent (x ∷ l) a h = holder-no x l a (h x (inl refl)) ∙ holder-absent l a (λ y m. h y (inr m))

-- one has it, and whoever has it stands at that key
pub holder-is : (l : List Object) (a k : ℕ) → ((x : Object) → Mem x l → has a x ≡ true → key_of x ≡ k) → (y : Object) → Mem y l → has a y ≡ true → holder_of l a ≡ k
holder-is [] a k h y m t = absurd m
holder-is (x ∷ l) a k h y m t = go (has a x) refl (λ n. holder-is l a k (λ z i. h z (inr i)) y n t)
  where
    behind : has a x ≡ false → (y ≡ x) ⊎ Mem y l → Mem y l
    behind f (inl e) = absurd (not-both (sym t ∙ ap (has a) e ∙ f))
    behind f (inr n) = n

    go : (b : Bool) → has a x ≡ b → (Mem y l → holder_of l a ≡ k) → holder_of (x ∷ l) a ≡ k
    go true e r = holder-yes x l a e ∙ h x (inl refl) e
    go false e r = holder-no x l a e ∙ r (behind e m)

-- which of the two it is
pub record Held (l : List Object) (a : ℕ) : Type 0 where
  pub holder : Timer
  pub stands : Mem (timer holder) l
  pub is : holds a holder ≡ true
  pub named : holder_of l a ≡ holder.address

pub record Unheld (l : List Object) (a : ℕ) : Type 0 where
  pub none : (x : Object) → Mem x l → has a x ≡ false
  pub named : holder_of l a ≡ 0

pub held : (l : List Object) (a : ℕ) → Held l a ⊎ Unheld l a
held [] a = inr (record { none = λ x m. absurd m; named = refl })
held (x ∷ l) a = go (has a x) refl (held l a)
  where
    none_of : has a x ≡ false → ((y : Object) → Mem y l → has a y ≡ false) → (y : Object) → (y ≡ x) ⊎ Mem y l → has a y ≡ false
    none_of e h y (inl q) = ap (has a) q ∙ e
    none_of e h y (inr m) = h y m

    go : (b : Bool) → has a x ≡ b → Held l a ⊎ Unheld l a → Held (x ∷ l) a ⊎ Unheld (x ∷ l) a
    go true e h = let p = timer-passes (holds a) x e in inl (record { holder = p.0; stands = inl (sym p.1); is = p.2; named = holder-yes x l a e ∙ ap key_of p.1 })
    go false e (inl h) = inl (record { holder = h.holder; stands = inr h.stands; is = h.is; named = holder-no x l a e ∙ h.named })
    go false e (inr h) = inr (record { none = none_of e h.none; named = holder-no x l a e ∙ h.named })

-- what goes is no inserted timer that has it
pub holder-keep : (f : Object → Bool) (l : List Object) (a : ℕ) → ((x : Object) → Mem x l → f x ≡ false → has a x ≡ false) → holder_of (keep f l) a ≡ holder_of l a
holder-keep f [] a h = refl
holder-keep f (x ∷ l) a h = go (f x) refl (holder-keep f l a (λ y m. h y (inr m)))
  where
    go : (b : Bool) → f x ≡ b → holder_of (keep f l) a ≡ holder_of l a → holder_of (cond b (x ∷ keep f l) (keep f l)) a ≡ holder_of (x ∷ l) a
    go true e r = holder-tail x (keep f l) l a r
    go false e r = r ∙ sym (holder-no x l a (h x (inl refl) e))
