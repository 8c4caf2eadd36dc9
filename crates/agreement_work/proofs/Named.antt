-- Whether an inserted timer has a DPC, told by the key that the DPC's record keeps; and that no two have one.
use Prim.Native.Nat.{ℕ}
use mathlib.Core.List.{List}
use mathlib.Core.Bool.{Bool, true, false, cond, not}
use mathlib.Core.Logic.{◌⊎◌, inl, inr}
use mathlib.Core.Path.{◌≡◌, refl, sym, ap, ◌∙◌, subst}
use native.Mathlib.Omega.{arith}
use lib.Dec.{eqb}
use borrow.Author.Tests.{eq-eqb, ne_eqb, eqb-true, eqb-false}
use Rattle.images.specs.declared.Timer.{Timer}
use Rattle.images.specs.Place.{timer_size}
use Rattle.images.proofs.PlaceLaws.{located}
use Rattle.model.specs.Lists.{Mem}
use Rattle.model.specs.Table.{Rising}
use Rattle.model.specs.State.{Object, timer}
use Rattle.model.specs.Waits.{key_of, timers_of}
use Rattle.model.specs.Timers.{is_named, is_named_by_other}
use Rattle.model.specs.Valid.{Each, Placed, Alone}
use Rattle.model.proofs.ListLaws.{not-both, any_false, any_none, any_at}
use Rattle.model.proofs.TableLaws.{each-mem}
use Rattle.model.proofs.ObjectLaws.{on-timer, timer-passes}
use Rattle.model.proofs.LinkLaws.{timer-mem, mem-timer}
use Rattle.agreement.specs.Records.{holds, holder_of}
use Rattle.agreement_work.proofs.Holders.{has, Held, Unheld, held, holder-absent}

pub holds_parts : (a : ℕ) (t : Timer) → holds a t ≡ true → (t.inserted ≡ true) × (t.dpc ≡ a)
holds_parts a t e = go t.inserted refl e
  where
    go : (b : Bool) → t.inserted ≡ b → cond b (eqb t.dpc a) false ≡ true → (t.inserted ≡ true) × (t.dpc ≡ a)
    go true q h = (q, eqb-true t.dpc a h)
    go false q h = absurd (not-both (sym h))

pub parts-hold : (t : Timer) → t.inserted ≡ true → holds t.dpc t ≡ true
parts-hold t e = ap (λ (b : Bool). cond b (eqb t.dpc t.dpc) false) e ∙ eq-eqb t.dpc t.dpc refl

pub idle-holds : (a : ℕ) (t : Timer) → t.inserted ≡ false → holds a t ≡ false
idle-holds a t e = ap (λ (b : Bool). cond b (eqb t.dpc a) false) e

pub other-holds : (a : ℕ) (t : Timer) → (a ≡ t.dpc → ⊥) → holds a t ≡ false
other-holds a t n = go t.inserted
  where
    go : (b : Bool) → cond b (eqb t.dpc a) false ≡ false
    go true = ne_eqb t.dpc a (λ e. n (sym e))
    go false = refl

-- no inserted timer has it
pub holder-none : (l : List Object) (a : ℕ) → is_named l a ≡ false → holder_of l a ≡ 0
holder-none l a e = holder-absent l a none_has
  where
    none_has : (x : Object) → Mem x l → has a x ≡ false
    none_has x i = on-timer (λ b. b ≡ false) x (λ n. refl) (λ t q. any_false (holds a) (timers_of l) e t (timer-mem l t (subst (λ (y : Object). Mem y l) q i)))

module _ (l : List Object) (r : Rising key_of l) (places : Each key_of l Placed) where
  -- no timer stands at 0
  pub timer-placed : (t : Timer) → Mem (timer t) l → t.address ≡ 0 → ⊥
  timer-placed t m z = omega (arith, (located t.address (timer_size t.architecture) t.architecture t.backing (each-mem key_of Placed l r places (timer t) m)).some)

  -- whether one has it, told by the key
  pub is-named : (a : ℕ) → is_named l a ≡ not (eqb (holder_of l a) 0)
  is-named a = go (held l a)
    where
      one : (t : Timer) → Mem (timer t) l → holds a t ≡ true → is_named l a ≡ not (eqb t.address 0)
      one t i e = any_at (holds a) t (timers_of l) (timer-mem l t i) e ∙ ap not (sym (ne_eqb t.address 0 (timer-placed t i)))

      go : Held l a ⊎ Unheld l a → is_named l a ≡ not (eqb (holder_of l a) 0)
      go (inl h) = one h.holder h.stands h.is ∙ ap (λ (k : ℕ). not (eqb k 0)) (sym h.named)
      go (inr h) = any_none (holds a) (timers_of l) (λ t m. h.none (timer t) (mem-timer l t m)) ∙ ap not (sym (eq-eqb (holder_of l a) 0 h.named))

  pub holder-some : (a : ℕ) → is_named l a ≡ true → holder_of l a ≡ 0 → ⊥
  holder-some a e z = not-both (sym e ∙ is-named a ∙ ap not (eq-eqb (holder_of l a) 0 z))

-- ---- no two have one

module _ (l : List Object) (r : Rising key_of l) (alone : Each key_of l (λ x. Each key_of l (λ y. Alone x y))) (a : ℕ) (some : a ≡ 0 → ⊥) where
  pub alone-holds : (t u : Timer) → Mem (timer t) l → Mem (timer u) l → holds a t ≡ true → holds a u ≡ true → t.address ≡ u.address
  alone-holds t u m n e f =
      let p = holds_parts a t e in
      let q = holds_parts a u f in
      each-mem key_of (λ y. Alone (timer t) y) l r (each-mem key_of (λ x. Each key_of l (λ y. Alone x y)) l r alone (timer t) m) (timer u) n
      p.0 q.0 (λ z. some (sym p.1 ∙ z)) (p.1 ∙ sym q.1)

  pub alone-has : (x y : Object) → Mem x l → Mem y l → has a x ≡ true → has a y ≡ true → key_of x ≡ key_of y
  alone-has x y m n e f =
      let p = timer-passes (holds a) x e in
      let q = timer-passes (holds a) y f in
      ap key_of p.1 ∙ alone-holds p.0 q.0 (subst (λ (z : Object). Mem z l) p.1 m) (subst (λ (z : Object). Mem z l) q.1 n) p.2 q.2 ∙ sym (ap key_of q.1)

  abbrev another : ℕ → Timer → Bool
  another address t = cond (eqb t.address address) false (holds a t)

  -- an inserted timer at another address has it, told by the key
  pub named-by-other : Each key_of l Placed → (address : ℕ) → is_named_by_other l address a ≡ cond (eqb (holder_of l a) 0) false (not (eqb (holder_of l a) address))
  named-by-other places address = go (held l a)
    where
      unheld : (t : Timer) → holds a t ≡ false → another address t ≡ false
      unheld t e = by (eqb t.address address)
        where
          by : (b : Bool) → cond b false (holds a t) ≡ false
          by true = refl
          by false = e

      own : (t : Timer) → t.address ≡ address → another address t ≡ false
      own t e = ap (λ (b : Bool). cond b false (holds a t)) (eq-eqb t.address address e)

      other : (t : Timer) → (t.address ≡ address → ⊥) → holds a t ≡ true → another address t ≡ true
      other t n e = ap (λ (b : Bool). cond b false (holds a t)) (ne_eqb t.address address n) ∙ e

      -- the one that has it stands at the address, so the test fails of all
      none_other : (t : Timer) → Mem (timer t) l → holds a t ≡ true → t.address ≡ address → (u : Timer) → Mem u (timers_of l) → another address u ≡ false
      none_other t i e q u m = by (holds a u) refl
        where
          by : (b : Bool) → holds a u ≡ b → another address u ≡ false
          by true h = own u (sym (alone-holds t u i (mem-timer l u m) e h) ∙ q)
          by false h = unheld u h

      one : (t : Timer) → Mem (timer t) l → holds a t ≡ true → is_named_by_other l address a ≡ cond (eqb t.address 0) false (not (eqb t.address address))
      one t i e = by (eqb t.address address) refl ∙ ap (λ (b : Bool). cond b false (not (eqb t.address address))) (sym (ne_eqb t.address 0 (timer-placed l r places t i)))
        where
          by : (b : Bool) → eqb t.address address ≡ b → is_named_by_other l address a ≡ not (eqb t.address address)
          by true q = any_none (another address) (timers_of l) (none_other t i e (eqb-true t.address address q)) ∙ ap not (sym q)
          by false q = any_at (another address) t (timers_of l) (timer-mem l t i) (other t (eqb-false t.address address q) e) ∙ ap not (sym q)

      go : Held l a ⊎ Unheld l a → is_named_by_other l address a ≡ cond (eqb (holder_of l a) 0) false (not (eqb (holder_of l a) address))
      go (inl h) = one h.holder h.stands h.is ∙ ap (λ (k : ℕ). cond (eqb k 0) false (not (eqb k address))) (sym h.named)
      go (inr h) =
          any_none (another address) (timers_of l) (λ t m. unheld t (h.none (timer t) (mem-timer l t m)))
          ∙ ap (λ (b : Bool). cond b false (not (eqb (holder_of l a) address))) (sym (eq-eqb (holder_of l a) 0 h.named))
