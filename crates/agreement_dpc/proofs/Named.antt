-- Whether an inserted timer has the DPC at an address; a timer without one has the one at 0.
use Prim.Native.Nat.{ℕ, suc, ◌+◌, ◌*◌, ◌<◌}
use mathlib.Core.List.{List, [], ◌∷◌}
use mathlib.Core.Bool.{Bool, true, false, cond, not}
use mathlib.Core.Option.{Option, none, some}
use mathlib.Core.Path.{◌≡◌, refl, sym, ap, ◌∙◌, subst}
use native.Mathlib.Omega.{arith}
use borrow.Author.Tests.{eqb-true, eqb-false, ne_eqb}
use lib.Dec.{eqb}
use lib.ListN.{get_or, length}
use Rattle.words.specs.Layout as at
use Rattle.words.specs.Layout.{entry_at}
use Rattle.images.specs.declared.Timer.{Timer}
use Rattle.images.specs.declared.Dpc.{Dpc}
use Rattle.objects.specs.Objects.{objects_base, dpc_found}
use Rattle.dpcs.specs.Named as words
use Rattle.model.specs.Lists.{Mem, any, nth, present}
use Rattle.model.specs.State.{State, Object, timer}
use Rattle.model.specs.Waits.{key_of, kind_of, timers_of}
use Rattle.model.specs.Dpcs.{address_of, dpc_at}
use Rattle.model.specs.Timers.{is_named}
use Rattle.model.specs.Valid.{Valid, Served}
use Rattle.model.proofs.ListLaws.{not-both, any_none}
use Rattle.model.proofs.TableLaws.{each-mem, found}
use Rattle.model.proofs.ObjectLaws.{on-timer₂, on-timer}
use Rattle.model.proofs.LinkLaws.{mem-timer}
use Rattle.agreement_tables.proofs.Lists.{nth_in}
use Rattle.agreement.specs.Row.{Row}
use Rattle.agreement.specs.Records.{flag, object_row, holds, holder_of, active_address}
use Rattle.agreement.specs.Agree.{objects_from, Agree}
use Rattle.agreement.proofs.Places.{entry_place}
use Rattle.agreement.proofs.Headers.{objects-few}
use Rattle.agreement.proofs.Lookups.{base-is, object-count-is, row-kind, dpc-place, dpc-row}
use Rattle.agreement_work.proofs.Holders.{has}
use Rattle.agreement_work.proofs.Named.{holds_parts, is-named}
use Rattle.agreement_dpc.proofs.Found.{place_none}

-- an object's record tells whether it is an inserted timer without a DPC
bare-is : (w : List ℕ) (place : ℕ) (x : Object) → Row w place (object_row x) → words.is_bare w place ≡ has 0 x
unfolding words.is_bare
bare-is w place x r = on-timer (λ b. words.is_bare w place ≡ b) x (λ n. simp (r 1 (kind_of x) (row-kind x), n)) λ t q.
    let z = subst (λ (y : Object). Row w place (object_row y)) q r in simp (z 1 2 refl, z 5 (flag t.inserted) refl, z 8 t.dpc refl, go t t.inserted)
  where
    go : (t : Timer) (b : Bool) → cond (eqb (flag b) 0) false (eqb t.dpc 0) ≡ cond b (eqb t.dpc 0) false
    go t true = refl
    go t false = refl

-- one of the objects from position `i` on
bare-in : (w : List ℕ) (base : ℕ) (xs : List Object) (i : ℕ) → ((j : ℕ) (x : Object) → nth xs j ≡ some x → words.is_bare w (entry_at base (i + j)) ≡ has 0 x) → words.bare_in (length xs) w base i ≡ is_named xs 0
unfolding words.bare_in
bare-in w base [] i h = refl
bare-in w base (x ∷ xs) i h =
    ap (λ (b : Bool). cond b true (words.bare_in (length xs) w base (i + 1))) (ap (λ (j : ℕ). words.is_bare w (entry_at base j)) (let z : i ≡ i + 0 = omega arith in z) ∙ h 0 x refl)
    ∙ ap (λ (b : Bool). cond (has 0 x) true b) (bare-in w base xs (i + 1) (λ j y e. ap (λ (k : ℕ). words.is_bare w (entry_at base k)) (let z : i + 1 + j ≡ i + suc j = omega arith in z) ∙ h (suc j) y e))
    ∙ on-timer₂ (λ b ts. cond b true (is_named xs 0) ≡ any (holds 0) ts) x (λ n. refl) (λ t q. refl)

module _ (w : List ℕ) (s : State) (a : Agree w s) (v : Valid s) where
  abbrev objects : List Object
  objects = s.dispatcher.objects

  abbrev table : List Dpc
  table = s.dpcs.table

  any-bare-is : words.any_bare w ≡ is_named s.dispatcher.objects 0
  unfolding words.any_bare
  any-bare-is =
      ap (λ (n : ℕ). words.bare_in n w (objects_base w) 0) (object-count-is w s (holder_of objects) (active_address table) a)
      ∙ ap (λ (b : ℕ). words.bare_in (length objects) w b 0) (base-is w s (holder_of objects) (active_address table) a)
      ∙ bare-in w (objects_from s.limits) objects 0 one
    where
      one : (j : ℕ) (x : Object) → nth objects j ≡ some x → words.is_bare w (entry_at (objects_from s.limits) (0 + j)) ≡ has 0 x
      one j x e =
          let h : j < length objects = nth_in objects j x e in
          let few = objects-few w s (holder_of objects) (active_address table) a in
          ap (words.is_bare w) (entry_place (objects_from s.limits) (0 + j) (omega (arith, a.shape.sizes.limits.threads)) (omega arith) ∙ (let z : objects_from s.limits + 32 * (0 + j) ≡ objects_from s.limits + 32 * j = omega arith in z))
          ∙ bare-is w (objects_from s.limits + 32 * j) x (a.objects j x e)

  -- an unknown DPC is no timer's
  unknown-named : (k : ℕ) → (k ≡ 0 → ⊥) → dpc_at s.dpcs.table k ≡ none → is_named s.dispatcher.objects k ≡ false
  unknown-named k n e = any_none (holds k) (timers_of objects) (λ t m. go t (mem-timer objects t m) (holds k t) refl)
    where
      go : (t : Timer) → Mem (timer t) objects → (b : Bool) → holds k t ≡ b → holds k t ≡ false
      go t m true q =
          let p = holds_parts k t q in
          let z = each-mem key_of (Served table) objects v.sound.rising v.linked.served (timer t) m p.0 (λ z. n (sym p.1 ∙ z)) in
          absurd (not-both (sym z.0 ∙ ap (λ (j : ℕ). present (dpc_at table j)) p.1 ∙ ap present e))
      go t m false q = q

  pub named-is : (k : ℕ) → words.is_named w k ≡ is_named s.dispatcher.objects k
  unfolding words.is_named
  named-is k = go (eqb k 0) refl
    where
      known : (d : Dpc) → dpc_at table k ≡ some d → cond (eqb (dpc_found w k) 0) false (not (eqb (get_or w (dpc_found w k + at.named_by) 0) 0)) ≡ is_named objects k
      known d e =
          let p = dpc-place w s (holder_of objects) (active_address table) a k d e in
          let h = dpc-row w s (holder_of objects) (active_address table) a k d e 3 (holder_of objects d.address) refl in
          ap (λ (b : Bool). cond b false (not (eqb (get_or w (dpc_found w k + at.named_by) 0) 0))) (ne_eqb (dpc_found w k) 0 (λ z. omega (arith, p)))
          ∙ ap (λ (j : ℕ). not (eqb j 0)) (ap (λ (j : ℕ). get_or w (j + at.named_by) 0) p ∙ h ∙ ap (holder_of objects) (found address_of table k d e).1)
          ∙ sym (is-named objects v.sound.rising v.sound.places k)

      other : (o : Option Dpc) → dpc_at table k ≡ o → eqb k 0 ≡ false → cond (eqb (dpc_found w k) 0) false (not (eqb (get_or w (dpc_found w k + at.named_by) 0) 0)) ≡ is_named objects k
      other none e q =
          ap (λ (j : ℕ). cond (eqb j 0) false (not (eqb (get_or w (j + at.named_by) 0) 0))) (place_none w s (holder_of objects) (active_address table) a k e)
          ∙ sym (unknown-named k (eqb-false k 0 q) e)
      other (some d) e q = known d e

      go : (b : Bool) → eqb k 0 ≡ b → cond b (words.any_bare w) (cond (eqb (dpc_found w k) 0) false (not (eqb (get_or w (dpc_found w k + at.named_by) 0) 0))) ≡ is_named objects k
      go true q = any-bare-is ∙ ap (is_named objects) (sym (eqb-true k 0 q))
      go false q = other (dpc_at table k) refl q
