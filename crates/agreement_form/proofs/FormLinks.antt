-- Timers and DPCs of the state that words in form tell: an inserted timer's DPC exists and serves no other, and no key stands twice.
use Prim.Native.Nat.{ℕ, ◌+◌, ◌*◌, ◌<◌}
use mathlib.Core.List.{List}
use mathlib.Core.Bool.{true, false}
use mathlib.Core.Option.{Option, none, some}
use mathlib.Core.Path.{◌≡◌, refl, sym, ap, ◌∙◌}
use native.Mathlib.Omega.{arith}
use borrow.Author.Tests.{eq-eqb, not-true}
use lib.ListN.{get_or, length}
use Rattle.words.specs.Layout as at
use Rattle.images.specs.declared.Timer.{Timer}
use Rattle.images.specs.declared.Dpc.{Dpc}
use Rattle.objects.specs.Objects.{object_found, dpc_found}
use Rattle.model.specs.Lists.{Mem, present}
use Rattle.model.specs.Table.{find}
use Rattle.model.specs.State.{Object}
use Rattle.model.specs.Waits.{key_of, object_at, timers_of}
use Rattle.model.specs.Dpcs.{dpc_at}
use Rattle.model.specs.Valid.{Alone}
use Rattle.model.proofs.ListLaws.{not-both}
use Rattle.model.proofs.ObjectLaws.{at-timer, each-timer}
use Rattle.model.proofs.LinkLaws.{timer-found-mem}
use Rattle.agreement_tables.proofs.Lookups.{object-known}
use Rattle.agreement.specs.Agree.{Agreeing, objects_from, dpcs_from}
use Rattle.agreement.proofs.Headers.{objects-few}
use Rattle.agreement.proofs.Lookups.{base-is, object-keys}
use Rattle.agreement_form.specs.Decoded.{limits_of, objects_of, dpc_of, table_of, decoded}
use Rattle.agreement_form.specs.Words.{Words}
use Rattle.agreement_form.specs.Form.{Exists, LinkForm}
use Rattle.agreement_form.proofs.DecodedDpcs.{address_is}
use Rattle.agreement_form.proofs.DecodedHolders.{timer-served, serves-form}
use Rattle.agreement_form.proofs.DecodedActive.{found-there}
use Rattle.agreement_form.proofs.FormDpcs.{found-at}
use Rattle.agreement_form.proofs.Parts.{Parts}
use Rattle.agreement_form.proofs.Told.{told, agreeing-told}

module _ (w : List ℕ) (words : Words w) (p : Parts w) where
  a₀ : Agreeing w (decoded w) (told w) (get_or w at.active 0)
  a₀ = agreeing-told w words p

  abbrev objects : List Object
  objects = objects_of w

  serves : (t : Timer) → Mem t (timers_of objects) → t.inserted ≡ true → (t.dpc ≡ 0 → ⊥) → (dpc_found w t.dpc ≡ 0 → ⊥) × (get_or w (dpc_found w t.dpc + at.named_by) 0 ≡ t.address)
  serves t m e q = serves-form w t.dpc t.address (timer-served w p.objects t m e q)

  served : (k : ℕ) (x : Object) → object_at objects k ≡ some x → Exists (table_of w) x
  served = each-timer objects λ k t e i d. ap present (found-there w words p t.dpc (serves t (timer-found-mem objects k t e) i d).0).1

  alone : (k : ℕ) (x : Object) → object_at objects k ≡ some x → (j : ℕ) (y : Object) → object_at objects j ≡ some y → Alone x y
  alone k x e j y f = at-timer x λ t g. at-timer y λ u h a b q r.
      sym (serves t (timer-found-mem objects k t (e ∙ ap some g)) a q).1 ∙ ap (λ (d : ℕ). get_or w (dpc_found w d + at.named_by) 0) r
      ∙ (serves u (timer-found-mem objects j u (f ∙ ap some h)) b (λ z. q (r ∙ z))).1

  -- no object stands where a DPC does
  no-object : (i : ℕ) → i < get_or w at.dpcs 0 → present (find key_of objects (dpc_of w i).address) ≡ false
  no-object i h =
      let place = dpcs_from (limits_of w) + 32 * i in
      let none_found : object_found w (dpc_of w i).address ≡ 0 = ap (object_found w) (address_is w place) ∙ (p.dpcs.forms i h).no-object in
      not-true (present (find key_of objects (dpc_of w i).address))
      (sym (object-known key_of w (objects_from (limits_of w)) objects (omega (arith, p.header.limits.threads)) (omega arith) (base-is w (decoded w) (told w) (get_or w at.active 0) a₀)
      (a₀.numbers at.objects (length objects) refl) (objects-few w (decoded w) (told w) (get_or w at.active 0) a₀) a₀.shape.rising (object-keys w (decoded w) (told w) (get_or w at.active 0) a₀) (dpc_of w i).address)
      ∙ eq-eqb (object_found w (dpc_of w i).address) 0 none_found)

  apart : (k : ℕ) → present (find key_of objects k) ≡ true → present (dpc_at (table_of w) k) ≡ false
  apart k e = go (dpc_at (table_of w) k) refl
    where
      go : (o : Option Dpc) → dpc_at (table_of w) k ≡ o → present (dpc_at (table_of w) k) ≡ false
      go none q = ap present q
      go (some d) q =
          let h = found-at w words p k d q in
          absurd (not-both (sym e ∙ ap (λ (j : ℕ). present (find key_of objects j)) h.3 ∙ no-object h.0 h.1))

  pub link-form : LinkForm objects (table_of w)
  link-form = record { served = served; alone = alone; apart = apart }
