-- In words in form a DPC's record names the inserted timer that has it.
use Prim.Native.Nat.{ℕ, zero, suc, ◌+◌, ◌*◌, ◌≤◌, ◌<◌}
use mathlib.Core.List.{List}
use mathlib.Core.Bool.{Bool, cond, true, false, not}
use mathlib.Core.Option.{Option, none, some}
use mathlib.Core.Path.{◌≡◌, refl, sym, ap, ◌∙◌, subst}
use native.Mathlib.Omega.{arith}
use native.Mathlib.Decide.{ℕ_discrete}
use borrow.Author.Tests.{eq-eqb, eqb-true, eqb-false}
use lib.ListN.{get_or}
use lib.Dec.{eqb}
use Rattle.words.specs.Layout as at
use Rattle.images.specs.declared.Timer.{Timer}
use Rattle.objects.specs.Objects.{dpc_found, place_of}
use Rattle.timers.specs.Record.{timer_at}
use Rattle.form_dpc.specs.Timer.{serves_it, has_dpc}
use Rattle.model.specs.Lists.{Mem, first_of, given}
use Rattle.model.specs.State.{Object, mutex, event, timer}
use Rattle.model.specs.Waits.{key_of, kind_of, object_at, as_timer, timers_of}
use Rattle.model.proofs.ListLaws.{not-both}
use Rattle.model.proofs.LinkLaws.{mem-timer, timer-found-mem}
use Rattle.model.proofs.TableLaws.{none-some, some_same}
use Rattle.agreement_tables.specs.Tables.{below}
use Rattle.agreement.specs.Records.{flag, holds, holder_of}
use Rattle.agreement.specs.Agree.{Agreeing, objects_from, dpcs_from}
use Rattle.agreement.proofs.Lookups.{dpc-place, place-of, object-row}
use Rattle.agreement_form.specs.Decoded.{limits_of, object_by, object_of, objects_of, dpc_of, decoded}
use Rattle.agreement_form.specs.Words.{Words}
use Rattle.agreement_form.proofs.Clauses.{not_first}
use Rattle.agreement_form.proofs.Each.{mem-each}
use Rattle.agreement_form.proofs.TimerRecords.{first-passing, first-is, holds-both}
use Rattle.agreement_form.proofs.ObjectForm.{ObjectsForm}
use Rattle.agreement_form.proofs.DecodedDpcs.{address_is, dpc-there}
use Rattle.agreement_form.proofs.DecodedQueue.{dpc-found}
use Rattle.agreement_form.proofs.Parts.{Parts}
use Rattle.agreement_form.proofs.Told.{told, told_is, agreeing-told}

-- ---- a timer of the table

-- an object that is a timer has kind 2
timer-by : (w : List ℕ) (place kind : ℕ) (t : Timer) → kind ≤ 2 → timer t ≡ object_by w place kind → (kind ≡ 2) × (t ≡ timer_at w place)
timer-by w place zero t h e = absurd (let z : 2 ≡ 0 = ap kind_of e in omega (arith, z))
timer-by w place (suc zero) t h e = absurd (let z : 2 ≡ 1 = ap kind_of e in omega (arith, z))
timer-by w place (suc (suc zero)) t h e = (refl, some_same t (timer_at w place) (ap (λ (o : Object). as_timer (some o)) e))
timer-by w place (suc (suc (suc n))) t h e = absurd (omega arith)

pub record TimerIn (w : List ℕ) (t : Timer) : Type 0 where
  pub position : ℕ
  pub small : position < get_or w at.objects 0
  pub kind : get_or w (objects_from (limits_of w) + 32 * position + at.kind) 0 ≡ 2
  pub same : t ≡ timer_at w (objects_from (limits_of w) + 32 * position)

pub timer-in : (w : List ℕ) → ObjectsForm w → (t : Timer) → Mem t (timers_of (objects_of w)) → TimerIn w t
timer-in w f t m =
    let h = mem-each (object_of w) (get_or w at.objects 0) 0 (timer t) (mem-timer (objects_of w) t m) in
    let place = objects_from (limits_of w) + 32 * h.0 in
    let k = timer-by w place (get_or w (place + at.kind) 0) t (f.forms h.0 (omega (arith, h.2))).kind h.3 in
    record { position = h.0; small = omega (arith, h.2); kind = k.0; same = k.1 }

-- an inserted timer's DPC, if any, serves it
pub timer-served : (w : List ℕ) → ObjectsForm w → (t : Timer) → Mem t (timers_of (objects_of w)) → t.inserted ≡ true → (t.dpc ≡ 0 → ⊥) → serves_it w t.dpc t.address ≡ true
unfolding timer_at
timer-served w f t m e q =
    subst (λ (u : Timer). serves_it w u.dpc u.address ≡ true) (sym k.same)
    (subst (λ (n : ℕ). serves_it w (get_or w (place + at.timer_dpc) 0) n ≡ true) (ap (λ (j : ℕ). get_or w j 0) (let z : place ≡ place + 0 = omega arith in z))
    ((f.forms k.position k.small).serves k.kind is_inserted (λ z. q (ap (λ (u : Timer). u.dpc) k.same ∙ z))))
  where
    k : TimerIn w t
    k = timer-in w f t m

    place : ℕ
    place = objects_from (limits_of w) + 32 * k.position

    is_inserted : get_or w (place + at.inserted) 0 ≡ 0 → ⊥
    is_inserted z = not-both (sym e ∙ ap (λ (u : Timer). u.inserted) k.same ∙ ap not (eq-eqb (get_or w (place + at.inserted) 0) 0 z))

pub serves-form : (w : List ℕ) (dpc key : ℕ) → serves_it w dpc key ≡ true → (dpc_found w dpc ≡ 0 → ⊥) × (get_or w (dpc_found w dpc + at.named_by) 0 ≡ key)
unfolding serves_it
serves-form w dpc key e =
    let a = not_first (eqb (dpc_found w dpc) 0) (eqb (get_or w (dpc_found w dpc + at.named_by) 0) key) e in
    (eqb-false (dpc_found w dpc) 0 a.0, eqb-true (get_or w (dpc_found w dpc + at.named_by) 0) key a.1)

has-form : (w : List ℕ) (place dpc : ℕ) → has_dpc w place dpc ≡ true → (get_or w (place + at.inserted) 0 ≡ 0 → ⊥) × (get_or w (place + at.timer_dpc) 0 ≡ dpc)
unfolding has_dpc
has-form w place dpc e =
    let a = not_first (eqb (get_or w (place + at.inserted) 0) 0) (eqb (get_or w (place + at.timer_dpc) 0) dpc) e in
    (eqb-false (get_or w (place + at.inserted) 0) 0 a.0, eqb-true (get_or w (place + at.timer_dpc) 0) dpc a.1)

-- a flag that is not 0 is set
is_set : (b : Bool) → (flag b ≡ 0 → ⊥) → b ≡ true
is_set true h = refl
is_set false h = absurd (h refl)

module _ (w : List ℕ) (words : Words w) (p : Parts w) where
  a₀ : Agreeing w (decoded w) (told w) (get_or w at.active 0)
  a₀ = agreeing-told w words p

  abbrev objects : List Object
  objects = objects_of w

  -- a timer of the table with a key
  named-timer : (key : ℕ) → (place_of w 2 key ≡ 0 → ⊥) → (t : Timer) × (object_at objects key ≡ some (timer t)) × (place_of w 2 key ≡ objects_from (limits_of w) + 32 * below key_of key objects)
  named-timer key h = go (object_at objects key) refl
    where
      is : place_of w 2 key ≡ given (object_at objects key) 0 (λ x. cond (eqb (kind_of x) 2) (objects_from (limits_of w) + 32 * below key_of key objects) 0)
      is = place-of w (decoded w) (told w) (get_or w at.active 0) a₀ 2 key

      with_it : (o : Option Object) → object_at objects key ≡ o → place_of w 2 key ≡ given o 0 (λ x. cond (eqb (kind_of x) 2) (objects_from (limits_of w) + 32 * below key_of key objects) 0)
      with_it o e = is ∙ ap (λ (x : Option Object). given x 0 (λ y. cond (eqb (kind_of y) 2) (objects_from (limits_of w) + 32 * below key_of key objects) 0)) e

      go : (o : Option Object) → object_at objects key ≡ o → (t : Timer) × (object_at objects key ≡ some (timer t)) × (place_of w 2 key ≡ objects_from (limits_of w) + 32 * below key_of key objects)
      go none e = absurd (h (with_it none e))
      go (some (mutex m)) e = absurd (h (with_it (some (mutex m)) e))
      go (some (event m)) e = absurd (h (with_it (some (event m)) e))
      go (some (timer t)) e = (t, e, with_it (some (timer t)) e)

  module _ (i : ℕ) (small : i < get_or w at.dpcs 0) where
    abbrev address : ℕ
    address = (dpc_of w i).address

    abbrev place : ℕ
    place = dpcs_from (limits_of w) + 32 * i

    there : address ≡ 0 → ⊥
    there = dpc-there w place (p.dpcs.forms i small)

    -- the record of a DPC that a timer has names the timer
    names : (t : Timer) → Mem t (timers_of objects) → holds address t ≡ true → told w address ≡ t.address
    names t m e =
        let b = holds-both address t e in
        let served = timer-served w p.objects t m b.0 (λ z. there (sym b.1 ∙ z)) in
        let f = serves-form w t.dpc t.address served in
        ap (λ (j : ℕ). get_or w (j + at.named_by) 0) (sym (dpc-place w (decoded w) (told w) (get_or w at.active 0) a₀ address (dpc_of w i) (dpc-found w p.dpcs p.queue i small)))
        ∙ ap (λ (j : ℕ). get_or w (dpc_found w j + at.named_by) 0) (sym b.1) ∙ f.1

    -- whom the record names has it
    named : (get_or w (place + at.named_by) 0 ≡ 0 → ⊥) → (t : Timer) × (Mem t (timers_of objects)) × (holds address t ≡ true)
    named h = go ((p.dpcs.forms i small).named h)
      where
        key : ℕ
        key = get_or w (place + at.named_by) 0

        go : (place_of w 2 key ≡ 0 → ⊥) × (has_dpc w (place_of w 2 key) (get_or w place 0) ≡ true) → (t : Timer) × (Mem t (timers_of objects)) × (holds address t ≡ true)
        go (q, d) =
            let n = named-timer key q in
            let t = n.0 in
            let f = has-form w (place_of w 2 key) (get_or w place 0) d in
            let r = object-row w (decoded w) (told w) (get_or w at.active 0) a₀ key (timer t) n.1 in
            let inserted = is_set t.inserted (λ z. f.0 (ap (λ (j : ℕ). get_or w (j + at.inserted) 0) n.2 ∙ r 5 (flag t.inserted) refl ∙ z)) in
            let dpc : t.dpc ≡ address = sym (ap (λ (j : ℕ). get_or w (j + at.timer_dpc) 0) n.2 ∙ r 8 t.dpc refl) ∙ f.1 ∙ sym (address_is w place) in
            (t, timer-found-mem objects key t n.1, ap (λ (b : Bool). cond b (eqb t.dpc address) false) inserted ∙ eq-eqb t.dpc address dpc)

    pub holder-told : get_or w (place + at.named_by) 0 ≡ holder_of objects address
    holder-told = told_is w words p i small ∙ go (first_of (holds address) (timers_of objects)) refl
      where
        by_name : first_of (holds address) (timers_of objects) ≡ none → Dec (get_or w (place + at.named_by) 0 ≡ 0) → told w address ≡ 0
        by_name e (yes q) = sym (told_is w words p i small) ∙ q
        by_name e (no q) =
            let t = named q in
            let f = first-passing (holds address) (timers_of objects) t.0 t.1 t.2 in
            absurd (none-some f.0 (sym e ∙ f.1))

        go : (o : Option Timer) → first_of (holds address) (timers_of objects) ≡ o → told w address ≡ holder_of objects address
        go none e = by_name e (ℕ_discrete (get_or w (place + at.named_by) 0) 0) ∙ ap (λ (o : Option Timer). given o 0 (λ (t : Timer). t.address)) (sym e)
        go (some t) e =
            let f = first-is (holds address) (timers_of objects) t e in
            names t f.0 f.1 ∙ ap (λ (o : Option Timer). given o 0 (λ (u : Timer). u.address)) (sym e)
