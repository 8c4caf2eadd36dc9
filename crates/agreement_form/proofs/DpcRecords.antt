-- The records of DPCs in words that agree with a state in form pass the check.
use Prim.Native.Nat.{ℕ, zero, suc, ◌+◌, ◌*◌, ◌≤◌, ◌<◌}
use mathlib.Core.List.{List}
use mathlib.Core.Bool.{Bool, cond, true, false}
use mathlib.Core.Option.{Option, none, some}
use mathlib.Core.Path.{◌≡◌, refl, sym, ap, ◌∙◌, subst}
use native.Mathlib.Omega.{arith}
use lib.ListN.{get_or, length}
use lib.Dec.{eqb}
use Rattle.words.specs.Layout as at
use Rattle.words.specs.Layout.{entry_at}
use Rattle.tables.specs.Table.{key_at}
use Rattle.objects.specs.Objects.{dpcs_base, place_of}
use Rattle.images.specs.declared.Timer.{Timer}
use Rattle.images.specs.declared.Dpc.{Dpc}
use Rattle.images.specs.declared.DpcPhase.{DpcPhase}
use Rattle.form_dpc.specs.Timer.{has_dpc}
use Rattle.form_dpc.specs.Dpc.{address_once, named_rightly, dpc_passes, dpcs_in, dpcs_pass}
use Rattle.model.specs.Lists.{nth, first_of, given, present}
use Rattle.model.specs.Table.{find}
use Rattle.model.specs.State.{State, Object}
use Rattle.model.specs.Waits.{key_of, timers_of}
use Rattle.model.specs.Dpcs.{address_of, dpc_at, phase_at, is_busy, work_of}
use Rattle.model.specs.Valid.{sequence_of}
use Rattle.model.proofs.ListLaws.{not-both}
use Rattle.model.proofs.DpcLaws.{phase-found}
use Rattle.agreement_tables.proofs.Lists.{nth-some, nth_in, find-nth}
use Rattle.agreement_tables.proofs.Lookups.{object-missing}
use Rattle.agreement.specs.Records.{holds, holder_of, active_address}
use Rattle.agreement.specs.Agree.{Agree, objects_from, dpcs_from}
use Rattle.agreement.proofs.Places.{entry_place}
use Rattle.agreement.proofs.Headers.{objects-few, dpcs-few}
use Rattle.agreement.proofs.Lookups.{base-is, dpcs-base-is, dpc-count-is, object-keys, dpc-keys}
use Rattle.agreement_form.specs.Form.{Form}
use Rattle.agreement_form.proofs.Located.{key-rises}
use Rattle.agreement_form.proofs.TimerRecords.{first_word, holder-passes}
use Rattle.agreement_form.proofs.DpcRecord.{dpc-numbers, sequence-given}

module _ (w : List ℕ) (s : State) (a : Agree w s) (v : Form s) where
  abbrev table : List Dpc
  table = s.dpcs.table

  abbrev holder : ℕ → ℕ
  holder = holder_of s.dispatcher.objects

  low : dpcs_from s.limits ≤ 1000000
  low = omega (arith, a.shape.sizes.limits.threads, a.shape.sizes.limits.objects)

  few : length table ≤ 4096
  few = dpcs-few w s holder (active_address table) a

  module _ (i : ℕ) (d : Dpc) (e : nth table i ≡ some d) where
    abbrev place : ℕ
    place = dpcs_from s.limits + 32 * i

    small : i < length table
    small = nth_in table i d e

    entry : entry_at (dpcs_from s.limits) i ≡ place
    entry = entry_place (dpcs_from s.limits) i low (omega (arith, small, few))

    key : key_at w (dpcs_from s.limits) i ≡ d.address
    unfolding key_at
    key = ap (λ (p : ℕ). get_or w p 0) entry ∙ dpc-keys w s holder (active_address table) a i d e

    there : dpc_at table d.address ≡ some d
    there = find-nth address_of table v.queueing.rising i d e

    phase : phase_at table d.address ≡ d.phase
    phase = phase-found table d.address d there

    -- no object has the address
    no-object : find key_of s.dispatcher.objects d.address ≡ none
    no-object = go (find key_of s.dispatcher.objects d.address) refl
      where
        go : (o : Option Object) → find key_of s.dispatcher.objects d.address ≡ o → find key_of s.dispatcher.objects d.address ≡ none
        go none q = q
        go (some x) q = absurd (not-both (sym (ap present there) ∙ v.linked.apart d.address (ap present q)))

    address-once : address_once w (dpcs_from s.limits) i ≡ true
    unfolding address_once
    address-once =
        simp (
          key-rises address_of w (dpcs_from s.limits) table low few v.queueing.rising (dpc-keys w s holder (active_address table) a) i small,
          key,
          object-missing key_of w (objects_from s.limits) s.dispatcher.objects (omega (arith, a.shape.sizes.limits.threads)) (omega arith) (base-is w s holder (active_address table) a)
              (a.numbers at.objects (length s.dispatcher.objects) refl) (objects-few w s holder (active_address table) a) v.sound.rising (object-keys w s holder (active_address table) a) d.address no-object,
        )

    named-rightly : named_rightly w place ≡ true
    unfolding named_rightly
    named-rightly = simp (a.dpcs i d e 3 (holder d.address) refl, first_word w place d.address (a.dpcs i d e 0 d.address refl), go (first_of (holds d.address) (timers_of s.dispatcher.objects)) refl)
      where
        key-of : Option Timer → ℕ
        key-of o = given o 0 (λ (t : Timer). t.address)

        last : (b : Bool) (x : Bool) → x ≡ true → cond b true x ≡ true
        last true x h = refl
        last false x h = h

        go : (o : Option Timer) → first_of (holds d.address) (timers_of s.dispatcher.objects) ≡ o
            → cond (eqb (holder d.address) 0) true (cond (eqb (place_of w 2 (holder d.address)) 0) false (has_dpc w (place_of w 2 (holder d.address)) d.address)) ≡ true
        go none q = ap (λ (o : Option Timer). cond (eqb (key-of o) 0) true (cond (eqb (place_of w 2 (key-of o)) 0) false (has_dpc w (place_of w 2 (key-of o)) d.address))) q
        go (some t) q =
            ap (λ (o : Option Timer). cond (eqb (key-of o) 0) true (cond (eqb (place_of w 2 (key-of o)) 0) false (has_dpc w (place_of w 2 (key-of o)) d.address))) q
            ∙ last (eqb t.address 0) (cond (eqb (place_of w 2 t.address) 0) false (has_dpc w (place_of w 2 t.address) d.address)) (holder-passes w s a v d.address t q)

    dpc-passes : dpc_passes w (dpcs_from s.limits) i ≡ true
    unfolding dpc_passes
    dpc-passes =
        let r = a.dpcs i d e in
        simp (
          entry,
          dpc-numbers w place (holder d.address) d r (v.queueing.places d.address d there),
          address-once,
          sequence-given w place (holder d.address) d r s.dpcs.counters.accepted (a.numbers at.accepted s.dpcs.counters.accepted refl)
              (λ b. subst (λ (p : DpcPhase). 1 ≤ sequence_of (work_of p)) phase (v.numbers.works d.address (ap is_busy phase ∙ b)))
              (subst (λ (p : DpcPhase). sequence_of (work_of p) ≤ s.dpcs.counters.accepted) phase (v.queueing.given_out d.address)),
          named-rightly,
        )

  dpcs-in : (m i : ℕ) → i + m ≤ length table → dpcs_in m w (dpcs_from s.limits) i ≡ true
  unfolding dpcs_in
  dpcs-in zero i h = refl
  dpcs-in (suc m) i h = go (nth-some table i (omega arith)) (dpcs-in m (i + 1) (omega arith))
    where
      go : ((d : Dpc) × (nth table i ≡ some d)) → dpcs_in m w (dpcs_from s.limits) (i + 1) ≡ true → dpcs_in (suc m) w (dpcs_from s.limits) i ≡ true
      go (d, e) ih = simp (dpc-passes i d e, ih)

  pub dpcs-pass : dpcs_pass w ≡ true
  unfolding dpcs_pass
  dpcs-pass =
      ap (λ (m : ℕ). dpcs_in m w (dpcs_base w) 0) (dpc-count-is w s holder (active_address table) a)
      ∙ ap (λ (b : ℕ). dpcs_in (length table) w b 0) (dpcs-base-is w s holder (active_address table) a)
      ∙ dpcs-in (length table) 0 (omega arith)
