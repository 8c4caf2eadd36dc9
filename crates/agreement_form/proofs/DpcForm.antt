-- What the clauses on DPCs say of words in form.
use Prim.Native.Nat.{ℕ, zero, suc, ◌+◌, ◌*◌, ◌≤◌, ◌<◌}
use mathlib.Core.List.{List}
use mathlib.Core.Bool.{Bool, cond, true, false}
use mathlib.Core.Path.{◌≡◌, sym, ap, ◌∙◌, subst}
use native.Mathlib.Omega.{arith}
use native.Mathlib.Decide.{ℕ_discrete}
use borrow.Author.Tests.{eq-eqb, ne_eqb, eqb-true, eqb-false, leb-true, ltb-false}
use lib.ListN.{get_or}
use lib.Dec.{eqb, leb, ltb}
use Rattle.words.specs.Layout as at
use Rattle.words.specs.Layout.{entry_at}
use Rattle.tables.specs.Table.{key_at}
use Rattle.images.specs.Place.{architecture_of, dpc_size}
use Rattle.objects.specs.Objects.{dpcs_base, object_found, place_of}
use Rattle.dpcs.specs.Record.{dpc_count}
use Rattle.form_dpc.specs.Place.{key_rises}
use Rattle.form_dpc.specs.Timer.{has_dpc}
use Rattle.form_dpc.specs.Dpc.{dpc_placed, names_no_timer, origin_passes, work_passes, dpc_numbers, address_once, sequence_given, named_rightly, dpc_passes, dpcs_in, dpcs_pass}
use Rattle.agreement.specs.Agree.{dpcs_from}
use Rattle.agreement.proofs.Places.{entry_place}
use Rattle.agreement_tables.proofs.Search.{key-is}
use Rattle.agreement_form.specs.Decoded.{limits_of}
use Rattle.agreement_form.proofs.Clauses.{both, not_first, if-so, if-not}
use Rattle.agreement_form.proofs.HeaderForm.{Counted, dpc-count, dpcs-base, low}
use Rattle.agreement_form.proofs.TimerForm.{PlacedAt, located-form, rises-form}

-- words 15 to 20 of a record
abbrev pub NoTimer : List ℕ → ℕ → Type 0
NoTimer w place = (get_or w (place + at.origin_timer) 0 ≡ 0) × (get_or w (place + at.origin_arm) 0 ≡ 0) × (get_or w (place + at.origin_initialization) 0 ≡ 0) × (get_or w (place + at.origin_deadline) 0 ≡ 0) × (get_or w (place + at.origin_observed) 0 ≡ 0) × (get_or w (place + at.origin_periodic) 0 ≡ 0)

pub record DpcForm (w : List ℕ) (place : ℕ) : Type 0 where
  pub phase : get_or w (place + at.phase) 0 ≤ 3
  pub stands : PlacedAt w place 4 (dpc_size (architecture_of (get_or w (place + at.dpc_architecture) 0)))
  pub flags : (get_or w (place + at.phase) 0 ≡ 0 → ⊥) → (get_or w (place + at.origin) 0 ≤ 1) × (get_or w (place + at.origin_periodic) 0 ≤ 1)
  pub caller : (get_or w (place + at.phase) 0 ≡ 0 → ⊥) → get_or w (place + at.origin) 0 ≡ 0 → NoTimer w place
  pub no-object : object_found w (get_or w place 0) ≡ 0
  pub given : (get_or w (place + at.phase) 0 ≡ 0 → ⊥) → (1 ≤ get_or w (place + at.work_sequence) 0) × (get_or w (place + at.work_sequence) 0 ≤ get_or w at.accepted 0)
  pub named : (get_or w (place + at.named_by) 0 ≡ 0 → ⊥) → (place_of w 2 (get_or w (place + at.named_by) 0) ≡ 0 → ⊥) × (has_dpc w (place_of w 2 (get_or w (place + at.named_by) 0)) (get_or w place 0) ≡ true)

module _ (w : List ℕ) (place : ℕ) where
  no-timer-form : names_no_timer w place ≡ true → NoTimer w place
  unfolding names_no_timer
  no-timer-form e =
      let t : ℕ → Bool = λ k. eqb (get_or w (place + k) 0) 0 in
      let a = both (t 15) (cond (t 16) (cond (t 17) (cond (t 18) (cond (t 19) (t 20) false) false) false) false) e in
      let b = both (t 16) (cond (t 17) (cond (t 18) (cond (t 19) (t 20) false) false) false) a.1 in
      let c = both (t 17) (cond (t 18) (cond (t 19) (t 20) false) false) b.1 in
      let d = both (t 18) (cond (t 19) (t 20) false) c.1 in
      let f = both (t 19) (t 20) d.1 in (
        eqb-true (get_or w (place + at.origin_timer) 0) 0 a.0,
        eqb-true (get_or w (place + at.origin_arm) 0) 0 b.0,
        eqb-true (get_or w (place + at.origin_initialization) 0) 0 c.0,
        eqb-true (get_or w (place + at.origin_deadline) 0) 0 d.0,
        eqb-true (get_or w (place + at.origin_observed) 0) 0 f.0,
        eqb-true (get_or w (place + at.origin_periodic) 0) 0 f.1,
      )

  origin-form : origin_passes w place ≡ true → get_or w (place + at.origin) 0 ≡ 0 → NoTimer w place
  unfolding origin_passes
  origin-form e q = no-timer-form (if-so (eqb (get_or w (place + at.origin) 0) 0) (names_no_timer w place) e (eq-eqb (get_or w (place + at.origin) 0) 0 q))

  work-form : work_passes w place ≡ true → (get_or w (place + at.phase) 0 ≡ 0 → ⊥) → (get_or w (place + at.origin) 0 ≤ 1) × (get_or w (place + at.origin_periodic) 0 ≤ 1) × (origin_passes w place ≡ true)
  unfolding work_passes
  work-form e h =
      let x = get_or w (place + at.origin) 0 in
      let y = get_or w (place + at.origin_periodic) 0 in
      let a = if-not (eqb (get_or w (place + at.phase) 0) 0) (cond (ltb 1 x) false (cond (origin_passes w place) (leb y 1) false)) e (ne_eqb (get_or w (place + at.phase) 0) 0 h) in
      let b = not_first (ltb 1 x) (cond (origin_passes w place) (leb y 1) false) a in
      let c = both (origin_passes w place) (leb y 1) b.1 in
      (ltb-false 1 x b.0, leb-true y 1 c.1, c.0)

  given-form : sequence_given w place ≡ true → (get_or w (place + at.phase) 0 ≡ 0 → ⊥) → (1 ≤ get_or w (place + at.work_sequence) 0) × (get_or w (place + at.work_sequence) 0 ≤ get_or w at.accepted 0)
  unfolding sequence_given
  given-form e h =
      let x = get_or w (place + at.work_sequence) 0 in
      let a = if-not (eqb (get_or w (place + at.phase) 0) 0) (cond (eqb x 0) false (leb x (get_or w at.accepted 0))) e (ne_eqb (get_or w (place + at.phase) 0) 0 h) in
      let b = not_first (eqb x 0) (leb x (get_or w at.accepted 0)) a in
      let there = eqb-false x 0 b.0 in
      (omega (arith, there), leb-true x (get_or w at.accepted 0) b.1)

  named-form : named_rightly w place ≡ true → (get_or w (place + at.named_by) 0 ≡ 0 → ⊥) → (place_of w 2 (get_or w (place + at.named_by) 0) ≡ 0 → ⊥) × (has_dpc w (place_of w 2 (get_or w (place + at.named_by) 0)) (get_or w place 0) ≡ true)
  unfolding named_rightly
  named-form e h =
      let p = place_of w 2 (get_or w (place + at.named_by) 0) in
      let a = if-not (eqb (get_or w (place + at.named_by) 0) 0) (cond (eqb p 0) false (has_dpc w p (get_or w place 0))) e (ne_eqb (get_or w (place + at.named_by) 0) 0 h) in
      let b = not_first (eqb p 0) (has_dpc w p (get_or w place 0)) a in
      (eqb-false p 0 b.0, b.1)

module _ (w : List ℕ) (base i : ℕ) (low : base ≤ 1000000) (few : i < 4096) where
  entry : entry_at base i ≡ base + 32 * i
  entry = entry_place base i low (omega arith)

  once-form : address_once w base i ≡ true → (key_rises w base i ≡ true) × (object_found w (get_or w (base + 32 * i) 0) ≡ 0)
  unfolding address_once
  once-form e =
      let a = both (key_rises w base i) (eqb (object_found w (key_at w base i)) 0) e in
      (a.0, ap (object_found w) (sym (key-is w base i low (omega arith))) ∙ eqb-true (object_found w (key_at w base i)) 0 a.1)

  dpc-form : dpc_passes w base i ≡ true → (DpcForm w (base + 32 * i)) × (key_rises w base i ≡ true)
  unfolding dpc_passes dpc_numbers dpc_placed
  dpc-form e =
      let p = entry_at base i in
      let a = both (dpc_numbers w p) (cond (address_once w base i) (cond (sequence_given w p) (named_rightly w p) false) false) e in
      let b = both (address_once w base i) (cond (sequence_given w p) (named_rightly w p) false) a.1 in
      let c = both (sequence_given w p) (named_rightly w p) b.1 in
      let numbers : dpc_numbers w (base + 32 * i) ≡ true = ap (dpc_numbers w) (sym entry) ∙ a.0 in
      let d = not_first (ltb 3 (get_or w (base + 32 * i + at.phase) 0)) (cond (dpc_placed w (base + 32 * i)) (work_passes w (base + 32 * i)) false) numbers in
      let f = both (dpc_placed w (base + 32 * i)) (work_passes w (base + 32 * i)) d.1 in
      let o = once-form b.0 in (
        record {
          phase = ltb-false 3 (get_or w (base + 32 * i + at.phase) 0) d.0;
          stands = located-form w (base + 32 * i) 4 (dpc_size (architecture_of (get_or w (base + 32 * i + at.dpc_architecture) 0))) f.0;
          flags = λ busy. let h = work-form w (base + 32 * i) f.1 busy in (h.0, h.1);
          caller = λ busy. origin-form w (base + 32 * i) (work-form w (base + 32 * i) f.1 busy).2;
          no-object = o.1;
          given = given-form w (base + 32 * i) (ap (sequence_given w) (sym entry) ∙ c.0);
          named = named-form w (base + 32 * i) (ap (named_rightly w) (sym entry) ∙ c.1);
        },
        o.0,
      )

-- ---- all of them

dpcs-in : (w : List ℕ) (base m i : ℕ) → dpcs_in m w base i ≡ true → (y : ℕ) → i ≤ y → y < i + m → dpc_passes w base y ≡ true
unfolding dpcs_in
dpcs-in w base zero i e y p q = absurd (omega arith)
dpcs-in w base (suc m) i e y p q =
    let h = both (dpc_passes w base i) (dpcs_in m w base (i + 1)) e in
    go (ℕ_discrete i y) h.0 (λ r. dpcs-in w base m (i + 1) h.1 y (omega arith) (omega arith))
  where
    go : Dec (i ≡ y) → dpc_passes w base i ≡ true → ((i ≡ y → ⊥) → dpc_passes w base y ≡ true) → dpc_passes w base y ≡ true
    go (yes r) h ih = subst (λ (j : ℕ). dpc_passes w base j ≡ true) r h
    go (no r) h ih = ih r

pub record DpcsForm (w : List ℕ) : Type 0 where
  pub forms : (i : ℕ) → i < get_or w at.dpcs 0 → DpcForm w (dpcs_from (limits_of w) + 32 * i)
  pub rises : (i : ℕ) → suc i < get_or w at.dpcs 0 → get_or w (dpcs_from (limits_of w) + 32 * i) 0 < get_or w (dpcs_from (limits_of w) + 32 * suc i) 0

pub dpcs-form : (w : List ℕ) → Counted w → dpcs_pass w ≡ true → DpcsForm w
unfolding dpcs_pass
dpcs-form w c e =
    record {
      forms = λ i h. (of i h).0;
      rises = λ i h. rises-form w (dpcs_from (limits_of w)) i (low w c) (omega (arith, few)) (of (suc i) h).1;
    }
  where
    few : get_or w at.dpcs 0 ≤ 4096
    few = omega (arith, c.dpcs_fit, c.limits.dpcs)

    of : (i : ℕ) → i < get_or w at.dpcs 0 → (DpcForm w (dpcs_from (limits_of w) + 32 * i)) × (key_rises w (dpcs_from (limits_of w)) i ≡ true)
    of i h =
        dpc-form w (dpcs_from (limits_of w)) i (low w c) (omega (arith, few))
        (subst (λ (b : ℕ). dpc_passes w b i ≡ true) (dpcs-base w c) (dpcs-in w (dpcs_base w) (dpc_count w) 0 e i (omega arith) (omega (arith, dpc-count w c))))
