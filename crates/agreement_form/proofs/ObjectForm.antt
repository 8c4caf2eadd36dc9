-- What the clauses on objects say of words in form.
use Prim.Native.Nat.{ℕ, zero, suc, ◌+◌, ◌*◌, ◌≤◌, ◌<◌}
use mathlib.Core.List.{List}
use mathlib.Core.Bool.{Bool, cond, true, false}
use mathlib.Core.Path.{◌≡◌, sym, ap, ◌∙◌, subst}
use native.Mathlib.Omega.{arith}
use native.Mathlib.Decide.{ℕ_discrete}
use borrow.Author.Tests.{eq-eqb, ne_eqb, eqb-true, eqb-false, leb-true, ltb-false}
use lib.ListN.{get_or}
use lib.Dec.{eqb, leb, ltb}
use Rattle.words.specs.Layout as at
use Rattle.words.specs.Layout.{entry_at}
use Rattle.tables.specs.Table.{key_at}
use Rattle.objects.specs.Objects.{objects_base, object_count}
use Rattle.form_dpc.specs.Place.{key_rises}
use Rattle.form_dpc.specs.Timer.{timer_numbers, serves_it, dpc_serves}
use Rattle.form_threads.specs.Thread.{live}
use Rattle.form.specs.Object.{mutex_passes, event_passes, object_numbers, owner_lives, object_passes, objects_in, objects_pass}
use Rattle.agreement.specs.Agree.{objects_from}
use Rattle.agreement.proofs.Places.{entry_place}
use Rattle.agreement_tables.proofs.Search.{key-is}
use Rattle.agreement_form.specs.Decoded.{limits_of}
use Rattle.agreement_form.proofs.Clauses.{both, not_first, if-so, if-not}
use Rattle.agreement_form.proofs.HeaderForm.{Counted, object-count, objects-base}
use Rattle.agreement_form.proofs.TimerForm.{rises-form, TimerForm, timer-form}

pub record ObjectForm (w : List ℕ) (place : ℕ) : Type 0 where
  pub key : get_or w place 0 ≡ 0 → ⊥
  pub kind : get_or w (place + at.kind) 0 ≤ 2
  pub mutex : get_or w (place + at.kind) 0 ≡ 0 → (get_or w (place + at.manual) 0 ≡ 0) × (get_or w (place + at.signaled) 0 ≡ 0)
  pub event : get_or w (place + at.kind) 0 ≡ 1 → (get_or w (place + at.manual) 0 ≤ 1) × (get_or w (place + at.signaled) 0 ≤ 1)
  pub timer : get_or w (place + at.kind) 0 ≡ 2 → TimerForm w place
  pub owner : get_or w (place + at.kind) 0 ≡ 0 → cond (eqb (get_or w (place + at.owner) 0) 0) true (live w (get_or w (place + at.owner) 0)) ≡ true
  pub no-owner : (get_or w (place + at.kind) 0 ≡ 0 → ⊥) → get_or w (place + at.owner) 0 ≡ 0
  pub serves : get_or w (place + at.kind) 0 ≡ 2 → (get_or w (place + at.inserted) 0 ≡ 0 → ⊥) → (get_or w (place + at.timer_dpc) 0 ≡ 0 → ⊥) → serves_it w (get_or w (place + at.timer_dpc) 0) (get_or w place 0) ≡ true

module _ (w : List ℕ) (place : ℕ) where
  mutex-form : mutex_passes w place ≡ true → (get_or w (place + at.manual) 0 ≡ 0) × (get_or w (place + at.signaled) 0 ≡ 0)
  unfolding mutex_passes
  mutex-form e =
      let a = both (eqb (get_or w (place + at.manual) 0) 0) (eqb (get_or w (place + at.signaled) 0) 0) e in
      (eqb-true (get_or w (place + at.manual) 0) 0 a.0, eqb-true (get_or w (place + at.signaled) 0) 0 a.1)

  event-form : event_passes w place ≡ true → (get_or w (place + at.manual) 0 ≤ 1) × (get_or w (place + at.signaled) 0 ≤ 1)
  unfolding event_passes
  event-form e =
      let a = not_first (ltb 1 (get_or w (place + at.manual) 0)) (leb (get_or w (place + at.signaled) 0) 1) e in
      (ltb-false 1 (get_or w (place + at.manual) 0) a.0, leb-true (get_or w (place + at.signaled) 0) 1 a.1)

  -- the clauses by the kind
  by_kind : (kind : ℕ) → cond (eqb kind 0) (mutex_passes w place) (cond (eqb kind 1) (event_passes w place) (cond (eqb kind 2) (timer_numbers w place) false)) ≡ true
      → (kind ≤ 2) × (kind ≡ 0 → mutex_passes w place ≡ true) × (kind ≡ 1 → event_passes w place ≡ true) × (kind ≡ 2 → timer_numbers w place ≡ true)
  by_kind zero e = (omega arith, (λ q. e), (λ q. absurd (omega arith)), (λ q. absurd (omega arith)))
  by_kind (suc zero) e = (omega arith, (λ q. absurd (omega arith)), (λ q. e), (λ q. absurd (omega arith)))
  by_kind (suc (suc zero)) e = (omega arith, (λ q. absurd (omega arith)), (λ q. absurd (omega arith)), (λ q. e))
  by_kind (suc (suc (suc n))) e =
      let k = suc (suc (suc n)) in
      let timers = cond (eqb k 2) (timer_numbers w place) false in
      let events = cond (eqb k 1) (event_passes w place) timers in
      let a : events ≡ true = ap (λ (t : Bool). cond t (mutex_passes w place) events) (sym (ne_eqb k 0 (λ q. omega arith))) ∙ e in
      let b : timers ≡ true = ap (λ (t : Bool). cond t (event_passes w place) timers) (sym (ne_eqb k 1 (λ q. omega arith))) ∙ a in
      let c = both (eqb k 2) (timer_numbers w place) b in
      absurd (omega (arith, eqb-true k 2 c.0))

  serves-form : dpc_serves w place ≡ true → get_or w (place + at.kind) 0 ≡ 2 → (get_or w (place + at.inserted) 0 ≡ 0 → ⊥) → (get_or w (place + at.timer_dpc) 0 ≡ 0 → ⊥) → serves_it w (get_or w (place + at.timer_dpc) 0) (get_or w place 0) ≡ true
  unfolding dpc_serves
  serves-form e k i d =
      let s = serves_it w (get_or w (place + at.timer_dpc) 0) (get_or w place 0) in
      let a = if-so (eqb (get_or w (place + at.kind) 0) 2) (cond (eqb (get_or w (place + at.inserted) 0) 0) true (cond (eqb (get_or w (place + at.timer_dpc) 0) 0) true s)) e (eq-eqb (get_or w (place + at.kind) 0) 2 k) in
      let b = if-not (eqb (get_or w (place + at.inserted) 0) 0) (cond (eqb (get_or w (place + at.timer_dpc) 0) 0) true s) a (ne_eqb (get_or w (place + at.inserted) 0) 0 i) in
      if-not (eqb (get_or w (place + at.timer_dpc) 0) 0) s b (ne_eqb (get_or w (place + at.timer_dpc) 0) 0 d)

module _ (w : List ℕ) (base i : ℕ) (low : base ≤ 1000000) (few : i < 4096) where
  entry : entry_at base i ≡ base + 32 * i
  entry = entry_place base i low (omega arith)

  numbers-form : object_numbers w base i ≡ true
      → (get_or w (base + 32 * i) 0 ≡ 0 → ⊥) × (cond (eqb (get_or w (base + 32 * i + at.kind) 0) 0) (mutex_passes w (base + 32 * i)) (cond (eqb (get_or w (base + 32 * i + at.kind) 0) 1) (event_passes w (base + 32 * i)) (cond (eqb (get_or w (base + 32 * i + at.kind) 0) 2) (timer_numbers w (base + 32 * i)) false)) ≡ true)
  unfolding object_numbers
  numbers-form e =
      let rest : ℕ → Bool = λ p. cond (eqb (get_or w (p + at.kind) 0) 0) (mutex_passes w p) (cond (eqb (get_or w (p + at.kind) 0) 1) (event_passes w p) (cond (eqb (get_or w (p + at.kind) 0) 2) (timer_numbers w p) false)) in
      let a = not_first (eqb (key_at w base i) 0) (rest (entry_at base i)) e in
      ((λ q. eqb-false (key_at w base i) 0 a.0 (key-is w base i low (omega arith) ∙ q)), ap rest (sym entry) ∙ a.1)

  owner-form : owner_lives w base i ≡ true
      → (get_or w (base + 32 * i + at.kind) 0 ≡ 0 → cond (eqb (get_or w (base + 32 * i + at.owner) 0) 0) true (live w (get_or w (base + 32 * i + at.owner) 0)) ≡ true) × ((get_or w (base + 32 * i + at.kind) 0 ≡ 0 → ⊥) → get_or w (base + 32 * i + at.owner) 0 ≡ 0)
  unfolding owner_lives
  owner-form e =
      let owner = get_or w (base + 32 * i + at.owner) 0 in
      let kind = get_or w (base + 32 * i + at.kind) 0 in
      let a : cond (eqb kind 0) (cond (eqb owner 0) true (live w owner)) (eqb owner 0) ≡ true = ap (λ (p : ℕ). cond (eqb (get_or w (p + at.kind) 0) 0) (cond (eqb (get_or w (p + at.owner) 0) 0) true (live w (get_or w (p + at.owner) 0))) (eqb (get_or w (p + at.owner) 0) 0)) (sym entry) ∙ e in (
        (λ k. ap (λ (b : Bool). cond b (cond (eqb owner 0) true (live w owner)) (eqb owner 0)) (sym (eq-eqb kind 0 k)) ∙ a),
        (λ k. eqb-true owner 0 (ap (λ (b : Bool). cond b (cond (eqb owner 0) true (live w owner)) (eqb owner 0)) (sym (ne_eqb kind 0 k)) ∙ a)),
      )

  object-form : object_passes w base i ≡ true → (ObjectForm w (base + 32 * i)) × (key_rises w base i ≡ true)
  unfolding object_passes
  object-form e =
      let a = both (object_numbers w base i) (cond (key_rises w base i) (cond (owner_lives w base i) (dpc_serves w (entry_at base i)) false) false) e in
      let b = both (key_rises w base i) (cond (owner_lives w base i) (dpc_serves w (entry_at base i)) false) a.1 in
      let c = both (owner_lives w base i) (dpc_serves w (entry_at base i)) b.1 in
      let n = numbers-form a.0 in
      let k = by_kind w (base + 32 * i) (get_or w (base + 32 * i + at.kind) 0) n.1 in (
        record {
          key = n.0;
          kind = k.0;
          mutex = λ q. mutex-form w (base + 32 * i) (k.1 q);
          event = λ q. event-form w (base + 32 * i) (k.2 q);
          timer = λ q. timer-form w (base + 32 * i) (k.3 q);
          owner = (owner-form c.0).0;
          no-owner = (owner-form c.0).1;
          serves = serves-form w (base + 32 * i) (ap (dpc_serves w) (sym entry) ∙ c.1);
        },
        b.0,
      )

-- ---- all of them

objects-in : (w : List ℕ) (base m i : ℕ) → objects_in m w base i ≡ true → (y : ℕ) → i ≤ y → y < i + m → object_passes w base y ≡ true
unfolding objects_in
objects-in w base zero i e y p q = absurd (omega arith)
objects-in w base (suc m) i e y p q =
    let h = both (object_passes w base i) (objects_in m w base (i + 1)) e in
    go (ℕ_discrete i y) h.0 (λ r. objects-in w base m (i + 1) h.1 y (omega arith) (omega arith))
  where
    go : Dec (i ≡ y) → object_passes w base i ≡ true → ((i ≡ y → ⊥) → object_passes w base y ≡ true) → object_passes w base y ≡ true
    go (yes r) h ih = subst (λ (j : ℕ). object_passes w base j ≡ true) r h
    go (no r) h ih = ih r

pub record ObjectsForm (w : List ℕ) : Type 0 where
  pub forms : (i : ℕ) → i < get_or w at.objects 0 → ObjectForm w (objects_from (limits_of w) + 32 * i)
  pub rises : (i : ℕ) → suc i < get_or w at.objects 0 → get_or w (objects_from (limits_of w) + 32 * i) 0 < get_or w (objects_from (limits_of w) + 32 * suc i) 0

pub objects-form : (w : List ℕ) → Counted w → objects_pass w ≡ true → ObjectsForm w
unfolding objects_pass
objects-form w c e =
    record {
      forms = λ i h. (of i h).0;
      rises = λ i h. rises-form w (objects_from (limits_of w)) i low (omega (arith, few)) (of (suc i) h).1;
    }
  where
    low : objects_from (limits_of w) ≤ 1000000
    low = omega (arith, c.limits.threads)

    few : get_or w at.objects 0 ≤ 4096
    few = omega (arith, c.objects_fit, c.limits.objects)

    of : (i : ℕ) → i < get_or w at.objects 0 → (ObjectForm w (objects_from (limits_of w) + 32 * i)) × (key_rises w (objects_from (limits_of w)) i ≡ true)
    of i h =
        object-form w (objects_from (limits_of w)) i low (omega (arith, few))
        (subst (λ (b : ℕ). object_passes w b i ≡ true) (objects-base w c) (objects-in w (objects_base w) (object_count w) 0 e i (omega arith) (omega (arith, object-count w c))))
