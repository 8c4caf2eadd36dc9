-- The objects of the state that words in form tell: rows, rising keys, and what the log asks of an object.
use Prim.Native.Nat.{ℕ, zero, suc, ◌+◌, ◌*◌, ◌≤◌, ◌<◌}
use mathlib.Core.List.{List}
use mathlib.Core.Option.{some}
use mathlib.Core.Path.{◌≡◌, refl, sym, ap, ◌∙◌, subst}
use native.Mathlib.Omega.{arith}
use lib.ListN.{get_or}
use Rattle.words.specs.Layout as at
use Rattle.images.specs.declared.TimerBacking.{TimerBacking}
use Rattle.images.specs.Place.{architecture_number, architecture_of, backing_kind, backing_base, backing_size, backing_mapped, backing_of}
use Rattle.timers.specs.Record.{backing_at, timer_at}
use Rattle.model.specs.Table.{Rising}
use Rattle.model.specs.State.{Object}
use Rattle.model.specs.Waits.{key_of, object_at}
use Rattle.model.specs.Valid.{Each}
use Rattle.model.proofs.TableLaws.{found}
use Rattle.agreement.specs.Row.{Row}
use Rattle.agreement.specs.Records.{timer_row, object_row}
use Rattle.agreement.specs.Shape.{ObjectFits}
use Rattle.agreement.specs.Agree.{Objects, objects_from}
use Rattle.agreement_form.specs.Decoded.{limits_of, object_by, object_of, objects_of}
use Rattle.agreement_form.specs.Words.{Words}
use Rattle.agreement_form.proofs.Each.{flag-number, each-nth, mem-each, rising-each, row_from, ends, says}
use Rattle.agreement_form.proofs.TimerForm.{TimerForm}
use Rattle.agreement_form.proofs.ObjectForm.{ObjectForm, ObjectsForm}

-- ---- numbers that tell a field

pub architecture-number : (n : ℕ) → n ≤ 1 → n ≡ architecture_number (architecture_of n)
unfolding architecture_of
architecture-number zero h = refl
architecture-number (suc zero) h = refl
architecture-number (suc (suc n)) h = absurd (omega arith)

-- the words of a backing
pub record Backed (kind base size mapped : ℕ) (b : TimerBacking) : Type 0 where
  pub of-kind : kind ≡ backing_kind b
  pub of-base : base ≡ backing_base b
  pub of_size : size ≡ backing_size b
  pub of-mapped : mapped ≡ backing_mapped b

pub backed : (kind base size mapped : ℕ) → kind ≤ 1 → (kind ≡ 0 → mapped ≡ 0) → Backed kind base size mapped (backing_of kind base size mapped)
unfolding backing_of
backed zero base size mapped h s = record { of-kind = refl; of-base = refl; of_size = refl; of-mapped = s refl }
backed (suc zero) base size mapped h s = record { of-kind = refl; of-base = refl; of_size = refl; of-mapped = refl }
backed (suc (suc n)) base size mapped h s = absurd (omega arith)

-- ---- rows

module _ (w : List ℕ) (place : ℕ) where
  zeroth : get_or w (place + at.key) 0 ≡ get_or w place 0
  zeroth = ap (λ (p : ℕ). get_or w p 0) (let z : place + 0 ≡ place = omega arith in z)

  timer-row : get_or w (place + at.kind) 0 ≡ 2 → TimerForm w place → get_or w (place + at.owner) 0 ≡ 0 → Row w place (timer_row (timer_at w place))
  unfolding timer_at backing_at
  timer-row k f no-owner =
      let b = backed (get_or w (place + at.timer_backing) 0) (get_or w (place + at.timer_base) 0) (get_or w (place + at.timer_size) 0) (get_or w (place + at.timer_mapped) 0) f.stands.kind f.stands.image in
      row_from w place (timer_row (timer_at w place))
      (says refl (says k
      (says (flag-number (get_or w (place + at.manual) 0) f.manual)
      (says (flag-number (get_or w (place + at.signaled) 0) f.signaled)
      (says no-owner
      (says (flag-number (get_or w (place + at.inserted) 0) f.inserted)
      (says refl (says refl (says refl
      (says (flag-number (get_or w (place + at.absolute) 0) f.absolute)
      (says refl (says refl
      (says (architecture-number (get_or w (place + at.timer_architecture) 0) f.stands.architecture)
      (says b.of-kind (says b.of-base (says b.of_size (says b.of-mapped ends)))))))))))))))))

  object-row : (kind : ℕ) → get_or w (place + at.kind) 0 ≡ kind → ObjectForm w place → Row w place (object_row (object_by w place kind))
  object-row zero k f =
      row_from w place (object_row (object_by w place 0)) (says zeroth (says k (says (f.mutex k).0 (says (f.mutex k).1 (says refl ends)))))
  object-row (suc zero) k f =
      row_from w place (object_row (object_by w place 1))
      (says zeroth (says k (says (flag-number (get_or w (place + at.manual) 0) (f.event k).0) (says (flag-number (get_or w (place + at.signaled) 0) (f.event k).1) (says (f.no-owner (λ q. omega (arith, q, k))) ends)))))
  object-row (suc (suc zero)) k f = timer-row k (f.timer k) (f.no-owner (λ q. omega (arith, q, k)))
  object-row (suc (suc (suc n))) k f = absurd (omega (arith, k, f.kind))

  key_word : (kind : ℕ) → kind ≤ 2 → key_of (object_by w place kind) ≡ get_or w place 0
  unfolding timer_at
  key_word zero h = refl
  key_word (suc zero) h = refl
  key_word (suc (suc zero)) h = zeroth
  key_word (suc (suc (suc n))) h = absurd (omega arith)

  fits : Words w → (kind : ℕ) → kind ≤ 2 → ObjectFits (object_by w place kind)
  unfolding timer_at
  fits words zero h = tt
  fits words (suc zero) h = tt
  fits words (suc (suc zero)) h = (omega (arith, words (place + at.arm)), omega (arith, words (place + at.due)))
  fits words (suc (suc (suc n))) h = absurd (omega arith)

module _ (w : List ℕ) (f : ObjectsForm w) where
  -- the key of the i-th
  pub object-key : (i : ℕ) → i < get_or w at.objects 0 → key_of (object_of w i) ≡ get_or w (objects_from (limits_of w) + 32 * i) 0
  object-key i h =
      let place = objects_from (limits_of w) + 32 * i in
      key_word w place (get_or w (place + at.kind) 0) (f.forms i h).kind

  pub objects-hold : Objects w (objects_from (limits_of w)) (objects_of w)
  objects-hold i x e =
      let h = each-nth (object_of w) (get_or w at.objects 0) 0 i x e in
      let z : 0 + i ≡ i = omega arith in
      let place = objects_from (limits_of w) + 32 * i in
      subst (λ (y : Object). Row w place (object_row y)) (sym (h.1 ∙ ap (object_of w) z))
      (object-row w place (get_or w (place + at.kind) 0) refl (f.forms i h.0))

  pub objects-rise : Rising key_of (objects_of w)
  objects-rise =
      rising-each (object_of w) key_of (get_or w at.objects 0) 0
      (λ i p q. omega (arith, f.rises i (omega arith), object-key i (omega arith), object-key (suc i) (omega arith)))

  -- what is found is one of them
  pub object-found : (k : ℕ) (x : Object) → object_at (objects_of w) k ≡ some x → (i : ℕ) × (i < get_or w at.objects 0) × (x ≡ object_of w i)
  object-found k x e =
      let m = (found key_of (objects_of w) k x e).0 in
      let h = mem-each (object_of w) (get_or w at.objects 0) 0 x m in
      (h.0, omega (arith, h.2), h.3)

  pub objects_fit : Words w → Each key_of (objects_of w) ObjectFits
  objects_fit words k x e =
      let h = object-found k x e in
      let place = objects_from (limits_of w) + 32 * h.0 in
      subst ObjectFits (sym h.2) (fits w place words (get_or w (place + at.kind) 0) (f.forms h.0 h.1).kind)
