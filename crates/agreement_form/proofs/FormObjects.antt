-- The objects of the state that words in form tell: owners are live, places are good.
use Prim.Native.Nat.{ℕ, zero, suc, ◌+◌, ◌*◌}
use mathlib.Core.List.{List}
use mathlib.Core.Bool.{Bool, cond, true, false, not}
use mathlib.Core.Path.{◌≡◌, refl, sym, ap, ◌∙◌, subst}
use native.Mathlib.Omega.{arith}
use borrow.Author.Tests.{le-leb, ne_eqb, not-true}
use lib.ListN.{get_or, length}
use lib.Dec.{eqb, leb}
use Rattle.words.specs.Layout as at
use Rattle.threads.specs.Thread.{known}
use Rattle.images.specs.Place.{architecture_of, backing_of, location_refusal, timer_size}
use Rattle.timers.specs.Record.{timer_at, backing_at}
use Rattle.form_threads.specs.Thread.{has_state, live}
use Rattle.model.specs.State.{timer}
use Rattle.model.specs.Threads.{is_thread, is_live, has_exited, status_of}
use Rattle.model.specs.Waits.{key_of}
use Rattle.model.specs.Valid.{Each, OwnerLive, Placed}
use Rattle.model.specs.Fits.{TimerFits}
use Rattle.agreement.specs.Agree.{objects_from}
use Rattle.agreement_form.specs.Decoded.{limits_of, thread_by, object_by, objects_of, threads_of, decoded}
use Rattle.agreement_form.proofs.Clauses.{both}
use Rattle.agreement_form.proofs.Each.{length-each}
use Rattle.agreement_form.proofs.Members.{known-form}
use Rattle.agreement_form.proofs.TimerForm.{TimerForm}
use Rattle.agreement_form.proofs.ObjectForm.{ObjectForm}
use Rattle.agreement_form.proofs.ObjectRecords.{exited-number}
use Rattle.agreement_form.proofs.DecodedObjects.{object-found}
use Rattle.agreement_form.proofs.FormStanding.{state-is}
use Rattle.agreement_form.proofs.Parts.{Parts}

module _ (w : List ℕ) (p : Parts w) where
  -- a live thread of the words is one of the log
  live-told : (id : ℕ) → live w id ≡ true → is_live (decoded w).dispatcher id ≡ true
  unfolding live
  live-told id e =
      let a = both (known w id) (not (has_state w id 4)) e in
      let k = known-form w id a.0 in
      let size = length-each (thread_by w) (get_or w at.threads 0) 1 in
      let there : is_thread (decoded w).dispatcher id ≡ true
      = ap (λ (b : Bool). cond b false (leb id (length (threads_of w)))) (ne_eqb id 0 (λ q. omega (arith, q, k.0))) ∙ le-leb id (length (threads_of w)) (omega (arith, size, k.1)) in
      let stays : has_exited (status_of (decoded w).dispatcher id) ≡ false
      = sym (state-is w p id 4 k.0 k.1 ∙ exited-number (status_of (decoded w).dispatcher id)) ∙ not-true (has_state w id 4) a.1 in
      ap (λ (b : Bool). cond b (cond (has_exited (status_of (decoded w).dispatcher id)) false true) false) there
      ∙ ap (λ (b : Bool). cond b false true) stays

  owner-told : (o : ℕ) (b : Bool) → eqb o 0 ≡ b → cond b true (live w o) ≡ true → cond b true (is_live (decoded w).dispatcher o) ≡ true
  owner-told o true q h = refl
  owner-told o false q h = live-told o h

  -- ---- by kind

  owner-by : (place kind : ℕ) → ObjectForm w place → get_or w (place + at.kind) 0 ≡ kind → OwnerLive (decoded w).dispatcher (object_by w place kind)
  owner-by place zero f k = owner-told (get_or w (place + at.owner) 0) (eqb (get_or w (place + at.owner) 0) 0) refl (f.owner k)
  owner-by place (suc zero) f k = tt
  owner-by place (suc (suc zero)) f k = tt
  owner-by place (suc (suc (suc n))) f k = absurd (omega (arith, k, f.kind))

  timer-placed : (place : ℕ) → TimerForm w place → Placed (timer (timer_at w place))
  unfolding timer_at backing_at
  timer-placed place f =
      ap (λ (x : ℕ). location_refusal x (timer_size (architecture_of (get_or w (place + at.timer_architecture) 0))) (architecture_of (get_or w (place + at.timer_architecture) 0))
      (backing_of (get_or w (place + at.timer_backing) 0) (get_or w (place + at.timer_base) 0) (get_or w (place + at.timer_size) 0) (get_or w (place + at.timer_mapped) 0)))
      (ap (λ (j : ℕ). get_or w j 0) (let z : place + 0 ≡ place = omega arith in z))
      ∙ f.stands.free

  placed_by : (place kind : ℕ) → ObjectForm w place → get_or w (place + at.kind) 0 ≡ kind → Placed (object_by w place kind)
  placed_by place zero f k = f.key
  placed_by place (suc zero) f k = f.key
  placed_by place (suc (suc zero)) f k = timer-placed place (f.timer k)
  placed_by place (suc (suc (suc n))) f k = absurd (omega (arith, k, f.kind))

  fits_by : (place kind : ℕ) → ObjectForm w place → get_or w (place + at.kind) 0 ≡ kind → TimerFits (get_or w at.timer_initializations 0) (object_by w place kind)
  unfolding timer_at
  fits_by place zero f k = tt
  fits_by place (suc zero) f k = tt
  fits_by place (suc (suc zero)) f k = ((f.timer k).period, (f.timer k).initialized, (f.timer k).made)
  fits_by place (suc (suc (suc n))) f k = absurd (omega (arith, k, f.kind))

  -- ---- of each

  pub owners-live : Each key_of (objects_of w) (OwnerLive (decoded w).dispatcher)
  owners-live k x e =
      let h = object-found w p.objects k x e in
      let place = objects_from (limits_of w) + 32 * h.0 in
      subst (OwnerLive (decoded w).dispatcher) (sym h.2) (owner-by place (get_or w (place + at.kind) 0) (p.objects.forms h.0 h.1) refl)

  pub objects-placed : Each key_of (objects_of w) Placed
  objects-placed k x e =
      let h = object-found w p.objects k x e in
      let place = objects_from (limits_of w) + 32 * h.0 in
      subst Placed (sym h.2) (placed_by place (get_or w (place + at.kind) 0) (p.objects.forms h.0 h.1) refl)

  pub timers-fit : Each key_of (objects_of w) (TimerFits (get_or w at.timer_initializations 0))
  timers-fit k x e =
      let h = object-found w p.objects k x e in
      let place = objects_from (limits_of w) + 32 * h.0 in
      subst (TimerFits (get_or w at.timer_initializations 0)) (sym h.2) (fits_by place (get_or w (place + at.kind) 0) (p.objects.forms h.0 h.1) refl)
