-- `timer`, `timers`, `timer_initializations`, `pending_timer_dpc`: the words answer what the log answers.
use Prim.Native.Nat.{ℕ, ◌+◌, ◌*◌, ◌≤◌}
use mathlib.Core.List.{List}
use mathlib.Core.Bool.{Bool, true, false, cond, not}
use mathlib.Core.Option.{Option, none, some}
use mathlib.Core.Path.{◌≡◌, refl, sym, ap, ◌∙◌, subst}
use native.Mathlib.Omega.{arith}
use lib.ListN.{get_or, length}
use lib.Dec.{eqb}
use borrow.Author.Tests.{eq-eqb}
use Rattle.words.specs.Layout as at
use Rattle.images.specs.declared.Timer.{Timer}
use Rattle.objects.specs.Objects.{object_count, place_of}
use Rattle.timers.specs.Record as record_of
use Rattle.timers.specs.Record.{is_inserted, first_in}
use Rattle.timers.specs.Reads as words
use Rattle.timers.specs.TimerAnswer as answer
use Rattle.call_answers.specs.Told.{told, told_timer}
use Rattle.model.specs.Lists.{nth, first_of, present, given}
use Rattle.model.specs.State.{State, Object, timer}
use Rattle.model.specs.Waits.{kind_of, timer_at, timers_of}
use Rattle.model.specs.Answer.{Outcome, None, Number, TimerIs, Refused}
use Rattle.model.specs.Call as call
use Rattle.model.specs.Call.{Read}
use Rattle.model.specs.Refusal.{unknown_timer}
use Rattle.model.specs.Reads.{read_refusal, read_answer, pending_timer}
use Rattle.model.specs.Step.{step, refusal, effect}
use Rattle.agreement.specs.Row.{Row}
use Rattle.agreement.specs.Records.{flag, timer_row, object_row}
use Rattle.agreement.specs.Agree.{objects_from, Agreeing}
use Rattle.agreement.proofs.Records.{flag-read, timer-read}
use Rattle.agreement.proofs.Lookups.{base-is, object-count-is, object-row}
use Rattle.agreement.proofs.Headers.{objects-few}
use Rattle.agreement.proofs.Matches.{step-accepted, step-refused}
use Rattle.agreement_timers.proofs.Found.{timer-object, timer-missing, timer-known, timer-place}
use Rattle.agreement_timers.proofs.Walks.{stands-told, timer-here, nth-stands, first-stands}

-- a read that is not refused, and one that is
pub read_is : (r : Read) (s : State) → read_refusal r s ≡ 0 → (step (call.Reads r) s).answer ≡ read_answer r s
unfolding refusal effect
read_is r s e = ap (λ (o : Outcome). o.answer) (step-accepted (call.Reads r) s e)

pub read-refused : (r : Read) (s : State) (n : ℕ) → read_refusal r s ≡ n → (n ≡ 0 → ⊥) → (step (call.Reads r) s).answer ≡ Refused n
unfolding refusal
read-refused r s n e z = ap (λ (o : Outcome). o.answer) (step-refused (call.Reads r) s n e z)

module _ (w : List ℕ) (s : State) (holder : ℕ → ℕ) (active : ℕ) (a : Agreeing w s holder active) where
  abbrev objects : List Object
  objects = s.dispatcher.objects

  abbrev base : ℕ
  base = objects_from s.limits

  low : base ≤ 1000000
  low = omega (arith, a.shape.sizes.limits.threads)

  few : 0 + length objects ≤ 8192
  few = omega (arith, objects-few w s holder active a)

  -- ---- timer

  pub agree-timer : (address : ℕ) → told_timer (words.timer_read w address) ≡ (step (call.Reads (call.TimerAt address)) s).answer
  unfolding words.timer_read read_refusal read_answer unknown_timer
  agree-timer address = go (timer_at objects address) refl
    where
      go : (o : Option Timer) → timer_at objects address ≡ o
          → told_timer (cond (eqb (place_of w 2 address) 0) (answer.Refused 2) (answer.Timer (record_of.timer_at w (place_of w 2 address)))) ≡ (step (call.Reads (call.TimerAt address)) s).answer
      go none e =
          ap (λ (b : Bool). told_timer (cond b (answer.Refused 2) (answer.Timer (record_of.timer_at w (place_of w 2 address))))) (eq-eqb (place_of w 2 address) 0 (timer-missing w s holder active a address e))
          ∙ sym (read-refused (call.TimerAt address) s 2 (ap (λ (o : Option Timer). cond (present o) 0 2) e) (λ z. omega arith))
      go (some t) e =
          let f = timer-object objects address t e in
          ap (λ (b : Bool). told_timer (cond b (answer.Refused 2) (answer.Timer (record_of.timer_at w (place_of w 2 address))))) (timer-known w s holder active a address t f)
          ∙ ap TimerIs (ap (record_of.timer_at w) (timer-place w s holder active a address t f) ∙ timer-read w _ t (object-row w s holder active a address (timer t) f))
          ∙ sym (ap (λ (o : Option Timer). given o None TimerIs) e)
          ∙ sym (read_is (call.TimerAt address) s (ap (λ (o : Option Timer). cond (present o) 0 2) e))

  -- ---- timer_initializations

  pub agree-timer-initializations : told (words.timer_initializations w) ≡ (step (call.Reads call.TimerInitializations) s).answer
  unfolding words.timer_initializations read_refusal read_answer
  agree-timer-initializations = ap Number (a.numbers at.timer_initializations s.timer_initializations refl) ∙ sym (read_is call.TimerInitializations s refl)

  -- ---- timers, by position

  rows : (j : ℕ) (x : Object) → nth objects j ≡ some x → Row w (base + 32 * (0 + j)) (object_row x)
  rows j x e = subst (λ (k : ℕ). Row w (base + 32 * k) (object_row x)) (let z : j ≡ 0 + j = omega arith in z) (a.objects j x e)

  pub agree-timers : (position : ℕ) → told_timer (words.timers_at w position) ≡ (step (call.Reads (call.Timers position)) s).answer
  unfolding words.timers_at words.nth_timer read_refusal read_answer
  agree-timers position =
      ap (λ (b : ℕ). told_timer (words.timer_answer w (words.nth_in (object_count w) w b 0 position))) (base-is w s holder active a)
      ∙ ap (λ (n : ℕ). told_timer (words.timer_answer w (words.nth_in n w base 0 position))) (object-count-is w s holder active a)
      ∙ stands-told w (words.nth_in (length objects) w base 0 position) (nth (timers_of objects) position) (nth-stands w base low (omega arith) objects 0 position few rows)
      ∙ sym (read_is (call.Timers position) s refl)

  -- ---- pending_timer_dpc

  is_pending : Timer → Bool
  is_pending t = cond t.inserted (cond (eqb t.dpc 0) false true) false

  other-objects : (place : ℕ) (y : Object) → Row w place (object_row y) → eqb (kind_of y) 2 ≡ false → words.is_pending w place ≡ false
  unfolding words.is_pending
  other-objects place y r e =
      ap (λ (b : Bool). cond b (cond (is_inserted w place) (not (eqb (get_or w (place + at.timer_dpc) 0) 0)) false) false) (timer-here w base low (omega arith) place y r ∙ e)

  pending-timer : (place : ℕ) (t : Timer) → Row w place (timer_row t) → words.is_pending w place ≡ is_pending t
  unfolding words.is_pending is_inserted is_pending
  pending-timer place t r =
      ap (λ (b : Bool). cond b (cond (is_inserted w place) (not (eqb (get_or w (place + at.timer_dpc) 0) 0)) false) false) (timer-here w base low (omega arith) place (timer t) r)
      ∙ ap (λ (n : ℕ). cond (not (eqb n 0)) (not (eqb (get_or w (place + at.timer_dpc) 0) 0)) false) (r 5 (flag t.inserted) refl)
      ∙ ap (λ (b : Bool). cond b (not (eqb (get_or w (place + at.timer_dpc) 0) 0)) false) (flag-read t.inserted)
      ∙ ap (λ (n : ℕ). cond t.inserted (not (eqb n 0)) false) (r 8 t.dpc refl)
      ∙ ap (λ (b : Bool). cond t.inserted b false) (go (eqb t.dpc 0))
    where
      go : (b : Bool) → not b ≡ cond b false true
      go true = refl
      go false = refl

  pub agree-pending : told_timer (words.pending_read w) ≡ (step (call.Reads call.PendingTimerDpc) s).answer
  unfolding words.pending_read words.pending_timer read_refusal read_answer pending_timer is_pending
  agree-pending =
      ap (λ (b : ℕ). told_timer (words.timer_answer w (first_in (object_count w) (words.is_pending w) b 0))) (base-is w s holder active a)
      ∙ ap (λ (n : ℕ). told_timer (words.timer_answer w (first_in n (words.is_pending w) base 0))) (object-count-is w s holder active a)
      ∙ stands-told w (first_in (length objects) (words.is_pending w) base 0) (first_of is_pending (timers_of objects))
      (first-stands w base low (omega arith) (words.is_pending w) is_pending other-objects pending-timer objects 0 few rows)
      ∙ sym (read_is call.PendingTimerDpc s refl)
