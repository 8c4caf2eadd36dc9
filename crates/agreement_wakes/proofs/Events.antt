-- Setting and resetting an event: the call on the words and on the log.
use Prim.Native.Nat.{ℕ, ◌+◌}
use mathlib.Core.List.{List}
use mathlib.Core.Bool.{Bool, true, false, cond, not}
use mathlib.Core.Option.{Option, none, some}
use mathlib.Core.Path.{◌≡◌, refl, sym, ap, ◌∙◌, subst}
use native.Mathlib.Omega.{arith}
use lib.ListN.{get_or, set}
use lib.Dec.{eqb}
use Rattle.words.specs.Layout as at
use Rattle.objects.specs.Objects.{place_of}
use Rattle.wakes.specs.Wake.{awake}
use Rattle.answers.specs.Outcome as code
use Rattle.answers.specs.Outcome.{outcome}
use Rattle.answers.specs.declared.Answer.TheVariants as answer
use Rattle.events.specs.Events.{signaled_at, was_set, was_reset}
use Rattle.model.specs.Lists.{given, present}
use Rattle.model.specs.State.{State, Event, Object, event}
use Rattle.model.specs.Threads.{with_objects}
use Rattle.model.specs.Waits.{key_of, object_at, event_at, put_object, signaled_as, wake}
use Rattle.model.specs.Valid.{Valid}
use Rattle.model.specs.Refusal.{signal_refusal}
use Rattle.model.specs.Answer.{gives, Done, Flag}
use Rattle.model.specs.Call as call
use Rattle.model.specs.Step.{step, refusal, effect, with_table, with_dispatcher, event_set, event_reset}
use Rattle.model.proofs.TableLaws.{found}
use Rattle.model.proofs.ObjectLaws.{event-found, event-absent}
use Rattle.agreement.specs.Records.{flag, holder_of, active_address}
use Rattle.agreement.specs.Agree.{Agreeing, Agree}
use Rattle.agreement.specs.Matches.{Plainly}
use Rattle.agreement.proofs.Records.{flag-read}
use Rattle.agreement.proofs.Lookups.{object-place, object-row}
use Rattle.agreement.proofs.Objects.{sim-signal}
use Rattle.agreement.proofs.Matches.{plainly-refused, plainly-accepted}
use Rattle.agreement_wakes.proofs.Tests.{place_none, place-there}
use Rattle.agreement_wakes.proofs.Holders.{Held, agree-held}
use Rattle.agreement_wakes.proofs.Awake.{held-put, agree-awake}

module _ (w : List ℕ) (s : State) (a : Agree w s) (key : ℕ) where
  abbrev l : List Object
  l = s.dispatcher.objects

  abbrev held : ℕ → ℕ
  held = holder_of s.dispatcher.objects

  abbrev active : ℕ
  active = active_address s.dpcs.table

  -- ---- no event has the key

  absent : event_at s.dispatcher.objects key ≡ none → place_of w 1 key ≡ 0
  absent n = place_none w s held active a (record { kind = 1; key = key }) (event-absent (object_at l key) n)

  -- ---- an event has it

  module _ (v : Event) (e : object_at s.dispatcher.objects key ≡ some (event v)) where
    key-is : v.key ≡ key
    key-is = (found key_of l key (event v) e).1

    own : object_at s.dispatcher.objects v.key ≡ some (event v)
    own = ap (object_at l) key-is ∙ e

    there : eqb (place_of w 1 key) 0 ≡ false
    there = ap (λ (p : ℕ). eqb p 0) (object-place w s held active a key (event v) e) ∙ place-there w s held active a key

    was : signaled_at w (place_of w 1 key) ≡ v.signaled
    unfolding signaled_at
    was =
        ap (λ (p : ℕ). not (eqb (get_or w (p + at.signaled) 0) 0)) (object-place w s held active a key (event v) e)
        ∙ ap (λ (n : ℕ). not (eqb n 0)) (object-row w s held active a key (event v) e 3 (flag v.signaled) refl) ∙ flag-read v.signaled

    signaled : (b : Bool) → Agreeing (set w (place_of w 1 key + at.signaled) (flag b)) (with_table s (put_object (signaled_as b v) s.dispatcher.objects)) held active
    signaled b = subst (λ (k : ℕ). Agreeing (set w (place_of w 1 k + at.signaled) (flag b)) (with_table s (put_object (signaled_as b v) l)) held active) key-is (sim-signal w s held active a v b own)

    kept : (b : Bool) → Held s.dispatcher.objects (put_object (signaled_as b v) s.dispatcher.objects)
    kept b = held-put (signaled_as b v) (event v) (λ c k. refl) l a.shape.rising own

  -- ---- set and reset

  set_agrees : Valid s → Plainly (was_set w key) (step (call.SetEvent key) s)
  unfolding was_set refusal signal_refusal effect event_set
  set_agrees valid = go (event_at l key) refl
    where
      Set : code.Outcome → Type 0
      Set o = Plainly o (step (call.SetEvent key) s)

      go : (o : Option Event) → event_at s.dispatcher.objects key ≡ o → Plainly (was_set w key) (step (call.SetEvent key) s)
      go none n =
          subst (λ (p : ℕ). Set (cond (eqb p 0) (outcome (answer.Refused 2) w) (outcome (answer.Flag (signaled_at w p)) (awake (set w (p + at.signaled) 1))))) (sym (absent n))
          (plainly-refused w s a (call.SetEvent key) 2 (ap (λ (x : Option Event). cond (present x) 0 2) n) (λ z. omega arith))
      go (some v) n =
          let e = event-found (object_at l key) v n in
          subst (λ (b : Bool). Set (cond b (outcome (answer.Refused 2) w) (outcome (answer.Flag (signaled_at w (place_of w 1 key))) (awake (set w (place_of w 1 key + at.signaled) 1))))) (sym (there v e))
          (subst (λ (b : Bool). Set (outcome (answer.Flag b) (awake (set w (place_of w 1 key + at.signaled) 1)))) (sym (was v e))
          (plainly-accepted s (call.SetEvent key) (outcome (answer.Flag v.signaled) (awake (set w (place_of w 1 key + at.signaled) 1))) (ap (λ (x : Option Event). cond (present x) 0 2) n)
          (subst (λ (x : Option Event). Plainly (outcome (answer.Flag v.signaled) (awake (set w (place_of w 1 key + at.signaled) 1)))
          (given x (gives Done s) (λ (z : Event). gives (Flag z.signaled) (with_dispatcher s (wake (with_objects s.dispatcher (put_object (signaled_as true z) l))))))) (sym n)
          (record {
            answers = refl;
            agree = agree-awake (set w (place_of w 1 key + at.signaled) 1) s (with_objects s.dispatcher (put_object (signaled_as true v) l)) (signaled v e true) (kept v e true) valid.sound.standing;
          }))))

  reset-agrees : Plainly (was_reset w key) (step (call.ResetEvent key) s)
  unfolding was_reset refusal signal_refusal effect event_reset
  reset-agrees = go (event_at l key) refl
    where
      Reset : code.Outcome → Type 0
      Reset o = Plainly o (step (call.ResetEvent key) s)

      go : (o : Option Event) → event_at s.dispatcher.objects key ≡ o → Plainly (was_reset w key) (step (call.ResetEvent key) s)
      go none n =
          subst (λ (p : ℕ). Reset (cond (eqb p 0) (outcome (answer.Refused 2) w) (outcome (answer.Flag (signaled_at w p)) (set w (p + at.signaled) 0)))) (sym (absent n))
          (plainly-refused w s a (call.ResetEvent key) 2 (ap (λ (x : Option Event). cond (present x) 0 2) n) (λ z. omega arith))
      go (some v) n =
          let e = event-found (object_at l key) v n in
          subst (λ (b : Bool). Reset (cond b (outcome (answer.Refused 2) w) (outcome (answer.Flag (signaled_at w (place_of w 1 key))) (set w (place_of w 1 key + at.signaled) 0)))) (sym (there v e))
          (subst (λ (b : Bool). Reset (outcome (answer.Flag b) (set w (place_of w 1 key + at.signaled) 0))) (sym (was v e))
          (plainly-accepted s (call.ResetEvent key) (outcome (answer.Flag v.signaled) (set w (place_of w 1 key + at.signaled) 0)) (ap (λ (x : Option Event). cond (present x) 0 2) n)
          (subst (λ (x : Option Event). Plainly (outcome (answer.Flag v.signaled) (set w (place_of w 1 key + at.signaled) 0))
          (given x (gives Done s) (λ (z : Event). gives (Flag z.signaled) (with_table s (put_object (signaled_as false z) l))))) (sym n)
          (record { answers = refl; agree = agree-held (set w (place_of w 1 key + at.signaled) 0) s (with_table s (put_object (signaled_as false v) l)) (signaled v e false) (kept v e false) }))))

-- ---- the calls

pub agree-set-event : (w : List ℕ) (s : State) → Agree w s → Valid s → (key : ℕ) → Plainly (was_set w key) (step (call.SetEvent key) s)
agree-set-event w s a v key = set_agrees w s a key v

pub agree-reset-event : (w : List ℕ) (s : State) → Agree w s → (key : ℕ) → Plainly (was_reset w key) (step (call.ResetEvent key) s)
agree-reset-event w s a key = reset-agrees w s a key
