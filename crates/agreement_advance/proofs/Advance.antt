-- `advance_to`: the words and the log refuse by the same number, and agree after the expiry, the wake pass and the timeouts.
use Prim.Native.Nat.{ℕ}
use mathlib.Core.List.{List}
use mathlib.Core.Bool.{Bool, true, false, cond}
use mathlib.Core.Path.{◌≡◌, refl, sym, ap, ◌∙◌, subst}
use native.Mathlib.Omega.{arith}
use lib.ListN.{set}
use lib.Dec.{ltb}
use Rattle.words.specs.Layout as at
use Rattle.answers.specs.Outcome as code
use Rattle.answers.specs.Outcome.{unless}
use Rattle.answers.specs.declared.Answer.TheVariants as answer
use Rattle.wakes.specs.Wake.{awake}
use Rattle.expiry_advance.specs.Advance.{expiry_refusal, expiry_words}
use Rattle.advancing.specs.Advance as words
use Rattle.model.specs.State.{State, Dispatcher, Object}
use Rattle.model.specs.Threads.{with_objects}
use Rattle.model.specs.Waits.{wake, time_out}
use Rattle.model.specs.Timers.{due_timers, refusal_of_each}
use Rattle.model.specs.Refusal.{unexpired, advance_refusal}
use Rattle.model.specs.Valid.{Valid, Sound}
use Rattle.model.specs.Call as call
use Rattle.model.specs.Step.{step, refusal, effect, with_dispatcher, with_dpcs, with_table, expired_at, advanced}
use Rattle.model.proofs.ExpiryLaws.{Expiring, due-pending, all-expired}
use Rattle.model.proofs.KeepTimers.{begun}
use Rattle.model.proofs.SoundLaws.{sound-objects}
use Rattle.model.proofs.WakeLaws.{wake-quiet}
use Rattle.agreement.specs.Records.{active_address, holder_of}
use Rattle.agreement.specs.Agree.{Agree}
use Rattle.agreement.specs.Matches.{Plainly}
use Rattle.agreement.proofs.Headers.{with_now, sim-now}
use Rattle.agreement.proofs.Matches.{plainly-unless, plainly-refused}
use Rattle.agreement_wakes.proofs.Holders.{Held, held-wake, agree-held}
use Rattle.agreement_wakes.proofs.Wake.{sim-wake}
use Rattle.agreement_wakes.proofs.Timeouts.{sim-timeouts, timeout-objects}
use Rattle.agreement_advance.proofs.Refusals.{expiry-refusal-is}
use Rattle.agreement_advance.proofs.Expire.{sim-expired}

module _ (w : List ℕ) (s : State) (a : Agree w s) (v : Valid s) (time : ℕ) where
  -- the refusal of the expiry
  abbrev refused : ℕ
  refused = refusal_of_each s.policy time (unexpired s) (due_timers s.policy time s.dispatcher.objects)

  -- ---- the effect

  module _ (r : refused ≡ 0) where
    abbrev objects : List Object
    objects = (expired_at s time).objects

    abbrev midst : State
    midst = with_table (with_dpcs s (expired_at s time).dpcs) (expired_at s time).objects

    abbrev expired : Dispatcher
    expired = with_objects s.dispatcher (expired_at s time).objects

    kept : Expiring s.limits s.dispatcher (expired_at s time)
    kept =
        all-expired s.limits s.dispatcher s.policy time (due_timers s.policy time s.dispatcher.objects) (unexpired s) (begun s v)
        (due-pending s.policy time s.dispatcher.objects v.sound.rising) r

    sound : Sound s.limits expired
    sound = sound-objects s.limits s.dispatcher v.sound objects (λ i n m. kept.keeps n) kept.owners kept.rising kept.room kept.places

    holders : Held objects (time_out time (wake expired)).objects
    holders = subst (Held objects) (sym (timeout-objects time (wake expired))) (held-wake expired kept.rising)

    after : Agree (words.expired_all (awake (set (expiry_words w time) 8 time)) time) (advanced s time)
    unfolding advanced
    after =
        agree-held (words.expired_all (awake (set (expiry_words w time) 8 time)) time) midst (advanced s time)
        (sim-timeouts (awake (set (expiry_words w time) 8 time)) (with_dispatcher (with_now midst time) (wake expired)) (holder_of objects) (active_address (expired_at s time).dpcs.table)
        (sim-wake (set (expiry_words w time) 8 time) (with_now midst time) (holder_of objects) (active_address (expired_at s time).dpcs.table)
        (sim-now (expiry_words w time) midst (holder_of objects) (active_address (expired_at s time).dpcs.table) (sim-expired w s a v time r) time) v.sound.standing)
        (wake-quiet s.limits expired sound).0.sound.standing time)
        holders

  -- ---- the call

  refusal_is : (b : Bool) → ltb time s.now ≡ b → advance_refusal s time ≡ cond b 12 refused
  unfolding advance_refusal
  refusal_is b q = ap (λ (c : Bool). cond c 12 refused) q

  pub agree-advance : Plainly (words.advanced w time) (step (call.AdvanceTo time) s)
  unfolding words.advanced refusal effect
  agree-advance = subst (λ (n : ℕ). Plainly (cond (ltb time n) (code.outcome (answer.Refused 12) w) rest) (step (call.AdvanceTo time) s)) (sym (a.numbers at.now s.now refl)) (go (ltb time s.now) refl)
    where
      rest : code.Outcome
      rest = unless (expiry_refusal w time) w (code.outcome answer.Done (words.expired_all (awake (set (expiry_words w time) 8 time)) time))

      go : (b : Bool) → ltb time s.now ≡ b → Plainly (cond b (code.outcome (answer.Refused 12) w) rest) (step (call.AdvanceTo time) s)
      go true q = plainly-refused w s a (call.AdvanceTo time) 12 (refusal_is true q) (λ e. omega arith)
      go false q =
          plainly-unless w s a (call.AdvanceTo time) (expiry_refusal w time) (code.outcome answer.Done (words.expired_all (awake (set (expiry_words w time) 8 time)) time))
          (expiry-refusal-is w s a v time ∙ sym (refusal_is false q)) (λ e. record { answers = refl; agree = after (sym (refusal_is false q) ∙ e) })
