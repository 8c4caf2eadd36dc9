-- `cancel_timer`: the same answer, and words that agree after it.
use Prim.Native.Nat.{ℕ, ◌+◌}
use mathlib.Core.List.{List}
use mathlib.Core.Bool.{Bool, cond}
use mathlib.Core.Option.{Option, none, some}
use mathlib.Core.Path.{◌≡◌, refl, sym, ap, subst}
use native.Mathlib.Omega.{arith}
use lib.ListN.{get_or}
use lib.Dec.{eqb}
use borrow.Author.Tests.{eq-eqb}
use Rattle.words.specs.Layout as at
use Rattle.images.specs.declared.Timer.{Timer}
use Rattle.objects.specs.Objects.{place_of}
use Rattle.dpcs.specs.Record.{number_of}
use Rattle.dpc_queue.specs.Queue as queue
use Rattle.answers.specs.declared.Answer.TheVariants as answer
use Rattle.answers.specs.Outcome as code
use Rattle.timers.specs.Record.{is_inserted}
use Rattle.arming.specs.Arm as words
use Rattle.model.specs.Lists.{present, given}
use Rattle.model.specs.State.{State, timer}
use Rattle.model.specs.Waits.{timer_at, put_object}
use Rattle.model.specs.Timers.{cancelled}
use Rattle.model.specs.Answer.{Outcome, gives, Done, Flag}
use Rattle.model.specs.Call as call
use Rattle.model.specs.Refusal.{unknown_timer}
use Rattle.model.specs.Step.{with_table, with_dpcs, cancels_work, timer_cancelled, refusal, effect, step}
use Rattle.model.specs.Valid.{Valid}
use Rattle.agreement.specs.Records.{holder_of, active_address}
use Rattle.agreement.specs.Agree.{Agree}
use Rattle.agreement.specs.Matches.{Plainly}
use Rattle.agreement.proofs.Matches.{plainly-refused, plainly-accepted}
use Rattle.agreement_timers.proofs.Found.{timer-object, timer-missing, timer-known, timer-place, timer_word, inserted-is}
use Rattle.agreement_timers.proofs.Own.{own-queued}
use Rattle.agreement_timers.proofs.Disarms.{dpcs_after, agree-disarmed}

-- the refusal, by whether there is such a timer
cancel-refusal : (s : State) (address : ℕ) (o : Option Timer) → timer_at s.dispatcher.objects address ≡ o → refusal (call.CancelTimer address) s ≡ cond (present o) 0 2
unfolding refusal unknown_timer
cancel-refusal s address o e = ap (λ (x : Option Timer). cond (present x) 0 2) e

cancel-effect : (s : State) (address : ℕ) (t : Timer) → timer_at s.dispatcher.objects address ≡ some t
    → effect (call.CancelTimer address) s ≡ gives (Flag t.inserted) (with_table (with_dpcs s (dpcs_after s t (cancels_work s t))) (put_object (timer (cancelled t)) s.dispatcher.objects))
unfolding effect timer_cancelled
cancel-effect s address t e =
    ap (λ (o : Option Timer). given o (gives Done s)
    (λ (u : Timer). gives (Flag u.inserted) (with_table (with_dpcs s (dpcs_after s u (cancels_work s u))) (put_object (timer (cancelled u)) s.dispatcher.objects)))) e

module _ (w : List ℕ) (s : State) (a : Agree w s) (v : Valid s) (address : ℕ) where
  abbrev holder : ℕ → ℕ
  holder = holder_of s.dispatcher.objects

  abbrev active : ℕ
  active = active_address s.dpcs.table

  abbrev place : ℕ
  place = place_of w 2 address

  abbrev done : code.Outcome
  done = code.outcome (answer.Flag (is_inserted w place)) (words.disarmed (words.withdrawn_own w place (words.own_queued w place)) place)

  cancel-accepted : (t : Timer) → timer_at s.dispatcher.objects address ≡ some t → Plainly done (effect (call.CancelTimer address) s)
  unfolding words.withdrawn_own
  cancel-accepted t e =
      let f = timer-object s.dispatcher.objects address t e in
      let own = cancels_work s t in
      let s' = with_table (with_dpcs s (dpcs_after s t own)) (put_object (timer (cancelled t)) s.dispatcher.objects) in
      subst (λ (m : Outcome). Plainly done m) (sym (cancel-effect s address t e))
      (record {
        answers = ap Flag (inserted-is w s holder active a address t f);
        agree = subst (λ (b : Bool). Agree (words.disarmed (cond b (queue.withdrawn w (number_of w (get_or w (place + at.timer_dpc) 0))) w) place) s') (sym (own-queued w s holder active a address t f))
            (subst (λ (d : ℕ). Agree (words.disarmed (cond own (queue.withdrawn w (number_of w d)) w) place) s') (sym (timer_word w s holder active a address t f 8 t.dpc refl))
            (subst (λ (p : ℕ). Agree (words.disarmed (cond own (queue.withdrawn w (number_of w t.dpc)) w) p) s') (sym (timer-place w s holder active a address t f))
            (agree-disarmed w s a v address t f own refl)));
      })

  pub agree-cancel-timer : Plainly (words.timer_cancelled w address) (step (call.CancelTimer address) s)
  unfolding words.timer_cancelled
  agree-cancel-timer = go (timer_at s.dispatcher.objects address) refl
    where
      go : (o : Option Timer) → timer_at s.dispatcher.objects address ≡ o → Plainly (cond (eqb place 0) (code.outcome (answer.Refused 2) w) done) (step (call.CancelTimer address) s)
      go none e =
          subst (λ (b : Bool). Plainly (cond b (code.outcome (answer.Refused 2) w) done) (step (call.CancelTimer address) s)) (sym (eq-eqb place 0 (timer-missing w s holder active a address e)))
          (plainly-refused w s a (call.CancelTimer address) 2 (cancel-refusal s address none e) (λ z. omega arith))
      go (some t) e =
          subst (λ (b : Bool). Plainly (cond b (code.outcome (answer.Refused 2) w) done) (step (call.CancelTimer address) s))
          (sym (timer-known w s holder active a address t (timer-object s.dispatcher.objects address t e)))
          (plainly-accepted s (call.CancelTimer address) done (cancel-refusal s address (some t) e) (cancel-accepted t e))
