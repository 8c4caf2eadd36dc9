-- `set_timer`: the same answer, and words that agree after it.
use Prim.Native.Nat.{ℕ, ◌+◌, ◌≤◌}
use mathlib.Core.List.{List}
use mathlib.Core.Bool.{Bool, true, false, cond}
use mathlib.Core.Option.{Option, some}
use mathlib.Core.Path.{◌≡◌, refl, sym, ap, subst}
use native.Mathlib.Omega.{arith}
use lib.Dec.{eqb, leb}
use lib.IntN.{ℤ, pos, negsuc}
use borrow.Author.Tests.{eqb-true, leb-false}
use Rattle.images.specs.declared.Timer.{Timer}
use Rattle.objects.specs.Objects.{place_of}
use Rattle.answers.specs.declared.Answer.TheVariants as answer
use Rattle.answers.specs.Outcome as code
use Rattle.timers.specs.Record.{is_inserted}
use Rattle.arming.specs.Signed.{whole}
use Rattle.arming.specs.Arm as words
use Rattle.model.specs.Lists.{present, given}
use Rattle.model.specs.State.{State, timer}
use Rattle.model.specs.Waits.{timer_at, put_object}
use Rattle.model.specs.Dpcs.{dpc_at, phase_at, is_busy}
use Rattle.model.specs.Timers.{most, armed, is_named_by_other}
use Rattle.model.specs.Answer.{Outcome, gives, Done, Flag}
use Rattle.model.specs.Call as call
use Rattle.model.specs.Refusal.{is_negative, former_busy, arm_refusal, set_refusal}
use Rattle.model.specs.Step.{with_table, period_of, timer_set, refusal, effect, step}
use Rattle.model.specs.Valid.{Valid}
use Rattle.model.proofs.RowLaws.{passes, holds, there}
use Rattle.agreement.specs.Records.{holder_of, active_address}
use Rattle.agreement.specs.Agree.{Agree}
use Rattle.agreement.specs.Matches.{Plainly}
use Rattle.agreement.proofs.Matches.{plainly-unless}
use Rattle.agreement_timers.proofs.Found.{timer-object, timer-place, timer_word, inserted-is}
use Rattle.agreement_timers.proofs.Refusals.{set-refusal}
use Rattle.agreement_timers.proofs.Settings.{setting_of, agree-armed}

same-period : (v : ℤ) → whole v ≡ period_of v
same-period (pos n) = refl
same-period (negsuc n) = refl

-- what an accepted call says of the timer and of its new DPC
record Settable (s : State) (address dpc : ℕ) : Type 0 where
  which : Timer
  is : timer_at s.dispatcher.objects address ≡ some which
  few : which.arm_generation + 1 ≤ most
  alone : (dpc ≡ 0 → ⊥) → is_named_by_other s.dispatcher.objects address dpc ≡ false

settable : (s : State) (address : ℕ) (period : ℤ) (dpc : ℕ) → set_refusal s address period dpc ≡ 0 → Settable s address dpc
unfolding set_refusal arm_refusal
settable s address period dpc e = go (eqb dpc 0) refl (passes (is_negative period) 16 _ e).1
  where
    arm : ℕ
    arm = given (timer_at s.dispatcher.objects address) 2 (λ (t : Timer). cond (former_busy s t) 19 (cond (leb most t.arm_generation) 24 0))

    set : arm ≡ 0 → ((dpc ≡ 0 → ⊥) → is_named_by_other s.dispatcher.objects address dpc ≡ false) → Settable s address dpc
    set z h =
        let t = there (timer_at s.dispatcher.objects address) 1 (λ (t : Timer). cond (former_busy s t) 19 (cond (leb most t.arm_generation) 24 0)) z in
        let r₁ = passes (former_busy s t.0) 18 (cond (leb most t.0.arm_generation) 24 0) t.2 in
        let r₂ = passes (leb most t.0.arm_generation) 23 0 r₁.1 in
        record { which = t.0; is = t.1; few = omega (arith, leb-false most t.0.arm_generation r₂.0); alone = h }

    go : (b : Bool) → eqb dpc 0 ≡ b
        → cond b arm (cond (present (dpc_at s.dpcs.table dpc)) (cond (is_named_by_other s.dispatcher.objects address dpc) 18 (cond (is_busy (phase_at s.dpcs.table dpc)) 19 arm)) 2) ≡ 0
        → Settable s address dpc
    go true q z = set z (λ n. absurd (n (eqb-true dpc 0 q)))
    go false q z =
        let r₂ = holds (present (dpc_at s.dpcs.table dpc)) 1 (cond (is_named_by_other s.dispatcher.objects address dpc) 18 (cond (is_busy (phase_at s.dpcs.table dpc)) 19 arm)) z in
        let r₃ = passes (is_named_by_other s.dispatcher.objects address dpc) 17 (cond (is_busy (phase_at s.dpcs.table dpc)) 19 arm) r₂.1 in
        let r₄ = passes (is_busy (phase_at s.dpcs.table dpc)) 18 arm r₃.1 in
        set r₄.1 (λ n. r₃.0)

module _ (w : List ℕ) (s : State) (a : Agree w s) (v : Valid s) (address : ℕ) where
  -- an accepted one
  set-accepted : (due : ℕ) (absolute : Bool) (period : ℤ) (dpc : ℕ) → due ≤ most → set_refusal s address period dpc ≡ 0
      → Plainly (code.outcome (answer.Flag (is_inserted w (place_of w 2 address))) (words.armed w (place_of w 2 address) address (words.setting_of w (place_of w 2 address) due absolute period dpc)))
      (timer_set s address due absolute (period_of period) dpc)
  unfolding timer_set words.setting_of
  set-accepted due absolute period dpc fits e =
      let c = settable s address period dpc e in
      let t = c.which in
      let holder : ℕ → ℕ = holder_of s.dispatcher.objects in
      let active = active_address s.dpcs.table in
      let f = timer-object s.dispatcher.objects address t c.is in
      let m : Timer → Outcome = λ u. gives (Flag u.inserted) (with_table s (put_object (timer (armed u due absolute (period_of period) dpc)) s.dispatcher.objects)) in
      let b : ℕ = cond absolute 1 0 in
      subst (λ (o : Option Timer). Plainly (code.outcome (answer.Flag (is_inserted w (place_of w 2 address))) (words.armed w (place_of w 2 address) address (words.setting_of w (place_of w 2 address) due absolute period dpc)))
      (given o (gives Done s) m)) (sym c.is)
      (record {
        answers = ap Flag (inserted-is w s holder active a address t f);
        agree = subst (λ (n : ℕ). Agree (words.armed w (place_of w 2 address) address (record { due = due; absolute = b; period = whole period; dpc = dpc; arm = n + 1 })) (m t).state)
            (sym (timer_word w s holder active a address t f 10 t.arm_generation refl))
            (subst (λ (n : ℕ). Agree (words.armed w (place_of w 2 address) address (record { due = due; absolute = b; period = n; dpc = dpc; arm = t.arm_generation + 1 })) (m t).state) (sym (same-period period))
            (subst (λ (p : ℕ). Agree (words.armed w p address (setting_of t due absolute (period_of period) dpc)) (m t).state) (sym (timer-place w s holder active a address t f))
            (agree-armed w s a v address t f due absolute (period_of period) dpc c.few fits c.alone)));
      })

  pub agree-set-timer : (due : ℕ) (absolute : Bool) (period : ℤ) (dpc : ℕ) → due ≤ most
      → Plainly (words.timer_set w address due absolute period dpc) (step (call.SetTimer address due absolute period dpc) s)
  unfolding words.timer_set refusal effect
  agree-set-timer due absolute period dpc fits =
      plainly-unless w s a (call.SetTimer address due absolute period dpc) (words.set_refusal w address period dpc)
      (code.outcome (answer.Flag (is_inserted w (place_of w 2 address))) (words.armed w (place_of w 2 address) address (words.setting_of w (place_of w 2 address) due absolute period dpc)))
      (set-refusal w s a v address period dpc) (set-accepted due absolute period dpc fits)
