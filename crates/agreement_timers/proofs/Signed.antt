-- `set_timer` with a signed due: the same answer, and words that agree after it.
use Prim.Native.Nat.{ℕ, ◌+◌}
use mathlib.Core.List.{List}
use mathlib.Core.Bool.{Bool, true, false, cond, not, ◌&&◌}
use mathlib.Core.Path.{◌≡◌, refl, sym, ap, ◌∙◌, subst}
use native.Mathlib.Omega.{arith}
use lib.Dec.{eqb, ltb}
use lib.IntN.{ℤ, pos, negsuc}
use borrow.Author.Tests.{ltb-false}
use Rattle.words.specs.Layout as at
use Rattle.answers.specs.declared.Answer.TheVariants as answer
use Rattle.answers.specs.Outcome as code
use Rattle.arming.specs.Arm as words
use Rattle.model.specs.State.{State}
use Rattle.model.specs.Timers.{most}
use Rattle.model.specs.Answer.{Outcome, gives, Refused}
use Rattle.model.specs.Call as call
use Rattle.model.specs.Refusal.{is_negative, set_refusal, signed_due, set_signed_refusal}
use Rattle.model.specs.Step.{timer_set, refusal, effect, step}
use Rattle.model.specs.Valid.{Valid}
use Rattle.model.specs.Fits.{I64}
use Rattle.agreement.specs.Agree.{Agree}
use Rattle.agreement.specs.Matches.{Plainly}
use Rattle.agreement.proofs.Matches.{plainly-refused}
use Rattle.agreement_timers.proofs.Sets.{agree-set-timer}

-- a signed due that is not refused is a due
same_step : (s : State) (address : ℕ) (v : ℤ) (period dpc : ℕ) → (is_negative v && ltb most (signed_due s.now v)) ≡ false
    → step (call.SetTimerSigned address v (pos period) dpc) s ≡ step (call.SetTimer address (signed_due s.now v) (not (is_negative v)) (pos period) dpc) s
unfolding step refusal effect set_signed_refusal
same_step s address v period dpc e =
    let m : Outcome = timer_set s address (signed_due s.now v) (not (is_negative v)) period dpc in
    ap (λ (b : Bool). let r : ℕ = cond b 13 (set_refusal s address (pos period) dpc) in cond (eqb r 0) m (gives (Refused r) s)) e

past : (s : State) (address : ℕ) (n period dpc : ℕ) → ltb most (signed_due s.now (negsuc n)) ≡ true → refusal (call.SetTimerSigned address (negsuc n) (pos period) dpc) s ≡ 13
unfolding refusal set_signed_refusal
past s address n period dpc e = ap (λ (b : Bool). cond b 13 (set_refusal s address (pos period) dpc)) e

negative-period : (s : State) (address : ℕ) (v : ℤ) (n dpc : ℕ) → refusal (call.SetTimerSigned address v (negsuc n) dpc) s ≡ 17
unfolding refusal set_signed_refusal
negative-period s address v n dpc = refl

module _ (w : List ℕ) (s : State) (a : Agree w s) (v : Valid s) (address : ℕ) where
  pub agree-set-timer-signed : (due period : ℤ) (dpc : ℕ) → I64 due
      → Plainly (words.timer_set_signed w address due period dpc) (step (call.SetTimerSigned address due period dpc) s)
  unfolding words.timer_set_signed words.set_from
  agree-set-timer-signed due (negsuc n) dpc fits = plainly-refused w s a (call.SetTimerSigned address due (negsuc n) dpc) 17 (negative-period s address due n dpc) (λ z. omega arith)
  agree-set-timer-signed (pos d) (pos n) dpc fits =
      subst (λ (m : Outcome). Plainly (words.timer_set w address d true (pos n) dpc) m) (sym (same_step s address (pos d) n dpc refl))
      (agree-set-timer w s a v address d true (pos n) dpc (omega (arith, fits)))
  agree-set-timer-signed (negsuc d) (pos n) dpc fits =
      subst (λ (t : ℕ). Plainly (cond (ltb words.largest t) (code.outcome (answer.Refused 13) w) (words.timer_set w address t false (pos n) dpc)) (step (call.SetTimerSigned address (negsuc d) (pos n) dpc) s))
      (sym (ap (λ (t : ℕ). t + (d + 1)) (a.numbers at.now s.now refl) ∙ (let z : s.now + (d + 1) ≡ signed_due s.now (negsuc d) = omega arith in z)))
      (go (ltb most (signed_due s.now (negsuc d))) refl)
    where
      go : (b : Bool) → ltb most (signed_due s.now (negsuc d)) ≡ b
          → Plainly (cond b (code.outcome (answer.Refused 13) w) (words.timer_set w address (signed_due s.now (negsuc d)) false (pos n) dpc)) (step (call.SetTimerSigned address (negsuc d) (pos n) dpc) s)
      go true e = plainly-refused w s a (call.SetTimerSigned address (negsuc d) (pos n) dpc) 13 (past s address d n dpc e) (λ z. omega arith)
      go false e =
          subst (λ (m : Outcome). Plainly (words.timer_set w address (signed_due s.now (negsuc d)) false (pos n) dpc) m) (sym (same_step s address (negsuc d) n dpc e))
          (agree-set-timer w s a v address (signed_due s.now (negsuc d)) false (pos n) dpc (ltb-false most (signed_due s.now (negsuc d)) e))
