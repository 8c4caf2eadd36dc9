-- Delaying: the call on the words and on the log.
use Prim.Native.Nat.{ℕ}
use mathlib.Core.List.{List, []}
use mathlib.Core.Bool.{Bool, true, false, cond}
use mathlib.Core.Option.{some}
use mathlib.Core.Path.{◌≡◌, refl, sym, ap, ◌∙◌, subst}
use native.Mathlib.Omega.{arith}
use borrow.Author.Tests.{eqb-false}
use lib.ListN.{get_or}
use lib.Dec.{eqb, leb, ltb}
use Rattle.words.specs.Layout as at
use Rattle.answers.specs.Outcome.{outcome}
use Rattle.answers.specs.declared.Answer.TheVariants as answer
use Rattle.waiting.specs.Wait as words
use Rattle.model.specs.State.{State}
use Rattle.model.specs.Waits.{reached}
use Rattle.model.specs.Valid.{Valid}
use Rattle.model.specs.Refusal.{delay_refusal, sequence_refusal}
use Rattle.model.specs.Call as call
use Rattle.model.specs.Step.{step, refusal, effect, delayed}
use Rattle.model.proofs.TableLaws.{none-some, some_same}
use Rattle.agreement.specs.Shape.{WaitFits}
use Rattle.agreement.specs.Agree.{Agree}
use Rattle.agreement.specs.Matches.{Plainly}
use Rattle.agreement.proofs.Matches.{plainly-refused}
use Rattle.agreement.proofs.Waits.{Stored, InForm}
use Rattle.agreement_waits.proofs.Parked.{new_wait}
use Rattle.agreement_waits.proofs.Decided.{agree-decided}

module _ (w : List ℕ) (s : State) (a : Agree w s) (deadline : ℕ) where
  -- a wait for no object
  delay-stored : Stored (words.delay_wait deadline (get_or w at.sequence 0)) (new_wait s.dispatcher [] false (some deadline))
  unfolding words.delay_wait
  delay-stored = record {
    of-all = refl;
    of-timed = refl;
    of-deadline = λ t e. some_same deadline t e;
    of-sequence = a.numbers at.sequence s.dispatcher.sequence refl;
    of-count = refl;
    of_places = λ k n e. absurd (none-some n e);
  }

  delay-form : InForm (words.delay_wait deadline (get_or w at.sequence 0))
  unfolding words.delay_wait
  delay-form = record { of-all = omega arith; of-timed = omega arith; few = omega arith; kinds = λ k h. absurd (omega arith) }

  delay-fits : WaitFits (new_wait s.dispatcher [] false (some deadline))
  delay-fits = record { few = omega arith; kinds = λ n m. absurd m }

  delay-ends : words.reached w true (words.delay_wait deadline (get_or w at.sequence 0)).deadline ≡ reached (some deadline) s.now
  unfolding words.reached words.delay_wait
  delay-ends = ap (leb deadline) (a.numbers at.now s.now refl)

  pub agree-delay : Valid s → (irql : ℕ) → Plainly (words.delayed w deadline irql) (step (call.DelayUntil deadline irql) s)
  unfolding words.delayed refusal effect delay_refusal delayed
  agree-delay v irql =
      subst (λ (n : ℕ). Plainly (cond (ltb 1 irql) (outcome (answer.Refused 9) w) (cond (eqb n 0) (outcome (answer.Refused 3) w) (words.decided w n true irql (words.delay_wait deadline (get_or w at.sequence 0)))))
      (step (call.DelayUntil deadline irql) s)) (sym (a.numbers at.current s.dispatcher.current refl))
      (go (ltb 1 irql) (eqb s.dispatcher.current 0) refl refl)
    where
      go : (b e : Bool) → ltb 1 irql ≡ b → eqb s.dispatcher.current 0 ≡ e
          → Plainly (cond b (outcome (answer.Refused 9) w) (cond e (outcome (answer.Refused 3) w) (words.decided w s.dispatcher.current true irql (words.delay_wait deadline (get_or w at.sequence 0)))))
          (step (call.DelayUntil deadline irql) s)
      go true e p q =
          plainly-refused w s a (call.DelayUntil deadline irql) 9
          (ap (λ (b : Bool). cond b 9 (cond (eqb s.dispatcher.current 0) 3 (cond (leb deadline s.now) 0 (sequence_refusal s)))) p) (λ z. omega arith)
      go false true p q =
          plainly-refused w s a (call.DelayUntil deadline irql) 3
          (ap (λ (b : Bool). cond b 9 (cond (eqb s.dispatcher.current 0) 3 (cond (leb deadline s.now) 0 (sequence_refusal s)))) p
          ∙ ap (λ (b : Bool). cond b 3 (cond (leb deadline s.now) 0 (sequence_refusal s))) q) (λ z. omega arith)
      go false false p q =
          agree-decided w s a v (eqb-false s.dispatcher.current 0 q) (words.delay_wait deadline (get_or w at.sequence 0)) [] false (some deadline) true delay-stored delay-form delay-fits delay-ends
          (call.DelayUntil deadline irql) irql
          (ap (λ (b : Bool). cond b 9 (cond (eqb s.dispatcher.current 0) 3 (cond (leb deadline s.now) 0 (sequence_refusal s)))) p
          ∙ ap (λ (b : Bool). cond b 3 (cond (leb deadline s.now) 0 (sequence_refusal s))) q
          ∙ ap (λ (b : Bool). cond (leb deadline s.now) 0 (cond b 9 (sequence_refusal s))) (sym p))
          refl
