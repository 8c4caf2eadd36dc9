-- Yielding, and who is current: the call on the words and on the log.
use Prim.Native.Nat.{ℕ}
use mathlib.Core.List.{List}
use mathlib.Core.Bool.{Bool, true, false, cond}
use mathlib.Core.Path.{◌≡◌, refl, sym, ap, ◌∙◌, subst}
use native.Mathlib.Omega.{arith}
use borrow.Author.Tests.{eqb-false}
use lib.ListN.{get_or}
use lib.Dec.{eqb}
use Rattle.words.specs.Layout as at
use Rattle.answers.specs.Outcome.{outcome}
use Rattle.answers.specs.declared.Answer.TheVariants as answer
use Rattle.call_answers.specs.Told.{told}
use Rattle.threading.specs.Thread as words
use Rattle.model.specs.State.{State}
use Rattle.model.specs.Threads.{becomes, yielded}
use Rattle.model.specs.Valid.{Valid}
use Rattle.model.specs.Refusal.{yield_refusal}
use Rattle.model.specs.Reads.{read_refusal, read_answer}
use Rattle.model.specs.Answer.{Outcome, None, ThreadNumber}
use Rattle.model.specs.Call as call
use Rattle.model.specs.Step.{step, refusal, effect}
use Rattle.model.proofs.KeepLaws.{current-known}
use Rattle.agreement.specs.Agree.{Agree}
use Rattle.agreement.specs.Matches.{Plainly}
use Rattle.agreement.proofs.Matches.{plainly-refused, plainly-accepted, step-accepted}
use Rattle.agreement.proofs.Ready.{agree-yield}
use Rattle.agreement_threads.proofs.Statuses.{runs-unplaced, runs-unblocked}

module _ (w : List ℕ) (s : State) (a : Agree w s) where
  abbrev c : ℕ
  c = s.dispatcher.current

  current-is : get_or w at.current 0 ≡ s.dispatcher.current
  current-is = a.numbers at.current s.dispatcher.current refl

  pub agree-yield-current : Valid s → Plainly (words.yielded w) (step call.YieldCurrent s)
  unfolding words.yielded refusal yield_refusal effect yielded becomes
  agree-yield-current v =
      subst (λ (n : ℕ). Plainly (cond (eqb n 0) (outcome (answer.Refused 3) w) (outcome answer.Done (words.yielded_words w n))) (step call.YieldCurrent s)) (sym current-is) (go (eqb c 0) refl)
    where
      refuses : (b : Bool) → eqb s.dispatcher.current 0 ≡ b → refusal call.YieldCurrent s ≡ cond b 3 0
      refuses b q = ap (λ (b : Bool). cond b 3 0) q

      go : (b : Bool) → eqb s.dispatcher.current 0 ≡ b → Plainly (cond b (outcome (answer.Refused 3) w) (outcome answer.Done (words.yielded_words w s.dispatcher.current))) (step call.YieldCurrent s)
      go true q = plainly-refused w s a call.YieldCurrent 3 (refuses true q) (λ z. omega arith)
      go false q =
          let k = current-known s v (eqb-false c 0 q) in
          plainly-accepted s call.YieldCurrent (outcome answer.Done (words.yielded_words w c)) (refuses false q)
          (record { answers = refl; agree = agree-yield w s _ _ a k.0 k.1 k.2 (runs-unplaced s v c k.2) (runs-unblocked s v c k.2) })

  pub current-read : told (words.current_answer w) ≡ (step (call.Reads call.Current) s).answer
  unfolding words.current_answer refusal effect read_refusal read_answer
  current-read =
      ap (λ (n : ℕ). told (cond (eqb n 0) answer.None (answer.Thread n))) current-is ∙ either (eqb c 0)
      ∙ sym (ap (λ (m : Outcome). m.answer) (step-accepted (call.Reads call.Current) s refl))
    where
      either : (b : Bool) → told (cond b answer.None (answer.Thread s.dispatcher.current)) ≡ cond b None (ThreadNumber s.dispatcher.current)
      either true = refl
      either false = refl
