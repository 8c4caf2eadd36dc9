-- Opening: an accepted open starts the same on words and in the log, whatever was before; a refused one leaves all as it was.
use Prim.Native.Nat.{ℕ}
use mathlib.Core.List.{List}
use mathlib.Core.Bool.{Bool, cond}
use mathlib.Core.Path.{◌≡◌, refl, sym, ap, ◌∙◌, subst}
use borrow.Author.Tests.{eq-eqb}
use lib.ListN.{length}
use Rattle.answers.specs.Outcome as code
use Rattle.answers.specs.Outcome.{outcome}
use Rattle.answers.specs.declared.Answer.TheVariants as answer
use Rattle.call_answers.specs.Told.{told}
use Rattle.opening.specs.Open as words
use Rattle.model.specs.State.{State}
use Rattle.model.specs.Answer.{Done}
use Rattle.model.specs.Refusal.{open_refusal, not_priority, bad_limits}
use Rattle.model.specs.Call as call
use Rattle.model.specs.Step.{step, refusal, effect, opened}
use Rattle.agreement.specs.Agree.{Agree}
use Rattle.agreement.specs.Matches.{Plainly}
use Rattle.agreement.proofs.Opened.{agree-opened}
use Rattle.agreement.proofs.Matches.{plainly-unless}

-- the code and the table refuse alike
pub open-refusal : (w : List ℕ) (p t o d : ℕ) → words.open_refusal w p t o d ≡ open_refusal (length w) p t o d
unfolding words.open_refusal words.bad_priority words.bad_limits open_refusal not_priority bad_limits
open-refusal w p t o d = refl

-- any words: what an accepted open gives
module _ (w : List ℕ) (p t o d : ℕ) (e : open_refusal (length w) p t o d ≡ 0) where
  accepted : words.opened w p t o d ≡ outcome answer.Done (words.started w p t o d)
  unfolding words.opened
  accepted = ap (λ (b : Bool). cond b (outcome answer.Done (words.started w p t o d)) (outcome (answer.Refused (words.open_refusal w p t o d)) w))
      (eq-eqb (words.open_refusal w p t o d) 0 (open-refusal w p t o d ∙ e))

  pub opens-done : told (words.opened w p t o d).answer ≡ Done
  opens-done = ap (λ (x : code.Outcome). told x.answer) accepted

  pub opens : Agree (words.opened w p t o d).words (opened p t o d)
  opens = subst (λ (x : code.Outcome). Agree x.words (opened p t o d)) (sym accepted) (agree-opened w p t o d (open-refusal w p t o d ∙ e))

pub agree-open : (w : List ℕ) (s : State) → Agree w s → (p t o d : ℕ) → Plainly (words.opened w p t o d) (step (call.Open (length w) p t o d) s)
unfolding words.opened refusal effect
agree-open w s a p t o d =
    plainly-unless w s a (call.Open (length w) p t o d) (words.open_refusal w p t o d) (outcome answer.Done (words.started w p t o d)) (open-refusal w p t o d)
    (λ e. record { answers = refl; agree = agree-opened w p t o d (open-refusal w p t o d ∙ e) })
