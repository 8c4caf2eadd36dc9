-- A dispatch with none current and some thread placed, on words that agree with a valid state.
use Prim.Native.Nat.{ℕ, ◌≤◌}
use mathlib.Core.List.{List}
use mathlib.Core.Bool.{Bool, false, cond}
use mathlib.Core.Path.{◌≡◌, refl, ap, ◌∙◌}
use borrow.Author.Tests.{eq-eqb, le-ltb}
use lib.ListN.{get_or}
use Rattle.words.specs.Layout as at
use Rattle.calls.specs.Run.{answered, left}
use Rattle.model.specs.Lists.{is_empty}
use Rattle.model.specs.State.{State}
use Rattle.model.specs.Threads.{becomes, next, ran}
use Rattle.model.specs.Choice.{Right}
use Rattle.model.specs.Refusal.{dispatch_refusal}
use Rattle.model.specs.Answer.{Outcome, gives, Run}
use Rattle.model.specs.Call.{Dispatch}
use Rattle.model.specs.Step.{step, refusal, effect, dispatched, with_dispatcher, idle_answer}
use Rattle.model.specs.Valid.{Valid}
use Rattle.model.specs.Fits.{Numbers}
use Rattle.model.proofs.ChoiceLaws.{right-next}
use Rattle.model.proofs.WdkLaws.{step_is}
use Rattle.agreement.specs.Agree.{Agree}
use Rattle.agreement_calls.proofs.Calls.{matches}

-- the call on the log
pub runs-next : (s : State) (n : ℕ) → s.limits.threads ≤ n → s.dispatcher.current ≡ 0 → is_empty s.dispatcher.placed ≡ false
    → step (Dispatch n) s ≡ gives (Run (next s.dispatcher)) (with_dispatcher s (ran s.dispatcher (next s.dispatcher)))
unfolding refusal dispatch_refusal effect dispatched
runs-next s n h z e =
    step_is (Dispatch n) s (ap (λ (b : Bool). cond b 27 0) (le-ltb n s.limits.threads h))
    ∙ ap (λ (b : Bool). cond b (cond (is_empty s.dispatcher.placed) (gives (idle_answer s.dispatcher) s) runs) (gives (Run s.dispatcher.current) s)) (eq-eqb s.dispatcher.current 0 z)
    ∙ ap (λ (b : Bool). cond b (gives (idle_answer s.dispatcher) s) runs) e
  where
    runs : Outcome
    runs = gives (Run (next s.dispatcher)) (with_dispatcher s (ran s.dispatcher (next s.dispatcher)))

-- it answers the right thread, and the words say that it is current
pub runs-right : (w : List ℕ) (s : State) → Agree w s → Valid s → Numbers s → (n : ℕ) → s.limits.threads ≤ n → s.dispatcher.current ≡ 0 → is_empty s.dispatcher.placed ≡ false
    → (i : ℕ) × (answered w (Dispatch n) ≡ Run i) × (Right s.dispatcher i) × (get_or (left w (Dispatch n)) at.current 0 ≡ i)
unfolding ran becomes
runs-right w s a v b n h z e =
    let m = matches w s a v b (Dispatch n) tt tt in
    let q = runs-next s n h z e in (
      next s.dispatcher,
      m.answers ∙ ap (λ (x : Outcome). x.answer) q,
      right-next s v e,
      m.agree.numbers at.current _ refl ∙ ap (λ (x : Outcome). x.state.dispatcher.current) q,
    )
