-- The theorem over every list of calls.
use Prim.Native.Nat.{ℕ}
use mathlib.Core.List.{List, ◌∷◌}
use mathlib.Core.Path.{refl, sym, ap, ◌∙◌, subst}
use lib.ListN.{length}
use Rattle.words.specs.Layout as at
use Rattle.model.specs.Answer.{Answer, Done}
use Rattle.model.specs.Call.{Call}
use Rattle.model.specs.Start.{Start, first_call, Accepted, begun}
use Rattle.model.specs.Valid.{Valid}
use Rattle.model.proofs.StepLaws.{valid-after}
use Rattle.model.proofs.StartLaws.{valid-begun, numbers-begun}
use Rattle.calls.specs.Run.{left}
use Rattle.agreement_form.proofs.Passes.{passes}
use Rattle.agreement_lengths.proofs.Calls.{keeps-length}
use Rattle.theorem.specs.History.{answers_on, Proper}
use Rattle.theorem.specs.Theorem.{Theorem, logged, end}
use Rattle.theorem.proofs.Agreed.{Agreed, agreed}
use Rattle.theorem.proofs.Start.{agree-begun, first_done}
use Rattle.theorem.proofs.Runs.{runs-right}

pub theorem : (w : List ℕ) (start : Start) (calls : List Call) → Accepted (length w) start → Proper (length w) calls → Theorem w start calls
theorem w start calls accepted proper = record {
  answers = ap (λ (x : Answer). x ∷ answers_on w₁ calls) (first_done w start accepted) ∙ ap (λ (l : List Answer). Done ∷ l) r.same;
  ready = r.agree.queues;
  runs = runs-right (end w start calls) (logged w start calls) r.agree valid r.numbers;
  waiters = r.agree.waiters;
  queue = r.agree.work;
  active = r.agree.numbers at.active _ refl;
  accepted = r.agree.numbers at.accepted _ refl;
  duplicates = r.agree.numbers at.duplicates _ refl;
  removed = r.agree.numbers at.removed _ refl;
  started = r.agree.numbers at.started _ refl;
  returned = r.agree.numbers at.returned _ refl;
  restored = r.agree.numbers at.restored _ refl;
  timers-made = r.agree.numbers at.timer_initializations _ refl;
  dpcs-made = r.agree.numbers at.dpc_initializations _ refl;
  all = r.agree;
  in-form = passes (end w start calls) (logged w start calls) r.agree valid r.numbers;
  valid = valid;
}
  where
    w₁ : List ℕ
    w₁ = left w (first_call (length w) start)

    first : Valid (begun start)
    first = valid-begun (length w) start accepted

    valid : Valid (logged w start calls)
    valid = valid-after calls (begun start) first

    r : Agreed w₁ (begun start) calls
    r = agreed calls w₁ (begun start) (agree-begun w start accepted) first (numbers-begun (length w) start accepted)
        (subst (λ (n : ℕ). Proper n calls) (sym (keeps-length w (first_call (length w) start))) proper)
