-- A list of calls on words that agree with a valid state: the log's answers, and agreement at the end.
use Prim.Native.Nat.{ℕ}
use mathlib.Core.List.{List, [], ◌∷◌}
use mathlib.Core.Path.{◌≡◌, refl, sym, ap, ◌∙◌, subst}
use mathlib.Core.Logic.{inl, inr}
use lib.ListN.{length}
use Rattle.model.specs.State.{State}
use Rattle.model.specs.Answer.{Answer}
use Rattle.model.specs.Call.{Call}
use Rattle.model.specs.Step.{step, answers, after}
use Rattle.model.specs.Valid.{Valid}
use Rattle.model.specs.Fits.{Numbers}
use Rattle.model.proofs.StepLaws.{valid-step}
use Rattle.model.proofs.FitsLaws.{numbers-step}
use Rattle.calls.specs.Run.{left, Lent}
use Rattle.agreement.specs.Agree.{Agree}
use Rattle.agreement_lengths.proofs.Calls.{keeps-length}
use Rattle.agreement_calls.proofs.Calls.{matches}
use Rattle.theorem.specs.History.{answers_on, words_after, Proper}

-- the rest of a list is proper on the words that its first call left
pub proper-rest : (w : List ℕ) (c : Call) (cs : List Call) → Proper (length w) (c ∷ cs) → Proper (length (left w c)) cs
proper-rest w c cs h = record {
  fit = λ x m. h.fit x (inr m);
  lent = λ x m. subst (λ (n : ℕ). Lent n x) (sym (keeps-length w c)) (h.lent x (inr m));
}

pub record Agreed (w : List ℕ) (s : State) (cs : List Call) : Type 0 where
  pub same : answers_on w cs ≡ answers cs s
  pub agree : Agree (words_after w cs) (after cs s)
  pub numbers : Numbers (after cs s)

pub agreed : (cs : List Call) (w : List ℕ) (s : State) → Agree w s → Valid s → Numbers s → Proper (length w) cs → Agreed w s cs
agreed [] w s a v n h = record { same = refl; agree = a; numbers = n }
agreed (c ∷ cs) w s a v n h =
    let m = matches w s a v n c (h.fit c (inl refl)) (h.lent c (inl refl)) in
    let r = agreed cs (left w c) (step c s).state m.agree (valid-step s v c) (numbers-step s v n c (h.fit c (inl refl))) (proper-rest w c cs h) in
    record {
      same = ap (λ (x : Answer). x ∷ answers_on (left w c) cs) m.answers ∙ ap (λ (l : List Answer). (step c s).answer ∷ l) r.same;
      agree = r.agree;
      numbers = r.numbers;
    }
