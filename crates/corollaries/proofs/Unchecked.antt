-- Whoever begins with an accepted start and keeps to the calls needs no check: it would always pass.
use Prim.Native.Nat.{ℕ}
use mathlib.Core.List.{List, [], ◌∷◌}
use mathlib.Core.Bool.{Bool, true, false, cond}
use mathlib.Core.Path.{◌≡◌, refl, sym, ap, ◌∙◌, subst}
use mathlib.Core.Logic.{inl}
use lib.ListN.{length}
use Rattle.form.specs.Form.{in_form}
use Rattle.model.specs.State.{State}
use Rattle.model.specs.Answer.{Answer}
use Rattle.model.specs.Call.{Call}
use Rattle.model.specs.Start.{Start, first_call, Accepted}
use Rattle.model.specs.Start as start-log
use Rattle.model.specs.Step.{step}
use Rattle.model.specs.Valid.{Valid}
use Rattle.model.specs.Fits.{Numbers}
use Rattle.model.proofs.StepLaws.{valid-step}
use Rattle.model.proofs.FitsLaws.{numbers-step}
use Rattle.model.proofs.StartLaws.{valid-begun, numbers-begun}
use Rattle.calls.specs.Called.{meaning, Result, called}
use Rattle.calls.specs.Run.{answered, answer_of, words_of, left}
use Rattle.unchecked.specs.Unchecked.{unchecked}
use Rattle.unchecked.proofs.Same.{same}
use Rattle.agreement.specs.Agree.{Agree}
use Rattle.agreement_form.proofs.Passes.{passes}
use Rattle.agreement_lengths.proofs.Calls.{keeps-length}
use Rattle.agreement_calls.proofs.Calls.{matches}
use Rattle.theorem.specs.History.{answers_on, words_after, Proper}
use Rattle.theorem.proofs.Agreed.{proper-rest}
use Rattle.theorem.proofs.Start.{agree-begun}
use Rattle.theorem.proofs.Theorem.{theorem}
use Rattle.corollaries.specs.Unchecked.{Made, calls_of, gives, answers_made, words_made, begun, NoCheckNeeded}

-- on words in form
gives-checked : (w : List ℕ) → in_form w ≡ true → (x : Made) → gives w x ≡ called w x.call
gives-checked w f x = go x.is_checked
  where
    go : (b : Bool) → cond b (called w x.call) (unchecked w x.call) ≡ called w x.call
    go true = refl
    go false = same w f x.call

record Kept (w : List ℕ) (made : List Made) : Type 0 where
  answers : answers_made w made ≡ answers_on w (calls_of made)
  words : words_made w made ≡ words_after w (calls_of made)

keeps : (made : List Made) (w : List ℕ) (s : State) → Agree w s → Valid s → Numbers s → Proper (length w) (calls_of made) → Kept w made
keeps [] w s a v n h = record { answers = refl; words = refl }
keeps (x ∷ made) w s a v n h =
    let c : Call = x.call in
    let e : gives w x ≡ called w c = gives-checked w (passes w s a v n) x in
    let m = matches w s a v n c (h.fit c (inl refl)) (h.lent c (inl refl)) in
    let r = keeps made (left w c) (step c s).state m.agree (valid-step s v c) (numbers-step s v n c (h.fit c (inl refl))) (proper-rest w c (calls_of made) h) in
    record {
      answers = ap (λ (z : Result (meaning c)). answer_of w (meaning c) z ∷ answers_made (words_of w (meaning c) z) made) e ∙ ap (λ (l : List Answer). answered w c ∷ l) r.answers;
      words = ap (λ (z : Result (meaning c)). words_made (words_of w (meaning c) z) made) e ∙ r.words;
    }

pub no-check-needed : (w : List ℕ) (start : Start) (made : List Made) → Accepted (length w) start → Proper (length w) (calls_of made) → NoCheckNeeded w start made
no-check-needed w start made accepted proper = record {
  answers = k.answers;
  words = k.words;
  next = same (words_made (begun w start) made) (subst (λ (v : List ℕ). in_form v ≡ true) (sym k.words) (theorem w start (calls_of made) accepted proper).in-form);
}
  where
    k : Kept (begun w start) made
    k = keeps made (begun w start) (start-log.begun start) (agree-begun w start accepted) (valid-begun (length w) start accepted) (numbers-begun (length w) start accepted)
        (subst (λ (n : ℕ). Proper n (calls_of made)) (sym (keeps-length w (first_call (length w) start))) proper)
