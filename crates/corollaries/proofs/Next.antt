-- One more call after any list of calls: the code answers what the log answers, and its words go on telling what the log tells.
use Prim.Native.Nat.{ℕ}
use mathlib.Core.List.{List, [], ◌∷◌}
use mathlib.Core.Path.{◌≡◌, refl, sym, ap, ◌∙◌, subst}
use lib.ListN.{length}
use Rattle.calls.specs.Run.{answered, left, Lent}
use Rattle.model.specs.State.{State}
use Rattle.model.specs.Answer.{Outcome}
use Rattle.model.specs.Call.{Call}
use Rattle.model.specs.Step.{step, refusal, effect}
use Rattle.model.specs.Start.{Start, first_call, Accepted, begun}
use Rattle.model.specs.Valid.{Valid}
use Rattle.model.specs.Fits.{Fits, Numbers}
use Rattle.model.proofs.StepLaws.{valid-step}
use Rattle.model.proofs.FitsLaws.{numbers_after, numbers-step}
use Rattle.model.proofs.StartLaws.{valid-begun, numbers-begun}
use Rattle.model.proofs.WdkLaws.{step_is}
use Rattle.agreement.specs.Agree.{Agree}
use Rattle.agreement.specs.Matches.{Matches}
use Rattle.agreement_lengths.proofs.Calls.{keeps-length}
use Rattle.agreement_calls.proofs.Calls.{matches}
use Rattle.theorem.specs.History.{words_after, Proper}
use Rattle.theorem.specs.Theorem.{logged, end}
use Rattle.theorem.proofs.Theorem.{theorem}

-- the calls keep the words' number
words-length : (w : List ℕ) (cs : List Call) → length (words_after w cs) ≡ length w
words-length w [] = refl
words-length w (c ∷ cs) = words-length (left w c) cs ∙ keeps-length w c

module _ (w : List ℕ) (start : Start) (calls : List Call) (accepted : Accepted (length w) start) (proper : Proper (length w) calls) where
  abbrev words : List ℕ
  words = end w start calls

  abbrev log : State
  log = logged w start calls

  pub agree : Agree words log
  agree = (theorem w start calls accepted proper).all

  pub valid : Valid log
  valid = (theorem w start calls accepted proper).valid

  pub numbers : Numbers log
  numbers = numbers_after calls (begun start) (valid-begun (length w) start accepted) (numbers-begun (length w) start accepted) proper.fit

  pub same_length : length words ≡ length w
  same_length = words-length w (first_call (length w) start ∷ calls)

  -- the next call answers what the log answers, and its words agree with the log's state after it
  pub next : (c : Call) → Fits c → Lent (length w) c → Matches (answered words c) (left words c) (step c log)
  next c fit lent = matches words log agree valid numbers c fit (subst (λ (n : ℕ). Lent n c) (sym same_length) lent)

  -- and so does the one after it
  pub next-but-one : (c e : Call) → Fits c → Lent (length w) c → Fits e → Lent (length w) e
      → Matches (answered (left words c) e) (left (left words c) e) (step e (step c log).state)
  next-but-one c e fit lent fit' lent' =
      matches (left words c) (step c log).state (next c fit lent).agree (valid-step log valid c) (numbers-step log valid numbers c fit) e fit'
      (subst (λ (n : ℕ). Lent n e) (sym (keeps-length words c ∙ same_length)) lent')

  -- a call that the table does not refuse answers as its effect on the log says
  pub accepted-answers : (c : Call) → Fits c → Lent (length w) c → refusal c log ≡ 0 → answered words c ≡ (effect c log).answer
  accepted-answers c fit lent z = (next c fit lent).answers ∙ ap (λ (x : Outcome). x.answer) (step_is c log z)
