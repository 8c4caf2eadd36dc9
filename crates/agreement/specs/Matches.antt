-- A call on the words and the same call on the log: one answer, and words that agree with the state after it.
use Rattle.std.specs.Prelude.{ℕ, List, ◌≡◌}
use Rattle.answers.specs.Outcome as code
use Rattle.call_answers.specs.Told.{told}
use Rattle.model.specs.Answer.{Answer, Outcome}
use Rattle.agreement.specs.Agree.{Agree}

pub record Matches (a : Answer) (w : List ℕ) (m : Outcome) : Type 0 where
  pub answers : a ≡ m.answer
  pub agree : Agree w m.state

-- a call whose answer has no record in it
abbrev pub Plainly : code.Outcome → Outcome → Type 0
Plainly o m = Matches (told o.answer) o.words m
