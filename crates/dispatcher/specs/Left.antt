-- What a dispatch leaves of its output.
use Rattle.std.specs.Prelude.{ℕ, ◌≤◌, ◌≡◌, List, length, get_or}
use Rattle.answers.specs.declared.Answer.{Answer}
use Rattle.answers.specs.declared.Answer.TheVariants as answer
use Rattle.dispatcher.specs.Dispatch.{Dispatched}

-- how many numbers an answer gives
unfoldable pub given : Answer → ℕ
given (answer.Deadlocked n) = n
given (answer.Refused n) = 0
given answer.Done = 0
given answer.None = 0
given (answer.Thread n) = 0
given (answer.Flag b) = 0
given (answer.Count n) = 0
given (answer.Satisfied i) = 0
given answer.Timeout = 0
given answer.Blocked = 0
given (answer.Run n) = 0
given (answer.AdvanceTo t) = 0
given answer.Finished = 0
given (answer.Event key manual signaled) = 0

-- the output after a dispatch: as long as it was, and behind the numbers that it gives as it was
pub record Left (out : List ℕ) (d : Dispatched) : Type 0 where
  pub length_stays : length d.output ≡ length out
  pub beyond : (j : ℕ) → given d.answer ≤ j → get_or d.output j 0 ≡ get_or out j 0
  pub none_given : given d.answer ≡ 0 → d.output ≡ out
