-- A list of calls on a scheduler's words, each on the words that the last one left.
use Rattle.std.specs.Prelude.{ℕ, List, [], ◌∷◌}
use Rattle.model.specs.Lists.{Mem}
use Rattle.model.specs.Answer.{Answer}
use Rattle.model.specs.Call.{Call}
use Rattle.model.specs.Fits.{Fits}
use Rattle.calls.specs.Run.{answered, left, Lent}

-- what they answer
abbrev pub answers_on : List ℕ → List Call → List Answer
answers_on w [] = []
answers_on w (c ∷ cs) = answered w c ∷ answers_on (left w c) cs

-- the words after them
abbrev pub words_after : List ℕ → List Call → List ℕ
words_after w [] = w
words_after w (c ∷ cs) = words_after (left w c) cs

-- calls whose arguments fit their types, the words lent to an `open` among them being `m`, as it says
pub record Proper (m : ℕ) (cs : List Call) : Type 0 where
  pub fit : (c : Call) → Mem c cs → Fits c
  pub lent : (c : Call) → Mem c cs → Lent m c
