-- Calls with and without the check of the words' form, in any order.
use Rattle.std.specs.Prelude.{ℕ, List, [], ◌∷◌, Bool, cond, ◌≡◌, length}
use Rattle.model.specs.Answer.{Answer}
use Rattle.model.specs.Call.{Call}
use Rattle.model.specs.Start.{Start, first_call}
use Rattle.calls.specs.Called.{meaning, Result, called}
use Rattle.calls.specs.Run.{answer_of, words_of, left}
use Rattle.unchecked.specs.Unchecked.{unchecked}
use Rattle.theorem.specs.History.{answers_on, words_after}

-- a call, and whether it checks the words first
pub record Made : Type 0 where
  pub is_checked : Bool
  pub call : Call

abbrev pub calls_of : List Made → List Call
calls_of [] = []
calls_of (x ∷ xs) = x.call ∷ calls_of xs

abbrev pub gives : List ℕ → (x : Made) → Result (meaning x.call)
gives w x = cond x.is_checked (called w x.call) (unchecked w x.call)

-- what they answer, each on the words that the last one left, and the words after them
abbrev pub answers_made : List ℕ → List Made → List Answer
answers_made w [] = []
answers_made w (x ∷ xs) = answer_of w (meaning x.call) (gives w x) ∷ answers_made (words_of w (meaning x.call) (gives w x)) xs

abbrev pub words_made : List ℕ → List Made → List ℕ
words_made w [] = w
words_made w (x ∷ xs) = words_made (words_of w (meaning x.call) (gives w x)) xs

-- the words after a start
abbrev pub begun : List ℕ → Start → List ℕ
begun w start = left w (first_call (length w) start)

pub record NoCheckNeeded (w : List ℕ) (start : Start) (made : List Made) : Type 0 where
  -- they answer what the checked calls would, and leave the words that those would
  pub answers : answers_made (begun w start) made ≡ answers_on (begun w start) (calls_of made)
  pub words : words_made (begun w start) made ≡ words_after (begun w start) (calls_of made)
  -- any call then gives without the check what it gives with it: the answer, the words and every output
  pub next : (c : Call) → unchecked (words_made (begun w start) made) c ≡ called (words_made (begun w start) made) c
