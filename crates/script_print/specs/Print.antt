-- An answer as a line of text.
use Rattle.std.specs.Prelude.{Bool, cond, true, false, List, [], ◌∷◌, ◌++◌, ℕ, zero, suc, ◌+◌, ◌/◌, ◌%◌, ltb, length, set, take}
use Rattle.answers.specs.declared.Answer.{Answer}
use Rattle.answers.specs.declared.Answer.TheVariants as answer
use Rattle.script_lex.specs.Text.{bytes_of}

-- ---- numbers

abbrev pub digit_of : ℕ → ℕ
digit_of n = 48 + n % 10

-- `n` in at most `m` digits
unfoldable pub decimal_in : ℕ → ℕ → List ℕ
decimal_in zero n = []
decimal_in (suc m) n = cond (ltb n 10) (digit_of n ∷ []) (decimal_in m (n / 10) ++ (digit_of n ∷ []))

-- a number of 64 bits has at most 20
abbrev pub decimal : ℕ → List ℕ
decimal n = decimal_in 20 n

-- each number behind a space
unfoldable pub spaced : List ℕ → List ℕ
spaced [] = []
spaced (n ∷ ns) = (32 ∷ decimal n) ++ spaced ns

-- ---- a text that is written to, as far as it has room

pub record Written : Type 0 where
  pub text : List ℕ
  pub at : ℕ

abbrev pub written : List ℕ → ℕ → Written
written t at = record { text = t; at = at }

-- the bytes put at place `at` and on, and the place behind them
unfoldable pub printed : List ℕ → ℕ → List ℕ → Written
printed t at [] = written t at
printed t at (b ∷ bs) = cond (ltb at (length t)) (printed (set t at b) (at + 1) bs) (written t at)

-- ---- answers

unfoldable pub flag_text : Bool → List ℕ
flag_text true = bytes_of "yes"
flag_text false = bytes_of "no"

-- an event has no line
unfoldable pub answer_text : Answer → List ℕ → List ℕ
answer_text (answer.Refused n) numbers = bytes_of "refused " ++ decimal n
answer_text answer.Done numbers = bytes_of "ok"
answer_text answer.None numbers = bytes_of "none"
answer_text (answer.Thread n) numbers = bytes_of "thread " ++ decimal n
answer_text (answer.Flag f) numbers = flag_text f
answer_text (answer.Count n) numbers = decimal n
answer_text (answer.Satisfied n) numbers = bytes_of "satisfied " ++ decimal n
answer_text answer.Timeout numbers = bytes_of "timeout"
answer_text answer.Blocked numbers = bytes_of "blocked"
answer_text (answer.Run n) numbers = bytes_of "run " ++ decimal n
answer_text (answer.AdvanceTo n) numbers = bytes_of "advance " ++ decimal n
answer_text (answer.Deadlocked n) numbers = bytes_of "deadlocked" ++ spaced (take n numbers)
answer_text answer.Finished numbers = bytes_of "finished"
answer_text (answer.Event key manual signaled) numbers = bytes_of "none"

-- the line's number, a space, the answer, a newline
unfoldable pub answer_line : ℕ → Answer → List ℕ → List ℕ
answer_line number a numbers = decimal number ++ bytes_of " " ++ answer_text a numbers ++ bytes_of "\n"

-- a thread as a number alone
unfoldable pub bare_answer : Answer → Answer
bare_answer (answer.Refused n) = answer.Refused n
bare_answer answer.Done = answer.Done
bare_answer answer.None = answer.None
bare_answer (answer.Thread n) = answer.Count n
bare_answer (answer.Flag f) = answer.Flag f
bare_answer (answer.Count n) = answer.Count n
bare_answer (answer.Satisfied n) = answer.Satisfied n
bare_answer answer.Timeout = answer.Timeout
bare_answer answer.Blocked = answer.Blocked
bare_answer (answer.Run n) = answer.Run n
bare_answer (answer.AdvanceTo n) = answer.AdvanceTo n
bare_answer (answer.Deadlocked n) = answer.Deadlocked n
bare_answer answer.Finished = answer.Finished
bare_answer (answer.Event key manual signaled) = answer.Event key manual signaled
