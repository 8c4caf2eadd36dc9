-- A scheduler's answer in lent words, and what an exported call gives: its number, the scheduler's words, and the output.
use Rattle.std.specs.Prelude.{◌≡◌, Bool, cond, not, ℕ, List, set, length, ltb, eqb}
use Rattle.std.specs.Borrow.{MutBor}
use Rattle.answers.specs.declared.Answer.{Answer}
use Rattle.answers.specs.declared.Answer.TheVariants as answer
use Rattle.answers.specs.Outcome.{Outcome, outcome, bit}
use Rattle.model.specs.Call as call
use Rattle.calls.specs.Called.{called}

-- 0 where the call is accepted
abbrev pub refusal_of : Answer → ℕ
refusal_of (answer.Refused n) = n
refusal_of answer.Done = 0
refusal_of answer.None = 0
refusal_of (answer.Thread n) = 0
refusal_of (answer.Flag b) = 0
refusal_of (answer.Count n) = 0
refusal_of (answer.Satisfied i) = 0
refusal_of answer.Timeout = 0
refusal_of answer.Blocked = 0
refusal_of (answer.Run n) = 0
refusal_of (answer.AdvanceTo t) = 0
refusal_of (answer.Deadlocked n) = 0
refusal_of answer.Finished = 0
refusal_of (answer.Event key manual signaled) = 0

unfoldable pub tagged : List ℕ → ℕ → List ℕ
tagged out t = set out 0 t

unfoldable pub valued : List ℕ → ℕ → ℕ → List ℕ
valued out t v = set (set out 0 t) 1 v

unfoldable pub evented : List ℕ → ℕ → Bool → Bool → List ℕ
evented out key manual signaled = set (set (set (set out 0 13) 1 key) 2 (bit manual)) 3 (bit signaled)

-- a refusal writes nothing
abbrev pub answer_in : List ℕ → Answer → List ℕ
answer_in out (answer.Refused n) = out
answer_in out answer.Done = tagged out 1
answer_in out answer.None = tagged out 2
answer_in out (answer.Thread n) = valued out 3 n
answer_in out (answer.Flag b) = valued out 4 (bit b)
answer_in out (answer.Count n) = valued out 5 n
answer_in out (answer.Satisfied i) = valued out 6 i
answer_in out answer.Timeout = tagged out 7
answer_in out answer.Blocked = tagged out 8
answer_in out (answer.Run n) = valued out 9 n
answer_in out (answer.AdvanceTo t) = valued out 10 t
answer_in out (answer.Deadlocked n) = valued out 11 n
answer_in out answer.Finished = tagged out 12
answer_in out (answer.Event key manual signaled) = evented out key manual signaled

pub record Given : Type 0 where
  pub number : ℕ
  pub words : List ℕ
  pub output : List ℕ

abbrev pub given : ℕ → List ℕ → List ℕ → Given
given n w out = record { number = n; words = w; output = out }

-- a truth value as a number has it: 0 is no
abbrev pub truth : ℕ → Bool
truth n = not (eqb n 0)

-- an output under four words is refused with 27
unfoldable pub changed_by : List ℕ → List ℕ → Outcome → Given
changed_by w out o = cond (ltb (length out) 4) (given 27 w out) (given (refusal_of o.answer) o.words (answer_in out o.answer))

-- what a call does, from the words to its answer and the words after it: `runs` says which of its own answers it may give and what it
-- leaves, and `converts` what that answer is told as
abbrev pub Does : {A : Type 0} → (MutBor (List ℕ) → A → MutBor (List ℕ) → Type 0) → (A → Answer → Type 0) → (List ℕ → Outcome) → Type 0
Does {A} runs converts f = (w : MutBor (List ℕ)) (r : A) (after : MutBor (List ℕ)) (a : Answer) → runs w r after → converts r a → outcome a after.now ≡ f w.now

-- what a read answers: `runs` says which of its own answers it may give, and `converts` what that answer is told as
abbrev pub Reads : {A : Type 0} → (A → Type 0) → (A → Answer → Type 0) → Answer → Type 0
Reads {A} runs converts a = (r : A) (x : Answer) → runs r → converts r x → x ≡ a

-- a dispatch has a second output, for the waiting threads' numbers
pub record GivenAll : Type 0 where
  pub number : ℕ
  pub words : List ℕ
  pub waiting : List ℕ
  pub output : List ℕ

abbrev pub given_all : ℕ → List ℕ → List ℕ → List ℕ → GivenAll
given_all n w waiting out = record { number = n; words = w; waiting = waiting; output = out }

unfoldable pub dispatched_by : List ℕ → List ℕ → List ℕ → GivenAll
dispatched_by w waiting out =
    let d = called w (call.Dispatch (length waiting)) waiting in
    cond (ltb (length out) 4) (given_all 27 w waiting out) (given_all (refusal_of d.answer) d.words d.output (answer_in out d.answer))
