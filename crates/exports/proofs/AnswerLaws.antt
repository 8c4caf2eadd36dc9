-- What an exported call gives, from what the call answers.
use mathlib.Core.Path.{◌≡◌, ap, ◌∙◌, refl}
use mathlib.Core.Bool.{Bool, true, false}
use Rattle.std.specs.Prelude.{is_some, unwrap_or}
use Rattle.std.specs.Bool.{then_some}
use mathlib.Core.List.{List}
use Prim.Native.Nat.{ℕ, ◌≤◌, ◌<◌}
use lib.ListN.{length}
use borrow.Author.Tests.{lt-ltb, le-ltb}
use Rattle.answers.specs.declared.Answer.{Answer}
use Rattle.answers.specs.Outcome.{Outcome, outcome}
use Rattle.dispatcher.specs.Dispatch.{Dispatched, told}
use Rattle.model.specs.Call as call
use Rattle.calls.specs.Called.{called, optional}
use Rattle.exports.specs.SchedulerAnswer.{refusal_of, answer_in, given, changed_by, given_all, dispatched_by, Given, GivenAll}

-- an argument that may be absent, as C lends it: whether it is there, and its value
pub lent-argument : (there : Bool) (n : ℕ) → optional (is_some (then_some there n)) (unwrap_or (then_some there n) 0) ≡ optional there n
lent-argument true n = refl
lent-argument false n = refl

pub given-same : {m n : ℕ} {w a b : List ℕ} → m ≡ n → a ≡ b → given m w a ≡ given n w b
given-same {w = w} p q = λ i. given (p i) w (q i)

module _ (w out : List ℕ) where
  pub changed-short : (o : Outcome) → length out < 4 → given 27 w out ≡ changed_by w out o
  unfolding changed_by
  changed-short o h = simp (lt-ltb _ _ h)

  pub changed-by : (o : Outcome) (a : Answer) (after : List ℕ) → 4 ≤ length out → outcome a after ≡ o
      → given (refusal_of a) after (answer_in out a) ≡ changed_by w out o
  unfolding changed_by
  changed-by o a after h e = simp (le-ltb _ _ h) (ap (λ (x : Outcome). given (refusal_of x.answer) x.words (answer_in out x.answer)) e)

module _ (w waiting out : List ℕ) where
  pub dispatched-short : length out < 4 → given_all 27 w waiting out ≡ dispatched_by w waiting out
  unfolding dispatched_by
  dispatched-short h = simp (lt-ltb _ _ h)

  pub dispatched-by : (a : Answer) (after numbers : List ℕ) → 4 ≤ length out → told a after numbers ≡ called w (call.Dispatch (length waiting)) waiting
      → given_all (refusal_of a) after numbers (answer_in out a) ≡ dispatched_by w waiting out
  unfolding dispatched_by
  dispatched-by a after numbers h e =
      simp (le-ltb _ _ h) (ap (λ (x : Dispatched). given_all (refusal_of x.answer) x.words x.output (answer_in out x.answer)) e)
