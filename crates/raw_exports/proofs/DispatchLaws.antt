-- What a dispatch gives, from what the call answers.
use mathlib.Core.Path.{◌≡◌, ap}
use mathlib.Core.List.{List}
use Prim.Native.Nat.{ℕ, ◌≤◌, ◌<◌}
use lib.ListN.{length}
use borrow.Author.Tests.{lt-ltb, le-ltb}
use Rattle.answers.specs.declared.Answer.{Answer}
use Rattle.dispatcher.specs.Dispatch.{Dispatched, told}
use Rattle.exports.specs.SchedulerAnswer.{refusal_of, answer_in, given_all}
use Rattle.raw_exports.specs.Dispatch.{dispatched_by}

module _ (w waiting out : List ℕ) where
  pub dispatched-short : (d : Dispatched) → length out < 4 → given_all 27 w waiting out ≡ dispatched_by w waiting out d
  unfolding dispatched_by
  dispatched-short d h = simp (lt-ltb _ _ h)

  pub dispatched-by : (d : Dispatched) (a : Answer) (after numbers : List ℕ) → 4 ≤ length out → told a after numbers ≡ d
      → given_all (refusal_of a) after numbers (answer_in out a) ≡ dispatched_by w waiting out d
  unfolding dispatched_by
  dispatched-by d a after numbers h e =
      simp (le-ltb _ _ h) (ap (λ (x : Dispatched). given_all (refusal_of x.answer) x.words x.output (answer_in out x.answer)) e)
