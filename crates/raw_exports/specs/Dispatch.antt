-- What a dispatch gives: its number, the scheduler's words, and both outputs. An output under four words is refused with 27.
use Rattle.std.specs.Prelude.{cond, List, ℕ, ltb, length}
use Rattle.dispatcher.specs.Dispatch.{Dispatched}
use Rattle.exports.specs.SchedulerAnswer.{GivenAll, given_all, refusal_of, answer_in}

unfoldable pub dispatched_by : List ℕ → List ℕ → List ℕ → Dispatched → GivenAll
dispatched_by w waiting out d =
    cond (ltb (length out) 4) (given_all 27 w waiting out) (given_all (refusal_of d.answer) d.words d.output (answer_in out d.answer))
