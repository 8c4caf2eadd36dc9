-- An object by its entry in the table, from 0 on: none where it is of another kind, 2 past the last.
use Rattle.std.specs.Prelude.{Bool, cond, List, ℕ, leb}
use Rattle.words.specs.Layout.{entry_at}
use Rattle.objects.specs.Objects.{objects_base, object_count}
use Rattle.answers.specs.declared.Answer.{Answer}
use Rattle.answers.specs.declared.Answer.TheVariants as answer
use Rattle.timers.specs.TimerAnswer.{TimerAnswer}
use Rattle.timers.specs.TimerAnswer as timer
use Rattle.timers.specs.Record.{timer_at, is_timer}
use Rattle.events.specs.Events.{state_at}
use Rattle.event_release.specs.Release as release

abbrev pub is_event : List ℕ → ℕ → Bool
is_event w place = release.is_event w place

unfoldable pub event_entry : List ℕ → ℕ → Answer
event_entry w i =
    let place = entry_at (objects_base w) i in
    cond (leb (object_count w) i) (answer.Refused 2) (cond (is_event w place) (state_at w place) answer.None)

unfoldable pub timer_entry : List ℕ → ℕ → TimerAnswer
timer_entry w i =
    let place = entry_at (objects_base w) i in
    cond (leb (object_count w) i) (timer.Refused 2) (cond (is_timer w place) (timer.Timer (timer_at w place)) timer.None)
