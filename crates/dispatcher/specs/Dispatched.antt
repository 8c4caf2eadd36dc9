-- Dispatch: the current thread; else the first of the highest ready queue, made current; else the smallest waiting
-- deadline or counted timer due; else finished, or deadlocked with the waiting numbers rising.
use Rattle.std.specs.Prelude.{cond, ℕ, List, get_or, length, eqb, ltb, is_some, unwrap_or}
use Rattle.words.specs.Word.{top_bit}
use Rattle.words.specs.Layout as at
use Rattle.answers.specs.declared.Answer.{Answer}
use Rattle.answers.specs.declared.Answer.TheVariants as answer
use Rattle.dispatcher.specs.declared.outcome.Dispatch.TheVariants as dispatch
use Rattle.dispatcher.specs.declared.outcome.Dispatch.{Dispatch}
use Rattle.dispatcher.specs.Dispatch.{Dispatched, told, ran, listed, listed_to}
use Rattle.dispatcher.specs.TimerDue.{next_time}

unfoldable pub dispatched : List ℕ → List ℕ → Dispatched
dispatched w out =
    let id = get_or w at.current 0 in
    let p = top_bit (get_or w at.ready 0) in
    cond (ltb (length out) (get_or w at.thread_limit 0)) (told (answer.Refused 27) w out)
    (cond (eqb id 0)
    (cond (eqb p 0)
    (cond (is_some (next_time w)) (told (answer.AdvanceTo (unwrap_or (next_time w) 0)) w out)
    (cond (eqb (listed_to w) 0) (told answer.Finished w (listed w out)) (told (answer.Deadlocked (listed_to w)) w (listed w out))))
    (told (ran w p).answer (ran w p).words out))
    (told (answer.Run id) w out))

abbrev pub answered : Dispatch → Answer
answered (dispatch.Run id) = answer.Run id
answered (dispatch.AdvanceTo time) = answer.AdvanceTo time
answered (dispatch.Deadlocked n) = answer.Deadlocked n
answered dispatch.Finished = answer.Finished
