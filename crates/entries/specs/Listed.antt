-- The lists that a walk of the entries gives.
use Rattle.std.specs.Prelude.{List, [], ◌∷◌, ℕ, zero, suc, ◌+◌}
use Rattle.answers.specs.declared.Answer.{Answer}
use Rattle.answers.specs.declared.Answer.TheVariants as answer
use Rattle.timers.specs.TimerAnswer.{TimerAnswer}
use Rattle.timers.specs.TimerAnswer as timer
use Rattle.entries.specs.Entries.{event_entry, timer_entry}

-- what an answer says of its entry: there is none, it is of another kind, or it is this
pub data Seen : Type 0 where
  past another this : Seen

module _ {A : Type 0} where
  abbrev pub added : Seen → A → List A → List A
  added past x l = []
  added another x l = l
  added this x l = x ∷ l

  -- from entry `i` on, until there is none, and at most `m` entries
  abbrev pub walked : (A → Seen) → (ℕ → A) → ℕ → ℕ → List A
  walked seen entry zero i = []
  walked seen entry (suc m) i = added (seen (entry i)) (entry i) (walked seen entry m (i + 1))

  -- what stands at position `n` of a list, or `none` past its end
  abbrev pub nth : A → List A → ℕ → A
  nth none [] n = none
  nth none (x ∷ l) zero = x
  nth none (x ∷ l) (suc n) = nth none l n

abbrev pub seen_event : Answer → Seen
seen_event (answer.Event key manual signaled) = this
seen_event (answer.Refused n) = past
seen_event answer.Done = another
seen_event answer.None = another
seen_event (answer.Thread n) = another
seen_event (answer.Flag b) = another
seen_event (answer.Count n) = another
seen_event (answer.Satisfied n) = another
seen_event answer.Timeout = another
seen_event answer.Blocked = another
seen_event (answer.Run n) = another
seen_event (answer.AdvanceTo n) = another
seen_event (answer.Deadlocked n) = another
seen_event answer.Finished = another

abbrev pub seen_timer : TimerAnswer → Seen
seen_timer (timer.Timer t) = this
seen_timer (timer.Refused n) = past
seen_timer timer.None = another

-- all events, and all timers, that at most `m` entries have
abbrev pub events_walked : List ℕ → ℕ → List Answer
events_walked w m = walked seen_event (event_entry w) m 0

abbrev pub timers_walked : List ℕ → ℕ → List TimerAnswer
timers_walked w m = walked seen_timer (timer_entry w) m 0
