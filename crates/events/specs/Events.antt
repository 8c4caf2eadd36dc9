-- The calls on events: what refuses them, their answers, and the words after them. Kind 1 is an event.
use Rattle.std.specs.Prelude.{Bool, cond, not, ℕ, ◌+◌, List, get_or, set, eqb, Option, Some, None}
use Rattle.words.specs.Layout as at
use Rattle.objects.specs.declared.Object.{Object}
use Rattle.objects.specs.Objects.{place_of, collides, full, entered}
use Rattle.wakes.specs.Wake.{awake, waits_on}
use Rattle.answers.specs.declared.Answer.{Answer}
use Rattle.answers.specs.declared.Answer.TheVariants as answer
use Rattle.events.specs.declared.Event.{Event}
use Rattle.answers.specs.Outcome.{Outcome, outcome, unless, bit}

abbrev pub flag : Bool → ℕ
flag b = bit b

unfoldable pub new_event : Bool → Bool → Object
new_event manual signaled = record { kind = 1; manual = flag manual; signaled = flag signaled; owner = 0 }

-- ---- initialize_event: 5; 4; 6 waited on

unfoldable pub event_refusal : List ℕ → ℕ → ℕ
event_refusal w key = cond (collides w 1 key) 5 (cond (eqb key 0) 4 (cond (full w key) 4 (cond (waits_on w 1 key) 6 0)))

unfoldable pub initialized : List ℕ → ℕ → Bool → Bool → Outcome
initialized w key manual signaled = unless (event_refusal w key) w (outcome answer.Done (entered w key (new_event manual signaled)))

-- ---- event_state

-- the record at a place; place 0 is none
unfoldable pub state_at : List ℕ → ℕ → Answer
state_at w place =
    cond (eqb place 0) answer.None (answer.Event (get_or w (place + at.key) 0) (not (eqb (get_or w (place + at.manual) 0) 0)) (not (eqb (get_or w (place + at.signaled) 0) 0)))

-- what a read of an event tells
abbrev pub told : Option Event → Answer
told None = answer.None
told (Some e) = answer.Event e.key e.manual e.signaled

unfoldable pub event_state : List ℕ → ℕ → Answer
event_state w key = state_at w (place_of w 1 key)

-- ---- set_event, reset_event: 2

unfoldable pub signaled_at : List ℕ → ℕ → Bool
signaled_at w place = not (eqb (get_or w (place + at.signaled) 0) 0)

unfoldable pub was_set : List ℕ → ℕ → Outcome
was_set w key =
    let place = place_of w 1 key in
    cond (eqb place 0) (outcome (answer.Refused 2) w) (outcome (answer.Flag (signaled_at w place)) (awake (set w (place + at.signaled) 1)))

unfoldable pub was_reset : List ℕ → ℕ → Outcome
was_reset w key =
    let place = place_of w 1 key in
    cond (eqb place 0) (outcome (answer.Refused 2) w) (outcome (answer.Flag (signaled_at w place)) (set w (place + at.signaled) 0))
