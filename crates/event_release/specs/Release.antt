-- The events by position, and those in memory that the guest gives back. Records are walked in the table's order, by rising key.
use Rattle.std.specs.Prelude.{Bool, cond, true, false, ℕ, zero, suc, ◌+◌, ◌-◌, List, get_or, set, eqb, leb, ltb}
use Rattle.words.specs.Layout as at
use Rattle.words.specs.Layout.{entry_at}
use Rattle.tables.specs.Compact.{moved}
use Rattle.objects.specs.Objects.{objects_base, object_count}
use Rattle.wakes.specs.Wake.{waits_on}
use Rattle.answers.specs.declared.Answer.{Answer}
use Rattle.answers.specs.declared.Answer.TheVariants as answer
use Rattle.answers.specs.Outcome.{Outcome, outcome, unless}
use Rattle.events.specs.Events.{state_at}

-- the record at a place is an event's
unfoldable pub is_event : List ℕ → ℕ → Bool
is_event w place = eqb (get_or w (place + at.kind) 0) 1

-- ---- event_states

-- an event, where none of `n` events is left to pass
unfoldable pub is_nth : List ℕ → ℕ → ℕ → Bool
is_nth w place n = cond (is_event w place) (eqb n 0) false

-- how many are left to pass after it
unfoldable pub passed_to : List ℕ → ℕ → ℕ → ℕ
passed_to w place n = cond (is_event w place) (n - 1) n

-- where the event stands that has `n` events before it, of `m` records from record `i` on; 0 where there is none
unfoldable pub nth_in : ℕ → List ℕ → ℕ → ℕ → ℕ → ℕ
nth_in zero w base i n = 0
nth_in (suc m) w base i n =
    cond (is_nth w (entry_at base i) n) (entry_at base i) (nth_in m w base (i + 1) (passed_to w (entry_at base i) n))

unfoldable pub nth_event : List ℕ → ℕ → ℕ
nth_event w n = nth_in (object_count w) w (objects_base w) 0 n

unfoldable pub event_states : List ℕ → ℕ → Answer
event_states w n = state_at w (nth_event w n)

-- ---- require_event_release: 23

abbrev pub largest : ℕ
largest = 18446744073709551615

-- the event's end passes the largest number; or it overlaps the memory from `lo` to `hi`, and is split or waited on
unfoldable pub key_held : List ℕ → ℕ → ℕ → ℕ → ℕ → Bool
key_held w key lo hi span =
    cond (ltb largest (key + span)) true
    (cond (leb hi key) false
    (cond (leb (key + span) lo) false
    (cond (ltb key lo) true
    (cond (ltb hi (key + span)) true
    (waits_on w 1 key)))))

unfoldable pub is_held : List ℕ → ℕ → ℕ → ℕ → ℕ → Bool
is_held w place lo hi span = cond (is_event w place) (key_held w (get_or w (place + at.key) 0) lo hi span) false

-- one of `m` records from record `i` on
unfoldable pub held_in : ℕ → List ℕ → ℕ → ℕ → ℕ → ℕ → ℕ → Bool
held_in zero w base i lo hi span = false
held_in (suc m) w base i lo hi span = cond (is_held w (entry_at base i) lo hi span) true (held_in m w base (i + 1) lo hi span)

unfoldable pub any_held : List ℕ → ℕ → ℕ → ℕ → Bool
any_held w lo hi span = held_in (object_count w) w (objects_base w) 0 lo hi span

unfoldable pub release_refusal : List ℕ → ℕ → ℕ → ℕ → ℕ
release_refusal w base size span =
    cond (ltb largest (base + size)) 23 (cond (eqb size 0) 23 (cond (eqb span 0) 23 (cond (any_held w base (base + size) span) 23 0)))

unfoldable pub release_answer : List ℕ → ℕ → ℕ → ℕ → Answer
release_answer w base size span = cond (eqb (release_refusal w base size span) 0) answer.Done (answer.Refused (release_refusal w base size span))

-- ---- retire_event_backing: 23

-- an event whose key is from `lo` on and below `hi`
unfoldable pub is_retired : List ℕ → ℕ → ℕ → ℕ → Bool
is_retired w place lo hi = cond (is_event w place) (cond (ltb (get_or w (place + at.key) 0) lo) false (ltb (get_or w (place + at.key) 0) hi)) false

-- `m` records from record `i` on, of which those that stay go to `j` and on; then the count
unfoldable pub retired_in : ℕ → List ℕ → ℕ → ℕ → ℕ → ℕ → ℕ → List ℕ
retired_in zero w base i j lo hi = set w at.objects j
retired_in (suc m) w base i j lo hi =
    cond (is_retired w (entry_at base i) lo hi) (retired_in m w base (i + 1) j lo hi) (retired_in m (moved w base i j) base (i + 1) (j + 1) lo hi)

unfoldable pub retired : List ℕ → ℕ → ℕ → List ℕ
retired w lo hi = retired_in (object_count w) w (objects_base w) 0 0 lo hi

unfoldable pub events_retired : List ℕ → ℕ → ℕ → ℕ → Outcome
events_retired w base size span = unless (release_refusal w base size span) w (outcome answer.Done (retired w base (base + size)))
