-- Timers and DPCs in memory that the guest gives back. Records are walked in their table's order.
use Rattle.std.specs.Prelude.{Bool, cond, true, false, not, ℕ, ◌+◌, List, get_or, set, eqb}
use Rattle.words.specs.Layout as at
use Rattle.tables.specs.Compact.{compacted, compacted_to}
use Rattle.objects.specs.Objects.{objects_base, object_count, dpcs_base, dpc_found}
use Rattle.images.specs.Place.{overlaps}
use Rattle.wakes.specs.Wake.{waits_on}
use Rattle.dpc_table.specs.Table as dpcs
use Rattle.answers.specs.declared.Answer.{Answer}
use Rattle.answers.specs.declared.Answer.TheVariants as answer
use Rattle.answers.specs.Outcome.{Outcome, outcome, unless}
use Rattle.dpcs.specs.Record.{dpc_count}
use Rattle.timers.specs.Record.{is_timer, is_inserted, size_at, dpc_size_at, some_in, each_in}

-- ---- timer release: 23 an overlapped timer is inserted, waited on, or periodic origin of the active work;
-- ---- or an overlapped DPC is busy or named by an inserted timer

-- the work of the DPC at a place came from this timer (origin 1), which is periodic
unfoldable pub periodic_origin : List ℕ → ℕ → ℕ → Bool
periodic_origin w place key =
    cond (eqb (get_or w (place + at.origin) 0) 1) (cond (eqb (get_or w (place + at.origin_timer) 0) key) (not (eqb (get_or w (place + at.origin_periodic) 0) 0)) false) false

unfoldable pub active_origin : List ℕ → ℕ → Bool
active_origin w key =
    let place = dpc_found w (get_or w at.active 0) in
    cond (eqb (get_or w at.active 0) 0) false (cond (eqb place 0) false (periodic_origin w place key))

unfoldable pub timer_stands : List ℕ → ℕ → ℕ → ℕ → Bool
timer_stands w place address size = cond (is_timer w place) (overlaps address size (get_or w (place + at.key) 0) (size_at w place)) false

unfoldable pub is_timer_held : List ℕ → ℕ → Bool
is_timer_held w place =
    let key = get_or w (place + at.key) 0 in
    cond (is_inserted w place) true (cond (waits_on w 2 key) true (active_origin w key))

unfoldable pub timer_held : List ℕ → ℕ → ℕ → ℕ → Bool
timer_held w place address size = cond (timer_stands w place address size) (is_timer_held w place) false

unfoldable pub any_timer_held : List ℕ → ℕ → ℕ → Bool
any_timer_held w address size = some_in (object_count w) (λ place. timer_held w place address size) (objects_base w) 0

unfoldable pub dpc_stands : List ℕ → ℕ → ℕ → ℕ → Bool
dpc_stands w place address size = overlaps address size (get_or w (place + at.address) 0) (dpc_size_at w place)

-- not idle, or an inserted timer has it
unfoldable pub is_dpc_held : List ℕ → ℕ → Bool
is_dpc_held w place = cond (eqb (get_or w (place + at.phase) 0) 0) (not (eqb (get_or w (place + at.named_by) 0) 0)) true

unfoldable pub dpc_held : List ℕ → ℕ → ℕ → ℕ → Bool
dpc_held w place address size = cond (dpc_stands w place address size) (is_dpc_held w place) false

unfoldable pub any_dpc_held : List ℕ → ℕ → ℕ → Bool
any_dpc_held w address size = some_in (dpc_count w) (λ place. dpc_held w place address size) (dpcs_base w) 0

unfoldable pub release_refusal : List ℕ → ℕ → ℕ → ℕ
release_refusal w address size = cond (any_timer_held w address size) 23 (cond (any_dpc_held w address size) 23 0)

unfoldable pub timer_release : List ℕ → ℕ → ℕ → Answer
timer_release w address size = cond (eqb (release_refusal w address size) 0) answer.Done (answer.Refused (release_refusal w address size))

-- ---- retire_timer_backing: 23

-- the words after the record at a place is marked by 9, if it passes the test
unfoldable pub marked : (List ℕ → ℕ → Bool) → ℕ → List ℕ → ℕ → List ℕ
marked test word w place = cond (test w place) (set w (place + word) 9) w

-- a timer in the range marked by kind 9, a DPC by phase 9
unfoldable pub timer_marked : List ℕ → ℕ → ℕ → ℕ → List ℕ
timer_marked w place address size = cond (timer_stands w place address size) (set w (place + at.kind) 9) w

unfoldable pub timers_marked : List ℕ → ℕ → ℕ → List ℕ
timers_marked w address size = each_in (object_count w) (λ v place. timer_marked v place address size) w (objects_base w) 0

-- the objects that are not marked, in their order, and how many there are
unfoldable pub timers_closed : List ℕ → List ℕ
timers_closed w =
    set (compacted w (objects_base w) (object_count w) at.kind 9) at.objects (compacted_to w (objects_base w) (object_count w) at.kind 9)

unfoldable pub dpc_marked : List ℕ → ℕ → ℕ → ℕ → List ℕ
dpc_marked w place address size = cond (dpc_stands w place address size) (set w (place + at.phase) 9) w

unfoldable pub dpcs_marked : List ℕ → ℕ → ℕ → List ℕ
dpcs_marked w address size = each_in (dpc_count w) (λ v place. dpc_marked v place address size) w (dpcs_base w) 0

unfoldable pub timers_retired : List ℕ → ℕ → ℕ → Outcome
timers_retired w address size =
    unless (release_refusal w address size) w (outcome answer.Done (dpcs.closed_up (dpcs_marked (timers_closed (timers_marked w address size)) address size)))
