-- Timers and DPCs made, or made anew: what refuses it, and the words after it. Kind 1 is an event, kind 2 a timer, any other a mutex.
use Rattle.std.specs.Prelude.{Bool, cond, true, false, ℕ, ◌+◌, List, get_or, set, eqb, leb}
use Rattle.words.specs.Layout as at
use Rattle.arch.specs.declared.Architecture.{Architecture}
use Rattle.objects.specs.declared.Object.{Object}
use Rattle.objects.specs.Objects.{objects_base, object_count, dpcs_base, object_found, dpc_found, place_of, collides, full, entered}
use Rattle.images.specs.declared.TimerBacking.{TimerBacking}
use Rattle.images.specs.Place.{architecture_number, backing_kind, backing_base, backing_size, backing_mapped, timer_size, dpc_size, overlaps, location_refusal}
use Rattle.wakes.specs.Wake.{waits_on}
use Rattle.dpc_table.specs.declared.NewDpc.{NewDpc}
use Rattle.dpcs.specs.Named.{is_named}
use Rattle.dpc_table.specs.Table as dpcs
use Rattle.answers.specs.declared.Answer.TheVariants as answer
use Rattle.answers.specs.Outcome.{Outcome, outcome, unless, bit}
use Rattle.dpcs.specs.Record.{dpc_count}
use Rattle.timers.specs.Record.{is_inserted, size_at, dpc_size_at, busy, some_in}

-- ---- 15 location; 16 overlap with another timer, another DPC, an event (24 bytes) or a mutex (56 bytes)

unfoldable pub object_overlaps : List ℕ → ℕ → ℕ → ℕ → Bool
object_overlaps w place address size =
    let key = get_or w (place + at.key) 0 in
    let kind = get_or w (place + at.kind) 0 in
    cond (eqb kind 2) (cond (eqb key address) false (overlaps address size key (size_at w place)))
    (cond (eqb kind 1) (overlaps address size key 24) (overlaps address size key 56))

unfoldable pub any_object : List ℕ → ℕ → ℕ → Bool
any_object w address size = some_in (object_count w) (λ place. object_overlaps w place address size) (objects_base w) 0

unfoldable pub dpc_overlaps : List ℕ → ℕ → ℕ → ℕ → Bool
dpc_overlaps w place address size =
    let key = get_or w (place + at.address) 0 in
    cond (eqb key address) false (overlaps address size key (dpc_size_at w place))

unfoldable pub any_dpc : List ℕ → ℕ → ℕ → Bool
any_dpc w address size = some_in (dpc_count w) (λ place. dpc_overlaps w place address size) (dpcs_base w) 0

unfoldable pub range_refusal : List ℕ → ℕ → ℕ → ℕ
range_refusal w address size = cond (any_object w address size) 16 (cond (any_dpc w address size) 16 0)

unfoldable pub place_refusal : List ℕ → ℕ → ℕ → Architecture → TimerBacking → ℕ
place_refusal w address size a b = cond (eqb (location_refusal address size a b) 0) (range_refusal w address size) (location_refusal address size a b)

-- ---- initialize_timer: 5; 4 (limit only); 14 after 65,536 successes; 6 inserted or waited on; 15; 16

unfoldable pub in_use : List ℕ → ℕ → Bool
in_use w address = cond (waits_on w 2 address) true (cond (eqb (place_of w 2 address) 0) false (is_inserted w (place_of w 2 address)))

unfoldable pub timer_refusal : List ℕ → ℕ → Architecture → TimerBacking → ℕ
timer_refusal w address a b =
    cond (collides w 2 address) 5
    (cond (full w address) 4
    (cond (leb 65536 (get_or w at.timer_initializations 0)) 14
    (cond (in_use w address) 6
    (place_refusal w address (timer_size a) a b))))

unfoldable pub new_timer : Bool → Object
new_timer manual = record { kind = 2; manual = bit manual; signaled = 0; owner = 0 }

-- not inserted, due 0, no period, no DPC, not absolute, arm count 0
unfoldable pub never_set : List ℕ → ℕ → List ℕ
never_set w place = set (set (set (set (set (set w (place + at.inserted) 0) (place + at.due) 0) (place + at.period) 0) (place + at.timer_dpc) 0) (place + at.absolute) 0) (place + at.arm) 0

unfoldable pub located : List ℕ → ℕ → Architecture → TimerBacking → List ℕ
located w place a b =
    set (set (set (set (set w (place + at.timer_architecture) (architecture_number a)) (place + at.timer_backing) (backing_kind b)) (place + at.timer_base) (backing_base b)) (place + at.timer_size) (backing_size b)) (place + at.timer_mapped) (backing_mapped b)

-- the words behind those of every object
unfoldable pub record_put : List ℕ → ℕ → Architecture → TimerBacking → ℕ → List ℕ
record_put w address a b n =
    let place = place_of w 2 address in
    set (located (never_set w place) place a b) (place + at.initialization) n

unfoldable pub timer_initialized : List ℕ → ℕ → Architecture → TimerBacking → Bool → Outcome
timer_initialized w address a b manual =
    let n = get_or w at.timer_initializations 0 + 1 in
    unless (timer_refusal w address a b) w
    (outcome answer.Done (set (record_put (entered w address (new_timer manual)) address a b n) at.timer_initializations n))

-- ---- initialize_dpc: 5; 4 DPC table full; 14; 19 busy; 19 named by an inserted timer; 15; 16

-- the address is new, and the table is at its limit
unfoldable pub dpc_full : List ℕ → ℕ → Bool
dpc_full w address = cond (eqb (dpc_found w address) 0) (leb (get_or w at.dpc_limit 0) (get_or w at.dpcs 0)) false

unfoldable pub dpc_refusal : List ℕ → ℕ → Architecture → TimerBacking → ℕ
dpc_refusal w address a b =
    cond (eqb (object_found w address) 0)
    (cond (dpc_full w address) 4
    (cond (leb 65536 (get_or w at.dpc_initializations 0)) 14
    (cond (busy w address) 19
    (cond (is_named w address) 19
    (place_refusal w address (dpc_size a) a b)))))
    5

unfoldable pub new_dpc : Architecture → TimerBacking → ℕ → ℕ → NewDpc
new_dpc a b routine context =
    record {
      architecture = architecture_number a;
      backing = backing_kind b;
      base = backing_base b;
      size = backing_size b;
      mapped = backing_mapped b;
      routine = routine;
      context = context;
    }

unfoldable pub dpc_initialized : List ℕ → ℕ → Architecture → TimerBacking → ℕ → ℕ → Outcome
dpc_initialized w address a b routine context =
    let n = get_or w at.dpc_initializations 0 + 1 in
    unless (dpc_refusal w address a b) w
    (outcome answer.Done (set (dpcs.entered w address (new_dpc a b routine context)) at.dpc_initializations n))
