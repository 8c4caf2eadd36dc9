-- The DPCs in form. Phase 0 is idle, 1 queued, 2 running, 3 returning; origin 0 is a caller, 1 a timer.
use Rattle.std.specs.Prelude.{Bool, cond, true, false, not, ℕ, zero, suc, ◌+◌, List, Option, Some, None, get_or, eqb, leb, ltb}
use Rattle.words.specs.Layout as at
use Rattle.words.specs.Layout.{entry_at}
use Rattle.tables.specs.Table.{key_at}
use Rattle.objects.specs.Objects.{objects_base, dpcs_base, object_found, place_of}
use Rattle.images.specs.Place.{architecture_of, dpc_size}
use Rattle.dpcs.specs.Record.{dpc_count}
use Rattle.form_dpc.specs.declared.dpc_records.Counts.{Counts}
use Rattle.form_dpc.specs.Place.{key_rises, located}
use Rattle.form_dpc.specs.Timer.{has_dpc}

unfoldable pub dpc_placed : List ℕ → ℕ → Bool
dpc_placed w place = located w place at.dpc_architecture (dpc_size (architecture_of (get_or w (place + at.dpc_architecture) 0)))

-- the origin names no timer
unfoldable pub names_no_timer : List ℕ → ℕ → Bool
names_no_timer w place =
    cond (eqb (get_or w (place + at.origin_timer) 0) 0)
    (cond (eqb (get_or w (place + at.origin_arm) 0) 0)
    (cond (eqb (get_or w (place + at.origin_initialization) 0) 0)
    (cond (eqb (get_or w (place + at.origin_deadline) 0) 0)
    (cond (eqb (get_or w (place + at.origin_observed) 0) 0) (eqb (get_or w (place + at.origin_periodic) 0) 0) false) false) false) false) false

-- words that say nothing hold 0: the timer's words of work that no timer put into the queue
unfoldable pub origin_passes : List ℕ → ℕ → Bool
origin_passes w place = cond (eqb (get_or w (place + at.origin) 0) 0) (names_no_timer w place) true

-- the flags of its work and its origin, which say nothing while the DPC is idle
unfoldable pub work_passes : List ℕ → ℕ → Bool
work_passes w place =
    cond (eqb (get_or w (place + at.phase) 0) 0) true
    (cond (ltb 1 (get_or w (place + at.origin) 0)) false (cond (origin_passes w place) (leb (get_or w (place + at.origin_periodic) 0) 1) false))

-- document 01: stored numbers pass their checks, of a DPC
unfoldable pub dpc_numbers : List ℕ → ℕ → Bool
dpc_numbers w place = cond (ltb 3 (get_or w (place + at.phase) 0)) false (cond (dpc_placed w place) (work_passes w place) false)

-- document 01: no key stands twice, of a DPC: neither in its own table nor in that of the objects
unfoldable pub address_once : List ℕ → ℕ → ℕ → Bool
address_once w base i = cond (key_rises w base i) (eqb (object_found w (key_at w base i)) 0) false

-- the same, where `j` is how many objects have keys below the address
unfoldable pub address_at : List ℕ → ℕ → ℕ → ℕ → Bool
address_at w base i j =
    cond (key_rises w base i) (cond (leb (get_or w at.objects 0) j) true (not (eqb (key_at w (objects_base w) j) (key_at w base i)))) false

-- document 01: no queued or active work bears a sequence not yet given
unfoldable pub sequence_given : List ℕ → ℕ → Bool
sequence_given w place =
    cond (eqb (get_or w (place + at.phase) 0) 0) true
    (cond (eqb (get_or w (place + at.work_sequence) 0) 0) false (leb (get_or w (place + at.work_sequence) 0) (get_or w at.accepted 0)))

-- whom a DPC says it serves is an inserted timer that has it
unfoldable pub named_rightly : List ℕ → ℕ → Bool
named_rightly w place =
    let key = get_or w (place + at.named_by) 0 in
    cond (eqb key 0) true (cond (eqb (place_of w 2 key) 0) false (has_dpc w (place_of w 2 key) (get_or w place 0)))

unfoldable pub dpc_passes : List ℕ → ℕ → ℕ → Bool
dpc_passes w base i =
    let place = entry_at base i in
    cond (dpc_numbers w place) (cond (address_once w base i) (cond (sequence_given w place) (named_rightly w place) false) false) false

unfoldable pub dpc_passes_at : List ℕ → ℕ → ℕ → ℕ → Bool
dpc_passes_at w base i j =
    let place = entry_at base i in
    cond (dpc_numbers w place) (cond (address_at w base i j) (cond (sequence_given w place) (named_rightly w place) false) false) false

-- the `m` DPCs from place `i` on pass
unfoldable pub dpcs_in : ℕ → List ℕ → ℕ → ℕ → Bool
dpcs_in zero w base i = true
dpcs_in (suc m) w base i = cond (dpc_passes w base i) (dpcs_in m w base (i + 1)) false

unfoldable pub dpcs_pass : List ℕ → Bool
dpcs_pass w = dpcs_in (dpc_count w) w (dpcs_base w) 0

-- ---- how many DPCs have a phase

unfoldable pub has_phase : List ℕ → ℕ → ℕ → Bool
has_phase w place phase = eqb (get_or w (place + at.phase) 0) phase

unfoldable pub phase_one : List ℕ → ℕ → ℕ → ℕ
phase_one w place phase = cond (has_phase w place phase) 1 0

-- of the `m` DPCs from place `i` on
unfoldable pub phase_count_in : ℕ → List ℕ → ℕ → ℕ → ℕ → ℕ
phase_count_in zero w base i phase = 0
phase_count_in (suc m) w base i phase = phase_one w (entry_at base i) phase + phase_count_in m w base (i + 1) phase

unfoldable pub phase_count : List ℕ → ℕ → ℕ
phase_count w phase = phase_count_in (dpc_count w) w (dpcs_base w) 0 phase

-- ---- what one pass says: where every DPC passes, how many are queued, active and returning

unfoldable pub dpcs_seen : List ℕ → Option Counts
dpcs_seen w =
    cond (dpcs_pass w) (Some (record { queued = phase_count w 1; active = phase_count w 2 + phase_count w 3; returning = phase_count w 3 })) None
