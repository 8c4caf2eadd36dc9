-- A DPC's record: its number, its place, and what its words say.
use Rattle.std.specs.Prelude.{cond, not, ℕ, ◌+◌, ◌-◌, List, get_or, eqb, leb, ltb}
use Rattle.words.specs.Layout as at
use Rattle.words.specs.Layout.{entry_at}
use Rattle.tables.specs.Table.{key_at, position}
use Rattle.objects.specs.Objects.{dpcs_base}
use Rattle.chains.specs.declared.Chain.{Chain}
use Rattle.images.specs.declared.DpcOrigin.{DpcOrigin}
use Rattle.images.specs.declared.DpcOrigin.TheVariants as origin
use Rattle.images.specs.declared.DpcWork.{DpcWork}
use Rattle.images.specs.declared.DpcPhase.{DpcPhase}
use Rattle.images.specs.declared.DpcPhase.TheVariants as phase
use Rattle.images.specs.declared.TimerBacking.{TimerBacking}
use Rattle.images.specs.declared.Dpc.{Dpc}
use Rattle.images.specs.Place.{architecture_of, backing_of}

-- how many DPCs there are, at most 4096
unfoldable pub dpc_count : List ℕ → ℕ
dpc_count w = cond (leb (get_or w at.dpcs 0) 4096) (get_or w at.dpcs 0) 4096

-- the position of the DPC at the address and one more; 0 where there is none
unfoldable pub number_of : List ℕ → ℕ → ℕ
number_of w address =
    let n = get_or w at.dpcs 0 in
    let i = position w (dpcs_base w) n address in
    cond (leb n i) 0 (cond (eqb (key_at w (dpcs_base w) i) address) (i + 1) 0)

unfoldable pub place_at : List ℕ → ℕ → ℕ
place_at w n = cond (eqb n 0) at.unused (cond (ltb 4096 n) at.unused (entry_at (dpcs_base w) (n - 1)))

-- the DPC queue, by numbers of DPCs
unfoldable pub queue_chain : List ℕ → Chain
queue_chain w = record { first = at.queue_first; last = at.queue_last; link = dpcs_base w - at.queue_link_before; stride = at.record_size }

-- ---- what the words of a record say

unfoldable pub timer_origin : List ℕ → ℕ → DpcOrigin
timer_origin w place = origin.Timer (get_or w (place + at.origin_timer) 0) (get_or w (place + at.origin_arm) 0) (get_or w (place + at.origin_initialization) 0) (get_or w (place + at.origin_deadline) 0) (get_or w (place + at.origin_observed) 0) (not (eqb (get_or w (place + at.origin_periodic) 0) 0))

unfoldable pub origin_at : List ℕ → ℕ → DpcOrigin
origin_at w place = cond (eqb (get_or w (place + at.origin) 0) 0) origin.Caller (timer_origin w place)

unfoldable pub work_at : List ℕ → ℕ → DpcWork
work_at w place = record { sequence = get_or w (place + at.work_sequence) 0; first = get_or w (place + at.work_argument) 0; second = get_or w (place + at.work_argument2) 0; origin = origin_at w place }

unfoldable pub backing_at : List ℕ → ℕ → TimerBacking
backing_at w place = backing_of (get_or w (place + at.dpc_backing) 0) (get_or w (place + at.dpc_base) 0) (get_or w (place + at.dpc_size) 0) (get_or w (place + at.dpc_mapped) 0)

-- the phase: 0 idle, 1 queued, 2 running, 3 returning
unfoldable pub phase_at : List ℕ → ℕ → DpcPhase
phase_at w place =
    cond (eqb (get_or w (place + at.phase) 0) 0) phase.Idle
    (cond (eqb (get_or w (place + at.phase) 0) 1) (phase.Queued (work_at w place))
    (cond (eqb (get_or w (place + at.phase) 0) 2) (phase.Running (work_at w place))
    (phase.Returning (work_at w place))))

unfoldable pub dpc_at : List ℕ → ℕ → Dpc
dpc_at w place = record { address = get_or w place 0; architecture = architecture_of (get_or w (place + at.dpc_architecture) 0); backing = backing_at w place; routine = get_or w (place + at.routine) 0; context = get_or w (place + at.context) 0; phase = phase_at w place }
