-- The words after work is put into the DPC queue or taken out of it.
use Rattle.std.specs.Prelude.{ℕ, ◌+◌, ◌%◌, ◌^◌, Bool, List, set, ◌==◌, slice_index, slice_set}
use Rattle.words.specs.Layout as at
use Rattle.chains.specs.Chain.{pushed, removed}
use Rattle.dpcs.specs.Record.{place_at, queue_chain}
use Rattle.dpc_queue.specs.declared.Origin.{Origin}

-- a count raised by one
unfoldable pub raised : List ℕ → ℕ → List ℕ
raised w i = slice_set w i ((slice_index w i + 1) % 2 ^ 64)

-- the origin is 0 for a caller and 1 for a timer
unfoldable pub origin_put : List ℕ → ℕ → Origin → List ℕ
origin_put w place o =
    let timer = set (slice_set w (place + at.origin) o.timer) (place + at.origin_timer) o.address in
    let arm = set (slice_set timer (place + at.origin_arm) o.arm) (place + at.origin_initialization) o.initialization in
    slice_set (slice_set (slice_set arm (place + at.origin_deadline) o.deadline) (place + at.origin_observed) o.observed) (place + at.origin_periodic) o.periodic

-- phase 1 is queued
unfoldable pub work_put : List ℕ → ℕ → ℕ → ℕ → ℕ → List ℕ
work_put w place sequence first second =
    slice_set (slice_set (slice_set (slice_set w (place + at.phase) 1) (place + at.work_sequence) sequence) (place + at.work_argument) first) (place + at.work_argument2) second

unfoldable pub queued : List ℕ → ℕ → Bool
queued w n = slice_index w (place_at w n + at.phase) == 1

-- DPC `n` last in the queue, with new work: an acceptance, whose number is the work's sequence
unfoldable pub accepted : List ℕ → ℕ → ℕ → ℕ → Origin → List ℕ
accepted w n first second o =
    let sequence = (slice_index w at.accepted + 1) % 2 ^ 64 in
    let work = origin_put (work_put w (place_at w n) sequence first second) (place_at w n) o in
    slice_set (pushed work (queue_chain w) n) at.accepted sequence

-- DPC `n` out of the queue and idle: a removal
unfoldable pub withdrawn : List ℕ → ℕ → List ℕ
withdrawn w n = raised (slice_set (removed w (queue_chain w) n) (place_at w n + at.phase) 0) at.removed
