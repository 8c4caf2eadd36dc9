-- What the expiry of due timers does.
use Rattle.std.specs.Prelude.{ℕ, ◌+◌, cond, List, [], ◌∷◌, ◌==◌, slice_index, slice_index_or, slice_set, Option, Some, None}
use Rattle.words.specs.Layout as at
use Rattle.words.specs.Layout.{entry_at}
use Rattle.dpcs.specs.Record.{number_of, place_at}
use Rattle.dpc_queue.specs.Queue.{raised, accepted}
use Rattle.dpc_queue.specs.declared.Origin.{Origin}
use Rattle.expiry.specs.Next.{later_due}

-- the number of the DPC of the timer whose record stands at `place`, if it has one
unfoldable pub dpc_of : List ℕ → ℕ → Option ℕ
dpc_of w place =
    let dpc = slice_index_or w (place + at.timer_dpc) 0 in
    cond (dpc == 0) None (Some (number_of w dpc))

unfoldable pub flag : ℕ → ℕ
flag n = cond (n == 0) 0 1

-- the work of the timer whose record stands at `place`, seen at `time`
unfoldable pub origin_of : List ℕ → ℕ → ℕ → Origin
origin_of w place time =
    record { timer = 1; address = slice_index w (place + at.key); arm = slice_index w (place + at.arm); initialization = slice_index w (place + at.initialization); deadline = slice_index w (place + at.due); observed = time; periodic = flag (slice_index w (place + at.period)) }

-- document 01: expiry puts work last, an acceptance, or at queued work counts a duplicate, first arguments kept
unfoldable pub queued_for : List ℕ → ℕ → ℕ → ℕ → List ℕ
queued_for w n place time =
    cond (slice_index w (place_at w n + at.phase) == 0) (accepted w n (slice_index w at.timer_argument) (slice_index w at.timer_argument2) (origin_of w place time)) (raised w at.duplicates)

unfoldable pub work_queued : List ℕ → ℕ → ℕ → List ℕ
work_queued w place time =
    let dpc = slice_index_or w (place + at.timer_dpc) 0 in
    cond (dpc == 0) w (queued_for w (number_of w dpc) place time)

-- no inserted timer has the DPC of this one any more
unfoldable pub unnamed : List ℕ → ℕ → List ℕ
unnamed w place =
    let dpc = slice_index_or w (place + at.timer_dpc) 0 in
    cond (dpc == 0) w (slice_set w (place_at w (number_of w dpc) + at.named_by) 0)

-- a periodic timer is due again; another is no longer inserted
unfoldable pub settled : List ℕ → ℕ → ℕ → List ℕ
settled w place time =
    let period = slice_index_or w (place + at.period) 0 in
    cond (period == 0) (unnamed (slice_set w (place + at.inserted) 0) place) (slice_set w (place + at.due) (later_due (slice_index w (place + at.due)) time period))

unfoldable pub expired_one : List ℕ → ℕ → ℕ → List ℕ
expired_one w place time = settled (slice_set (work_queued w place time) (place + at.signaled) 1) place time

-- one after another
unfoldable pub expired_list : List ℕ → ℕ → List ℕ → ℕ → List ℕ
expired_list w base [] time = w
expired_list w base (i ∷ is) time = expired_list (expired_one w (entry_at base i) time) base is time
