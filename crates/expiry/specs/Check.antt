-- What refuses an advance.
use Rattle.std.specs.Prelude.{ℕ, ◌+◌, ◌%◌, ◌^◌, Bool, false, cond, List, [], ◌∷◌, ◌==◌, nat_le, slice_index, slice_index_or}
use Rattle.words.specs.Layout as at
use Rattle.words.specs.Layout.{entry_at}
use Rattle.dpcs.specs.Record.{number_of, place_at}
use Rattle.expiry.specs.Next.{passes}
use Rattle.expiry.specs.declared.check.Counts.{Counts}

-- the queued work is of the same timer, arm and initialization
unfoldable pub is_own : List ℕ → ℕ → ℕ → Bool
is_own w p place =
    cond (slice_index w (p + at.origin) == 1)
    (cond (slice_index w (p + at.origin_timer) == slice_index w (place + at.key))
    (cond (slice_index w (p + at.origin_arm) == slice_index w (place + at.arm))
    (slice_index w (p + at.origin_initialization) == slice_index w (place + at.initialization)) false) false) false

-- document 01: 14, after 65,536 acceptances
unfoldable pub idle_refusal : Counts → ℕ
idle_refusal c = cond (nat_le 65536 c.accepted) 14 0

-- document 01: its own queued work counts a duplicate, 24 at the end; other queued work 21
unfoldable pub queued_refusal : List ℕ → ℕ → ℕ → Counts → ℕ
queued_refusal w p place c = cond (is_own w p place) (cond (nat_le 18446744073709551615 c.duplicates) 24 0) 21

-- document 01: running or returning 19
unfoldable pub work_refusal : List ℕ → ℕ → ℕ → Counts → ℕ
work_refusal w p place c =
    let phase = slice_index_or w (p + at.phase) 0 in
    cond (phase == 0) (idle_refusal c) (cond (phase == 1) (queued_refusal w p place c) 19)

unfoldable pub timer_passes : List ℕ → ℕ → ℕ → Bool
timer_passes w place time = passes (slice_index w (place + at.due)) time (slice_index w (place + at.period))

-- document 01, without a policy: 20 for one with a DPC, else 13 if the next due passes 2^64 − 1
unfoldable pub plain_refusal : List ℕ → ℕ → ℕ → ℕ
plain_refusal w place time = cond (slice_index w (place + at.timer_dpc) == 0) (cond (timer_passes w place time) 13 0) 20

-- document 01, with a policy: 13, then what its work meets
unfoldable pub queuing_refusal : List ℕ → ℕ → ℕ → Counts → ℕ
queuing_refusal w place time c =
    let dpc = slice_index_or w (place + at.timer_dpc) 0 in
    cond (timer_passes w place time) 13 (cond (dpc == 0) 0 (work_refusal w (place_at w (number_of w dpc)) place c))

unfoldable pub one_refusal : List ℕ → ℕ → ℕ → Counts → ℕ
one_refusal w place time c = cond (slice_index w at.policy == 0) (plain_refusal w place time) (queuing_refusal w place time c)

-- ---- along a list

abbrev pub counts : ℕ → ℕ → Counts
counts a d = record { accepted = a; duplicates = d }

unfoldable pub counted_after : List ℕ → ℕ → Counts → Counts
counted_after w place c =
    let dpc = slice_index_or w (place + at.timer_dpc) 0 in
    cond (dpc == 0) c
    (cond (slice_index w (place_at w (number_of w dpc) + at.phase) == 0)
    (counts ((c.accepted + 1) % 2 ^ 64) c.duplicates)
    (counts c.accepted ((c.duplicates + 1) % 2 ^ 64)))

unfoldable pub counts_at : List ℕ → Counts
counts_at w = counts (slice_index w at.accepted) (slice_index w at.duplicates)

-- the first refusal, counting what the same advance has accepted and duplicated before it
unfoldable pub refusal_in : List ℕ → ℕ → List ℕ → ℕ → Counts → ℕ
refusal_in w base [] time c = 0
refusal_in w base (i ∷ is) time c =
    let r = one_refusal w (entry_at base i) time c in
    cond (r == 0) (refusal_in w base is time (counted_after w (entry_at base i) c)) r

unfoldable pub list_refusal : List ℕ → ℕ → List ℕ → ℕ → ℕ
list_refusal w base list time = refusal_in w base list time (counts_at w)
