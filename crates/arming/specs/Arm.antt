-- Timers set and cancelled: what refuses it, the answers, and the words after it.
use Rattle.std.specs.Prelude.{Bool, cond, true, false, not, ℕ, ◌+◌, List, get_or, set, eqb, ltb, ℤ}
use Rattle.words.specs.Layout as at
use Rattle.objects.specs.Objects.{place_of, dpc_found}
use Rattle.dpcs.specs.Record.{number_of}
use Rattle.dpc_queue.specs.Queue.{withdrawn}
use Rattle.answers.specs.declared.Answer.TheVariants as answer
use Rattle.answers.specs.Outcome.{Outcome, outcome, unless, bit}
use Rattle.arming.specs.declared.Setting.{Setting}
use Rattle.arming.specs.Signed.{negative, whole, magnitude}
use Rattle.timers.specs.Record.{is_inserted, busy}

abbrev pub largest : ℕ
largest = 18446744073709551615

-- ---- set_timer: 17 negative period; unless the DPC is 0, 2 for it, 18 another inserted timer has it, 19 it is busy;
-- ---- 19 the timer's former DPC busy; 2 timer; 24 arm count at its end

-- another inserted timer has the DPC
unfoldable pub named_elsewhere : List ℕ → ℕ → ℕ → Bool
named_elsewhere w place address = cond (eqb (get_or w (place + at.named_by) 0) 0) false (not (eqb (get_or w (place + at.named_by) 0) address))

unfoldable pub new_refusal : List ℕ → ℕ → ℕ → ℕ
new_refusal w address dpc =
    cond (eqb dpc 0) 0
    (cond (eqb (dpc_found w dpc) 0) 2
    (cond (named_elsewhere w (dpc_found w dpc) address) 18
    (cond (busy w dpc) 19 0)))

-- the DPC that the timer had last is busy
unfoldable pub former_busy : List ℕ → ℕ → Bool
former_busy w place = cond (eqb place 0) false (cond (eqb (get_or w (place + at.timer_dpc) 0) 0) false (busy w (get_or w (place + at.timer_dpc) 0)))

unfoldable pub set_refusal : List ℕ → ℕ → ℤ → ℕ → ℕ
set_refusal w address period dpc =
    let place = place_of w 2 address in
    cond (negative period) 17
    (cond (eqb (new_refusal w address dpc) 0)
    (cond (former_busy w place) 19
    (cond (eqb place 0) 2
    (cond (eqb (get_or w (place + at.arm) 0) largest) 24 0)))
    (new_refusal w address dpc))

-- a known DPC had by the inserted timer `holder`, or by none where that is 0
unfoldable pub named : List ℕ → ℕ → ℕ → List ℕ
named w dpc holder = cond (eqb dpc 0) w (cond (eqb (dpc_found w dpc) 0) w (set w (dpc_found w dpc + at.named_by) holder))

-- the DPC of an inserted timer had by none
unfoldable pub unnamed : List ℕ → ℕ → List ℕ
unnamed w place = cond (is_inserted w place) (named w (get_or w (place + at.timer_dpc) 0) 0) w

-- what a timer is set to, its arm count one more
unfoldable pub setting_of : List ℕ → ℕ → ℕ → Bool → ℤ → ℕ → Setting
setting_of w place due absolute period dpc =
    record { due = due; absolute = bit absolute; period = whole period; dpc = dpc; arm = get_or w (place + at.arm) 0 + 1 }

-- not signaled, inserted, and what it is set to
unfoldable pub setting_put : List ℕ → ℕ → Setting → List ℕ
setting_put w place s =
    set (set (set (set (set (set (set w (place + at.signaled) 0) (place + at.inserted) 1) (place + at.due) s.due) (place + at.period) s.period) (place + at.timer_dpc) s.dpc) (place + at.absolute) s.absolute) (place + at.arm) s.arm

unfoldable pub armed : List ℕ → ℕ → ℕ → Setting → List ℕ
armed w place address s = named (setting_put (unnamed w place) place s) s.dpc address

-- the answer: whether it was inserted
unfoldable pub timer_set : List ℕ → ℕ → ℕ → Bool → ℤ → ℕ → Outcome
timer_set w address due absolute period dpc =
    let place = place_of w 2 address in
    unless (set_refusal w address period dpc) w
    (outcome (answer.Flag (is_inserted w place)) (armed w place address (setting_of w place due absolute period dpc)))

-- ---- cancel_timer: 2

unfoldable pub same_word : List ℕ → ℕ → ℕ → Bool
same_word w i j = eqb (get_or w i 0) (get_or w j 0)

-- the DPC's work bears this timer's key, arm and initialization
unfoldable pub own_origin : List ℕ → ℕ → ℕ → Bool
own_origin w place dpc =
    cond (same_word w (dpc + at.origin_timer) (place + at.key)) (cond (same_word w (dpc + at.origin_arm) (place + at.arm)) (same_word w (dpc + at.origin_initialization) (place + at.initialization)) false) false

-- it is queued (phase 1), by a timer (origin 1), and by this one
unfoldable pub own_work : List ℕ → ℕ → ℕ → Bool
own_work w place dpc = cond (eqb (get_or w (dpc + at.phase) 0) 1) (cond (eqb (get_or w (dpc + at.origin) 0) 1) (own_origin w place dpc) false) false

-- inserted under a policy, with a DPC whose work is its own
unfoldable pub own_queued : List ℕ → ℕ → Bool
own_queued w place =
    let dpc = get_or w (place + at.timer_dpc) 0 in
    cond (is_inserted w place)
    (cond (eqb (get_or w at.policy 0) 0) false
    (cond (eqb dpc 0) false
    (cond (eqb (dpc_found w dpc) 0) false
    (own_work w place (dpc_found w dpc)))))
    false

unfoldable pub withdrawn_own : List ℕ → ℕ → Bool → List ℕ
withdrawn_own w place own = cond own (withdrawn w (number_of w (get_or w (place + at.timer_dpc) 0))) w

unfoldable pub disarmed : List ℕ → ℕ → List ℕ
disarmed w place = set (unnamed w place) (place + at.inserted) 0

-- the answer: whether it was inserted, be its work queued or not
unfoldable pub timer_cancelled : List ℕ → ℕ → Outcome
timer_cancelled w address =
    let place = place_of w 2 address in
    cond (eqb place 0) (outcome (answer.Refused 2) w)
    (outcome (answer.Flag (is_inserted w place)) (disarmed (withdrawn_own w place (own_queued w place)) place))

-- ---- a signed due: 17; 13 past the largest number; then set_timer

-- negative: the time and its magnitude, relative; else itself, absolute
unfoldable pub set_from : List ℕ → ℕ → ℤ → ℤ → ℕ → Outcome
set_from w address due period dpc =
    let relative = get_or w at.now 0 + magnitude due in
    cond (negative due)
    (cond (ltb largest relative) (outcome (answer.Refused 13) w) (timer_set w address relative false period dpc))
    (timer_set w address (whole due) true period dpc)

unfoldable pub timer_set_signed : List ℕ → ℕ → ℤ → ℤ → ℕ → Outcome
timer_set_signed w address due period dpc = cond (negative period) (outcome (answer.Refused 17) w) (set_from w address due period dpc)
