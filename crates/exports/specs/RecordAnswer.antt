-- A record that a call answers, in lent words: a tag, and the record's values behind it.
use Rattle.std.specs.Prelude.{Bool, ℕ, ◌+◌, List, set, Result, Ok, Err}
use Rattle.answers.specs.Outcome.{bit}
use Rattle.arch.specs.declared.Architecture.{Architecture}
use Rattle.images.specs.Place.{architecture_number, backing_kind, backing_base, backing_size, backing_mapped}
use Rattle.images.specs.declared.TimerBacking.{TimerBacking}
use Rattle.images.specs.declared.Timer.{Timer}
use Rattle.images.specs.declared.Dpc.{Dpc}
use Rattle.images.specs.declared.DpcWork.{DpcWork}
use Rattle.images.specs.declared.DpcPhase.{DpcPhase}
use Rattle.images.specs.declared.DpcPhase.TheVariants as phase
use Rattle.images.specs.declared.DpcOrigin.{DpcOrigin}
use Rattle.images.specs.declared.DpcOrigin.TheVariants as origin
use Rattle.timers.specs.TimerAnswer as timer
use Rattle.dpc_reads.specs.DpcAnswer as dpc
use Rattle.dpc_reads.specs.PolicyAnswer as policy
use Rattle.dpc_reads.specs.declared.DpcCounters.{DpcCounters}
use Rattle.dpc_reads.specs.CountersAnswer as counters
use Rattle.dpc_work.specs.WorkAnswer.{WorkAnswer}
use Rattle.dpc_work.specs.WorkAnswer as work
use Rattle.dispatcher.specs.declared.read.ThreadView.{ThreadView}
use Rattle.dispatcher.specs.ThreadAnswer as thread
use Rattle.dispatcher.specs.declared.read.Place.{Place}
use Rattle.dispatcher.specs.PlaceAnswer as place
use Rattle.calls.specs.Guard.{Kind, Code}
use Rattle.calls.specs.Guard as kind
use Rattle.exports.specs.SchedulerAnswer.{tagged, refusal_of, answer_in}

-- a tag, and where a timer or a DPC stands: words 1 to 6
unfoldable pub located_in : List ℕ → ℕ → ℕ → Architecture → TimerBacking → List ℕ
located_in out t address a b =
    let out = set out 0 t in
    let out = set out 1 address in
    let out = set out 2 (architecture_number a) in
    let out = set out 3 (backing_kind b) in
    let out = set out 4 (backing_base b) in
    let out = set out 5 (backing_size b) in
    set out 6 (backing_mapped b)

-- ---- a timer: tag 14

unfoldable pub state_in : List ℕ → Timer → List ℕ
state_in out t =
    let out = set out 7 (bit t.manual_reset) in
    let out = set out 8 (bit t.signaled) in
    set out 9 (bit t.inserted)

unfoldable pub setting_in : List ℕ → Timer → List ℕ
setting_in out t =
    let out = set out 10 t.due in
    let out = set out 11 t.period_ms in
    let out = set out 12 t.dpc in
    let out = set out 13 (bit t.absolute) in
    let out = set out 14 t.arm_generation in
    set out 15 t.initialization

unfoldable pub timer_in : List ℕ → Timer → List ℕ
timer_in out t = setting_in (state_in (located_in out 14 t.address t.architecture t.backing) t) t

-- ---- work from word `at` on

-- a caller's leaves the six words behind as they are
unfoldable pub origin_in : List ℕ → ℕ → DpcOrigin → List ℕ
origin_in out at origin.Caller = set out (at + 3) 0
origin_in out at (origin.Timer address arm initialization deadline observed periodic) =
    let out = set out (at + 3) 1 in
    let out = set out (at + 4) address in
    let out = set out (at + 5) arm in
    let out = set out (at + 6) initialization in
    let out = set out (at + 7) deadline in
    let out = set out (at + 8) observed in
    set out (at + 9) (bit periodic)

unfoldable pub work_in : List ℕ → ℕ → DpcWork → List ℕ
work_in out at w =
    let out = set out (at + 0) w.sequence in
    let out = set out (at + 1) w.first in
    let out = set out (at + 2) w.second in
    origin_in out at w.origin

-- ---- a DPC: tag 15

-- the phase's number, and from word 10 on its work
unfoldable pub busy_in : List ℕ → ℕ → DpcWork → List ℕ
busy_in out n w = work_in (set out 9 n) 10 w

-- an idle DPC leaves the words of the work as they are
unfoldable pub phase_in : List ℕ → DpcPhase → List ℕ
phase_in out phase.Idle = set out 9 0
phase_in out (phase.Queued w) = busy_in out 1 w
phase_in out (phase.Running w) = busy_in out 2 w
phase_in out (phase.Returning w) = busy_in out 3 w

unfoldable pub dpc_in : List ℕ → Dpc → List ℕ
dpc_in out d =
    let out = located_in out 15 d.address d.architecture d.backing in
    let out = set out 7 d.routine in
    let out = set out 8 d.context in
    phase_in out d.phase

-- ---- the others

unfoldable pub started_in : List ℕ → DpcWork → List ℕ
started_in out w = work_in (set out 0 16) 1 w

unfoldable pub counters_in : List ℕ → DpcCounters → List ℕ
counters_in out n =
    let out = set out 0 19 in
    let out = set out 1 n.accepted in
    let out = set out 2 n.duplicates in
    let out = set out 3 n.removed in
    let out = set out 4 n.started in
    let out = set out 5 n.returned in
    set out 6 n.restored

-- two values behind a tag
unfoldable pub pair_in : List ℕ → ℕ → ℕ → ℕ → List ℕ
pair_in out t first second = set (set (set out 0 t) 1 first) 2 second

unfoldable pub wait_in : List ℕ → ThreadView → List ℕ
wait_in out t =
    let out = set out 6 t.all in
    let out = set out 7 t.timed in
    let out = set out 8 t.deadline in
    let out = set out 9 t.sequence in
    set out 10 t.count

unfoldable pub thread_in : List ℕ → ThreadView → List ℕ
thread_in out t =
    let out = set out 0 20 in
    let out = set out 1 t.id in
    let out = set out 2 t.priority in
    let out = set out 3 t.state in
    let out = set out 4 t.result in
    let out = set out 5 t.status in
    wait_in out t

-- ---- answers: 0 where the call is accepted, and what it leaves in `out`; a refusal writes nothing

abbrev pub work_refusal : WorkAnswer → ℕ
work_refusal (work.Refused n) = n
work_refusal (work.Work w) = 0

abbrev pub work_answer_in : List ℕ → WorkAnswer → List ℕ
work_answer_in out (work.Refused n) = out
work_answer_in out (work.Work w) = started_in out w

-- what `refuse` makes of a refusal's number, whatever it is, else what `tell` makes of the answer
abbrev pub told_by_number : {A B : Type 0} → (A → B) → (ℕ → B) → Result A ℕ → B
told_by_number tell refuse (Ok a) = tell a
told_by_number tell refuse (Err n) = refuse n

-- a read's, by its kind

abbrev pub refusal_as : (k : Kind) → Code k → ℕ
refusal_as kind.plain a = refusal_of a
refusal_as kind.threads (thread.Refused n) = n
refusal_as kind.threads (thread.Thread t) = 0
refusal_as kind.threads thread.None = 0
refusal_as kind.places (place.Refused n) = n
refusal_as kind.places (place.Object p) = 0
refusal_as kind.places place.None = 0
refusal_as kind.timers (timer.Refused n) = n
refusal_as kind.timers timer.None = 0
refusal_as kind.timers (timer.Timer t) = 0
refusal_as kind.dpcs (dpc.Refused n) = n
refusal_as kind.dpcs dpc.None = 0
refusal_as kind.dpcs (dpc.Dpc d) = 0
refusal_as kind.policies (policy.Refused n) = n
refusal_as kind.policies policy.Unselected = 0
refusal_as kind.policies (policy.Cpu0Dispatch first second) = 0
refusal_as kind.counts (counters.Refused n) = n
refusal_as kind.counts (counters.Counters n) = 0

abbrev pub answer_as : (k : Kind) → List ℕ → Code k → List ℕ
answer_as kind.plain out a = answer_in out a
answer_as kind.threads out (thread.Refused n) = out
answer_as kind.threads out (thread.Thread t) = thread_in out t
answer_as kind.threads out thread.None = tagged out 2
answer_as kind.places out (place.Refused n) = out
answer_as kind.places out (place.Object p) = pair_in out 21 p.kind p.key
answer_as kind.places out place.None = tagged out 2
answer_as kind.timers out (timer.Refused n) = out
answer_as kind.timers out timer.None = tagged out 2
answer_as kind.timers out (timer.Timer t) = timer_in out t
answer_as kind.dpcs out (dpc.Refused n) = out
answer_as kind.dpcs out dpc.None = tagged out 2
answer_as kind.dpcs out (dpc.Dpc d) = dpc_in out d
answer_as kind.policies out (policy.Refused n) = out
answer_as kind.policies out policy.Unselected = tagged out 17
answer_as kind.policies out (policy.Cpu0Dispatch first second) = pair_in out 18 first second
answer_as kind.counts out (counters.Refused n) = out
answer_as kind.counts out (counters.Counters n) = counters_in out n
