-- The records of the log as rows of words, by the layout: the header's numbers, a thread, a wait, an object, a DPC.
use Rattle.std.specs.Prelude.{ℕ, suc, ◌+◌, List, [], ◌∷◌, map, Bool, false, cond, length, eqb}
use Rattle.std.proofs.Math.Option.{Option, none, some}
use Rattle.images.specs.declared.Timer.{Timer}
use Rattle.images.specs.declared.Dpc.{Dpc}
use Rattle.images.specs.declared.DpcWork.{DpcWork}
use Rattle.images.specs.declared.DpcOrigin.{DpcOrigin}
use Rattle.images.specs.declared.DpcOrigin.TheVariants as origin
use Rattle.images.specs.declared.DpcPhase.{DpcPhase}
use Rattle.images.specs.declared.DpcPhase.TheVariants.{Idle, Queued, Running, Returning}
use Rattle.images.specs.Place.{architecture_number, backing_kind, backing_base, backing_size, backing_mapped}
use Rattle.model.specs.Lists.{first_of, given}
use Rattle.model.specs.State.{Limits, Counters, Policy, unselected, cpu0_dispatch, Thread, Status, running, ready, waiting, exited, Wait, WaitResult, satisfied, timeout, Named, Object, mutex, event, timer}
use Rattle.model.specs.Waits.{timers_of}
use Rattle.model.specs.Dpcs.{address_of, active_dpc, work_of}
use Rattle.agreement_tables.specs.Tables.{below}

abbrev pub flag : Bool → ℕ
flag b = cond b 1 0

-- ---- the header

abbrev pub policy_number : Policy → ℕ
policy_number unselected = 0
policy_number (cpu0_dispatch first second) = 1

abbrev pub first_argument : Policy → ℕ
first_argument unselected = 0
first_argument (cpu0_dispatch first second) = first

abbrev pub second_argument : Policy → ℕ
second_argument unselected = 0
second_argument (cpu0_dispatch first second) = second

-- where the DPC stands whose work is active, 0 for none
abbrev pub active_address : List Dpc → ℕ
active_address table = given (active_dpc table) 0 (λ (d : Dpc). d.address)

-- to `active`: the limits; how many threads, objects and DPCs; the current thread, the wait sequence, the time; the policy and its
-- arguments; the six counts; the two of initializations; the active DPC. The ready word and the ends of chains are said elsewhere.
abbrev pub header : Limits → ℕ → ℕ → ℕ → ℕ → ℕ → ℕ → Policy → Counters → ℕ → ℕ → ℕ → List (Option ℕ)
header l threads objects dpcs current sequence now policy c timers_made dpcs_made active =
    some l.threads ∷ some l.objects ∷ some l.dpcs
    ∷ some threads ∷ some objects ∷ some dpcs
    ∷ some current ∷ some sequence ∷ some now
    ∷ none
    ∷ some (policy_number policy) ∷ some (first_argument policy) ∷ some (second_argument policy)
    ∷ some c.accepted ∷ some c.duplicates ∷ some c.removed ∷ some c.started ∷ some c.returned ∷ some c.restored
    ∷ some timers_made ∷ some dpcs_made
    ∷ none ∷ none ∷ none ∷ none
    ∷ some active ∷ []

-- ---- a thread

abbrev pub status_number : Status → ℕ
status_number running = 1
status_number ready = 2
status_number (waiting w) = 3
status_number (exited n) = 4

-- 0 while it has not exited
abbrev pub exit_status : Status → ℕ
exit_status running = 0
exit_status ready = 0
exit_status (waiting w) = 0
exit_status (exited n) = n

abbrev pub result_number : Option WaitResult → ℕ
result_number none = 0
result_number (some timeout) = 1
result_number (some (satisfied i)) = i + 2

-- its record up to `status`; its two links are said elsewhere
abbrev pub thread_row : Thread → List (Option ℕ)
thread_row t = some t.priority ∷ some (status_number t.status) ∷ none ∷ none ∷ some (result_number t.result) ∷ some (exit_status t.status) ∷ []

-- ---- a wait

-- whether there is a deadline
abbrev pub timed : Option ℕ → ℕ
timed none = 0
timed (some t) = 1

-- its record from `wait_all` to `wait_count`; the word of a deadline that there is not may hold anything
abbrev pub terms_row : Wait → List (Option ℕ)
terms_row x = some (flag x.all) ∷ some (timed x.deadline) ∷ x.deadline ∷ some x.sequence ∷ some (length x.objects) ∷ []

-- from `wait_places` on: a kind and a key for each
abbrev pub places_row : List Named → List (Option ℕ)
places_row [] = []
places_row (n ∷ ns) = some n.kind ∷ some n.key ∷ places_row ns

-- ---- an object

abbrev pub timer_row : Timer → List (Option ℕ)
timer_row t =
    some t.address ∷ some 2 ∷ some (flag t.manual_reset) ∷ some (flag t.signaled) ∷ some 0
    ∷ some (flag t.inserted) ∷ some t.due ∷ some t.period_ms ∷ some t.dpc ∷ some (flag t.absolute)
    ∷ some t.arm_generation ∷ some t.initialization
    ∷ some (architecture_number t.architecture) ∷ some (backing_kind t.backing) ∷ some (backing_base t.backing)
    ∷ some (backing_size t.backing) ∷ some (backing_mapped t.backing) ∷ []

-- the key, the kind, manual, signaled, the owner
abbrev pub object_row : Object → List (Option ℕ)
object_row (mutex m) = some m.key ∷ some 0 ∷ some 0 ∷ some 0 ∷ some m.owner ∷ []
object_row (event e) = some e.key ∷ some 1 ∷ some (flag e.manual) ∷ some (flag e.signaled) ∷ some 0 ∷ []
object_row (timer t) = timer_row t

-- ---- a DPC

abbrev pub phase_number : DpcPhase → ℕ
phase_number Idle = 0
phase_number (Queued w) = 1
phase_number (Running w) = 2
phase_number (Returning w) = 3

abbrev pub origin_row : DpcOrigin → List (Option ℕ)
origin_row origin.Caller = some 0 ∷ some 0 ∷ some 0 ∷ some 0 ∷ some 0 ∷ some 0 ∷ some 0 ∷ []
origin_row (origin.Timer address arm initialization deadline observed periodic) =
    some 1 ∷ some address ∷ some arm ∷ some initialization ∷ some deadline ∷ some observed ∷ some (flag periodic) ∷ []

-- from `work_sequence` to `origin_periodic`; those of an idle DPC may hold anything
abbrev pub work_row : Option DpcWork → List (Option ℕ)
work_row none = []
work_row (some w) = some w.sequence ∷ some w.first ∷ some w.second ∷ origin_row w.origin

-- `next_queued` is a link; `named_by` is the inserted timer that has the DPC
abbrev pub dpc_row : ℕ → Dpc → List (Option ℕ)
dpc_row holder d =
    some d.address ∷ some (phase_number d.phase) ∷ none ∷ some holder
    ∷ some (architecture_number d.architecture) ∷ some (backing_kind d.backing) ∷ some (backing_base d.backing)
    ∷ some (backing_size d.backing) ∷ some (backing_mapped d.backing) ∷ some d.routine ∷ some d.context
    ∷ work_row (work_of d.phase)

-- the timer is inserted and has the DPC
abbrev pub holds : ℕ → Timer → Bool
holds a t = cond t.inserted (eqb t.dpc a) false

-- the key of the inserted timer that has the DPC at an address, 0 for none
abbrev pub holder_of : List Object → ℕ → ℕ
holder_of objects a = given (first_of (holds a) (timers_of objects)) 0 (λ (t : Timer). t.address)

-- ---- numbers of DPCs: one more than the position

abbrev pub number_in : List Dpc → ℕ → ℕ
number_in table a = suc (below address_of a table)

abbrev pub numbers_in : List Dpc → List ℕ → List ℕ
numbers_in table queue = map (number_in table) queue
