-- The calls on DPC work: what refuses them, their answers, and the words after them. Phases: 0 idle, 1 queued, 2 running, 3 returning.
use Rattle.std.specs.Prelude.{Bool, cond, true, false, ℕ, ◌+◌, ◌-◌, ◌^◌, List, get_or, set, eqb, leb, Result, Ok, Err}
use Rattle.words.specs.Layout as at
use Rattle.chains.specs.Chain.{first_of, unlinked}
use Rattle.dpcs.specs.Record.{number_of, place_at, queue_chain, work_at}
use Rattle.dpcs.specs.Named.{is_named}
use Rattle.answers.specs.declared.Answer.TheVariants as answer
use Rattle.answers.specs.Outcome.{Outcome, outcome, unless}
use Rattle.answers.specs.declared.error.SchedulerError.{SchedulerError}
use Rattle.answers.specs.Errors.{number}
use Rattle.images.specs.declared.DpcWork.{DpcWork}
use Rattle.dpc_queue.specs.declared.Origin.{Origin}
use Rattle.dpc_work.specs.WorkAnswer.{WorkAnswer}
use Rattle.dpc_work.specs.WorkAnswer as start
use Rattle.dpc_queue.specs.Queue.{raised, queued, accepted, withdrawn}

-- ---- configure_dpc_dispatch: 20 a policy is set, or something has been made or done; 20 an argument 0, or both equal

-- no policy, thread 1 alone and current, wait sequence, time and acceptances 0, and no object or DPC
unfoldable pub untouched : List ℕ → Bool
untouched w =
    cond (eqb (get_or w at.policy 0) 0)
    (cond (eqb (get_or w at.threads 0) 1)
    (cond (eqb (get_or w at.current 0) 1)
    (cond (eqb (get_or w at.sequence 0) 0)
    (cond (eqb (get_or w at.now 0) 0)
    (cond (eqb (get_or w at.objects 0) 0)
    (cond (eqb (get_or w at.dpcs 0) 0) (eqb (get_or w at.accepted 0) 0) false) false) false) false) false) false) false

unfoldable pub configure_refusal : List ℕ → ℕ → ℕ → ℕ
configure_refusal w first second =
    cond (untouched w) (cond (eqb first 0) 20 (cond (eqb second 0) 20 (cond (eqb first second) 20 0))) 20

unfoldable pub policy_set : List ℕ → ℕ → ℕ → List ℕ
policy_set w first second = set (set (set w at.policy 1) at.timer_argument first) at.timer_argument2 second

unfoldable pub configured : List ℕ → ℕ → ℕ → Outcome
configured w first second = unless (configure_refusal w first second) w (outcome answer.Done (policy_set w first second))

-- ---- insert_queue_dpc: 18 an inserted timer has the DPC; 20 no policy; 2; 21 queued by a timer; 24 duplicates at their end;
-- 19 running or returning; 14 after 65536 acceptances

-- of a queued DPC, whose record stands at the place; the origin is 0 for a caller
unfoldable pub duplicate_refusal : List ℕ → ℕ → ℕ
duplicate_refusal w place = cond (eqb (get_or w (place + at.origin) 0) 0) (cond (eqb (get_or w at.duplicates 0) (2 ^ 64 - 1)) 24 0) 21

unfoldable pub work_refusal : List ℕ → ℕ → ℕ
work_refusal w n =
    let phase = get_or w (place_at w n + at.phase) 0 in
    cond (eqb phase 1) (duplicate_refusal w (place_at w n)) (cond (eqb phase 0) (cond (leb 65536 (get_or w at.accepted 0)) 14 0) 19)

unfoldable pub insert_refusal : List ℕ → ℕ → ℕ
insert_refusal w address =
    cond (is_named w address) 18
    (cond (eqb (get_or w at.policy 0) 0) 20 (cond (eqb (number_of w address) 0) 2 (work_refusal w (number_of w address))))

unfoldable pub caller_origin : Origin
caller_origin = record { timer = 0; address = 0; arm = 0; initialization = 0; deadline = 0; observed = 0; periodic = 0 }

-- a queued DPC keeps its work: a duplicate
unfoldable pub queue_inserted : List ℕ → ℕ → ℕ → ℕ → Outcome
queue_inserted w address first second =
    let n = number_of w address in
    unless (insert_refusal w address) w
    (cond (queued w n) (outcome (answer.Flag false) (raised w at.duplicates)) (outcome (answer.Flag true) (accepted w n first second caller_origin)))

-- ---- remove_queue_dpc: 2

unfoldable pub remove_refusal : List ℕ → ℕ → ℕ
remove_refusal w address = cond (eqb (number_of w address) 0) 2 0

unfoldable pub queue_removed : List ℕ → ℕ → Outcome
queue_removed w address =
    let n = number_of w address in
    unless (remove_refusal w address) w (cond (queued w n) (outcome (answer.Flag true) (withdrawn w n)) (outcome (answer.Flag false) w))

-- ---- start_dpc: 22 work is active, or the DPC is not the first of the queue

pub record Started : Type 0 where
  pub answer : WorkAnswer
  pub words : List ℕ

abbrev pub start_outcome : WorkAnswer → List ℕ → Started
start_outcome a w = record { answer = a; words = w }

-- what a start tells
abbrev pub told : Result DpcWork SchedulerError → WorkAnswer
told (Ok work) = start.Work work
told (Err e) = start.Refused (number e)

unfoldable pub start_refusal : List ℕ → ℕ → ℕ
start_refusal w address =
    let n = first_of w (queue_chain w) in
    cond (eqb (get_or w at.active 0) 0) (cond (eqb n 0) 22 (cond (eqb (get_or w (place_at w n + at.address) 0) address) 0 22)) 22

-- the first of the queue, `n`, taken out, running and active
unfoldable pub head_started : List ℕ → ℕ → ℕ → List ℕ
head_started w n address = set (raised (set (unlinked w (queue_chain w) 0 n) (place_at w n + at.phase) 2) at.started) at.active address

unfoldable pub work_started : List ℕ → ℕ → Started
work_started w address =
    let n = first_of w (queue_chain w) in
    cond (eqb (start_refusal w address) 0)
    (start_outcome (start.Work (work_at w (place_at w n))) (head_started w n address))
    (start_outcome (start.Refused (start_refusal w address)) w)

-- ---- returned_dpc, restored_dpc: 2; 22 the phase or the work's sequence differs

unfoldable pub phase_refusal : List ℕ → ℕ → ℕ → ℕ → ℕ
phase_refusal w address phase sequence =
    let place = place_at w (number_of w address) in
    cond (eqb (number_of w address) 0) 2
    (cond (eqb (get_or w (place + at.phase) 0) phase) (cond (eqb (get_or w (place + at.work_sequence) 0) sequence) 0 22) 22)

abbrev pub returned_refusal : List ℕ → ℕ → ℕ → ℕ
returned_refusal w address sequence = phase_refusal w address 2 sequence

unfoldable pub returning : List ℕ → ℕ → List ℕ
returning w n = raised (set w (place_at w n + at.phase) 3) at.returned

unfoldable pub work_returned : List ℕ → ℕ → ℕ → Outcome
work_returned w address sequence =
    unless (returned_refusal w address sequence) w (outcome answer.Done (returning w (number_of w address)))

abbrev pub restored_refusal : List ℕ → ℕ → ℕ → ℕ
restored_refusal w address sequence = phase_refusal w address 3 sequence

unfoldable pub idle : List ℕ → ℕ → List ℕ
idle w n = set (raised (set w (place_at w n + at.phase) 0) at.restored) at.active 0

unfoldable pub work_restored : List ℕ → ℕ → ℕ → Outcome
work_restored w address sequence =
    unless (restored_refusal w address sequence) w (outcome answer.Done (idle w (number_of w address)))
