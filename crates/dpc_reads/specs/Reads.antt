-- What is read of DPCs, of the queue, and of the policy.
use Rattle.std.specs.Prelude.{cond, ℕ, zero, suc, ◌+◌, List, get_or, eqb, leb, ltb, Option, Some, None, Result, Ok, Err}
use Rattle.words.specs.Layout as at
use Rattle.chains.specs.declared.Chain.{Chain}
use Rattle.chains.specs.Chain.{first_of, next_of}
use Rattle.dpcs.specs.Record.{number_of, place_at, queue_chain, dpc_at}
use Rattle.answers.specs.declared.Answer.{Answer}
use Rattle.answers.specs.declared.Answer.TheVariants as answer
use Rattle.dpc_reads.specs.DpcAnswer.{DpcAnswer}
use Rattle.dpc_reads.specs.DpcAnswer as read
use Rattle.dpc_reads.specs.PolicyAnswer.{PolicyAnswer}
use Rattle.dpc_reads.specs.PolicyAnswer as policy
use Rattle.dpc_reads.specs.CountersAnswer.{CountersAnswer}
use Rattle.dpc_reads.specs.CountersAnswer as counters
use Rattle.dpc_reads.specs.declared.DpcPolicy.{DpcPolicy}
use Rattle.dpc_reads.specs.declared.DpcPolicy.TheVariants as chosen
use Rattle.answers.specs.declared.error.SchedulerError.{SchedulerError}
use Rattle.answers.specs.Errors.{number}
use Rattle.images.specs.declared.Dpc.{Dpc}

-- ---- what the reads tell

abbrev pub told : Option Dpc → DpcAnswer
told None = read.None
told (Some d) = read.Dpc d

abbrev pub known : Result Dpc SchedulerError → DpcAnswer
known (Ok d) = read.Dpc d
known (Err e) = read.Refused (number e)

abbrev pub selected : DpcPolicy → PolicyAnswer
selected chosen.Unselected = policy.Unselected
selected (chosen.Cpu0Dispatch first second) = policy.Cpu0Dispatch first second

abbrev pub count_or_none : Option ℕ → Answer
count_or_none None = answer.None
count_or_none (Some n) = answer.Count n

-- ---- the policy and the counts

unfoldable pub policy_read : List ℕ → PolicyAnswer
policy_read w =
    cond (eqb (get_or w at.policy 0) 0) policy.Unselected
    (policy.Cpu0Dispatch (get_or w at.timer_argument 0) (get_or w at.timer_argument2 0))

unfoldable pub counters_read : List ℕ → CountersAnswer
counters_read w =
    counters.Counters (record {
      accepted = get_or w at.accepted 0;
      duplicates = get_or w at.duplicates 0;
      removed = get_or w at.removed 0;
      started = get_or w at.started 0;
      returned = get_or w at.returned 0;
      restored = get_or w at.restored 0;
    })

unfoldable pub initializations_read : List ℕ → Answer
initializations_read w = answer.Count (get_or w at.dpc_initializations 0)

-- ---- records

-- the DPC of a number, 0 for none
unfoldable pub dpc_numbered : List ℕ → ℕ → DpcAnswer
dpc_numbered w n = cond (eqb n 0) read.None (read.Dpc (dpc_at w (place_at w n)))

-- 2 unknown
unfoldable pub dpc_read : List ℕ → ℕ → DpcAnswer
dpc_read w address = cond (eqb (number_of w address) 0) (read.Refused 2) (dpc_numbered w (number_of w address))

-- the DPC at a position in the order of the addresses
unfoldable pub dpcs_at : List ℕ → ℕ → DpcAnswer
dpcs_at w position = cond (leb (get_or w at.dpcs 0) position) read.None (dpc_numbered w (position + 1))

unfoldable pub active_dpc : List ℕ → DpcAnswer
active_dpc w = cond (eqb (get_or w at.active 0) 0) read.None (dpc_numbered w (number_of w (get_or w at.active 0)))

-- the first of the queue, where no work is active
unfoldable pub next_dpc : List ℕ → DpcAnswer
next_dpc w = cond (eqb (get_or w at.active 0) 0) (dpc_numbered w (first_of w (queue_chain w))) read.None

-- ---- the queue by position

-- the record `k` steps behind record `n` of a chain; 0 past the last
unfoldable pub stepped : ℕ → List ℕ → Chain → ℕ → ℕ
stepped zero w c n = n
stepped (suc k) w c n = cond (eqb n 0) 0 (stepped k w c (next_of w c n))

unfoldable pub queued_number : List ℕ → ℕ → ℕ
queued_number w position = stepped position w (queue_chain w) (first_of w (queue_chain w))

-- the address of the DPC at a position in the queue
unfoldable pub queued_dpcs : List ℕ → ℕ → Answer
queued_dpcs w position =
    let n = queued_number w position in
    cond (ltb 4095 position) answer.None (cond (eqb n 0) answer.None (answer.Count (get_or w (place_at w n + at.address) 0)))
