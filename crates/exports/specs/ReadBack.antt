-- What an exported call has answered, by the number that it gives and the words of its output: the tag in word 0, and the values behind it.
use Rattle.std.specs.Prelude.{ℕ, ◌+◌, Bool, false, cond, not, List, [], eqb, ltb, get_or}
use Rattle.arch.specs.declared.Architecture.{Architecture}
use Rattle.arch.specs.declared.Architecture.TheVariants.{X64, X86}
use Rattle.images.specs.declared.TimerBacking.{TimerBacking}
use Rattle.images.specs.declared.TimerBacking.TheVariants.{Image, NonpagedPool}
use Rattle.images.specs.declared.Timer.{Timer}
use Rattle.images.specs.declared.Dpc.{Dpc}
use Rattle.images.specs.declared.DpcWork.{DpcWork}
use Rattle.images.specs.declared.DpcPhase.{DpcPhase}
use Rattle.images.specs.declared.DpcPhase.TheVariants as phase
use Rattle.images.specs.declared.DpcOrigin.{DpcOrigin}
use Rattle.images.specs.declared.DpcOrigin.TheVariants as origin
use Rattle.answers.specs.declared.Answer.{Answer}
use Rattle.answers.specs.declared.Answer.TheVariants as answer
use Rattle.timers.specs.TimerAnswer as timer
use Rattle.dpc_reads.specs.DpcAnswer as dpc
use Rattle.dpc_reads.specs.PolicyAnswer as policy
use Rattle.dpc_reads.specs.declared.DpcCounters.{DpcCounters}
use Rattle.dpc_reads.specs.CountersAnswer as counters
use Rattle.dpc_work.specs.WorkAnswer.{WorkAnswer}
use Rattle.dpc_work.specs.WorkAnswer as work
use Rattle.dispatcher.specs.declared.read.ThreadView.{ThreadView}
use Rattle.dispatcher.specs.declared.read.Place.{Place}
use Rattle.dispatcher.specs.ThreadAnswer as thread
use Rattle.dispatcher.specs.PlaceAnswer as place
use Rattle.calls.specs.Guard.{Kind, Code, refusing}
use Rattle.calls.specs.Guard as kind

-- A tag that no answer of the kind has tells none: a refusal by 0, which is no refusal's number.

-- ---- answers without a record

-- 0 is no, 1 is yes
abbrev pub flag_from : ℕ → Bool
flag_from n = not (eqb n 0)

unfoldable pub answer_told : ℕ → List ℕ → Answer
answer_told tag out =
    cond (eqb tag 1) answer.Done
    (cond (eqb tag 2) answer.None
    (cond (eqb tag 3) (answer.Thread (get_or out 1 0))
    (cond (eqb tag 4) (answer.Flag (flag_from (get_or out 1 0)))
    (cond (eqb tag 5) (answer.Count (get_or out 1 0))
    (cond (eqb tag 6) (answer.Satisfied (get_or out 1 0))
    (cond (eqb tag 7) answer.Timeout
    (cond (eqb tag 8) answer.Blocked
    (cond (eqb tag 9) (answer.Run (get_or out 1 0))
    (cond (eqb tag 10) (answer.AdvanceTo (get_or out 1 0))
    (cond (eqb tag 11) (answer.Deadlocked (get_or out 1 0))
    (cond (eqb tag 12) answer.Finished
    (cond (eqb tag 13) (answer.Event (get_or out 1 0) (flag_from (get_or out 2 0)) (flag_from (get_or out 3 0)))
    (answer.Refused 0)))))))))))))

-- ---- records: a number that stands for no variant tells 0s, whatever the words behind it

-- 0 is x64, 1 is x86
unfoldable pub architecture_from : ℕ → Architecture
architecture_from n = cond (eqb n 0) X64 X86

-- a record whose number for it is another tells none
abbrev pub is_architecture : ℕ → Bool
is_architecture n = ltb n 2

-- 0 is an image, 1 is pool, whose size is the bytes requested
unfoldable pub backing_from : ℕ → ℕ → ℕ → ℕ → TimerBacking
backing_from kind base size mapped = cond (eqb kind 0) (Image base size) (cond (eqb kind 1) (NonpagedPool base size mapped) (Image 0 0))

unfoldable pub timer_from : List ℕ → Timer
timer_from out =
    record {
      address = get_or out 1 0;
      architecture = architecture_from (get_or out 2 0);
      backing = backing_from (get_or out 3 0) (get_or out 4 0) (get_or out 5 0) (get_or out 6 0);
      manual_reset = flag_from (get_or out 7 0);
      signaled = flag_from (get_or out 8 0);
      inserted = flag_from (get_or out 9 0);
      due = get_or out 10 0;
      period_ms = get_or out 11 0;
      dpc = get_or out 12 0;
      absolute = flag_from (get_or out 13 0);
      arm_generation = get_or out 14 0;
      initialization = get_or out 15 0;
    }

-- work that stands from word `at` on
unfoldable pub origin_from : List ℕ → ℕ → DpcOrigin
origin_from out at =
    cond (eqb (get_or out (at + 3) 0) 0) origin.Caller
    (cond (eqb (get_or out (at + 3) 0) 1) (origin.Timer (get_or out (at + 4) 0) (get_or out (at + 5) 0) (get_or out (at + 6) 0) (get_or out (at + 7) 0) (get_or out (at + 8) 0) (flag_from (get_or out (at + 9) 0)))
    (origin.Timer 0 0 0 0 0 false))

unfoldable pub work_from : List ℕ → ℕ → DpcWork
work_from out at =
    record {
      sequence = get_or out (at + 0) 0;
      first = get_or out (at + 1) 0;
      second = get_or out (at + 2) 0;
      origin = origin_from out at;
    }

unfoldable pub phase_from : List ℕ → DpcPhase
phase_from out =
    cond (eqb (get_or out 9 0) 0) phase.Idle
    (cond (eqb (get_or out 9 0) 1) (phase.Queued (work_from out 10))
    (cond (eqb (get_or out 9 0) 2) (phase.Running (work_from out 10))
    (cond (eqb (get_or out 9 0) 3) (phase.Returning (work_from out 10)) (phase.Queued (work_from [] 0)))))

unfoldable pub dpc_from : List ℕ → Dpc
dpc_from out =
    record {
      address = get_or out 1 0;
      architecture = architecture_from (get_or out 2 0);
      backing = backing_from (get_or out 3 0) (get_or out 4 0) (get_or out 5 0) (get_or out 6 0);
      routine = get_or out 7 0;
      context = get_or out 8 0;
      phase = phase_from out;
    }

unfoldable pub counters_from : List ℕ → DpcCounters
counters_from out =
    record {
      accepted = get_or out 1 0;
      duplicates = get_or out 2 0;
      removed = get_or out 3 0;
      started = get_or out 4 0;
      returned = get_or out 5 0;
      restored = get_or out 6 0;
    }

unfoldable pub thread_from : List ℕ → ThreadView
thread_from out =
    record {
      id = get_or out 1 0;
      priority = get_or out 2 0;
      state = get_or out 3 0;
      result = get_or out 4 0;
      status = get_or out 5 0;
      all = get_or out 6 0;
      timed = get_or out 7 0;
      deadline = get_or out 8 0;
      sequence = get_or out 9 0;
      count = get_or out 10 0;
    }

unfoldable pub place_from : List ℕ → Place
place_from out = record { kind = get_or out 1 0; key = get_or out 2 0 }

-- ---- a call's answer, by its kind

-- the answer of an accepted call of the kind, by its tag
unfoldable pub told_as : (k : Kind) → ℕ → List ℕ → Code k
told_as kind.plain tag out = answer_told tag out
told_as kind.threads tag out = cond (eqb tag 20) (thread.Thread (thread_from out)) (cond (eqb tag 2) thread.None (thread.Refused 0))
told_as kind.places tag out = cond (eqb tag 21) (place.Object (place_from out)) (cond (eqb tag 2) place.None (place.Refused 0))
told_as kind.timers tag out = cond (eqb tag 14) (cond (is_architecture (get_or out 2 0)) (timer.Timer (timer_from out)) (timer.Refused 0)) (cond (eqb tag 2) timer.None (timer.Refused 0))
told_as kind.dpcs tag out = cond (eqb tag 15) (cond (is_architecture (get_or out 2 0)) (dpc.Dpc (dpc_from out)) (dpc.Refused 0)) (cond (eqb tag 2) dpc.None (dpc.Refused 0))
told_as kind.policies tag out = cond (eqb tag 18) (policy.Cpu0Dispatch (get_or out 1 0) (get_or out 2 0)) (cond (eqb tag 17) policy.Unselected (policy.Refused 0))
told_as kind.counts tag out = cond (eqb tag 19) (counters.Counters (counters_from out)) (counters.Refused 0)

-- a number other than 0 is a refusal
unfoldable pub read_from : (k : Kind) → ℕ → List ℕ → Code k
read_from k n out = cond (eqb n 0) (told_as k (get_or out 0 0) out) (refusing k n)

-- of `start_dpc`, whose accepted answer has tag 16
unfoldable pub started_from : ℕ → List ℕ → WorkAnswer
started_from n out = cond (eqb n 0) (cond (eqb (get_or out 0 0) 16) (work.Work (work_from out 1)) (work.Refused 0)) (work.Refused n)
