-- The answers of the code in the words of the log: each has its like.
use Rattle.std.specs.Prelude.{ℕ, List, [], take}
use Rattle.answers.specs.declared.Answer as code
use Rattle.answers.specs.declared.Answer.TheVariants as answer
use Rattle.dispatcher.specs.PlaceAnswer as object
use Rattle.dpc_work.specs.WorkAnswer as work
use Rattle.dpc_reads.specs.DpcAnswer as dpc
use Rattle.dpc_reads.specs.PolicyAnswer as policy
use Rattle.dpc_reads.specs.CountersAnswer as counters
use Rattle.timers.specs.TimerAnswer as timer
use Rattle.model.specs.State.{unselected, cpu0_dispatch}
use Rattle.model.specs.Answer.{Answer}
use Rattle.model.specs.Answer as log

-- With the output of the call: a deadlock's numbers stand at its head
abbrev pub told_with : List ℕ → code.Answer → Answer
told_with out (answer.Refused n) = log.Refused n
told_with out answer.Done = log.Done
told_with out answer.None = log.None
told_with out (answer.Thread id) = log.ThreadNumber id
told_with out (answer.Flag b) = log.Flag b
told_with out (answer.Count n) = log.Number n
told_with out (answer.Satisfied i) = log.Satisfied i
told_with out answer.Timeout = log.Timeout
told_with out answer.Blocked = log.Blocked
told_with out (answer.Run id) = log.Run id
told_with out (answer.AdvanceTo time) = log.AdvanceTo time
told_with out (answer.Deadlocked n) = log.Deadlocked (take n out)
told_with out answer.Finished = log.Finished
told_with out (answer.Event key manual signaled) = log.EventIs (record { key = key; manual = manual; signaled = signaled })

-- a call without an output
abbrev pub told : code.Answer → Answer
told a = told_with [] a

-- ---- answers with records

abbrev pub told_timer : timer.TimerAnswer → Answer
told_timer (timer.Refused n) = log.Refused n
told_timer timer.None = log.None
told_timer (timer.Timer t) = log.TimerIs t

abbrev pub told_dpc : dpc.DpcAnswer → Answer
told_dpc (dpc.Refused n) = log.Refused n
told_dpc dpc.None = log.None
told_dpc (dpc.Dpc d) = log.DpcIs d

abbrev pub told_work : work.WorkAnswer → Answer
told_work (work.Refused n) = log.Refused n
told_work (work.Work w) = log.WorkIs w

abbrev pub told_policy : policy.PolicyAnswer → Answer
told_policy (policy.Refused n) = log.Refused n
told_policy policy.Unselected = log.PolicyIs unselected
told_policy (policy.Cpu0Dispatch first second) = log.PolicyIs (cpu0_dispatch first second)

abbrev pub told_counters : counters.CountersAnswer → Answer
told_counters (counters.Refused n) = log.Refused n
told_counters (counters.Counters c) =
    log.CountersAre (record { accepted = c.accepted; duplicates = c.duplicates; removed = c.removed; started = c.started; returned = c.returned; restored = c.restored })

abbrev pub told_object : object.PlaceAnswer → Answer
told_object (object.Refused n) = log.Refused n
told_object object.None = log.None
told_object (object.Object p) = log.ObjectIs (record { kind = p.kind; key = p.key })
