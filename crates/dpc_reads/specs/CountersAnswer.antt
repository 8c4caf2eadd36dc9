-- What a read of the counts of DPC work tells, in one type with the number of its refusal. The code answers DpcCounters, and behind the form check a Result of them.
use Rattle.std.specs.Prelude.{ℕ}
use Rattle.dpc_reads.specs.declared.DpcCounters.{DpcCounters}

pub data CountersAnswer : Type 0 where
  Refused : ℕ → CountersAnswer
  Counters : DpcCounters → CountersAnswer
