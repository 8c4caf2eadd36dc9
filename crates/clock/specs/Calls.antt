-- The calls that change a clock, as types: a law is then stated once for all of them.
use Rattle.std.specs.Prelude.{ℕ}
use Rattle.clock.specs.declared.GuestClock.{GuestClock}
use Rattle.clock.specs.declared.Outcome.{Outcome}
use Rattle.clock.specs.Clock.{instruction, advance100ns, advance_microseconds, advance_milliseconds, flush_cycles, observe}

-- those that are done whole or not at all
pub data Atomic : Type 0 where
  Advance100ns AdvanceMicroseconds AdvanceMilliseconds : ℕ → Atomic
  FlushCycles Observe : Atomic

unfoldable pub tried : Atomic → GuestClock → Outcome
tried (Advance100ns ticks) c = advance100ns c ticks
tried (AdvanceMicroseconds amount) c = advance_microseconds c amount
tried (AdvanceMilliseconds amount) c = advance_milliseconds c amount
tried FlushCycles c = flush_cycles c
tried Observe c = observe c

pub data Call : Type 0 where
  Instruction : Call
  Try : Atomic → Call

unfoldable pub called : Call → GuestClock → Outcome
called Instruction c = instruction c
called (Try k) c = tried k c
