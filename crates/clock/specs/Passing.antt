-- How time passes on a clock, by what its reads answer before a call and after it.
use Rattle.std.specs.Prelude.{◌≡◌, ℕ, ◌+◌, ◌*◌, ◌/◌, ◌^◌, ◌<◌, ◌≤◌, false, cond, ◌==◌, Ok, Err}
use Rattle.clock.specs.declared.GuestClock.{GuestClock}
use Rattle.clock.specs.declared.ClockError.TheVariants.{Overflow}
use Rattle.clock.specs.Clock.{in_form, flush_cycles, with_cycles, qpc}
use Rattle.clock.specs.Calls.{Advance100ns, AdvanceMicroseconds, AdvanceMilliseconds, FlushCycles, Observe, Call, Instruction, Try}

-- how many ticks of 100 ns a call lets pass: what it names, and the whole microseconds that the cycles make which it flushes
abbrev pub microseconds_of : GuestClock → ℕ → ℕ
microseconds_of c cycles = cycles / c.base_mhz

unfoldable pub lasts : Call → GuestClock → ℕ
lasts (Try (Advance100ns ticks)) c = ticks
lasts (Try (AdvanceMicroseconds amount)) c = 10 * amount
lasts (Try (AdvanceMilliseconds amount)) c = 10000 * amount
lasts (Try FlushCycles) c = 10 * microseconds_of c c.pending_cycles
lasts (Try Observe) c = 10 * (microseconds_of c c.pending_cycles + 1)
lasts Instruction c = cond (c.until_flush == 1) (10 * microseconds_of c (c.pending_cycles + 100)) 0

-- how many cycles a call that lasts whole microseconds adds to what `tsc` reads: an instruction 100, a flush none, time as many as the MHz in each microsecond
unfoldable pub stamps : Call → GuestClock → ℕ
stamps Instruction c = 100
stamps (Try (Advance100ns ticks)) c = ticks / 10 * c.base_mhz
stamps (Try (AdvanceMicroseconds amount)) c = amount * c.base_mhz
stamps (Try (AdvanceMilliseconds amount)) c = 1000 * amount * c.base_mhz
stamps (Try FlushCycles) c = 0
stamps (Try Observe) c = c.base_mhz

-- `after` is `ticks` later than `c`: `qpc` reads so many more, or is refused by 26 where that passes a word, and the wall clock has moved with it
pub record Passed (c after : GuestClock) (ticks : ℕ) : Type 0 where
  pub reads : (before : ℕ) → qpc c ≡ Ok before → before + ticks < 2 ^ 64 → qpc after ≡ Ok (before + ticks)
  pub passes : (before : ℕ) → qpc c ≡ Ok before → 2 ^ 64 ≤ before + ticks → qpc after ≡ Err Overflow
  pub stays_past : qpc c ≡ Err Overflow → qpc after ≡ Err Overflow
  pub utc : after.utc_filetime ≡ c.utc_filetime + ticks

-- what an instruction that is refused leaves: the clock as it was, unless the flush alone is refused. Then its 100 cycles are added,
-- the countdown is 1000, and a flush of what it leaves is refused as well
pub data Kept (c after : GuestClock) : Type 0 where
  out_of_form : in_form c ≡ false → after ≡ c → Kept c after
  cycles_pass : 2 ^ 64 ≤ c.pending_cycles + 100 → after ≡ c → Kept c after
  flush_passes : c.until_flush ≡ 1 → (flush_cycles after).answer ≡ Err Overflow
      → after ≡ with_cycles c (c.pending_cycles + 100) 1000 → Kept c after
