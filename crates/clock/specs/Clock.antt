-- The guest clock: each call as a function from a clock, and its argument, to the answer and the clock after it.
-- A tick is 100 ns. Numbers have no upper end here; where a word's end matters, it is written out.
use Rattle.std.specs.Prelude.{ℕ, ◌+◌, ◌-◌, ◌*◌, ◌/◌, ◌%◌, ◌^◌, Bool, true, false, cond, ◌&&◌, ℤ, pos, negsuc, ◌==◌, int_le, nat_le, nat_lt, Option, Some, None, Result, Ok, Err, ⊤}
use Rattle.clock.specs.declared.GuestClock.{GuestClock}
use Rattle.clock.specs.declared.ClockError.{ClockError}
use Rattle.clock.specs.declared.ClockError.TheVariants.{InvalidConfiguration, Overflow, OutOfForm}
use Rattle.clock.specs.declared.Outcome.{Outcome}

-- Form

-- the longest uptime, in ms, whose ticks fit 64 bits: (2^64 - 1) / 10,000
abbrev pub most_uptime : ℕ
most_uptime = 1844674407370955

-- from -840 to 840 minutes; `negsuc 839` is -840
unfoldable pub offset_in_range : ℤ → Bool
offset_in_range minutes = int_le (negsuc 839) minutes && int_le minutes (pos 840)

-- 25's ranges: MHz from 1 to 100,000, the offset, the uptime
unfoldable pub in_range : ℕ → ℤ → ℕ → Bool
in_range uptime offset mhz = nat_le 1 mhz && (nat_le mhz 100000 && (nat_le uptime most_uptime && offset_in_range offset))

-- within 25's ranges, with ticks under 10,000 and countdown 1 to 1000
unfoldable pub in_form : GuestClock → Bool
in_form c =
    nat_lt c.submillisecond_100ns 10000
    && (nat_le 1 c.until_flush && (nat_le c.until_flush 1000 && in_range c.uptime_ms c.utc_offset_minutes c.base_mhz))

-- Answers

abbrev pub refused : GuestClock → ClockError → Outcome
refused c why = record { answer = Err why; clock = c }

abbrev pub done : GuestClock → Outcome
done c = record { answer = Ok tt; clock = c }

abbrev pub is_ok : Result ⊤ ClockError → Bool
is_ok (Ok done) = true
is_ok (Err why) = false

-- the clock `after` where all of it fits, else 26 and the clock `c`
abbrev pub if_fits : Bool → GuestClock → GuestClock → Outcome
if_fits fits after c = cond fits (done after) (refused c Overflow)

-- the same of the clock after, where there is one
abbrev pub fitted : Option GuestClock → GuestClock → Outcome
fitted (Some after) c = done after
fitted None c = refused c Overflow

-- 27 before all else
unfoldable pub when_in_form : GuestClock → Outcome → Outcome
when_in_form c o = cond (in_form c) o (refused c OutOfForm)

unfoldable pub read_in_form : GuestClock → Result ℕ ClockError → Result ℕ ClockError
read_in_form c r = cond (in_form c) r (Err OutOfForm)

-- `new`

unfoldable pub started : ℕ → ℕ → ℤ → ℕ → GuestClock
started utc uptime offset mhz =
    record {
      utc_filetime = utc;
      uptime_ms = uptime;
      submillisecond_100ns = 0;
      utc_offset_minutes = offset;
      base_mhz = mhz;
      pending_cycles = 0;
      until_flush = 1000;
    }

unfoldable pub created : ℕ → ℕ → ℤ → ℕ → Result GuestClock ClockError
created utc uptime offset mhz =
    cond (in_range uptime offset mhz) (Ok (started utc uptime offset mhz)) (Err InvalidConfiguration)

-- Advancing

-- the ticks past the uptime's last whole millisecond, once `ticks` more have passed
abbrev pub fraction : GuestClock → ℕ → ℕ
fraction c ticks = c.submillisecond_100ns + ticks

-- no sum passes a word, and the uptime keeps its range
unfoldable pub advances : GuestClock → ℕ → Bool
advances c ticks =
    nat_lt (c.utc_filetime + ticks) (2 ^ 64)
    && (nat_lt (fraction c ticks) (2 ^ 64) && nat_le (c.uptime_ms + fraction c ticks / 10000) most_uptime)

unfoldable pub moved : GuestClock → ℕ → GuestClock
moved c ticks =
    record {
      utc_filetime = c.utc_filetime + ticks;
      uptime_ms = c.uptime_ms + fraction c ticks / 10000;
      submillisecond_100ns = fraction c ticks % 10000;
      utc_offset_minutes = c.utc_offset_minutes;
      base_mhz = c.base_mhz;
      pending_cycles = c.pending_cycles;
      until_flush = c.until_flush;
    }

unfoldable pub advanced : GuestClock → ℕ → Outcome
advanced c ticks = if_fits (advances c ticks) (moved c ticks) c

unfoldable pub advanced_microseconds : GuestClock → ℕ → Outcome
advanced_microseconds c amount = advanced c (amount * 10)

unfoldable pub advance100ns : GuestClock → ℕ → Outcome
advance100ns c ticks = when_in_form c (advanced c ticks)

unfoldable pub advance_microseconds : GuestClock → ℕ → Outcome
advance_microseconds c amount = when_in_form c (advanced_microseconds c amount)

unfoldable pub advance_milliseconds : GuestClock → ℕ → Outcome
advance_milliseconds c amount = when_in_form c (advanced_microseconds c (amount * 1000))

-- Cycles

abbrev pub with_cycles : GuestClock → ℕ → ℕ → GuestClock
with_cycles c pending countdown =
    record {
      utc_filetime = c.utc_filetime;
      uptime_ms = c.uptime_ms;
      submillisecond_100ns = c.submillisecond_100ns;
      utc_offset_minutes = c.utc_offset_minutes;
      base_mhz = c.base_mhz;
      pending_cycles = pending;
      until_flush = countdown;
    }

-- the ticks of the whole microseconds that the pending cycles make at the clock's MHz
unfoldable pub flush_ticks : GuestClock → ℕ
flush_ticks c = c.pending_cycles / c.base_mhz * 10

unfoldable pub flushes : GuestClock → Bool
flushes c = advances c (flush_ticks c)

-- the whole microseconds become time, and the remainder stays pending
unfoldable pub flushed : GuestClock → GuestClock
flushed c = with_cycles (moved c (flush_ticks c)) (c.pending_cycles % c.base_mhz) c.until_flush

abbrev pub flush : GuestClock → Outcome
flush c = if_fits (flushes c) (flushed c) c

unfoldable pub flush_cycles : GuestClock → Outcome
flush_cycles c = when_in_form c (flush c)

-- 100 cycles, and a flush with the last of each 1000. Where that flush overflows, the cycles stay added and the countdown is 1000.
unfoldable pub instructed : GuestClock → Outcome
instructed c =
    cond (nat_lt (c.pending_cycles + 100) (2 ^ 64))
    (cond (c.until_flush == 1)
    (flush (with_cycles c (c.pending_cycles + 100) 1000))
    (done (with_cycles c (c.pending_cycles + 100) (c.until_flush - 1))))
    (refused c Overflow)

unfoldable pub instruction : GuestClock → Outcome
instruction c = when_in_form c (instructed c)

-- a flush and then a microsecond, 10 ticks; both or neither
unfoldable pub observe : GuestClock → Outcome
observe c = when_in_form c (if_fits (flushes c && advances (flushed c) 10) (moved (flushed c) 10) c)

-- Reading

-- all ticks since the start
abbrev pub ticks_of : GuestClock → ℕ
ticks_of c = c.uptime_ms * 10000 + c.submillisecond_100ns

-- the ticks, where they fit 64 bits
unfoldable pub qpc : GuestClock → Result ℕ ClockError
qpc c = read_in_form c (cond (nat_lt (ticks_of c) (2 ^ 64)) (Ok (ticks_of c)) (Err Overflow))

unfoldable pub tick64 : GuestClock → Result ℕ ClockError
tick64 c = read_in_form c (Ok (c.uptime_ms / 16 * 16))

-- ticks × MHz div 10, then pending cycles, both modulo 2^64
abbrev pub cycles_at : GuestClock → ℕ → ℕ
cycles_at c ticks = (ticks * c.base_mhz / 10 % 2 ^ 64 + c.pending_cycles) % 2 ^ 64

-- a reading made of another
unfoldable pub on_reading : (ℕ → ℕ) → Result ℕ ClockError → Result ℕ ClockError
on_reading f (Ok n) = Ok (f n)
on_reading f (Err why) = Err why

unfoldable pub tsc : GuestClock → Result ℕ ClockError
tsc c = on_reading (cycles_at c) (qpc c)
