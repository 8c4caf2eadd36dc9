-- Bench samples P7 and P8 of document 01, as tests that compute.
use Rattle.std.specs.Prelude.{ℕ, zero, suc, ◌-◌, ◌^◌, Bool, false, ◌&&◌, pos, ◌==◌, Result, Ok, Err}
use Rattle.clock.specs.declared.GuestClock.{GuestClock}
use Rattle.clock.specs.declared.ClockError.{ClockError}
use Rattle.clock.specs.Clock.{created, instruction, most_uptime, qpc}
use Rattle.clock.specs.Numbers.{error_number}

unfoldable pub iterate : ℕ → GuestClock → GuestClock
iterate zero c = c
iterate (suc n) c = iterate n (instruction c).clock

unfoldable pub stands : ℕ → ℕ → ℕ → GuestClock → Bool
stands uptime ticks pending c =
    (c.uptime_ms == uptime) && (c.submillisecond_100ns == ticks && c.pending_cycles == pending)

unfoldable pub of : (GuestClock → Bool) → Result GuestClock ClockError → Bool
of test (Ok c) = test c
of test (Err why) = false

-- 1000 instructions at 3 MHz from zero
unfoldable pub p7 : Bool
p7 = of (λ (c : GuestClock). stands 33 3330 1 (iterate 1000 c)) (created 0 0 (pos 0) 3)

unfoldable pub at_limit : ℕ → GuestClock
at_limit ticks =
    record {
      utc_filetime = 0;
      uptime_ms = most_uptime;
      submillisecond_100ns = ticks;
      utc_offset_minutes = pos 0;
      base_mhz = 1;
      pending_cycles = 0;
      until_flush = 1;
    }

unfoldable pub reads : ℕ → Result ℕ ClockError → Bool
reads n (Ok m) = m == n
reads n (Err why) = false

unfoldable pub refuses : ℕ → Result ℕ ClockError → Bool
refuses n (Ok m) = false
refuses n (Err why) = error_number why == n

-- the uptime limit with 1615 ticks, and with 1616
unfoldable pub p8 : Bool
p8 = reads (2 ^ 64 - 1) (qpc (at_limit 1615)) && refuses 26 (qpc (at_limit 1616))
