-- A clock in seven words, and what a call answers and leaves behind.
use Rattle.std.specs.Prelude.{ℕ, ◌+◌, ◌-◌, cond, List, length, set, ℤ, pos, negsuc, ◌-ℤ◌, ◌==◌, nat_le, nat_lt, slice_index, slice_set, Result, Ok, Err}
use Rattle.clock.specs.declared.GuestClock.{GuestClock}
use Rattle.clock.specs.declared.Outcome.{Outcome}
use Rattle.clock.specs.declared.ClockError.{ClockError}
use Rattle.clock.specs.Clock.{offset_in_range}
use Rattle.clock.specs.Numbers.{error_number, refusal_number}

-- The seven words

-- a word up to `most`, the greatest of its field's type, or else a value out of form
unfoldable pub fitted : ℕ → ℕ → ℕ → ℕ
fitted most word other = cond (nat_le word most) word other

unfoldable pub offset_at : ℕ → ℤ
offset_at word = cond (nat_le word 1680) (pos word -ℤ pos 840) (pos 841)

-- minutes from -840 on, plus 840
abbrev pub biased : ℤ → ℕ
biased (pos n) = n + 840
biased (negsuc n) = 839 - n

unfoldable pub offset_word : ℤ → ℕ
offset_word minutes = cond (offset_in_range minutes) (biased minutes) 0

-- a missing word reads as 0, so a clock in fewer than seven has countdown 0
unfoldable pub clock_at : List ℕ → GuestClock
clock_at w =
    record {
      utc_filetime = slice_index w 0;
      uptime_ms = slice_index w 1;
      submillisecond_100ns = fitted 4294967295 (slice_index w 2) 10000;
      utc_offset_minutes = offset_at (slice_index w 3);
      base_mhz = fitted 4294967295 (slice_index w 4) 0;
      pending_cycles = slice_index w 5;
      until_flush = fitted 65535 (slice_index w 6) 0;
    }

unfoldable pub put_clock : List ℕ → GuestClock → List ℕ
put_clock w c =
    let w = set w 0 c.utc_filetime in
    let w = set w 1 c.uptime_ms in
    let w = set w 2 c.submillisecond_100ns in
    let w = set w 3 (offset_word c.utc_offset_minutes) in
    let w = set w 4 c.base_mhz in
    let w = set w 5 c.pending_cycles in
    slice_set w 6 c.until_flush

-- Calls

-- the number that a call answers, and the words lent to it after
pub record Returned : Type 0 where
  pub number : ℕ
  pub words : List ℕ

abbrev pub returned : ℕ → List ℕ → Returned
returned n w = record { number = n; words = w }

-- `new`: 25, then 27 for too few words
unfoldable pub opened : List ℕ → Result GuestClock ClockError → Returned
opened w (Err why) = returned (error_number why) w
opened w (Ok c) = cond (nat_lt (length w) 7) (returned 27 w) (returned 0 (put_clock w c))

-- the words after a call that changes the clock; those out of form, 27, stay as they are
unfoldable pub ended : List ℕ → Outcome → Returned
ended w o = returned (refusal_number o.answer) (cond (refusal_number o.answer == 27) w (put_clock w o.clock))

unfoldable pub changed : (GuestClock → Outcome) → List ℕ → Returned
changed call w = ended w (call (clock_at w))

unfoldable pub placed : List ℕ → Result ℕ ClockError → Returned
placed out (Ok value) = returned 0 (slice_set out 0 value)
placed out (Err why) = returned (error_number why) out

-- what a read leaves in `out`; 27 where there is no room
unfoldable pub answered : List ℕ → Result ℕ ClockError → Returned
answered out r = cond (nat_lt (length out) 1) (returned 27 out) (placed out r)

unfoldable pub read_into : (GuestClock → Result ℕ ClockError) → List ℕ → List ℕ → Returned
read_into call w out = answered out (call (clock_at w))
