-- What is read of timers. Records are walked in the table's order, by rising key.
use Rattle.std.specs.Prelude.{Bool, cond, true, false, not, ℕ, zero, suc, ◌+◌, ◌-◌, List, get_or, eqb, ltb, Option, Some, None, Result, Ok, Err}
use Rattle.words.specs.Layout as at
use Rattle.words.specs.Layout.{entry_at}
use Rattle.tables.specs.Table.{position}
use Rattle.objects.specs.Objects.{objects_base, object_count, dpcs_base, place_of}
use Rattle.images.specs.Place.{overlaps}
use Rattle.answers.specs.declared.Answer.{Answer}
use Rattle.answers.specs.declared.Answer.TheVariants as answer
use Rattle.timers.specs.TimerAnswer.{TimerAnswer}
use Rattle.timers.specs.TimerAnswer as read
use Rattle.answers.specs.declared.error.SchedulerError.{SchedulerError}
use Rattle.answers.specs.Errors.{number}
use Rattle.images.specs.declared.Timer.{Timer}
use Rattle.dpcs.specs.Record.{dpc_count}
use Rattle.timers.specs.Record.{timer_at, is_timer, is_inserted, size_at, dpc_size_at, first_in}

-- what the reads tell
abbrev pub told : Option Timer → TimerAnswer
told None = read.None
told (Some t) = read.Timer t

abbrev pub known : Result Timer SchedulerError → TimerAnswer
known (Ok t) = read.Timer t
known (Err e) = read.Refused (number e)

-- the record at a place; place 0 is none
unfoldable pub timer_answer : List ℕ → ℕ → TimerAnswer
timer_answer w place = cond (eqb place 0) read.None (read.Timer (timer_at w place))

-- ---- timer: 2

unfoldable pub timer_read : List ℕ → ℕ → TimerAnswer
timer_read w address = cond (eqb (place_of w 2 address) 0) (read.Refused 2) (read.Timer (timer_at w (place_of w 2 address)))

-- ---- timers, by position

-- a timer, where none of `n` timers is left to pass
unfoldable pub is_nth : List ℕ → ℕ → ℕ → Bool
is_nth w place n = cond (is_timer w place) (eqb n 0) false

-- how many are left to pass after it
unfoldable pub passed_to : List ℕ → ℕ → ℕ → ℕ
passed_to w place n = cond (is_timer w place) (n - 1) n

-- where the timer stands that has `n` timers before it, of `m` records from record `i` on; 0 where there is none
unfoldable pub nth_in : ℕ → List ℕ → ℕ → ℕ → ℕ → ℕ
nth_in zero w base i n = 0
nth_in (suc m) w base i n =
    cond (is_nth w (entry_at base i) n) (entry_at base i) (nth_in m w base (i + 1) (passed_to w (entry_at base i) n))

unfoldable pub nth_timer : List ℕ → ℕ → ℕ
nth_timer w n = nth_in (object_count w) w (objects_base w) 0 n

unfoldable pub timers_at : List ℕ → ℕ → TimerAnswer
timers_at w n = timer_answer w (nth_timer w n)

-- ---- timer_initializations

unfoldable pub timer_initializations : List ℕ → Answer
timer_initializations w = answer.Count (get_or w at.timer_initializations 0)

-- ---- pending_timer_dpc

-- an inserted timer that has a DPC
unfoldable pub is_pending : List ℕ → ℕ → Bool
is_pending w place = cond (is_timer w place) (cond (is_inserted w place) (not (eqb (get_or w (place + at.timer_dpc) 0) 0)) false) false

-- where the first of them stands; 0 where there is none
unfoldable pub pending_timer : List ℕ → ℕ
pending_timer w = first_in (object_count w) (is_pending w) (objects_base w) 0

unfoldable pub pending_read : List ℕ → TimerAnswer
pending_read w = timer_answer w (pending_timer w)

-- ---- timer_read_overlap, timer_metadata_overlap

-- the end of `size` bytes at an address, at most the largest number
unfoldable pub end_of : ℕ → ℕ → ℕ
end_of address size = cond (ltb 18446744073709551615 (address + size)) 18446744073709551615 (address + size)

-- where the last timer of the first `n` objects stands; 0 where there is none
unfoldable pub last_below : ℕ → List ℕ → ℕ → ℕ
last_below zero w base = 0
last_below (suc n) w base = cond (is_timer w (entry_at base n)) (entry_at base n) (last_below n w base)

-- where the last timer and the last DPC stand whose keys are below `end`
unfoldable pub last_timer : List ℕ → ℕ → ℕ
last_timer w end = last_below (position w (objects_base w) (object_count w) end) w (objects_base w)

unfoldable pub last_dpc : List ℕ → ℕ → ℕ
last_dpc w end =
    let n = position w (dpcs_base w) (dpc_count w) end in
    cond (eqb n 0) 0 (entry_at (dpcs_base w) (n - 1))

-- of the timers that start before the range's end, the last has a byte of the range
unfoldable pub overlaps_timer : List ℕ → ℕ → ℕ → Bool
overlaps_timer w address size =
    let place = last_timer w (end_of address size) in
    cond (eqb size 0) false (cond (eqb place 0) false (overlaps address size (get_or w (place + at.key) 0) (size_at w place)))

-- the same of the DPCs
unfoldable pub overlaps_dpc : List ℕ → ℕ → ℕ → Bool
overlaps_dpc w address size =
    let place = last_dpc w (end_of address size) in
    cond (eqb size 0) false (cond (eqb place 0) false (overlaps address size (get_or w (place + at.address) 0) (dpc_size_at w place)))

unfoldable pub read_overlap : List ℕ → ℕ → ℕ → Answer
read_overlap w address size = answer.Flag (overlaps_timer w address size)

unfoldable pub metadata_overlap : List ℕ → ℕ → ℕ → Answer
metadata_overlap w address size = answer.Flag (cond (overlaps_timer w address size) true (overlaps_dpc w address size))
