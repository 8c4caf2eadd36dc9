-- The timers in form. Kind 2 is a timer.
use Rattle.std.specs.Prelude.{Bool, cond, true, false, ℕ, ◌+◌, List, get_or, eqb, leb, ltb}
use Rattle.words.specs.Layout as at
use Rattle.objects.specs.Objects.{dpc_found}
use Rattle.images.specs.Place.{architecture_of, timer_size}
use Rattle.form_dpc.specs.Place.{located}

-- its four flags
unfoldable pub timer_flags : List ℕ → ℕ → Bool
timer_flags w place =
    cond (ltb 1 (get_or w (place + at.manual) 0)) false
    (cond (ltb 1 (get_or w (place + at.signaled) 0)) false
    (cond (ltb 1 (get_or w (place + at.inserted) 0)) false (leb (get_or w (place + at.absolute) 0) 1)))

-- its period is no negative i32, and its initialization has been
unfoldable pub timer_times : List ℕ → ℕ → Bool
timer_times w place =
    cond (ltb 2147483647 (get_or w (place + at.period) 0)) false
    (cond (eqb (get_or w (place + at.initialization) 0) 0) false (leb (get_or w (place + at.initialization) 0) (get_or w at.timer_initializations 0)))

unfoldable pub timer_placed : List ℕ → ℕ → Bool
timer_placed w place = located w place at.timer_architecture (timer_size (architecture_of (get_or w (place + at.timer_architecture) 0)))

-- document 01: stored numbers pass their checks, of a timer
unfoldable pub timer_numbers : List ℕ → ℕ → Bool
timer_numbers w place = cond (timer_flags w place) (cond (timer_times w place) (timer_placed w place) false) false

-- the DPC exists and says that the timer with the key has it
unfoldable pub serves_it : List ℕ → ℕ → ℕ → Bool
serves_it w dpc key = cond (eqb (dpc_found w dpc) 0) false (eqb (get_or w (dpc_found w dpc + at.named_by) 0) key)

-- document 01: an inserted timer's DPC, if any, exists and serves no other
unfoldable pub dpc_serves : List ℕ → ℕ → Bool
dpc_serves w place =
    let dpc = get_or w (place + at.timer_dpc) 0 in
    cond (eqb (get_or w (place + at.kind) 0) 2)
    (cond (eqb (get_or w (place + at.inserted) 0) 0) true (cond (eqb dpc 0) true (serves_it w dpc (get_or w place 0)))) true

-- the timer is inserted and has the DPC
unfoldable pub has_dpc : List ℕ → ℕ → ℕ → Bool
has_dpc w place dpc = cond (eqb (get_or w (place + at.inserted) 0) 0) false (eqb (get_or w (place + at.timer_dpc) 0) dpc)
