-- A timer's record, and what the records of both tables say to the calls on timers. Kind 2 is a timer.
use Rattle.std.specs.Prelude.{Bool, cond, true, false, not, ℕ, zero, suc, ◌+◌, List, get_or, eqb}
use Rattle.words.specs.Layout as at
use Rattle.words.specs.Layout.{entry_at}
use Rattle.objects.specs.Objects.{dpc_found}
use Rattle.images.specs.declared.Timer.{Timer}
use Rattle.images.specs.declared.TimerBacking.{TimerBacking}
use Rattle.images.specs.Place.{architecture_of, backing_of, timer_size, dpc_size}

-- where a timer stands
unfoldable pub backing_at : List ℕ → ℕ → TimerBacking
backing_at w place = backing_of (get_or w (place + at.timer_backing) 0) (get_or w (place + at.timer_base) 0) (get_or w (place + at.timer_size) 0) (get_or w (place + at.timer_mapped) 0)

unfoldable pub timer_at : List ℕ → ℕ → Timer
timer_at w place =
    record {
      address = get_or w (place + at.key) 0;
      architecture = architecture_of (get_or w (place + at.timer_architecture) 0);
      backing = backing_at w place;
      manual_reset = not (eqb (get_or w (place + at.manual) 0) 0);
      signaled = not (eqb (get_or w (place + at.signaled) 0) 0);
      inserted = not (eqb (get_or w (place + at.inserted) 0) 0);
      due = get_or w (place + at.due) 0;
      period_ms = get_or w (place + at.period) 0;
      dpc = get_or w (place + at.timer_dpc) 0;
      absolute = not (eqb (get_or w (place + at.absolute) 0) 0);
      arm_generation = get_or w (place + at.arm) 0;
      initialization = get_or w (place + at.initialization) 0;
    }

unfoldable pub is_timer : List ℕ → ℕ → Bool
is_timer w place = eqb (get_or w (place + at.kind) 0) 2

unfoldable pub is_inserted : List ℕ → ℕ → Bool
is_inserted w place = not (eqb (get_or w (place + at.inserted) 0) 0)

-- the bytes of the timer at a place, and those of the DPC at one
unfoldable pub size_at : List ℕ → ℕ → ℕ
size_at w place = timer_size (architecture_of (get_or w (place + at.timer_architecture) 0))

unfoldable pub dpc_size_at : List ℕ → ℕ → ℕ
dpc_size_at w place = dpc_size (architecture_of (get_or w (place + at.dpc_architecture) 0))

-- there is such a DPC, and its phase is not idle
unfoldable pub busy : List ℕ → ℕ → Bool
busy w address = cond (eqb (dpc_found w address) 0) false (not (eqb (get_or w (dpc_found w address + at.phase) 0) 0))

-- ---- walks of a table that starts at `base`, over `m` records from record `i` on

-- one of them passes the test of its place
unfoldable pub some_in : ℕ → (ℕ → Bool) → ℕ → ℕ → Bool
some_in zero test base i = false
some_in (suc m) test base i = cond (test (entry_at base i)) true (some_in m test base (i + 1))

-- where the first stands that passes the test; 0 where there is none
unfoldable pub first_in : ℕ → (ℕ → Bool) → ℕ → ℕ → ℕ
first_in zero test base i = 0
first_in (suc m) test base i = cond (test (entry_at base i)) (entry_at base i) (first_in m test base (i + 1))

-- the words after a change at the place of each, in turn
unfoldable pub each_in : ℕ → (List ℕ → ℕ → List ℕ) → List ℕ → ℕ → ℕ → List ℕ
each_in zero change w base i = w
each_in (suc m) change w base i = each_in m change (change w (entry_at base i)) base (i + 1)
