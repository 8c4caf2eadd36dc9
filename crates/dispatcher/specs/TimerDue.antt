-- The timers that a dispatch counts when it says what to advance to. Kind 2 is a timer.
use Rattle.std.specs.Prelude.{Bool, cond, true, false, ℕ, zero, suc, ◌+◌, List, get_or, eqb, Option}
use Rattle.words.specs.Layout as at
use Rattle.words.specs.Layout.{entry_at}
use Rattle.objects.specs.Objects.{objects_base, object_count}
use Rattle.chains.specs.Chain.{first_of}
use Rattle.chains.specs.Ready.{waiters_chain}
use Rattle.wakes.specs.Wake.{waits_on}
use Rattle.dispatcher.specs.Dispatch.{sooner, soonest}

-- unsignaled and in a waiter's list
unfoldable pub is_awaited : List ℕ → ℕ → Bool
is_awaited w place = cond (eqb (get_or w (place + at.signaled) 0) 0) (waits_on w 2 (get_or w (place + at.key) 0)) false

-- document 01: it is inserted, and it either has a DPC or is unsignaled and in a waiter's list
unfoldable pub timer_counts : List ℕ → ℕ → Bool
timer_counts w place =
    cond (eqb (get_or w (place + at.kind) 0) 2) (cond (eqb (get_or w (place + at.inserted) 0) 0) false (cond (eqb (get_or w (place + at.timer_dpc) 0) 0) (is_awaited w place) true)) false

unfoldable pub due_with : List ℕ → Option ℕ → ℕ → Option ℕ
due_with w d place = cond (timer_counts w place) (sooner d 1 (get_or w (place + at.due) 0)) d

-- of the `m` objects from place `i` on
unfoldable pub soonest_timer_in : ℕ → List ℕ → Option ℕ → ℕ → ℕ → Option ℕ
soonest_timer_in zero w d base i = d
soonest_timer_in (suc m) w d base i = soonest_timer_in m w (due_with w d (entry_at base i)) base (i + 1)

unfoldable pub soonest_timer : List ℕ → Option ℕ → Option ℕ
soonest_timer w d = soonest_timer_in (object_count w) w d (objects_base w) 0

-- document 01: the smallest waiting deadline or counted timer due; a timer counts if some thread waits
unfoldable pub next_time : List ℕ → Option ℕ
next_time w = cond (eqb (first_of w waiters_chain) 0) (soonest w) (soonest_timer w (soonest w))
