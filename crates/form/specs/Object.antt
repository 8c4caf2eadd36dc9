-- The objects in form. Kind 0 is a mutex, 1 an event, 2 a timer.
use Rattle.std.specs.Prelude.{Bool, cond, true, false, ℕ, zero, suc, ◌+◌, List, get_or, eqb, leb, ltb}
use Rattle.words.specs.Layout as at
use Rattle.words.specs.Layout.{entry_at}
use Rattle.tables.specs.Table.{key_at}
use Rattle.objects.specs.Objects.{objects_base, object_count}
use Rattle.form_dpc.specs.Place.{key_rises}
use Rattle.form_dpc.specs.Timer.{timer_numbers, dpc_serves}
use Rattle.form_threads.specs.Thread.{live}

-- words that say nothing hold 0: the two flags of a mutex
unfoldable pub mutex_passes : List ℕ → ℕ → Bool
mutex_passes w place = cond (eqb (get_or w (place + at.manual) 0) 0) (eqb (get_or w (place + at.signaled) 0) 0) false

-- an event's two flags
unfoldable pub event_passes : List ℕ → ℕ → Bool
event_passes w place = cond (ltb 1 (get_or w (place + at.manual) 0)) false (leb (get_or w (place + at.signaled) 0) 1)

-- document 01: stored numbers pass their checks, of an object
unfoldable pub object_numbers : List ℕ → ℕ → ℕ → Bool
object_numbers w base i =
    let kind = get_or w (entry_at base i + at.kind) 0 in
    cond (eqb (key_at w base i) 0) false
    (cond (eqb kind 0) (mutex_passes w (entry_at base i))
    (cond (eqb kind 1) (event_passes w (entry_at base i)) (cond (eqb kind 2) (timer_numbers w (entry_at base i)) false)))

-- document 01: owners are live; words that say nothing hold 0: the owner of what is no mutex
unfoldable pub owner_lives : List ℕ → ℕ → ℕ → Bool
owner_lives w base i =
    let owner = get_or w (entry_at base i + at.owner) 0 in
    cond (eqb (get_or w (entry_at base i + at.kind) 0) 0) (cond (eqb owner 0) true (live w owner)) (eqb owner 0)

unfoldable pub object_passes : List ℕ → ℕ → ℕ → Bool
object_passes w base i =
    cond (object_numbers w base i)
    (cond (key_rises w base i) (cond (owner_lives w base i) (dpc_serves w (entry_at base i)) false) false) false

-- the `m` objects from place `i` on pass
unfoldable pub objects_in : ℕ → List ℕ → ℕ → ℕ → Bool
objects_in zero w base i = true
objects_in (suc m) w base i = cond (object_passes w base i) (objects_in m w base (i + 1)) false

unfoldable pub objects_pass : List ℕ → Bool
objects_pass w = objects_in (object_count w) w (objects_base w) 0
