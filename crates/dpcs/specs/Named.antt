-- Which DPC an inserted timer has.
use Rattle.std.specs.Prelude.{Bool, cond, true, false, not, ℕ, zero, suc, ◌+◌, List, get_or, eqb}
use Rattle.words.specs.Layout as at
use Rattle.words.specs.Layout.{entry_at}
use Rattle.objects.specs.Objects.{objects_base, object_count, dpc_found}

-- an inserted timer (kind 2) with no DPC
unfoldable pub is_bare : List ℕ → ℕ → Bool
is_bare w place = cond (eqb (get_or w (place + at.kind) 0) 2) (cond (eqb (get_or w (place + at.inserted) 0) 0) false (eqb (get_or w (place + at.timer_dpc) 0) 0)) false

-- one of `m` objects from object `i` on
unfoldable pub bare_in : ℕ → List ℕ → ℕ → ℕ → Bool
bare_in zero w base i = false
bare_in (suc m) w base i = cond (is_bare w (entry_at base i)) true (bare_in m w base (i + 1))

unfoldable pub any_bare : List ℕ → Bool
any_bare w = bare_in (object_count w) w (objects_base w) 0

-- an inserted timer has the DPC; a timer with no DPC has the one at 0
unfoldable pub is_named : List ℕ → ℕ → Bool
is_named w address =
    cond (eqb address 0) (any_bare w) (cond (eqb (dpc_found w address) 0) false (not (eqb (get_or w (dpc_found w address + at.named_by) 0) 0)))
