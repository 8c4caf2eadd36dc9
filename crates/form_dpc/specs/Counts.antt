-- The counts of DPC work in form.
use Rattle.std.specs.Prelude.{Bool, cond, false, ℕ, ◌+◌, List, get_or, eqb, leb, ltb}
use Rattle.words.specs.Layout as at
use Rattle.objects.specs.Objects.{dpc_found}
use Rattle.form_dpc.specs.Dpc.{phase_count}

-- how many DPCs are running or returning
unfoldable pub active_count : List ℕ → ℕ
active_count w = phase_count w 2 + phase_count w 3

-- what was accepted is removed, restored, queued or active
abbrev pub sum_holds_as : List ℕ → ℕ → ℕ → Bool
sum_holds_as w queued active = eqb (get_or w at.accepted 0) (get_or w at.removed 0 + (get_or w at.restored 0 + (queued + active)))

-- document 01: demand 3's sum holds
unfoldable pub sum_holds : List ℕ → Bool
sum_holds w = sum_holds_as w (phase_count w 1) (active_count w)

abbrev pub active_named_as : List ℕ → ℕ → Bool
active_named_as w active =
    let address = get_or w at.active 0 in
    cond (eqb address 0) (eqb active 0) (cond (eqb (dpc_found w address) 0) false (leb 2 (get_or w (dpc_found w address + at.phase) 0)))

-- the active word is 0 where no work is active, else the address of a DPC whose work is
unfoldable pub active_named : List ℕ → Bool
active_named w = active_named_as w (active_count w)

abbrev pub starts_pass_as : List ℕ → ℕ → Bool
starts_pass_as w active =
    cond (ltb 1 active) false (cond (eqb (get_or w at.started 0) (get_or w at.restored 0 + active)) (active_named_as w active) false)

-- document 01: starts less restorations is the active work, at most one
unfoldable pub starts_pass : List ℕ → Bool
starts_pass w = starts_pass_as w (active_count w)

abbrev pub returns_pass_as : List ℕ → ℕ → Bool
returns_pass_as w returning = eqb (get_or w at.returned 0) (get_or w at.restored 0 + returning)

-- document 01: returns less restorations is the returning work
unfoldable pub returns_pass : List ℕ → Bool
returns_pass w = returns_pass_as w (phase_count w 3)
