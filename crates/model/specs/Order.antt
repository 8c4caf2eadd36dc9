-- In what order due timers expire, in words.
use Rattle.std.specs.Prelude.{◌<◌, List, [], ◌∷◌, ◌≡◌, ◌⊎◌}
use Rattle.images.specs.declared.Timer.{Timer}
use Rattle.model.specs.Lists.{Mem}

-- "due timers go by address"
abbrev pub ByAddress : List Timer → Type 0
ByAddress [] = Unit
ByAddress (t ∷ ts) = ((u : Timer) → Mem u ts → t.address < u.address) × ByAddress ts

-- "With a policy they go by due, then address"
abbrev pub Sooner : Timer → Timer → Type 0
Sooner t u = (t.due < u.due) ⊎ ((t.due ≡ u.due) × (t.address < u.address))

-- each of them sooner than all behind it
abbrev pub ByDue : List Timer → Type 0
ByDue [] = Unit
ByDue (t ∷ ts) = ((u : Timer) → Mem u ts → Sooner t u) × ByDue ts
