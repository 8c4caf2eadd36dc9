-- Which timers are due. A timer is told by its place in the object table, from 0 on.
use Rattle.std.specs.Prelude.{ℕ, zero, suc, ◌+◌, Bool, true, false, cond, List, [], ◌∷◌, ◌==◌, nat_le, slice_index, slice_set}
use Rattle.words.specs.Layout as at
use Rattle.words.specs.Layout.{entry_at}
use Rattle.objects.specs.Objects.{objects_base, object_count}

-- an inserted timer (kind 2) whose due has come
unfoldable pub is_due : List ℕ → ℕ → ℕ → Bool
is_due w place time = cond (slice_index w (place + at.kind) == 2) (cond (slice_index w (place + at.inserted) == 0) false (nat_le (slice_index w (place + at.due)) time)) false

-- of the `m` objects from place `i` on
unfoldable pub due_in : ℕ → List ℕ → ℕ → ℕ → ℕ → List ℕ
due_in zero w base i time = []
due_in (suc m) w base i time = cond (is_due w (entry_at base i) time) (i ∷ due_in m w base (i + 1) time) (due_in m w base (i + 1) time)

-- in the order of the table, which is that of addresses
unfoldable pub due_list : List ℕ → ℕ → List ℕ
due_list w time = due_in (object_count w) w (objects_base w) 0 time

unfoldable pub any_in : ℕ → List ℕ → ℕ → ℕ → ℕ → Bool
any_in zero w base i time = false
any_in (suc m) w base i time = cond (is_due w (entry_at base i) time) true (any_in m w base (i + 1) time)

unfoldable pub any_due : List ℕ → ℕ → Bool
any_due w time = any_in (object_count w) w (objects_base w) 0 time

-- a due timer's place at place `k` of a list, and the list's next place
unfoldable pub noted : List ℕ → ℕ → ℕ → ℕ → List ℕ → ℕ → List ℕ
noted w base i time list k = cond (is_due w (entry_at base i) time) (slice_set list k i) list

unfoldable pub noted_to : List ℕ → ℕ → ℕ → ℕ → ℕ → ℕ
noted_to w base i time k = cond (is_due w (entry_at base i) time) (k + 1) k
