-- The search in a table, and the words after room is made in it.
use Rattle.std.specs.Prelude.{cond, ℕ, zero, suc, ◌+◌, ◌-◌, ◌*◌, ◌/◌, List, get_or, set, eqb, ltb}
use Rattle.words.specs.Layout.{entry_at}
use Rattle.tables.specs.declared.Part.{Part}

unfoldable pub key_at : List ℕ → ℕ → ℕ → ℕ
key_at w base i = get_or w (entry_at base i) 0

-- one step of a search by halves
unfoldable pub narrowed : List ℕ → ℕ → ℕ → Part → Part
narrowed w base key p =
    let half = p.size / 2 in
    cond (ltb (key_at w base (p.from + half)) key) (record { from = p.from + half + 1; size = p.size - (half + 1) }) (record { from = p.from; size = half })

-- at most `k` steps; 13 are enough for 8191 records
unfoldable pub searched_in : ℕ → List ℕ → ℕ → ℕ → Part → ℕ
searched_in zero w base key p = p.from
searched_in (suc k) w base key p = cond (eqb p.size 0) p.from (searched_in k w base key (narrowed w base key p))

-- the place of `key` among `n` records
unfoldable pub position : List ℕ → ℕ → ℕ → ℕ → ℕ
position w base n key = cond (ltb 8191 n) n (searched_in 13 w base key (record { from = 0; size = n }))

-- the `m` words before place `end` moved up by a record, the last first
unfoldable pub raised : ℕ → List ℕ → ℕ → List ℕ
raised zero w end = w
raised (suc m) w end = raised m (set w (end - 1 + 32) (get_or w (end - 1) 0)) (end - 1)

-- records `i` to `n - 1` moved up by one
unfoldable pub gap_opened : List ℕ → ℕ → ℕ → ℕ → List ℕ
gap_opened w base n i = cond (ltb 1000000 base) w (cond (ltb 8191 n) w (cond (ltb n i) w (raised (32 * (n - i)) w (entry_at base n))))
