-- A place, where 0 is none; and where a record stands, if there is one.
use Rattle.std.specs.Prelude.{ℕ, cond, eqb, leb, List, Option, Some, None}
use Rattle.words.specs.Layout.{entry_at}
use Rattle.tables.specs.Table.{key_at, position}

abbrev pub nonzero : ℕ → Option ℕ
nonzero n = cond (eqb n 0) None (Some n)

-- the record with the key, of `n` records from `base` on
unfoldable pub found : List ℕ → ℕ → ℕ → ℕ → Option ℕ
found w base n key =
    let i = position w base n key in
    cond (leb n i) None (cond (eqb (key_at w base i) key) (Some (entry_at base i)) None)
