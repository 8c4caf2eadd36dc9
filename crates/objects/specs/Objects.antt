-- The tables of objects and DPCs: where a record stands, and the words after one is written or made.
use Rattle.std.specs.Prelude.{Bool, cond, true, false, not, ℕ, ◌+◌, List, get_or, set, eqb, leb}
use Rattle.words.specs.Layout as at
use Rattle.words.specs.Layout.{objects_at, entry_at}
use Rattle.tables.specs.Table.{key_at, position, gap_opened}
use Rattle.objects.specs.declared.Object.{Object}

-- ---- where records stand

unfoldable pub objects_base : List ℕ → ℕ
objects_base w = objects_at (get_or w at.thread_limit 0)

unfoldable pub dpcs_base : List ℕ → ℕ
dpcs_base w = entry_at (objects_base w) (get_or w at.object_limit 0)

-- how many objects there are, at most 4096
unfoldable pub object_count : List ℕ → ℕ
object_count w = cond (leb (get_or w at.objects 0) 4096) (get_or w at.objects 0) 4096

-- the record with the key, of `n` records from `base` on; 0 where there is none
unfoldable pub found_at : List ℕ → ℕ → ℕ → ℕ → ℕ
found_at w base n key =
    let i = position w base n key in
    cond (leb n i) 0 (cond (eqb (key_at w base i) key) (entry_at base i) 0)

unfoldable pub object_found : List ℕ → ℕ → ℕ
object_found w key = found_at w (objects_base w) (get_or w at.objects 0) key

unfoldable pub dpc_found : List ℕ → ℕ → ℕ
dpc_found w address = found_at w (dpcs_base w) (get_or w at.dpcs 0) address

-- where the object of this kind and key stands, 0 for none
unfoldable pub place_of : List ℕ → ℕ → ℕ → ℕ
place_of w kind key =
    let place = object_found w key in
    cond (eqb place 0) 0 (cond (eqb (get_or w (place + at.kind) 0) kind) place 0)

-- ---- tests

-- an object of another kind has the key, or a DPC
unfoldable pub collides : List ℕ → ℕ → ℕ → Bool
collides w kind key =
    let place = object_found w key in
    let dpc = not (eqb (dpc_found w key) 0) in
    cond (eqb place 0) dpc (cond (eqb (get_or w (place + at.kind) 0) kind) dpc true)

-- the key is new, and the table is at its limit
unfoldable pub full : List ℕ → ℕ → Bool
full w key = cond (eqb (object_found w key) 0) (leb (get_or w at.object_limit 0) (get_or w at.objects 0)) false

-- ---- writing

unfoldable pub put_object : List ℕ → ℕ → ℕ → Object → List ℕ
put_object w place key o = set (set (set (set (set w place key) (place + at.kind) o.kind) (place + at.manual) o.manual) (place + at.signaled) o.signaled) (place + at.owner) o.owner

unfoldable pub inserted : List ℕ → ℕ → Object → List ℕ
inserted w key o =
    let n = get_or w at.objects 0 in
    let base = objects_base w in
    let i = position w base n key in
    cond (leb 4096 n) w (set (put_object (gap_opened w base n i) (entry_at base i) key o) at.objects (n + 1))

unfoldable pub entered : List ℕ → ℕ → Object → List ℕ
entered w key o = cond (eqb (object_found w key) 0) (inserted w key o) (put_object w (object_found w key) key o)
