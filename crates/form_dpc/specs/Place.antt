-- Keys along a table, and where a timer or a DPC may stand.
use Rattle.std.specs.Prelude.{Bool, cond, true, false, ◌≡◌, ℕ, zero, suc, ◌+◌, ◌-◌, ◌≤◌, ◌<◌, List, get_or, eqb, ltb}
use Rattle.words.specs.Layout as at
use Rattle.tables.specs.Table.{key_at}
use Rattle.objects.specs.Objects.{objects_base}
use Rattle.images.specs.Place.{architecture_of, backing_of, location_refusal}

-- document 01: no key stands twice, for keys rise along each table
unfoldable pub key_rises : List ℕ → ℕ → ℕ → Bool
key_rises w base i = cond (eqb i 0) true (ltb (key_at w base (i - 1)) (key_at w base i))

-- the first of the `m` records from place `i` on whose key is not below `key`, or the place behind them
unfoldable pub past_in : ℕ → List ℕ → ℕ → ℕ → ℕ → ℕ
past_in zero w base i key = i
past_in (suc m) w base i key = cond (ltb (key_at w base i) key) (past_in m w base (i + 1) key) i

-- the objects are few enough, and their keys rise
pub record Risen (w : List ℕ) : Type 0 where
  pub few : get_or w at.objects 0 ≤ 4096
  pub rise : (i : ℕ) → i < get_or w at.objects 0 → key_rises w (objects_base w) i ≡ true

-- words that say nothing hold 0: the mapped bytes of an image
unfoldable pub mapped_passes : ℕ → ℕ → Bool
mapped_passes kind mapped = cond (eqb kind 0) (eqb mapped 0) true

-- what stands at a place may stand in the guest's memory with `size` bytes: the five words from `from` on are its
-- architecture and its backing with the base, the size and the mapped bytes
unfoldable pub located : List ℕ → ℕ → ℕ → ℕ → Bool
located w place from size =
    let n = get_or w (place + from) 0 in
    let kind = get_or w (place + (from + 1)) 0 in
    let mapped = get_or w (place + (from + 4)) 0 in
    let b = backing_of kind (get_or w (place + (from + 2)) 0) (get_or w (place + (from + 3)) 0) mapped in
    cond (ltb 1 n) false
    (cond (ltb 1 kind) false
    (cond (mapped_passes kind mapped) (eqb (location_refusal (get_or w place 0) size (architecture_of n) b) 0) false))
