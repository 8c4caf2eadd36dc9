-- No record stands at place 0, so that a place of 0 can be none.
use Prim.Native.Nat.{ℕ, ◌+◌, ◌*◌, ◌<◌}
use native.Mathlib.Omega.{arith}
use mathlib.Core.List.{List}
use mathlib.Core.Bool.{Bool, cond, true, false}
use mathlib.Core.Path.{◌≡◌, refl}
use lib.Dec.{leb, eqb}
use lib.ListN.{get_or}
use borrow.Author.Tests.{ne_eqb}
use Rattle.std.specs.Prelude.{Some, None}
use Rattle.words.specs.Layout as at
use Rattle.words.specs.Layout.{objects_at, entry_at}
use Rattle.tables.specs.Table.{key_at, position}
use Rattle.objects.specs.Found.{nonzero, found}
use Rattle.objects.specs.Objects.{objects_base, dpcs_base, found_at, object_found, dpc_found}

pub objects-some : (t : ℕ) → 0 < objects_at t
unfolding objects_at
objects-some t = go (leb t at.most_threads)
  where
    go : (b : Bool) → 0 < cond b (at.header_size + at.thread_size * t) at.header_size
    go true = omega arith
    go false = omega arith

pub entry-some : (base i : ℕ) → 0 < base → 0 < entry_at base i
unfolding entry_at
entry-some base i h = go (leb base 1000000) (leb i 8192)
  where
    go : (a b : Bool) → 0 < cond a (cond b (base + 32 * i) at.unused) at.unused
    go true true = omega (arith, h)
    go true false = omega arith
    go false b = omega arith

found-some : (w : List ℕ) (base n key : ℕ) → 0 < base → found w base n key ≡ nonzero (found_at w base n key)
unfolding found found_at
found-some w base n key h = go (leb n (position w base n key)) (eqb (key_at w base (position w base n key)) key) (entry_at base (position w base n key)) (entry-some base _ h)
  where
    go : (a b : Bool) (place : ℕ) → 0 < place → cond a None (cond b (Some place) None) ≡ nonzero (cond a 0 (cond b place 0))
    go true b place k = refl
    go false true place k = simp (ne_eqb place 0 (λ e. omega (arith, e, k)))
    go false false place k = refl

pub object-some : (w : List ℕ) (key : ℕ) → found w (objects_base w) (get_or w at.objects 0) key ≡ nonzero (object_found w key)
unfolding object_found objects_base
object-some w key = found-some w (objects_at (get_or w at.thread_limit 0)) (get_or w at.objects 0) key (objects-some _)

pub dpc-some : (w : List ℕ) (address : ℕ) → found w (dpcs_base w) (get_or w at.dpcs 0) address ≡ nonzero (dpc_found w address)
unfolding dpc_found dpcs_base objects_base
dpc-some w address = found-some w (entry_at (objects_at (get_or w at.thread_limit 0)) (get_or w at.object_limit 0)) (get_or w at.dpcs 0) address (entry-some _ _ (objects-some _))
