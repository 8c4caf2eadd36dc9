-- Where the table of DPCs starts, and that the count of DPCs is small.
use mathlib.Core.Bool.{Bool, cond, true, false}
use mathlib.Core.List.{List}
use mathlib.Core.Path.{◌≡◌, refl}
use Prim.Native.Nat.{ℕ, ◌+◌, ◌*◌, ◌≤◌}
use native.Mathlib.Omega.{arith}
use lib.Dec.{leb}
use lib.ListN.{get_or}
use borrow.Author.Tests.{leb-true}
use Rattle.words.specs.Layout as at
use Rattle.words.specs.Layout.{objects_at, entry_at}
use Rattle.words.proofs.LayoutLaws.{entry-small}
use Rattle.objects.specs.Objects.{objects_base, dpcs_base}
use Rattle.dpcs.specs.Record.{dpc_count}

objects-least : (t : ℕ) → at.header_size ≤ objects_at t
unfolding objects_at
objects-least t = go (leb t at.most_threads)
  where
    go : (b : Bool) → at.header_size ≤ cond b (at.header_size + at.thread_size * t) at.header_size
    go true = omega arith
    go false = omega arith

entry-least : (base i : ℕ) → at.unused ≤ base → at.unused ≤ entry_at base i
unfolding entry_at
entry-least base i h = go (leb base 1000000) (leb i 8192)
  where
    go : (a b : Bool) → at.unused ≤ cond a (cond b (base + 32 * i) at.unused) at.unused
    go true true = omega (arith, h)
    go true false = omega arith
    go false b = omega arith

pub base-least : (w : List ℕ) → at.unused ≤ dpcs_base w
unfolding dpcs_base objects_base
base-least w =
    let h = objects-least (get_or w at.thread_limit 0) in
    entry-least (objects_at (get_or w at.thread_limit 0)) (get_or w at.object_limit 0) (omega (arith, h))

pub base-most : (w : List ℕ) → dpcs_base w ≤ 1262144
unfolding dpcs_base
base-most w = entry-small (objects_base w) (get_or w at.object_limit 0)

pub count_most : (w : List ℕ) → dpc_count w ≤ 4096
unfolding dpc_count
count_most w = go (leb (get_or w at.dpcs 0) 4096) refl
  where
    go : (b : Bool) → leb (get_or w at.dpcs 0) 4096 ≡ b → cond b (get_or w at.dpcs 0) 4096 ≤ 4096
    go true e = leb-true _ _ e
    go false e = omega arith
