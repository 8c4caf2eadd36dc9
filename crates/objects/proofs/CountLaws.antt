-- The count of objects is small.
use Prim.Native.Nat.{ℕ, ◌≤◌}
use native.Mathlib.Omega.{arith}
use mathlib.Core.List.{List}
use mathlib.Core.Bool.{Bool, cond, true, false}
use mathlib.Core.Path.{◌≡◌, refl}
use lib.ListN.{get_or}
use lib.Dec.{leb}
use borrow.Author.Tests.{leb-true}
use Rattle.words.specs.Layout as at
use Rattle.objects.specs.Objects.{object_count}

pub count_most : (w : List ℕ) → object_count w ≤ 4096
unfolding object_count
count_most w = go (leb (get_or w at.objects 0) 4096) refl
  where
    go : (b : Bool) → leb (get_or w at.objects 0) 4096 ≡ b → cond b (get_or w at.objects 0) 4096 ≤ 4096
    go true e = leb-true _ _ e
    go false e = omega arith
