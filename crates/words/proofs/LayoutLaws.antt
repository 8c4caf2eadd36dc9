-- No place comes near the end of a word: sums of places and offsets fit.
use mathlib.Core.Bool.{Bool, cond, true, false}
use mathlib.Core.Path.{◌≡◌, refl}
use Prim.Native.Nat.{ℕ, ◌+◌, ◌*◌, ◌≤◌}
use native.Mathlib.Omega.{arith}
use borrow.Author.Tests.{leb-true}
use lib.Dec.{leb}
use Rattle.words.specs.Layout as at
use Rattle.words.specs.Layout.{thread_at, objects_at, entry_at}

pub thread-small : (id : ℕ) → thread_at id ≤ 41056
unfolding thread_at
thread-small id = go (leb id at.most_threads) refl
  where
    go : (b : Bool) → leb id at.most_threads ≡ b → cond b (at.thread_from id) at.unused ≤ 41056
    go true e = omega (arith, leb-true id at.most_threads e)
    go false e = omega arith

pub objects-small : (t : ℕ) → objects_at t ≤ 41216
unfolding objects_at
objects-small t = go (leb t at.most_threads) refl
  where
    go : (b : Bool) → leb t at.most_threads ≡ b → cond b (at.header_size + at.thread_size * t) at.header_size ≤ 41216
    go true e = omega (arith, leb-true t at.most_threads e)
    go false e = omega arith

pub entry-small : (base i : ℕ) → entry_at base i ≤ 1262144
unfolding entry_at
entry-small base i = go (leb base 1000000) (leb i 8192) refl refl
  where
    go : (a b : Bool) → leb base 1000000 ≡ a → leb i 8192 ≡ b → cond a (cond b (base + 32 * i) at.unused) at.unused ≤ 1262144
    go true true e f = omega (arith, leb-true base 1000000 e, leb-true i 8192 f)
    go true false e f = omega arith
    go false b e f = omega arith
