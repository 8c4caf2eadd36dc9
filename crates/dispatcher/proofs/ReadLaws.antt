-- A thread waits for at most 64 objects.
use Prim.Native.Nat.{ℕ, ◌≤◌, zero-le}
use mathlib.Core.List.{List}
use mathlib.Core.Bool.{Bool, true, false, cond}
use Rattle.threads.specs.Thread.{count_of}
use Rattle.wakes.proofs.WakeLaws.{count_most}
use Rattle.dispatcher.specs.Dispatch.{is_waiting}
use Rattle.dispatcher.specs.Read.{waited_count}

pub waited_most : (w : List ℕ) (id : ℕ) → waited_count w id ≤ 64
unfolding waited_count
waited_most w id = go (is_waiting w id)
  where
    go : (b : Bool) → cond b (count_of w id) 0 ≤ 64
    go true = count_most w id
    go false = zero-le
