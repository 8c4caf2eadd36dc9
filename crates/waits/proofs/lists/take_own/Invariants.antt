use mathlib.Core.Path.{◌≡◌}
use Prim.Native.Nat.{◌-◌}
use Rattle.waits.specs.Lists.{taken_own}
use Rattle.waits.proofs.lists.take_own.Given as goal

abbrev pub invariant-loop-i : goal.invariant-loop-i
invariant-loop-i l = taken_own (l.n - l.i) l.w l.id l.at l.i ≡ taken_own l.n l.initial.w l.id l.at 0
