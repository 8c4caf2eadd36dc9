use mathlib.Core.Path.{◌≡◌}
use Prim.Native.Nat.{◌-◌}
use Rattle.std.specs.Prelude.{drop}
use Rattle.waits.specs.Lists.{taken_list}
use Rattle.waits.proofs.lists.Pairs.take_each.Given as goal

abbrev pub invariant-loop-i : goal.invariant-loop-i
invariant-loop-i l =
    let list = drop l.self.at l.self.src.now in taken_list (l.self.n - l.i) l.w l.id list l.i ≡ taken_list l.self.n l.initial.w l.id list 0
