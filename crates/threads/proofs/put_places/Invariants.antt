use mathlib.Core.Path.{◌≡◌}
use Prim.Native.Nat.{◌-◌}
use lib.ListN.{length}
use Rattle.threads.specs.Thread.{put_places}
use Rattle.threads.proofs.put_places.Given as goal

abbrev pub invariant-loop-i : goal.invariant-loop-i
invariant-loop-i l = (length l.w ≡ length l.initial.w) × (put_places (l.n - l.i) l.w l.at l.places l.i ≡ put_places l.n l.initial.w l.at l.places 0)
