use mathlib.Core.Path.{◌≡◌}
use lib.ListN.{length}
use Rattle.threads.specs.Thread.{filled}
use Rattle.threads.proofs.fill.Given as goal

abbrev pub invariant-loop-i : goal.invariant-loop-i
invariant-loop-i l = (length l.places ≡ 128) × (l.places ≡ filled l.i l.list)
