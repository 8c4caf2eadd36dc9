use mathlib.Core.Path.{◌≡◌}
use Prim.Native.Nat.{◌+◌, ◌*◌, ◌≤◌}
use lib.ListN.{length}
use Rattle.script_lex.specs.Left.{left}
use Rattle.reasons.specs.Reasons.{reason_from}
use Rattle.reasons.proofs.arguments.reason_from.Given as goal

abbrev pub invariant-loop-here : goal.invariant-loop-here
invariant-loop-here l = (l.place + length (left l.here) ≡ l.number + length (left l.words)) × (l.i ≤ 2 * l.place) × (reason_from l.form l.i l.place (left l.here) ≡ reason_from l.form 0 l.number (left l.words))

abbrev pub decreases-loop-here : goal.decreases-loop-here
decreases-loop-here l = length (left l.here)
