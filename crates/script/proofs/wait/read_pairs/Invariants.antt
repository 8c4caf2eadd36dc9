use lib.ListN.{length}
use mathlib.Core.Path.{◌≡◌}
use Rattle.script_lex.specs.Left.{left}
use Rattle.script.specs.Wait.{pairs_of}
use Rattle.script.proofs.wait.read_pairs.Given as goal

abbrev pub invariant-loop-i : goal.invariant-loop-i
invariant-loop-i l = (length l.list ≡ length l.initial.list) × (pairs_of (left l.rest) l.i l.list ≡ pairs_of (left l.words) 0 l.initial.list)
