use mathlib.Core.Path.{◌≡◌}
use mathlib.Core.List.{◌++◌}
use lib.ListN.{length, drop}
use Rattle.script_print.specs.Print.{decimal_in, decimal}
use Rattle.script_print.proofs.spell.Given as goal

abbrev pub invariant-loop-i : goal.invariant-loop-i
invariant-loop-i l = (length l.digits ≡ 20) × (decimal_in l.i l.rest ++ drop l.i l.digits ≡ decimal l.n)
