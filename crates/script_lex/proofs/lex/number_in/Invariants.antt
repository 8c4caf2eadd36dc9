use mathlib.Core.Path.{◌≡◌}
use Prim.Native.Nat.{◌≤◌}
use lib.ListN.{drop}
use Rattle.script_lex.specs.Numbers.{number_from, number_of}
use Rattle.script_lex.proofs.lex.number_in.Given as goal

abbrev pub invariant-loop-b : goal.invariant-loop-b
invariant-loop-b l = (l.n ≤ l.limit) × (number_from l.limit l.n (drop l.b-index l.word) ≡ number_of l.limit l.word)
