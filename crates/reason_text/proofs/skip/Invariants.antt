use mathlib.Core.Path.{◌≡◌}
use Prim.Native.Nat.{◌-◌}
use Rattle.script_lex.specs.Left.{left}
use Rattle.reason_text.specs.Words.{skipped}
use Rattle.reason_text.proofs.skip.Given as goal

abbrev pub invariant-loop : goal.invariant-loop
invariant-loop l = skipped (l.place - l.counter) (left l.here) ≡ skipped l.place (left l.words)
