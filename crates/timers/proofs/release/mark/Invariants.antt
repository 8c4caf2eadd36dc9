use Rattle.std.proofs.Common.{◌≡◌, ◌-◌}
use Rattle.tables.specs.Compact.{Tells}
use Rattle.timers.specs.Record.{each_in}
use Rattle.timers.specs.Release.{marked}
use Rattle.timers.proofs.release.mark.Given as goal

abbrev pub invariant-loop-i : goal.invariant-loop-i
invariant-loop-i g l = (test : _) → Tells (goal.F-post g l.goes) test
    → each_in (l.n - l.i) (marked test l.word) l.w l.base l.i ≡ each_in l.n (marked test l.word) l.initial.w l.base 0
