use Rattle.std.proofs.Common.{◌≡◌, ◌-◌, ◌≤◌, length}
use Rattle.tables.specs.Compact.{Tells, retained_in, retained_to_in, retained, retained_to}
use Rattle.tables.proofs.retain.Given as goal

abbrev pub invariant-loop-i : goal.invariant-loop-i
invariant-loop-i g l = record {
  few : l.j ≤ l.i;
  same : length l.w ≡ length l.initial.w;
  so_far : (test : _) → Tells (goal.F-post g l.goes) test
      → (retained_to_in test (l.n - l.i) l.w l.base l.i l.j ≡ retained_to test l.initial.w l.base l.n)
      × (retained_in test (l.n - l.i) l.w l.base l.i l.j ≡ retained test l.initial.w l.base l.n);
}
