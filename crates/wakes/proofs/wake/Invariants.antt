use Rattle.std.proofs.Common.{◌≡◌, ◌-◌, length}
use Rattle.wakes.specs.Wake.{passed, awake}
use Rattle.wakes.proofs.wake.Given as goal

abbrev pub invariant-loop : goal.invariant-loop
invariant-loop l = (length l.w ≡ length l.initial.w) × (passed (4096 - l.counter) l.w l.before l.at ≡ awake l.initial.w)
