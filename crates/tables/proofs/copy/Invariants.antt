use Rattle.std.proofs.Common.{◌≡◌, ◌-◌, length}
use Rattle.tables.specs.Compact.{copied_in, copied}
use Rattle.tables.proofs.copy.Given as goal

abbrev pub invariant-loop-k : goal.invariant-loop-k
invariant-loop-k l = (length l.w ≡ length l.initial.w) × (copied_in (32 - l.k) l.w l.from l.to l.k ≡ copied l.initial.w l.from l.to)
