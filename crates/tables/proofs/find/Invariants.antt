use Rattle.std.proofs.Common.{◌≡◌, ◌+◌, ◌-◌, ◌≤◌}
use Rattle.tables.specs.Table.{position, searched_in}
use Rattle.tables.proofs.find.Given as goal

abbrev pub invariant-loop : goal.invariant-loop
invariant-loop l = (l.p.from + l.p.size ≤ 8191) × (searched_in (13 - l.counter) l.w l.base l.key l.p ≡ position l.w l.base l.n l.key)
