use Rattle.std.proofs.Common.{◌≡◌, ◌-◌}
use Rattle.chains.specs.Chain.{before_in, find_before}
use Rattle.chains.proofs.Chain.find_before.Given as goal

abbrev pub invariant-loop : goal.invariant-loop
invariant-loop l = before_in (4096 - l.counter) l.w l.self l.before l.at l.n ≡ find_before l.w l.self l.n
