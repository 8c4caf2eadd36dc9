use Rattle.std.proofs.Common.{rules}
use Rattle.clock.specs.Clock.{tsc, on_reading}
use Rattle.clock.proofs.by_value.tsc.Goals as goal

pub returns-in_err-qpc : goal.returns-in_err-qpc
unfolding tsc on_reading
returns-in_err-qpc c = simp (← c.in_err-qpc.ensures) (search rules)

pub returns : goal.returns
unfolding tsc on_reading
returns c = simp (← c.in_ok-qpc.ensures, c.cycles_at.ensures)
