use Rattle.std.proofs.Common.{arith}
use Rattle.clock.proofs.AdvanceLaws.{advance-facts}
use Rattle.clock.proofs.by_value.moved_microseconds.Goals as goal

pub returns-in_err-checked_mul : goal.returns-in_err-checked_mul
returns-in_err-checked_mul c = rw c.from_residual.ensures (λ e. c.in_err-checked_mul.ensures (omega (arith, (advance-facts _ _ e).utc-fits)))
