use Rattle.std.proofs.Common.{arith, ◌∙◌}
use Rattle.clock.specs.Clock.{flushes, flush_ticks, flushed}
use Rattle.clock.proofs.AdvanceLaws.{advance-facts}
use Rattle.clock.proofs.by_value.flushed.Goals as goal

pub returns-in_err-ticks : goal.returns-in_err-ticks
unfolding flushes flush_ticks
returns-in_err-ticks c = rw c.from_residual.ensures (λ e. c.in_err-ticks.ensures (omega (arith, (advance-facts _ _ e).utc-fits)))

pub returns-in_err-after : goal.returns-in_err-after
unfolding flushes flush_ticks
returns-in_err-after c = rw c.from_residual-in_err-after.ensures (simp (c.in_ok-ticks.ensures.1) at (c.in_err-after.ensures))

pub returns : goal.returns
unfolding flushes flushed flush_ticks
returns c = (simp c.in_ok-ticks.ensures.1 at c.in_ok-after.ensures.0, c.with_cycles.ensures ∙ simp (c.in_ok-after.ensures.1, c.in_ok-ticks.ensures.1))
