use Rattle.std.proofs.Common.{rules, ◌∙◌}
use Rattle.timers.specs.Release.{timer_stands, marked, timer_marked, timers_marked}
use Rattle.timers.proofs.release.mark_timers.Goals as goal

pub returns : goal.returns
unfolding timers_marked timer_marked marked
returns c = c.mark.ensures (λ w at. timer_stands w at c.args.address c.args.size) (λ w at r p. search rules) ∙ search rules
