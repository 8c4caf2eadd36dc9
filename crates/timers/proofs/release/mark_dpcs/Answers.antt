use Rattle.std.proofs.Common.{rules, ◌∙◌}
use Rattle.timers.specs.Release.{dpc_stands, marked, dpc_marked, dpcs_marked}
use Rattle.timers.proofs.release.mark_dpcs.Goals as goal

pub returns : goal.returns
unfolding dpcs_marked dpc_marked marked
returns c = c.mark.ensures (λ w at. dpc_stands w at c.args.address c.args.size) (λ w at r p. search rules) ∙ search rules
