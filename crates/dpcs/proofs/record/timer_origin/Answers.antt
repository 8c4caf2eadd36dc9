use Rattle.dpcs.specs.Record.{timer_origin}
use Rattle.dpcs.proofs.record.timer_origin.Goals as goal

pub returns : goal.returns
unfolding timer_origin
returns c = cc
