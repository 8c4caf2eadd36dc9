use Rattle.dpcs.specs.Record.{work_at}
use Rattle.dpcs.proofs.record.work_at.Goals as goal

pub returns : goal.returns
unfolding work_at
returns c = cc
