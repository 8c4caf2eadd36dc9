use Rattle.dpc_table.specs.Table.{put_idle}
use Rattle.dpc_table.proofs.put_idle.Goals as goal

pub returns : goal.returns
unfolding put_idle
returns c = cc
