use Rattle.dpc_table.specs.Table.{put_dpc}
use Rattle.dpc_table.proofs.put_dpc.Goals as goal

pub returns : goal.returns
unfolding put_dpc
returns c = cc
