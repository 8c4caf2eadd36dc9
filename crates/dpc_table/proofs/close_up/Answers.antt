use Rattle.dpc_table.specs.Table.{closed_up}
use Rattle.dpc_table.proofs.close_up.Goals as goal

pub returns : goal.returns
unfolding closed_up
returns c = cc
