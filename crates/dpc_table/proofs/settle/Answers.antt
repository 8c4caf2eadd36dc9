use Rattle.dpc_table.specs.Table.{settled}
use Rattle.dpc_table.proofs.settle.Goals as goal

pub returns : goal.returns
unfolding settled
returns c = cc
