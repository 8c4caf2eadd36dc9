use Rattle.dpc_table.specs.Table.{number_raised}
use Rattle.dpc_table.proofs.raise_number.Goals as goal

pub returns : goal.returns
unfolding number_raised
returns c = cc
