use Rattle.dpc_table.specs.Table.{relinked}
use Rattle.dpc_table.proofs.relink.Goals as goal

pub returns : goal.returns
unfolding relinked
returns c = cc
