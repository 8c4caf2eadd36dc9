use Rattle.dpc_table.specs.Table.{link_renewed}
use Rattle.dpc_table.proofs.renew_link.Goals as goal

pub returns : goal.returns
unfolding link_renewed
returns c = (cc, cc)
