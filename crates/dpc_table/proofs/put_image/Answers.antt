use Rattle.dpc_table.specs.Table.{put_image}
use Rattle.dpc_table.proofs.put_image.Goals as goal

pub returns : goal.returns
unfolding put_image
returns c = cc
