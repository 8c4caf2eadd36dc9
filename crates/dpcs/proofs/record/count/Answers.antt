use native.Mathlib.Omega.{arith}
use Rattle.std.proofs.lemmas.Grind.{common_steps}
use Rattle.dpcs.specs.Record.{dpc_count}
use Rattle.dpcs.proofs.record.count.Goals as goal

pub returns : goal.returns
unfolding dpc_count
returns c = grind (arith, common_steps)
