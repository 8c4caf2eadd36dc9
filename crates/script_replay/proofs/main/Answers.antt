use Rattle.std.proofs.Common.{arith}
use Rattle.script_bytes.specs.Bytes.{begun}
use Rattle.script_replay.proofs.main.Goals as goal

pub loop-init : goal.loop-init
unfolding begun
loop-init c = simp c.start-at.ensures (omega arith, omega arith)
