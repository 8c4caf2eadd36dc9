use Rattle.std.proofs.Common.{arith}
use Rattle.script_bytes.specs.Bytes.{begun}
use Rattle.script_replay.proofs.step.Goals as goal

pub returns-then-is_mark : goal.returns-then-is_mark
unfolding begun
returns-then-is_mark g c = simp c.start.ensures (omega arith, omega arith)
