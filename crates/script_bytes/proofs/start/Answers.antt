use Rattle.script_bytes.specs.Bytes.{begun}
use Rattle.script_bytes.proofs.start.Goals as goal

pub returns : goal.returns
unfolding begun
returns c = simp c.start.ensures
