use Rattle.exports.specs.RecordAnswer.{dpc_in}
use mathlib.Core.Path.{refl}
use Rattle.exports.proofs.record_answer.put_dpc.Goals as goal

pub returns : goal.returns
unfolding dpc_in
returns c = (refl, cc)
