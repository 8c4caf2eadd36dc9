use Rattle.exports.specs.RecordAnswer.{started_in}
use mathlib.Core.Path.{refl}
use Rattle.exports.proofs.record_answer.put_started.Goals as goal

pub returns : goal.returns
unfolding started_in
returns c = (refl, cc)
