use Rattle.exports.specs.RecordAnswer.{counters_in}
use mathlib.Core.Path.{refl}
use Rattle.exports.proofs.record_answer.put_counters.Goals as goal

pub returns : goal.returns
unfolding counters_in
returns c = (refl, cc)
