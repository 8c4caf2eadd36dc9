use Rattle.exports.specs.RecordAnswer.{pair_in}
use mathlib.Core.Path.{refl}
use Rattle.exports.proofs.record_answer.put_pair.Goals as goal

pub returns : goal.returns
unfolding pair_in
returns c = (refl, cc)
