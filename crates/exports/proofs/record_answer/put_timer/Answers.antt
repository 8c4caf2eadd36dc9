use Rattle.exports.specs.RecordAnswer.{timer_in}
use mathlib.Core.Path.{refl}
use Rattle.exports.proofs.record_answer.put_timer.Goals as goal

pub returns : goal.returns
unfolding timer_in
returns c = (refl, cc)
