use mathlib.Core.Path.{refl}
use Rattle.exports.specs.SchedulerAnswer.{evented}
use Rattle.exports.proofs.scheduler_answer.event.Goals as goal

pub returns : goal.returns
unfolding evented
returns c = (refl, cc)
