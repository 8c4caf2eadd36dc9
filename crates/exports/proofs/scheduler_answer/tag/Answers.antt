use mathlib.Core.Path.{refl}
use Rattle.exports.specs.SchedulerAnswer.{tagged}
use Rattle.exports.proofs.scheduler_answer.tag.Goals as goal

pub returns : goal.returns
unfolding tagged
returns c = (refl, cc)
