use mathlib.Core.Path.{refl}
use Rattle.exports.specs.SchedulerAnswer.{valued}
use Rattle.exports.proofs.scheduler_answer.value.Goals as goal

pub returns : goal.returns
unfolding valued
returns c = (refl, cc)
