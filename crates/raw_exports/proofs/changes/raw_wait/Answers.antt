use Rattle.std.proofs.Common.{rules, tests}
use Rattle.answers.proofs.Converted.{told-outcome}
use Rattle.exports.specs.SchedulerAnswer.{truth}
use Rattle.waiting.specs.Wait as wait
use Rattle.raw_exports.proofs.changes.raw_wait.Goals as goal

pub returns : goal.returns
returns c = c.change.ensures (λ w. wait.waited w c.args.list.now (truth c.args.all) (truth c.args.timed) c.args.deadline c.args.irql) (λ w r after a ran says. told-outcome wait.told r a after.now _ says (λ x b e. e) (search (rules, tests)))
