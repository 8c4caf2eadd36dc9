use Rattle.std.proofs.Common.{rules, tests}
use Rattle.answers.proofs.Converted.{told-outcome}
use Rattle.waiting.specs.Wait as waiting
use Rattle.model.specs.Call as call
use Rattle.calls.specs.Called.{called}
use Rattle.exports.proofs.scheduler_calls.scheduler_delay_until.Goals as goal

pub returns : goal.returns
returns c = c.change.ensures (λ w. called w (call.DelayUntil c.args.deadline c.args.irql)) (λ w r after a ran says. told-outcome waiting.told r a after.now _ says (λ x b e. e) (search (rules, tests)))
