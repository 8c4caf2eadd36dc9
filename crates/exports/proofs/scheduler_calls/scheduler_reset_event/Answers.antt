use Rattle.std.proofs.Common.{rules, tests}
use Rattle.answers.proofs.Converted.{told-outcome}
use Rattle.answers.specs.declared.Answer.TheVariants as answer
use Rattle.model.specs.Call as call
use Rattle.calls.specs.Called.{called}
use Rattle.exports.proofs.scheduler_calls.scheduler_reset_event.Goals as goal

pub returns : goal.returns
returns c = c.change.ensures (λ w. called w (call.ResetEvent c.args.key)) (λ w r after a ran says. told-outcome answer.Flag r a after.now _ says (λ x b e. e) (search (rules, tests)))
