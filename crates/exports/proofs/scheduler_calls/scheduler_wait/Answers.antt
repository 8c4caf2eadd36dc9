use mathlib.Core.Path.{◌≡◌, ◌∙◌, ap}
use Rattle.std.proofs.Common.{rules, tests}
use Rattle.std.specs.Prelude.{is_some, unwrap_or}
use Rattle.std.specs.Bool.{then_some}
use Rattle.answers.proofs.Converted.{told-outcome}
use Rattle.answers.specs.Errors.{answer_of}
use Rattle.answers.specs.Outcome.{outcome}
use Rattle.waiting.specs.Wait as waiting
use Rattle.model.specs.Call as call
use Rattle.calls.specs.Called.{called, optional}
use Rattle.exports.specs.SchedulerAnswer.{truth}
use Rattle.exports.proofs.AnswerLaws.{lent-argument}
use Rattle.exports.proofs.scheduler_calls.scheduler_wait.Goals as goal

pub returns : goal.returns
returns c = let lent = then_some (truth c.args.timed) c.args.deadline in
    c.change.ensures (λ w. called w (call.Wait c.args.list.now (truth c.args.all) (optional (truth c.args.timed) c.args.deadline) c.args.irql)) (λ w r after a ran says.
    let does : outcome (answer_of waiting.told r) after.now ≡ called w.now (call.Wait c.args.list.now (truth c.args.all) (optional (is_some lent) (unwrap_or lent 0)) c.args.irql) = search (rules, tests) in
    told-outcome waiting.told r a after.now _ says (λ x b e. e)
    (does ∙ ap (λ o. called w.now (call.Wait c.args.list.now (truth c.args.all) o c.args.irql)) (lent-argument (truth c.args.timed) c.args.deadline)))
