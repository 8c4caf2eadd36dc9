use mathlib.Core.Path.{◌≡◌, ◌∙◌, ap}
use Rattle.std.proofs.Common.{rules, tests}
use Rattle.std.specs.Prelude.{is_some, unwrap_or}
use Rattle.std.specs.Bool.{then_some}
use Rattle.answers.proofs.Converted.{told-outcome}
use Rattle.answers.specs.declared.Answer.TheVariants.{Done}
use Rattle.answers.specs.Errors.{done}
use Rattle.answers.specs.Outcome.{outcome}
use Rattle.model.specs.Call as call
use Rattle.calls.specs.Called.{called, optional}
use Rattle.exports.specs.SchedulerAnswer.{truth}
use Rattle.exports.proofs.AnswerLaws.{lent-argument}
use Rattle.exports.proofs.scheduler_calls.scheduler_adopt_mutex.Goals as goal

pub returns : goal.returns
returns c = let lent = then_some (truth c.args.owned) c.args.owner in
    c.change.ensures (λ w. called w (call.AdoptMutex c.args.key (optional (truth c.args.owned) c.args.owner))) (λ w r after a ran says.
    let does : outcome (done r) after.now ≡ called w.now (call.AdoptMutex c.args.key (optional (is_some lent) (unwrap_or lent 0))) = search (rules, tests) in
    told-outcome (λ x. Done) r a after.now _ says (λ x b e. e)
    (does ∙ ap (λ o. called w.now (call.AdoptMutex c.args.key o)) (lent-argument (truth c.args.owned) c.args.owner)))
