use mathlib.Core.Path.{◌≡◌, ◌∙◌}
use Rattle.std.proofs.Common.{rules, tests}
use Rattle.std.specs.Prelude.{is_some, unwrap_or}
use Rattle.std.specs.Bool.{then_some}
use Rattle.answers.proofs.Converted.{told-outcome}
use Rattle.answers.specs.declared.Answer.TheVariants.{Done}
use Rattle.answers.specs.Errors.{done}
use Rattle.answers.specs.Outcome.{outcome}
use Rattle.exports.specs.SchedulerAnswer.{truth}
use Rattle.mutexes.specs.Mutexes as mutexes
use Rattle.raw_exports.proofs.OwnerLaws.{lent-owner}
use Rattle.raw_exports.proofs.changes.raw_adopt_mutex.Goals as goal

pub returns : goal.returns
returns c = let lent = then_some (truth c.args.owned) c.args.owner in
    c.change.ensures (λ w. mutexes.adopted w c.args.key (truth c.args.owned) c.args.owner) (λ w r after a ran says.
    let does : outcome (done r) after.now ≡ mutexes.adopted w.now c.args.key (is_some lent) (unwrap_or lent 0) = search (rules, tests) in
    told-outcome (λ x. Done) r a after.now _ says (λ x b e. e) (does ∙ lent-owner w.now c.args.key (truth c.args.owned) c.args.owner))
