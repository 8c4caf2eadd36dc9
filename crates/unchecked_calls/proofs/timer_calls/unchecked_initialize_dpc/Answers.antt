use Rattle.std.proofs.Common.{rules, tests}
use Rattle.answers.proofs.Converted.{told-outcome}
use Rattle.answers.specs.declared.Answer.TheVariants.{Done}
use Rattle.images.specs.Place.{architecture_of}
use Rattle.unchecked.specs.Unchecked.{unchecked}
use Rattle.model.specs.Call as call
use Rattle.backings.specs.Lent.{lent_backing}
use Rattle.unchecked_calls.proofs.timer_calls.unchecked_initialize_dpc.Goals as goal

pub returns : goal.returns
unfolding unchecked
returns c = c.change.ensures (λ w. unchecked w (call.InitializeDpc c.args.address (architecture_of c.args.architecture) (lent_backing c.args.architecture c.args.backing c.args.base c.args.size c.args.mapped) c.args.routine c.args.context)) (λ w r after a ran says. told-outcome (λ x. Done) r a after.now _ says (λ x b e. e) (search (rules, tests)))
