use Rattle.std.proofs.Common.{rules, tests}
use Rattle.answers.proofs.Converted.{told-outcome}
use Rattle.answers.specs.declared.Answer.TheVariants.{Done}
use Rattle.model.specs.Call as call
use Rattle.calls.specs.Called.{called}
use Rattle.exports.proofs.dpc_calls.scheduler_returned_dpc.Goals as goal

pub returns : goal.returns
returns c = c.change.ensures (λ w. called w (call.ReturnedDpc c.args.address c.args.sequence)) (λ w r after a ran says. told-outcome (λ x. Done) r a after.now _ says (λ x b e. e) (search (rules, tests)))
