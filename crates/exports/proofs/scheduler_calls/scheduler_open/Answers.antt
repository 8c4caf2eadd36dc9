use Rattle.std.proofs.Common.{rules, tests}
use lib.ListN.{length}
use Rattle.answers.proofs.Converted.{told-outcome}
use Rattle.answers.specs.declared.Answer.TheVariants.{Done}
use Rattle.model.specs.Call as call
use Rattle.calls.specs.Called.{called}
use Rattle.exports.proofs.scheduler_calls.scheduler_open.Goals as goal

pub returns : goal.returns
returns c = c.change.ensures (λ w. called w (call.Open (length w) c.args.priority c.args.threads c.args.objects c.args.dpcs)) (λ w r after a ran says. told-outcome (λ x. Done) r a after.now _ says (λ x b e. e) (search (rules, tests)))
