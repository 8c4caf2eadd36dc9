use Rattle.std.proofs.Common.{rules, tests}
use Rattle.answers.proofs.Converted.{told-outcome}
use Rattle.answers.specs.declared.Answer.TheVariants as answer
use Rattle.dpc_work.specs.Work as calls
use Rattle.raw_exports.proofs.dpc_calls.raw_insert_queue_dpc.Goals as goal

pub returns : goal.returns
returns c = c.change.ensures (λ w. calls.queue_inserted w c.args.address c.args.first c.args.second) (λ w r after a ran says. told-outcome answer.Flag r a after.now _ says (λ x b e. e) (search (rules, tests)))
