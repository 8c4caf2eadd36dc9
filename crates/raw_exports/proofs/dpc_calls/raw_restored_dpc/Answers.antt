use Rattle.std.proofs.Common.{rules, tests}
use Rattle.answers.proofs.Converted.{told-outcome}
use Rattle.answers.specs.declared.Answer.TheVariants.{Done}
use Rattle.dpc_work.specs.Work as calls
use Rattle.raw_exports.proofs.dpc_calls.raw_restored_dpc.Goals as goal

pub returns : goal.returns
returns c = c.change.ensures (λ w. calls.work_restored w c.args.address c.args.sequence) (λ w r after a ran says. told-outcome (λ x. Done) r a after.now _ says (λ x b e. e) (search (rules, tests)))
