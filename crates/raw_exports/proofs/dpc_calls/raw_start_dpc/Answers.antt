use Rattle.std.proofs.Common.{rules, tests}
use Rattle.dpc_work.specs.Work.{work_started}
use Rattle.raw_exports.proofs.dpc_calls.raw_start_dpc.Goals as goal

pub returns : goal.returns
returns c = c.start.ensures (λ w. work_started w c.args.address) (λ w r after ran. search (rules, tests))
