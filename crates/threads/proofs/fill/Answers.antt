use Rattle.std.proofs.Common.{rules}
use Rattle.threads.proofs.ThreadLaws.{filled_none, filled_next}
use Rattle.threads.proofs.fill.Goals as goal

pub loop-i-init : goal.loop-i-init
loop-i-init c = (search rules, filled_none _)

pub loop-i-preserved : goal.loop-i-preserved
loop-i-preserved c = (search rules, cc (filled_next c.loop-i.i c.args.list.now))
