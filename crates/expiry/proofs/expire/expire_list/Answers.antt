use Rattle.std.proofs.Common.{sym, ◌∙◌}
use Rattle.expiry.proofs.ExpireLaws.{expired-end, expired-more}
use Rattle.expiry.proofs.expire.expire_list.Goals as goal

pub loop-i-preserved : goal.loop-i-preserved
loop-i-preserved c = cc (expired-more c.loop-i.w c.args.base c.args.list.now c.loop-i.i-index c.args.time c.loop-i-test.true)

pub returns : goal.returns
returns c = sym (expired-end c.loop-i.w c.args.base c.args.list.now c.loop-i.i-index c.args.time c.loop-i-test.false) ∙ c.loop-i.invariant
