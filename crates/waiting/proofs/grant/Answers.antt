use Rattle.std.proofs.Common.{rules}
use Rattle.waits.proofs.ListLaws.{index-drop}
use Rattle.waiting.specs.Wait.{granted}
use Rattle.waiting.proofs.grant.Goals as goal

pub returns : goal.returns
unfolding granted
returns c = let i = index-drop c.args.w.now c.args.list.now.src.now c.args.list.now.at c.args.list.now.n c.args.all in cc
