use Rattle.std.proofs.Common.{rules}
use Rattle.std.proofs.lemmas.Iterator.Consumers.{YieldsList-from_first}
use Rattle.std.proofs.lemmas.Iterator.Search.{any_from_yields_List}
use Rattle.chains.specs.Chain.{members_of}
use Rattle.chains.specs.Members.{members_left}
use Rattle.chains.specs.Ready.{waiters_chain}
use Rattle.wakes.specs.Wake.{waits_for}
use Rattle.wakes.proofs.WakeLaws.{waits-any}
use Rattle.wakes.proofs.waits_on.Goals as goal

pub returns : goal.returns
returns c = rw (waits-any c.args.w.now c.args.kind c.args.key)
    (any_from_yields_List (waits_for c.args.w.now c.args.kind c.args.key) c.any.new.self _ c.any.result c.any.ensures.ran (YieldsList-from_first (λ x. x) members_left (members_of c.args.w.now waiters_chain) cc) (λ x b q k. search rules))
