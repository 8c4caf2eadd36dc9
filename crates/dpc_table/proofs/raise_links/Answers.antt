use Prim.Native.Nat.{◌+◌}
use mathlib.Core.Path.{refl}
use borrow.Author.Rules.{rules}
use Rattle.words.proofs.Walks.{walk-more, walk-done}
use Rattle.chains.specs.Chain.{link_at}
use Rattle.dpc_table.specs.Table.{links_raised, links_raised_in, number_raised}
use Rattle.dpc_table.proofs.raise_links.Goals as goal

pub loop-k-preserved : goal.loop-k-preserved
unfolding links_raised_in
loop-k-preserved c =
    (search rules, cc (walk-more (λ k w. number_raised w (link_at c.queue_chain-c.result k) c.args.position) (λ m k w. links_raised_in m w c.queue_chain-c.result k c.args.position) (λ m k w. refl) (c.args.n + 1) c.loop-k.k c.loop-k.w (search rules)))

pub returns : goal.returns
unfolding links_raised links_raised_in
returns c = cc (walk-done (λ m k w. links_raised_in m w c.queue_chain-c.result k c.args.position) (λ k w. refl) (c.args.n + 1) c.loop-k.k c.loop-k.w (search rules))
