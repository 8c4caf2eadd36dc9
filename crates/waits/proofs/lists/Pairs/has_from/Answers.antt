use native.Mathlib.Omega.{arith}
use mathlib.Core.Path.{refl}
use Rattle.std.proofs.Common.{rules, tests}
use Rattle.std.proofs.Common.{◌-◌}
use Rattle.words.proofs.Walks.{any_from_walk}
use Rattle.waits.specs.Lists.{is_pair, has_pair}
use Rattle.waits.proofs.lists.Pairs.has_from.Goals as goal

pub returns : goal.returns
unfolding has_pair is_pair
returns c =
    any_from_walk (λ i. is_pair c.args.self.now.src.now c.args.self.now.at i c.args.kind c.args.key)
    (λ m i. has_pair m c.args.self.now.src.now c.args.self.now.at i c.args.kind c.args.key)
    (λ i. refl) (λ m i. refl) _ _ _ c.args.from _ (c.args.self.now.n - c.args.from) c.any.ensures.ran refl (omega arith) (λ x b q k. search (rules, tests))
