use native.Mathlib.Omega.{arith}
use mathlib.Core.Path.{refl}
use Rattle.std.proofs.Common.{rules, tests}
use Rattle.words.proofs.Walks.{any_from_walk}
use Rattle.waits.specs.Object.{owned_by}
use Rattle.waits.specs.Lists.{kind_in, key_in, owned_in}
use Rattle.waits.proofs.lists.Pairs.has_owned.Goals as goal

pub returns : goal.returns
unfolding owned_in
returns c =
    any_from_walk (λ i. owned_by c.args.w.now c.args.id (kind_in c.args.self.now.src.now c.args.self.now.at i) (key_in c.args.self.now.src.now c.args.self.now.at i))
    (λ m i. owned_in m c.args.w.now c.args.id c.args.self.now.src.now c.args.self.now.at i)
    (λ i. refl) (λ m i. refl) _ _ _ 0 _ c.args.self.now.n c.any.ensures.ran refl (omega arith) (λ x b q k. search (rules, tests))
