use native.Mathlib.Omega.{arith}
use mathlib.Core.Path.{refl}
use Rattle.std.proofs.Common.{rules, tests}
use Rattle.words.proofs.Walks.{all_from_walk}
use Rattle.waits.specs.Object.{available}
use Rattle.waits.specs.Lists.{kind_in, key_in, every_in}
use Rattle.waits.proofs.lists.Pairs.every.Goals as goal

pub returns : goal.returns
unfolding every_in
returns c =
    all_from_walk (λ i. available c.args.w.now (kind_in c.args.self.now.src.now c.args.self.now.at i) (key_in c.args.self.now.src.now c.args.self.now.at i))
    (λ m i. every_in m c.args.w.now c.args.self.now.src.now c.args.self.now.at i)
    (λ i. refl) (λ m i. refl) _ _ _ 0 _ c.args.self.now.n c.all.ensures.ran refl (omega arith) (λ x b q k. search (rules, tests))
