use native.Mathlib.Omega.{arith}
use mathlib.Core.Path.{refl}
use Rattle.std.proofs.Common.{rules, tests}
use lib.Dec.{ltb}
use Rattle.words.proofs.Walks.{any_from_walk}
use Rattle.waits.specs.Lists.{kind_in, bad_kind_in}
use Rattle.waits.proofs.lists.Pairs.has_bad_kind.Goals as goal

pub returns : goal.returns
unfolding bad_kind_in
returns c =
    any_from_walk (λ i. ltb 3 (kind_in c.args.self.now.src.now c.args.self.now.at i))
    (λ m i. bad_kind_in m c.args.self.now.src.now c.args.self.now.at i)
    (λ i. refl) (λ m i. refl) _ _ _ 0 _ c.args.self.now.n c.any.ensures.ran refl (omega arith) (λ x b q k. search (rules, tests))
