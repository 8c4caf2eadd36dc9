use native.Mathlib.Omega.{arith}
use mathlib.Core.Path.{refl}
use Rattle.std.proofs.Common.{rules, tests}
use mathlib.Core.Bool.{not, true}
use Rattle.words.proofs.Walks.{any_from_walk, cond-not}
use Rattle.waits.specs.Object.{valid}
use Rattle.waits.specs.Lists.{kind_in, key_in, unknown_in}
use Rattle.waits.proofs.lists.Pairs.has_unknown.Goals as goal

pub returns : goal.returns
unfolding unknown_in
returns c =
    any_from_walk (λ i. not (valid c.args.w.now (kind_in c.args.self.now.src.now c.args.self.now.at i) (key_in c.args.self.now.src.now c.args.self.now.at i)))
    (λ m i. unknown_in m c.args.w.now c.args.self.now.src.now c.args.self.now.at i)
    (λ i. refl) (λ m i. cond-not (valid c.args.w.now (kind_in c.args.self.now.src.now c.args.self.now.at i) (key_in c.args.self.now.src.now c.args.self.now.at i)) _ true) _ _ _ 0 _ c.args.self.now.n c.any.ensures.ran refl (omega arith) (λ x b q k. search (rules, tests))
