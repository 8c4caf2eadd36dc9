use native.Mathlib.Omega.{arith}
use mathlib.Core.Path.{◌≡◌, refl}
use Rattle.std.proofs.Common.{◌-◌, ◌+◌, rules, tests}
use Rattle.words.proofs.Walks.{any_by_walk}
use Rattle.waits.specs.Lists.{kind_in, key_in, has_pair, duplicate_in}
use Rattle.waits.proofs.lists.Pairs.has_duplicate.Goals as goal

pub returns : goal.returns
unfolding duplicate_in
returns c =
    any_by_walk (λ i. has_pair (c.args.self.now.n - (i + 1)) c.args.self.now.src.now c.args.self.now.at (i + 1) (kind_in c.args.self.now.src.now c.args.self.now.at i) (key_in c.args.self.now.src.now c.args.self.now.at i))
    (λ m i. duplicate_in m c.args.self.now.src.now c.args.self.now.at i)
    (λ i. refl) _ _ _ 0 _ c.args.self.now.n (λ m i e. let d : m ≡ c.args.self.now.n - (i + 1) = omega arith in rw d refl) c.any.ensures.ran refl (omega arith) (λ x b q k. search (rules, tests))
