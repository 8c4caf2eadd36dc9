use native.Mathlib.Omega.{arith}
use mathlib.Core.Path.{refl, ◌∙◌}
use Rattle.std.proofs.Common.{rules, tests}
use Rattle.words.proofs.Walks.{any_from_walk}
use Rattle.threading.specs.Thread.{owner_at, owns_in, owns_mutex}
use Rattle.threading.proofs.owns_mutex.Goals as goal

pub returns : goal.returns
unfolding owns_mutex owns_in
returns c =
    any_from_walk (λ i. owner_at c.args.w.now c.objects_base-base.result i c.args.id) (λ m i. owns_in m c.args.w.now c.objects_base-base.result i c.args.id)
    (λ i. refl) (λ m i. refl) _ _ _ 0 _ c.count.result c.any.ensures.ran refl (omega arith) (λ x b q k. search (rules, tests))
    ∙ search rules
