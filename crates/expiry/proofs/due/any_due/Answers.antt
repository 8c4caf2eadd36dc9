use native.Mathlib.Omega.{arith}
use mathlib.Core.Path.{refl, ◌∙◌}
use Rattle.std.proofs.Common.{rules, tests}
use Rattle.words.specs.Layout.{entry_at}
use Rattle.words.proofs.Walks.{any_from_walk}
use Rattle.expiry.specs.Due.{is_due, any_in, any_due}
use Rattle.expiry.proofs.due.any_due.Goals as goal

pub returns : goal.returns
unfolding any_due any_in
returns c =
    any_from_walk (λ i. is_due c.args.w.now (entry_at c.objects_base-base.result i) c.args.time) (λ m i. any_in m c.args.w.now c.objects_base-base.result i c.args.time)
    (λ i. refl) (λ m i. refl) _ _ _ 0 _ c.count.result c.any.ensures.ran refl (omega arith) (λ x b q k. search (rules, tests))
    ∙ search rules
