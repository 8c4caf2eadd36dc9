use native.Mathlib.Omega.{arith}
use mathlib.Core.Path.{refl, ◌∙◌}
use Rattle.std.proofs.Common.{rules, tests}
use Rattle.words.proofs.Walks.{all_from_walk}
use Rattle.form.specs.Object.{object_passes, objects_in, objects_pass}
use Rattle.form.proofs.object.objects_pass.Goals as goal

pub returns : goal.returns
unfolding objects_pass objects_in
returns c =
    all_from_walk (λ i. object_passes c.args.w.now c.objects_base-base.result i) (λ m i. objects_in m c.args.w.now c.objects_base-base.result i)
    (λ i. refl) (λ m i. refl) _ _ _ 0 _ c.count.result c.all.ensures.ran refl (omega arith) (λ x b q k. search (rules, tests))
    ∙ search rules
