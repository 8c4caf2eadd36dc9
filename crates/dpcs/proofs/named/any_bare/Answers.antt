use native.Mathlib.Omega.{arith}
use mathlib.Core.Path.{refl, ◌∙◌}
use Rattle.std.proofs.Common.{rules, tests}
use Rattle.words.specs.Layout.{entry_at}
use Rattle.words.proofs.Walks.{any_from_walk}
use Rattle.dpcs.specs.Named.{is_bare, bare_in, any_bare}
use Rattle.dpcs.proofs.named.any_bare.Goals as goal

pub returns : goal.returns
unfolding any_bare bare_in
returns c =
    any_from_walk (λ i. is_bare c.args.w.now (entry_at c.objects_base-base.result i)) (λ m i. bare_in m c.args.w.now c.objects_base-base.result i)
    (λ i. refl) (λ m i. refl) _ _ _ 0 _ c.count.result c.any.ensures.ran refl (omega arith) (λ x b q k. search (rules, tests))
    ∙ search rules
