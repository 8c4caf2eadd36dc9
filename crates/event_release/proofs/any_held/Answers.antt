use native.Mathlib.Omega.{arith}
use mathlib.Core.Path.{refl, ◌∙◌}
use Rattle.std.proofs.Common.{rules, tests}
use Rattle.words.specs.Layout.{entry_at}
use Rattle.words.proofs.Walks.{any_from_walk}
use Rattle.event_release.specs.Release.{is_held, held_in, any_held}
use Rattle.event_release.proofs.any_held.Goals as goal

pub returns : goal.returns
unfolding any_held held_in
returns c =
    any_from_walk (λ i. is_held c.args.w.now (entry_at c.objects_base-base.result i) c.args.memory.lo c.args.memory.hi c.args.span)
    (λ m i. held_in m c.args.w.now c.objects_base-base.result i c.args.memory.lo c.args.memory.hi c.args.span)
    (λ i. refl) (λ m i. refl) _ _ _ 0 _ c.count.result c.any.ensures.ran refl (omega arith) (λ x b q k. search (rules, tests))
    ∙ search rules
