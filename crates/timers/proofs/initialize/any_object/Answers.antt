use native.Mathlib.Omega.{arith}
use mathlib.Core.Path.{refl, ◌∙◌}
use Rattle.std.proofs.Common.{rules, tests}
use Rattle.words.specs.Layout.{entry_at}
use Rattle.words.proofs.Walks.{any_from_walk}
use Rattle.timers.specs.Record.{some_in}
use Rattle.timers.specs.Initialize.{object_overlaps, any_object}
use Rattle.timers.proofs.initialize.any_object.Goals as goal

pub returns : goal.returns
unfolding any_object some_in
returns c =
    any_from_walk (λ i. object_overlaps c.args.w.now (entry_at c.objects_base-base.result i) c.args.address c.args.size) (λ m i. some_in m (λ place. object_overlaps c.args.w.now place c.args.address c.args.size) c.objects_base-base.result i)
    (λ i. refl) (λ m i. refl) _ _ _ 0 _ c.count.result c.any.ensures.ran refl (omega arith) (λ x b q k. search (rules, tests))
    ∙ search rules
