use native.Mathlib.Omega.{arith}
use mathlib.Core.Path.{refl, ◌∙◌}
use Rattle.std.proofs.Common.{rules, tests}
use Rattle.words.specs.Layout.{entry_at}
use Rattle.words.proofs.Walks.{any_from_walk}
use Rattle.timers.specs.Record.{some_in}
use Rattle.timers.specs.Release.{timer_held, any_timer_held}
use Rattle.timers.proofs.release.any_timer_held.Goals as goal

pub returns : goal.returns
unfolding any_timer_held some_in
returns c =
    any_from_walk (λ i. timer_held c.args.w.now (entry_at c.objects_base-base.result i) c.args.address c.args.size) (λ m i. some_in m (λ place. timer_held c.args.w.now place c.args.address c.args.size) c.objects_base-base.result i)
    (λ i. refl) (λ m i. refl) _ _ _ 0 _ c.count.result c.any.ensures.ran refl (omega arith) (λ x b q k. search (rules, tests))
    ∙ search rules
