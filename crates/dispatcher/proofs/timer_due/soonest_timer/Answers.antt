use native.Mathlib.Omega.{arith}
use mathlib.Core.Path.{refl, ◌∙◌}
use Rattle.std.proofs.Common.{rules, tests}
use Rattle.words.specs.Layout.{entry_at}
use Rattle.words.proofs.Walks.{fold_from_walk}
use Rattle.dispatcher.specs.TimerDue.{due_with, soonest_timer_in, soonest_timer}
use Rattle.dispatcher.proofs.timer_due.soonest_timer.Goals as goal

pub returns : goal.returns
unfolding soonest_timer soonest_timer_in
returns c =
    fold_from_walk (λ d i. due_with c.args.w.now d (entry_at c.objects_base-base.result i)) (λ m i d. soonest_timer_in m c.args.w.now d c.objects_base-base.result i)
    (λ i d. refl) (λ m i d. refl) _ _ 0 _ c.count.result c.fold.ensures.ran refl (omega arith) (λ y x z q k. search (rules, tests))
    ∙ search rules
