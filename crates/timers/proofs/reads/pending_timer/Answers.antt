use native.Mathlib.Omega.{arith}
use mathlib.Core.Path.{◌∙◌, refl}
use Rattle.std.proofs.Common.{rules, tests}
use Rattle.words.specs.Layout.{entry_at}
use Rattle.words.proofs.Walks.{found_from_walk}
use Rattle.timers.specs.Record.{first_in}
use Rattle.timers.specs.Reads.{is_pending, pending_timer}
use Rattle.timers.proofs.PlaceLaws.{found-place}
use Rattle.timers.proofs.reads.pending_timer.Goals as goal

pub returns : goal.returns
unfolding pending_timer first_in
returns c =
    found-place c.args.w.now c.objects_base-base.result c.find.result _ (pending_timer c.args.w.now) c.objects_base-base.ensures
    (found_from_walk (λ i. is_pending c.args.w.now (entry_at c.objects_base-base.result i)) (λ m i. first_in m (is_pending c.args.w.now) c.objects_base-base.result i)
    (entry_at c.objects_base-base.result) (λ _. 0) (λ i. refl) (λ m i. refl) _ _ c.find.result 0 _ c.count.result c.find.ensures.ran refl (omega arith) (λ x b q k. search (rules, tests))
    ∙ search rules)
    (search (rules, tests))
