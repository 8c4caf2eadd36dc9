use native.Mathlib.Omega.{arith}
use mathlib.Core.Path.{◌∙◌, sym, ap}
use Rattle.std.proofs.Common.{rules, tests}
use Rattle.std.proofs.lemmas.Iterator.{YieldsList-from_range}
use Rattle.std.proofs.lemmas.Iterator.Adapters.{option_map_id}
use Rattle.std.proofs.lemmas.Iterator.Consumers.{nth_from_yields_List, YieldsList-from_filter}
use Rattle.std.specs.Option.{option_map, unwrap_or}
use Rattle.words.specs.Layout.{entry_at}
use Rattle.timers.specs.Record.{is_timer}
use Rattle.timers.specs.Reads.{nth_timer}
use Rattle.timers.proofs.PlaceLaws.{found-place}
use Rattle.timers.proofs.WalkLaws.{nth-filter}
use Rattle.timers.proofs.reads.nth_timer.Goals as goal

pub returns : goal.returns
unfolding nth_timer
returns c =
    found-place c.args.w.now c.objects_base-base.result c.nth.result _ (nth_timer c.args.w.now c.args.position) c.objects_base-base.ensures
    (ap (λ o. unwrap_or (option_map (entry_at c.objects_base-base.result) o) 0)
    (sym (option_map_id c.nth.result)
    ∙ nth_from_yields_List c.nth.result _ c.args.position c.nth.ensures.ran
    (YieldsList-from_filter _ (λ i. is_timer c.args.w.now (entry_at c.objects_base-base.result i)) (YieldsList-from_range 0 c.count.result c.count.result (cc) (omega arith)) c.filter.ensures.closure (λ x b q k. search (rules, tests))))
    ∙ nth-filter c.args.w.now c.objects_base-base.result c.count.result 0 c.args.position
    ∙ search rules)
    (search (rules, tests))
