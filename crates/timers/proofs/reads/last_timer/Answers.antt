use mathlib.Core.Path.{◌∙◌, sym, ap}
use Rattle.std.proofs.Common.{rules, tests}
use Rattle.std.proofs.lemmas.Iterator.Adapters.{option_map_id}
use Rattle.std.proofs.lemmas.Iterator.Search.{find_from_yields_List}
use Rattle.std.specs.Option.{option_map, unwrap_or}
use Rattle.words.specs.Layout.{entry_at}
use Rattle.timers.specs.Record.{is_timer}
use Rattle.timers.specs.Reads.{last_timer}
use Rattle.timers.proofs.PlaceLaws.{found-place}
use Rattle.timers.proofs.WalkLaws.{YieldsList-from_back, find-down}
use Rattle.timers.proofs.reads.last_timer.Goals as goal

pub returns : goal.returns
unfolding last_timer
returns c =
    found-place c.args.w.now c.objects_base-base.result c.rfind.result _ (last_timer c.args.w.now c.args.end) c.objects_base-base.ensures
    (ap (λ o. unwrap_or (option_map (entry_at c.objects_base-base.result) o) 0)
    (sym (option_map_id c.rfind.result)
    ∙ find_from_yields_List (λ i. is_timer c.args.w.now (entry_at c.objects_base-base.result i)) _ _ c.rfind.result c.rfind.ensures.ran (YieldsList-from_back c.find-n.result cc) (λ x b q k. search (rules, tests)))
    ∙ find-down c.args.w.now c.objects_base-base.result c.find-n.result
    ∙ search rules)
    (search (rules, tests))
