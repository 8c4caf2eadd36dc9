use native.Mathlib.Omega.{arith}
use mathlib.Core.Path.{refl, sym, ◌∙◌}
use Rattle.std.proofs.Common.{rules, tests}
use Rattle.std.proofs.lemmas.Iterator.{YieldsList-from_range, YieldsList-from_map}
use Rattle.std.proofs.lemmas.Iterator.Adapters.{option_map_id}
use Rattle.std.proofs.lemmas.Iterator.Consumers.{nth_from_yields_List, YieldsList-at, YieldsList-from_filter}
use Rattle.words.specs.Layout.{entry_at}
use Rattle.event_release.specs.Release.{is_event, nth_event}
use Rattle.event_release.proofs.ReleaseLaws.{from_base, nth-events}
use Rattle.event_release.proofs.nth_event.Goals as goal

pub returns : goal.returns
unfolding nth_event
returns c =
    sym (option_map_id _)
    ∙ nth_from_yields_List c.nth.result c.nth.new.self c.args.position c.nth.ensures.ran
    (YieldsList-from_filter _ (λ place. is_event c.args.w.now place)
    (YieldsList-at c.filter.ensures.source
    (YieldsList-from_map _ (λ i. entry_at c.objects_base-base.result i)
    (YieldsList-at c.map.ensures.source (YieldsList-from_range 0 c.count.result c.count.result refl (omega arith))) c.map.ensures.closure (λ x r q k. search (rules, tests))))
    c.filter.ensures.closure (λ x r q k. search (rules, tests)))
    ∙ nth-events c.args.w.now c.objects_base-base.result (omega (arith, from_base c.args.w.now, c.objects_base-base.ensures)) c.count.result 0 c.args.position
    ∙ search rules
