use mathlib.Core.Path.{sym, ◌∙◌}
use Rattle.reason_text.proofs.ShowLaws.{shown-end, shown-more}
use Rattle.reason_text.proofs.put_shown.Goals as goal

pub loop-b-preserved : goal.loop-b-preserved
loop-b-preserved c = let e = shown-more c.loop-b.text.bytes.now c.loop-b.text.at c.args.bytes.now c.loop-b.b-index c.loop-b-test.true (simp (← c.visible_of.ensures) c.push_byte.ensures.1) in
    (c.push_byte.ensures.0 ∙ c.loop-b.invariant.0, sym e ∙ c.loop-b.invariant.1)

pub returns : goal.returns
returns c = (c.loop-b.invariant.0, sym (shown-end c.loop-b.text.bytes.now c.loop-b.text.at c.args.bytes.now c.loop-b.b-index c.loop-b-test.false) ∙ c.loop-b.invariant.1)
