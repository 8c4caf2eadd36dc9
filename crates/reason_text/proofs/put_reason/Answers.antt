use mathlib.Core.Path.{sym}
use lib.Seq.{length-take-le}
use Rattle.reason_text.specs.Texts.{reason_text}
use Rattle.reason_text.proofs.put_reason.Goals as goal

pub slice_bounds-of-end : goal.slice_bounds-of-end
slice_bounds-of-end c = sym (length-take-le _ _ c.text_length-n.ensures.upper_bound)

pub returns : goal.returns
unfolding reason_text
returns c = simp (← c.text_length-n.ensures.value) (simp (← c.of.ensures.words) c.put_text.ensures)
