use mathlib.Core.Path.{sym, ap, ◌∙◌}
use native.Mathlib.Omega.{arith}
use borrow.Author.Tests.{lt-ltb, le-ltb}
use lib.Seq.{length-take-le}
use Rattle.reasons.specs.Reasons.{words_reason, reason_of}
use Rattle.reasons.proofs.reason_of.Goals as goal

pub returns-then-line-gt4096 : goal.returns-then-line-gt4096
unfolding reason_of
returns-then-line-gt4096 c = simp (lt-ltb _ _ c.if-line-gt4096.true)

pub slice_bounds-of-end : goal.slice_bounds-of-end
slice_bounds-of-end c = sym (length-take-le _ _ c.text_length-n.ensures.upper_bound)

pub words_reason-requires : goal.words_reason-requires
words_reason-requires c = simp c.of.ensures.line (omega (arith, length-take-le c.text_length-n.result c.args.line.now c.text_length-n.ensures.upper_bound, c.text_length-n.ensures.upper_bound, c.if-line-gt4096.false))

pub returns : goal.returns
unfolding reason_of
returns c = simp (le-ltb _ _ c.if-line-gt4096.false, ← c.text_length-n.ensures.value) (c.words_reason.ensures ∙ ap words_reason c.of.ensures.words)
