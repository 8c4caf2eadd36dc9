use mathlib.Core.Path.{sym, ap, ◌∙◌}
use borrow.Author.Tests.{lt-ltb, le-ltb}
use lib.Seq.{length-take-le}
use Rattle.script.specs.Line.{text_line, read_line}
use Rattle.script.proofs.read_line.Goals as goal

pub returns-then-line-gt4096 : goal.returns-then-line-gt4096
unfolding read_line
returns-then-line-gt4096 c = simp (lt-ltb _ _ c.if-line-gt4096.true)

pub slice_bounds-of-end : goal.slice_bounds-of-end
slice_bounds-of-end c = sym (length-take-le _ _ c.text_length-n.ensures.upper_bound)

pub returns : goal.returns
unfolding read_line
returns c = simp (le-ltb _ _ c.if-line-gt4096.false, ← c.text_length-n.ensures.value) (c.read_text.ensures ∙ ap (λ ws. text_line ws c.args.list.now) c.of.ensures.words)
