use mathlib.Core.Path.{◌∙◌, sym, ap}
use lib.Seq.{length-take-le}
use Rattle.script_lex.specs.Names as name
use Rattle.script_lex.specs.Words.{first, same}
use Rattle.explain_line.specs.Explain.{session_reason}
use Rattle.explain_line.proofs.session_reason.Goals as goal

pub returns-then-not-opened : goal.returns-then-not-opened
unfolding session_reason
returns-then-not-opened c = simp (c.if-not-opened.true)

pub slice_bounds-of-end : goal.slice_bounds-of-end
slice_bounds-of-end c = sym (length-take-le _ _ c.text_length-n.ensures.upper_bound)

pub returns-then-is : goal.returns-then-is
unfolding session_reason
returns-then-is c = simp (c.if-not-opened.false, ← c.text_length-n.ensures.value, sym (c.is.ensures ∙ ap (λ ws. same (first ws) name.opens) c.of.ensures.words) ∙ c.if-is.true)

pub returns : goal.returns
unfolding session_reason
returns c = simp (c.if-not-opened.false, ← c.text_length-n.ensures.value, sym (c.is.ensures ∙ ap (λ ws. same (first ws) name.opens) c.of.ensures.words) ∙ c.if-is.false)
