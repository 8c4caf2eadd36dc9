use mathlib.Core.Path.{◌∙◌, sym}
use Rattle.reasons.specs.Reasons.{words_reason}
use Rattle.reasons.proofs.ReasonLaws.{table}
use Rattle.reasons.proofs.words_reason.Goals as goal

pub returns-then-is_end : goal.returns-then-is_end
unfolding words_reason
returns-then-is_end c = simp (sym c.is_end.ensures ∙ c.if-is_end.true)

pub returns-then-is : goal.returns-then-is
unfolding words_reason
returns-then-is c = simp (sym c.is_end.ensures ∙ c.if-is_end.false, sym c.is.ensures ∙ c.if-is.true, ← c.rest.ensures.words) c.clock_reason.ensures

pub returns : goal.returns
unfolding words_reason
returns c = simp (sym c.is_end.ensures ∙ c.if-is_end.false, sym c.is.ensures ∙ c.if-is.false, ← table) c.named_reason.ensures
