use mathlib.Core.Path.{◌∙◌, sym}
use Rattle.reasons.specs.Reasons.{clock_reason}
use Rattle.reasons.proofs.ReasonLaws.{clock-table}
use Rattle.reasons.proofs.clock_reason.Goals as goal

pub returns-then-is_end : goal.returns-then-is_end
unfolding clock_reason
returns-then-is_end c = simp (sym c.is_end.ensures ∙ c.if-is_end.true)

pub returns : goal.returns
unfolding clock_reason
returns c = simp (sym c.is_end.ensures ∙ c.if-is_end.false, ← clock-table) c.named_reason.ensures
