use mathlib.Core.Path.{sym, ◌∙◌}
use Rattle.reasons.specs.Reasons.{named_reason}
use Rattle.reasons.proofs.ReasonLaws.{form-none, form-reason}
use Rattle.reasons.proofs.named_reason.Goals as goal

pub returns-then-is_empty : goal.returns-then-is_empty
unfolding named_reason
returns-then-is_empty c = simp (sym c.form_of-form.ensures) (sym (form-none c.form_of-form.result.now _ _ (sym c.is_empty.ensures ∙ c.if-is_empty.true)))

pub returns : goal.returns
unfolding named_reason
returns c = simp (sym c.form_of-form.ensures, ← c.rest.ensures.words) (c.reason_from.ensures ∙ sym (form-reason c.form_of-form.result.now _ _ (sym c.is_empty.ensures ∙ c.if-is_empty.false)))
