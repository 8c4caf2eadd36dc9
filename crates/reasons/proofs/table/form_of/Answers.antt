use mathlib.Core.Path.{sym, ap, ◌∙◌}
use Rattle.script_lex.specs.Words.{first, same}
use Rattle.script_lex.specs.Left.{left}
use Rattle.reasons.specs.Reasons.{form_of}
use Rattle.reasons.proofs.TableLaws.{fewer-two, form-end, form-here, form-more}
use Rattle.reasons.proofs.table.form_of.Goals as goal

pub loop-rows-init : goal.loop-rows-init
loop-rows-init c = ap (λ ws. form_of ws (first (left c.args.words))) c.of-rows.ensures.words

pub returns-then-is : goal.returns-then-is
returns-then-is c = c.first-then-is.ensures ∙ ap first c.rest-form.ensures.words ∙ sym (form-here _ _ (sym c.is_end.ensures ∙ c.loop-rows-test.true) (ap (same _) (sym c.first.ensures) ∙ sym c.is.ensures ∙ c.if-is.true)) ∙ c.loop-rows.invariant

pub loop-rows-smaller : goal.loop-rows-smaller
loop-rows-smaller c = simp (c.rest-rows.ensures.words, c.rest-form.ensures.words) (fewer-two _ (sym c.is_end.ensures ∙ c.loop-rows-test.true))

pub loop-rows-preserved : goal.loop-rows-preserved
loop-rows-preserved c = simp (c.rest-rows.ensures.words, c.rest-form.ensures.words) (sym (form-more _ _ (sym c.is_end.ensures ∙ c.loop-rows-test.true) (ap (same _) (sym c.first.ensures) ∙ sym c.is.ensures ∙ c.if-is.false)) ∙ c.loop-rows.invariant)

pub returns : goal.returns
returns c = form-end _ _ (sym c.is_end.ensures ∙ c.loop-rows-test.false) ∙ c.loop-rows.invariant
