use mathlib.Core.Path.{◌∙◌, sym}
use native.Mathlib.Omega.{arith}
use Rattle.std.proofs.Common.{rules}
use Rattle.std.proofs.lemmas.Grind.{common_steps}
use Rattle.form.specs.Form.{in_form}
use Rattle.form.proofs.FormLaws.{risen, threads-in, threads-out, dpcs-out, counts_left}
use Rattle.form.proofs.in_form.Goals as goal

pub returns-in_default : goal.returns-in_default
unfolding in_form
returns-in_default c = simp (sym c.limits_pass.ensures ∙ c.if-not-limits_pass.false, sym c.is_long_enough.ensures ∙ c.if-not-is_long_enough.false, sym c.numbers_pass.ensures ∙ c.if-not-numbers_pass.false, threads-out _ c.in_default.ensures)

pub dpcs_pass-requires : goal.dpcs_pass-requires
dpcs_pass-requires c = risen _ (sym c.limits_pass.ensures ∙ c.if-not-limits_pass.false) (sym c.numbers_pass.ensures ∙ c.if-not-numbers_pass.false) (sym c.objects_pass.ensures ∙ c.if-not-objects_pass.false)

pub returns-in_default-dpcs_pass : goal.returns-in_default-dpcs_pass
unfolding in_form
returns-in_default-dpcs_pass c = simp (sym c.limits_pass.ensures ∙ c.if-not-limits_pass.false, sym c.is_long_enough.ensures ∙ c.if-not-is_long_enough.false, sym c.numbers_pass.ensures ∙ c.if-not-numbers_pass.false, threads-in _ _ c.in-Some.ensures, sym c.objects_pass.ensures ∙ c.if-not-objects_pass.false, dpcs-out _ c.in_default-dpcs_pass.ensures)

pub returns-then-starts_pass : goal.returns-then-starts_pass
returns-then-starts_pass c = counts_left _ _ c.in-Some.ensures _ c.in-Some-dpcs_pass.ensures (sym c.limits_pass.ensures ∙ c.if-not-limits_pass.false) (sym c.is_long_enough.ensures ∙ c.if-not-is_long_enough.false) (sym c.numbers_pass.ensures ∙ c.if-not-numbers_pass.false) (sym c.objects_pass.ensures ∙ c.if-not-objects_pass.false) (search rules)

pub returns-else-starts_pass : goal.returns-else-starts_pass
returns-else-starts_pass c = counts_left _ _ c.in-Some.ensures _ c.in-Some-dpcs_pass.ensures (sym c.limits_pass.ensures ∙ c.if-not-limits_pass.false) (sym c.is_long_enough.ensures ∙ c.if-not-is_long_enough.false) (sym c.numbers_pass.ensures ∙ c.if-not-numbers_pass.false) (sym c.objects_pass.ensures ∙ c.if-not-objects_pass.false) (grind (arith, common_steps))
