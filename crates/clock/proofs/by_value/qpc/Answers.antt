use Rattle.std.proofs.Common.{◌∙◌, arith}
use Rattle.clock.specs.Clock.{qpc}
use Rattle.clock.proofs.FormLaws.{form_of, read_out, read-in}
use Rattle.clock.proofs.AdvanceLaws.{reading_is}
use Rattle.clock.proofs.by_value.qpc.Goals as goal

pub returns-then-not-in_form : goal.returns-then-not-in_form
unfolding qpc
returns-then-not-in_form c = read_out _ c.in_form.ensures _ c.if-not-in_form.true

pub overflow_mul-c : goal.overflow_mul-c
overflow_mul-c c = omega (arith, (form_of _ c.in_form.ensures c.if-not-in_form.false).uptime-most)

pub returns : goal.returns
unfolding qpc
returns c = read-in _ c.in_form.ensures c.if-not-in_form.false (c.ok_or.ensures.value ∙ reading_is _ _ c.checked_add.ensures)
