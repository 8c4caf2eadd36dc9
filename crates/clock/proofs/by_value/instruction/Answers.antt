use Rattle.std.proofs.Common.{◌+◌, ◌^◌, eq-eqb, ne_eqb, le-ltb, lt-ltb, arith, ◌∙◌}
use Rattle.clock.specs.Clock.{instruction, instructed}
use Rattle.clock.proofs.FormLaws.{form_of, kept_out, let-in}
use Rattle.clock.proofs.AdvanceLaws.{fitted-is}
use Rattle.clock.proofs.by_value.instruction.Goals as goal

pub returns-then-not-in_form : goal.returns-then-not-in_form
unfolding instruction
returns-then-not-in_form c = kept_out _ c.in_form.ensures _ c.if-not-in_form.true c.refused.ensures

pub returns-in_default : goal.returns-in_default
unfolding instruction instructed
returns-in_default c = let-in _ c.in_form.ensures c.if-not-in_form.false (simp (le-ltb (c.args.c.pending_cycles + 100) (2 ^ 64) (omega (arith, c.in_default.ensures))) c.refused-in_default.ensures)

pub flushed-requires : goal.flushed-requires
flushed-requires c = simp c.with_cycles-counted.ensures (form_of _ c.in_form.ensures c.if-not-in_form.false).mhz-least

pub returns-then-c-eq1 : goal.returns-then-c-eq1
unfolding instruction instructed
returns-then-c-eq1 c =
    let (fits, is) = c.in-Some.ensures in
    let counted = c.with_cycles-counted.ensures in
    let-in _ c.in_form.ensures c.if-not-in_form.false
    (simp (lt-ltb _ _ fits, eq-eqb _ _ c.if-c-eq1.true, ← is, ← counted) (c.fitting.ensures ∙ fitted-is _ _ _ _ c.flushed.ensures))

pub overflow_sub-c : goal.overflow_sub-c
overflow_sub-c c = (form_of _ c.in_form.ensures c.if-not-in_form.false).countdown-least

pub returns : goal.returns
unfolding instruction instructed
returns c =
    let (fits, is) = c.in-Some.ensures in
    let-in _ c.in_form.ensures c.if-not-in_form.false
    (simp (lt-ltb _ _ fits, ne_eqb _ _ c.if-c-eq1.false, ← is) (cc))
