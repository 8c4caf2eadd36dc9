use Rattle.std.proofs.Common.{refl}
use Rattle.clock.specs.Clock.{tick64}
use Rattle.clock.proofs.FormLaws.{read_out, read-in}
use Rattle.clock.proofs.by_value.tick64.Goals as goal

pub returns-then-not-in_form : goal.returns-then-not-in_form
unfolding tick64
returns-then-not-in_form c = read_out _ c.in_form.ensures _ c.if-not-in_form.true

pub returns : goal.returns
unfolding tick64
returns c = read-in _ c.in_form.ensures c.if-not-in_form.false refl
