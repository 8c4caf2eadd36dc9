use mathlib.Core.Path.{sym}
use lib.ListN.{get_or-eq_default}
use Rattle.reasons.proofs.ReasonLaws.{default}
use Rattle.reasons.proofs.arguments.kind_at.Goals as goal

pub returns-then-form-i : goal.returns-then-form-i
returns-then-form-i c = sym (get_or-eq_default c.args.form.now 46 c.if-form-i.true)

pub returns : goal.returns
returns c = default c.args.form.now c.args.i 0 46 c.if-form-i.false
