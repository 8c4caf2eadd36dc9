use Rattle.std.proofs.Common.{ℕ, ◌*◌, ◌∙◌, ap, arith}
use Rattle.wide.specs.Checked.{checked}
use Rattle.expiry.specs.Next.{next_due, next_by}
use Rattle.expiry.proofs.NextLaws.{one-shot, step-passes}
use Rattle.expiry.proofs.next.next_due.Goals as goal

pub returns-then-period-eq0 : goal.returns-then-period-eq0
returns-then-period-eq0 c = one-shot c.args.due c.args.time c.args.period (omega (arith, c.ranges.due)) c.if-period-eq0.true

pub returns-in_err-checked_mul : goal.returns-in_err-checked_mul
returns-in_err-checked_mul c = c.from_residual.ensures ∙ step-passes c.args.due c.args.time c.args.period (omega (arith, c.in_err-checked_mul.ensures))

pub next_by-requires : goal.next_by-requires
next_by-requires c = omega (arith, c.in_ok-checked_mul.ensures, c.if-period-eq0.false)

pub returns : goal.returns
unfolding next_due
returns c = c.next_by.ensures ∙ ap (λ (s : ℕ). checked (next_by c.args.due c.args.time s)) (omega (arith, c.in_ok-checked_mul.ensures))
