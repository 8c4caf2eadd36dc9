use native.Mathlib.Omega.{arith}
use Rattle.script_lex.proofs.NumberLaws.{taken, taking}
use Rattle.script_lex.proofs.lex.with_digit.Goals.{then-b-lt48-via-then-b-lt48, then-b-lt48-via-else-b-lt48+then-b-gt57}
use Rattle.script_lex.proofs.lex.with_digit.Goals as goal

pub returns-then-b-lt48 : goal.returns-then-b-lt48
returns-then-b-lt48 c = λ e.
    let t = taken _ _ _ e in
    elim c.then-b-lt48.branch [ then-b-lt48-via-then-b-lt48 w ↦ omega (arith, t.least, w.if-b-lt48.true) | then-b-lt48-via-else-b-lt48+then-b-gt57 w ↦ omega (arith, t.most, w.if-b-gt57.true) ]

pub returns-in_err-checked_mul : goal.returns-in_err-checked_mul
returns-in_err-checked_mul c = rw c.from_residual.ensures (λ e. c.in_err-checked_mul.ensures (omega (arith, (taken _ _ _ e).within)))

pub returns-in_err-longer : goal.returns-in_err-longer
returns-in_err-longer c = rw c.from_residual-in_err-longer.ensures (λ e. c.in_err-longer.ensures (omega (arith, (taken _ _ _ e).within, c.in_ok-checked_mul.ensures.1)))

pub returns-then-limit-longer : goal.returns-then-limit-longer
returns-then-limit-longer c = λ e. omega (arith, (taken _ _ _ e).within, c.in_ok-checked_mul.ensures.1, c.in_ok-longer.ensures.1, c.if-limit-longer.true)

pub returns : goal.returns
returns c = (taking _ _ _ c.if-b-lt48.false c.if-b-gt57.false (omega (arith, c.in_ok-checked_mul.ensures.1, c.in_ok-longer.ensures.1, c.if-limit-longer.false)), omega (arith, c.in_ok-checked_mul.ensures.1, c.in_ok-longer.ensures.1))
