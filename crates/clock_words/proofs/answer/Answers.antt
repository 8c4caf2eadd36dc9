use Rattle.std.proofs.Common.{sym, ap, length, lt-ltb, le-ltb, eqb-true, arith}
use borrow.Author.Tests.{eqb-false}
use Rattle.clock_words.specs.ClockWords.{answered, placed, returned}
use Rattle.clock_words.proofs.answer.Goals as goal

pub returns-then-is_empty : goal.returns-then-is_empty
unfolding answered
returns-then-is_empty c = simp (lt-ltb (length c.args.out.now) 1 (omega (arith, eqb-true _ _ (sym c.if-is_empty.ensures))), c.from.ensures)

pub returns-in-Err : goal.returns-in-Err
unfolding answered placed
returns-in-Err c = simp (le-ltb (length c.args.out.now) 1 (omega (arith, eqb-false _ _ (sym c.if-is_empty.ensures))), c.in-Err.is, c.from-in-Err.ensures)

pub returns-in-Ok : goal.returns-in-Ok
unfolding answered placed
returns-in-Ok c = simp (le-ltb (length c.args.out.now) 1 (omega (arith, eqb-false _ _ (sym c.if-is_empty.ensures))), c.in-Ok.is) (ap (returned 0) c.put.ensures)
