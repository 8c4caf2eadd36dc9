use native.Mathlib.Omega.{arith}
use borrow.Author.Tests.{lt-leb}
use Rattle.clock_words.specs.ClockWords.{offset_at}
use Rattle.clock_words.proofs.OffsetLaws.{difference-fits, difference-is}
use Rattle.clock_words.proofs.offset_at.Goals as goal

pub overflow_sub-result : goal.overflow_sub-result
overflow_sub-result c = difference-fits c.args.word (omega arith)

pub returns-then-word-le1680 : goal.returns-then-word-le1680
returns-then-word-le1680 c = difference-is c.args.word (omega arith) c.if-word-le1680.true

pub returns-else-word-le1680 : goal.returns-else-word-le1680
unfolding offset_at
returns-else-word-le1680 c = simp (lt-leb _ _ c.if-word-le1680.false)
