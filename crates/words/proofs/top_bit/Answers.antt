use borrow.Author.Tests.{eq-eqb, ne_eqb}
use lib.Bits.{mask_lt}
use Rattle.words.specs.Word.{top_bit}
use Rattle.words.proofs.ReadyWord.{some-bit-leading}
use Rattle.words.proofs.top_bit.Goals as goal

pub overflow_cast-low : goal.overflow_cast-low
overflow_cast-low c = record { fits = mask_lt c.args.m 32 }

pub returns-then-low-eq0 : goal.returns-then-low-eq0
unfolding top_bit
returns-then-low-eq0 c = simp (eq-eqb _ _ c.if-low-eq0.true)

pub overflow_sub-result : goal.overflow_sub-result
overflow_sub-result c = some-bit-leading _ c.if-low-eq0.false (mask_lt c.args.m 32)

pub returns : goal.returns
unfolding top_bit
returns c = simp (ne_eqb _ _ c.if-low-eq0.false)
