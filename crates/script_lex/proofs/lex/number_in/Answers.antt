use mathlib.Core.Path.{sym, ◌∙◌}
use native.Mathlib.Omega.{arith}
use Rattle.script_lex.proofs.NumberLaws.{number-none, number-some, number-end, number-stop, number_more, taken, refused}
use borrow.Author.Rules.{rules}
use Rattle.script_lex.proofs.lex.number_in.Goals as goal

pub returns-then-is_empty : goal.returns-then-is_empty
returns-then-is_empty c = sym (number-none c.args.limit c.args.word.now (sym c.is_empty.ensures ∙ c.if-is_empty.true))

pub loop-b-init : goal.loop-b-init
loop-b-init c = (search rules, sym (number-some c.args.limit c.args.word.now (sym c.is_empty.ensures ∙ c.if-is_empty.false)))

pub returns-in_err-n : goal.returns-in_err-n
returns-in_err-n c = rw c.from_residual.ensures (sym (number-stop c.args.limit c.loop-b.n c.loop-b.b-index c.args.word.now c.loop-b-test.true (refused _ _ _ c.in_err-n.ensures)) ∙ c.loop-b.invariant.1)

pub loop-b-preserved : goal.loop-b-preserved
loop-b-preserved c = let (t, is) = c.in_ok-n.ensures in
    (omega (arith, is, (taken _ _ _ t).within), cc (number_more c.args.limit c.loop-b.n c.loop-b.b-index c.args.word.now c.loop-b-test.true t, is, c.loop-b.invariant.1))

pub returns : goal.returns
returns c = sym (number-end c.args.limit c.loop-b.n c.loop-b.b-index c.args.word.now c.loop-b-test.false c.loop-b.invariant.0) ∙ c.loop-b.invariant.1
