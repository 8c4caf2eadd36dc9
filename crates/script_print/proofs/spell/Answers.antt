use mathlib.Core.Path.{sym, ◌∙◌}
use lib.ListN.{length-set}
use Rattle.script_print.proofs.PrintLaws.{digits-stop, digits_more, digits-end}
use borrow.Author.Rules.{rules}
use Rattle.script_print.proofs.spell.Goals as goal

pub returns-then-rest-lt10-clause-digits : goal.returns-then-rest-lt10-clause-digits
returns-then-rest-lt10-clause-digits c = let e = digits-stop c.loop-i.i c.loop-i.rest c.loop-i.digits (search rules) (search rules) c.if-rest-lt10.true in
    cc (e, c.digit.ensures, c.loop-i.invariant.1)

pub loop-i-preserved : goal.loop-i-preserved
loop-i-preserved c = let e = digits_more c.loop-i.i c.loop-i.rest c.loop-i.digits (search rules) (search rules) c.if-rest-lt10.false in
    (simp length-set (search rules), cc (e, c.digit.ensures, c.loop-i.invariant.1))

pub returns-clause-digits : goal.returns-clause-digits
returns-clause-digits c = sym (digits-end c.loop-i.i c.loop-i.rest c.loop-i.digits (search rules)) ∙ c.loop-i.invariant.1
