use Rattle.std.proofs.Common.{◌≡◌, max, length, sym, ◌∙◌, arith}
use Rattle.clock_replay.proofs.DecimalLaws.{at-end, at_other, at-digit, refused}
use Rattle.clock_replay.proofs.decimal.scan.Goals as goal

pub returns-in_default : goal.returns-in_default
returns-in_default c = sym (at_other c.args.text.now _ _ c.loop-next-test.true (refused _ _ c.in_default.ensures)) ∙ c.loop-next.invariant.0

pub loop-next-preserved : goal.loop-next-preserved
loop-next-preserved c =
    let (takes, is) = c.in-Some.ensures in
    (rw is (sym (at-digit c.args.text.now c.loop-next.next c.loop-next.value c.loop-next-test.true takes) ∙ c.loop-next.invariant.0), omega (arith, c.loop-next-test.true))

pub returns : goal.returns
returns c =
    let end : max c.args.from (length c.args.text.now) ≡ c.loop-next.next = omega (arith, c.loop-next.invariant.1, c.loop-next-test.false, c.loop-next.auto.next) in
    rw (c.max.ensures, end) (sym (at-end c.args.text.now _ _ c.loop-next-test.false) ∙ c.loop-next.invariant.0)
