use Rattle.std.proofs.Common.{arith, ◌≡◌, ◌+◌, ◌-◌, sym, ◌∙◌}
use Rattle.threads.specs.Thread.{thread_count}
use Rattle.advancing.specs.Advance.{expired_all}
use Rattle.advancing.proofs.AdvanceLaws.{expired-none, expired-more}
use Rattle.advancing.proofs.expire_all.Goals as goal

pub loop-i-init : goal.loop-i-init
unfolding expired_all
loop-i-init c = let e : thread_count c.args.w.now - 0 ≡ thread_count c.args.w.now = omega arith in cc

pub loop-i-preserved : goal.loop-i-preserved
loop-i-preserved c =
    let e : thread_count c.args.w.now - (c.loop-i.i + 1) ≡ thread_count c.args.w.now - c.loop-i.i - 1 = omega arith in
    cc (expired-more (thread_count c.args.w.now - c.loop-i.i) c.loop-i.w (c.loop-i.i + 1) c.args.time (omega (arith, c.count-i-end.ensures, c.loop-i-test.true)))

pub returns : goal.returns
returns c = sym (expired-none _ _ _ _ (omega (arith, c.count-i-end.ensures, c.loop-i-test.false))) ∙ c.loop-i.invariant
