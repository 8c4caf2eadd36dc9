use Rattle.std.proofs.Common.{rules, arith, ◌≡◌, ◌∙◌, ◌+◌, ◌-◌, sym}
use Rattle.wakes.specs.Wake.{awake}
use Rattle.wakes.proofs.WakeLaws.{pass-none, pass-end, pass-more}
use Rattle.wakes.proofs.wake.Goals as goal

pub loop-init : goal.loop-init
unfolding awake
loop-init c = (search rules, cc)

pub returns-then-at-eq0 : goal.returns-then-at-eq0
returns-then-at-eq0 c = sym (pass-end _ _ _ _ c.if-at-eq0.true) ∙ c.loop.invariant.1

pub loop-preserved : goal.loop-preserved
loop-preserved c = let e : 4096 - (c.loop.counter + 1) ≡ 4096 - c.loop.counter - 1 = omega arith in
    (search rules, cc (pass-more (4096 - c.loop.counter) c.loop.w c.loop.before c.loop.at (omega arith) c.if-at-eq0.false))

pub returns : goal.returns
returns c = sym (pass-none _ _ _ _ (omega arith)) ∙ c.loop.invariant.1
