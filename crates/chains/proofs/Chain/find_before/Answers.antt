use mathlib.Core.Path.{◌≡◌, ◌∙◌, sym}
use Prim.Native.Nat.{◌+◌, ◌-◌}
use native.Mathlib.Omega.{arith}
use Rattle.chains.specs.Chain.{find_before}
use Rattle.chains.proofs.ChainLaws.{before-none, before-found, before_more}
use Rattle.chains.proofs.Chain.find_before.Goals as goal

pub loop-init : goal.loop-init
unfolding find_before
loop-init c = cc

pub returns-then-at-n : goal.returns-then-at-n
returns-then-at-n c = sym (before-found _ _ _ _ _ _ c.if-at-n.true) ∙ c.loop.invariant

pub loop-preserved : goal.loop-preserved
loop-preserved c = let e : 4096 - (c.loop.counter + 1) ≡ 4096 - c.loop.counter - 1 = omega arith in
    cc (before_more (4096 - c.loop.counter) c.args.w.now c.args.self c.loop.before c.loop.at c.args.n (omega arith) c.if-at-n.false)

pub returns : goal.returns
returns c = sym (before-none _ _ _ _ _ _ (omega arith)) ∙ c.loop.invariant
