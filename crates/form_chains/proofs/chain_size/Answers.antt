use mathlib.Core.Path.{◌≡◌, ◌∙◌, sym}
use native.Mathlib.Omega.{arith}
use Prim.Native.Nat.{◌+◌, ◌-◌}
use Rattle.form_dpc.proofs.FormDpcLaws.{counted_none}
use Rattle.form_chains.specs.Chain.{chain_size}
use Rattle.form_chains.proofs.ChainLaws.{chain-none, chain-ends, chain-stop, chain_more}
use Rattle.form_chains.proofs.chain_size.Goals as goal

pub loop-n-init : goal.loop-n-init
unfolding chain_size
loop-n-init c = cc

pub returns-then-at-eq0 : goal.returns-then-at-eq0
returns-then-at-eq0 c = cc (chain-ends (4096 - c.loop-n.n) c.args.w.now c.args.c c.args.state c.args.p c.loop-n.before c.loop-n.at (c.loop-n.n + 1) (omega (arith, c.loop-n-test.true)) c.if-at-eq0.true)

pub returns-then-not-member_passes : goal.returns-then-not-member_passes
returns-then-not-member_passes c = counted_none _ (sym c.loop-n.invariant ∙ chain-stop _ _ _ _ _ _ _ _ (omega (arith, c.loop-n-test.true)) c.if-at-eq0.false (sym c.member_passes.ensures ∙ c.if-not-member_passes.true))

pub loop-n-preserved : goal.loop-n-preserved
loop-n-preserved c = let l : 4096 - (c.loop-n.n + 1) ≡ 4096 - c.loop-n.n - 1 = omega arith in
    cc (l, chain_more (4096 - c.loop-n.n) c.args.w.now c.args.c c.args.state c.args.p c.loop-n.before c.loop-n.at (c.loop-n.n + 1) (omega (arith, c.loop-n-test.true)) c.if-at-eq0.false (sym c.member_passes.ensures ∙ c.if-not-member_passes.false))

pub returns : goal.returns
returns c = counted_none _ (sym c.loop-n.invariant ∙ chain-none _ _ _ _ _ _ _ _ (omega (arith, c.loop-n-test.false)))
