use mathlib.Core.Path.{◌≡◌, ◌∙◌, sym}
use native.Mathlib.Omega.{arith}
use Prim.Native.Nat.{◌+◌, ◌-◌}
use borrow.Author.Rules.{rules}
use Rattle.form_dpc.proofs.FormDpcLaws.{counted_none}
use Rattle.form_chains.specs.Chain.{queue_size, ready_size}
use Rattle.form_chains.proofs.ChainLaws.{queue-small, queues-none, queues-stop, queues-unmarked, queues-more, counted_zero, counted_suc, counted_some, counted_at}
use Rattle.form_chains.proofs.ready_size.Goals as goal

pub loop-p-init : goal.loop-p-init
unfolding ready_size
loop-p-init c = (search rules, cc)

pub returns-in_err-size : goal.returns-in_err-size
returns-in_err-size c = rw c.from_residual.ensures (counted_none _ (sym c.loop-p.invariant.1 ∙ queues-stop _ _ _ _ (omega (arith, c.loop-p-test.true)) (counted_zero _ c.in_err-size.ensures)))

pub returns-then-not-bit_passes : goal.returns-then-not-bit_passes
returns-then-not-bit_passes c = counted_none _ (sym c.loop-p.invariant.1 ∙ queues-unmarked _ _ _ _ (omega (arith, c.loop-p-test.true)) (counted_some _ _ c.in_ok-size.ensures) (sym c.bit_passes.ensures ∙ c.if-not-bit_passes.true))

pub overflow_add-n : goal.overflow_add-n
overflow_add-n c = omega (arith, c.loop-p-test.true, c.loop-p.invariant.0, counted_suc _ _ c.in_ok-size.ensures, queue-small c.args.w.now c.loop-p.p)

pub loop-p-preserved : goal.loop-p-preserved
loop-p-preserved c = let e : queue_size c.args.w.now c.loop-p.p ≡ c.in_ok-size.size + 1 = counted_suc _ _ c.in_ok-size.ensures in
    let l : 32 - (c.loop-p.p + 1) ≡ 32 - c.loop-p.p - 1 = omega arith in
    let q : c.loop-p.n + c.in_ok-size.size + 1 ≡ c.loop-p.n + 1 + (queue_size c.args.w.now c.loop-p.p - 1) = omega (arith, e) in
    (omega (arith, c.loop-p.invariant.0, e, queue-small c.args.w.now c.loop-p.p), cc (l, q, queues-more (32 - c.loop-p.p) c.args.w.now c.loop-p.p (c.loop-p.n + 1) (omega (arith, c.loop-p-test.true)) (counted_some _ _ c.in_ok-size.ensures) (sym c.bit_passes.ensures ∙ c.if-not-bit_passes.false)))

pub returns : goal.returns
returns c = counted_at _ _ (sym c.loop-p.invariant.1 ∙ queues-none _ _ _ _ (omega (arith, c.loop-p-test.false)))
