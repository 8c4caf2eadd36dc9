use mathlib.Core.Path.{◌≡◌, ◌∙◌, sym}
use native.Mathlib.Omega.{arith}
use Prim.Native.Nat.{◌+◌, ◌-◌}
use Rattle.form_dpc.specs.Queue.{queue_size}
use Rattle.form_dpc.proofs.FormDpcLaws.{queue-none, queue-ends, queue-stop, queue-more, counted_none}
use Rattle.form_dpc.proofs.queue.queue_size.Goals as goal

pub loop-n-init : goal.loop-n-init
unfolding queue_size
loop-n-init c = cc

pub returns-then-at-eq0 : goal.returns-then-at-eq0
returns-then-at-eq0 c = cc (queue-ends (4097 - c.loop-n.n) c.args.w.now c.queue_chain-c.result c.loop-n.before c.loop-n.at (c.loop-n.n + 1) (omega (arith, c.loop-n-test.true)) c.if-at-eq0.true)

pub returns-then-not-is_queued : goal.returns-then-not-is_queued
returns-then-not-is_queued c = counted_none _ (sym c.loop-n.invariant ∙ queue-stop _ _ _ _ _ _ (omega (arith, c.loop-n-test.true)) c.if-at-eq0.false (sym c.is_queued.ensures ∙ c.if-not-is_queued.true))

pub loop-n-preserved : goal.loop-n-preserved
loop-n-preserved c = let l : 4097 - (c.loop-n.n + 1) ≡ 4097 - c.loop-n.n - 1 = omega arith in
    cc (l, queue-more (4097 - c.loop-n.n) c.args.w.now c.queue_chain-c.result c.loop-n.before c.loop-n.at (c.loop-n.n + 1) (omega (arith, c.loop-n-test.true)) c.if-at-eq0.false (sym c.is_queued.ensures ∙ c.if-not-is_queued.false))

pub returns : goal.returns
returns c = counted_none _ (sym c.loop-n.invariant ∙ queue-none _ _ _ _ _ _ (omega (arith, c.loop-n-test.false)))
