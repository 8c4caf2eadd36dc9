use mathlib.Core.Path.{◌≡◌, sym, ◌∙◌}
use native.Mathlib.Omega.{arith}
use Prim.Native.Nat.{◌+◌, ◌-◌, ◌<◌, ◌≤◌}
use Rattle.threads.proofs.ThreadLaws.{count_small}
use Rattle.form_threads.specs.Thread.{threads_pass}
use Rattle.form_threads.proofs.ThreadLaws.{threads-none, threads-stop, threads_more, counting-none, counting_more, counting-all, seen_none, seen-made}
use Rattle.form_threads.proofs.threads_pass.Goals as goal

pub overflow_add-end : goal.overflow_add-end
overflow_add-end c = omega (arith, count_small c.args.w.now, c.count-end.ensures)

pub loop-id-init : goal.loop-id-init
unfolding threads_pass
loop-id-init c = let l : c.count-end.result + 1 - 1 ≡ c.count-end.result = omega arith in
    rw l (cc, counting-none _ _ _ c.count-end.ensures, counting-none _ _ _ c.count-end.ensures)

pub returns-then-not-thread_passes : goal.returns-then-not-thread_passes
returns-then-not-thread_passes c = seen_none _ (sym c.loop-id.invariant.0 ∙ threads-stop _ _ _ (omega (arith, c.loop-id-test.true)) (sym c.thread_passes.ensures ∙ c.if-not-thread_passes.true))

pub loop-id-preserved : goal.loop-id-preserved
loop-id-preserved c = let l : c.count-end.result + 1 - (c.loop-id.id + 1) ≡ c.count-end.result + 1 - c.loop-id.id - 1 = omega arith in
    let some : 0 < c.count-end.result + 1 - c.loop-id.id = omega (arith, c.loop-id-test.true) in
    rw l (cc (threads_more (c.count-end.result + 1 - c.loop-id.id) c.args.w.now c.loop-id.id some (sym c.thread_passes.ensures ∙ c.if-not-thread_passes.false)), counting_more _ _ _ _ _ _ _ some c.has_state.ensures c.from-ready.ensures c.loop-id.invariant.1, counting_more _ _ _ _ _ _ _ some c.has_state-in-loop-id.ensures c.from-waiting.ensures c.loop-id.invariant.2)

pub returns : goal.returns
returns c = let none : c.count-end.result + 1 - c.loop-id.id ≤ 0 = omega (arith, c.loop-id-test.false) in
    seen-made _ _ _ (sym c.loop-id.invariant.0 ∙ threads-none _ _ _ none) (counting-all _ _ _ _ _ none c.loop-id.invariant.1) (counting-all _ _ _ _ _ none c.loop-id.invariant.2)
