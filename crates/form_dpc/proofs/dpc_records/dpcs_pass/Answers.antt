use mathlib.Core.Path.{◌≡◌, ◌∙◌, sym}
use native.Mathlib.Omega.{arith}
use Prim.Native.Nat.{◌+◌, ◌-◌, ◌<◌, ◌≤◌}
use Rattle.form_dpc.specs.Dpc.{dpcs_pass}
use Rattle.form_dpc.proofs.FormDpcLaws.{dpcs-none, dpcs-stop, dpcs-more, counting-none, counting_more, counting-all, seen_none, seen-made}
use Rattle.form_dpc.proofs.PastLaws.{behind-none, gone, passes_at, behind_more}
use Rattle.form_dpc.proofs.dpc_records.dpcs_pass.Goals as goal

pub loop-i-init : goal.loop-i-init
unfolding dpcs_pass
loop-i-init c = let l : c.count-count.result - 0 ≡ c.count-count.result = omega arith in
    rw l (cc, counting-none _ _ _ _ c.dpcs_base-base.ensures c.count-count.ensures, counting-none _ _ _ _ c.dpcs_base-base.ensures c.count-count.ensures, counting-none _ _ _ _ c.dpcs_base-base.ensures c.count-count.ensures, behind-none _ _)

pub returns-then-not-dpc_passes : goal.returns-then-not-dpc_passes
returns-then-not-dpc_passes c = let some : 0 < c.count-count.result - c.loop-i.i = omega (arith, c.loop-i-test.true) in
    seen_none _ (sym c.loop-i.invariant.0 ∙ dpcs-stop _ _ _ _ some (sym (passes_at c.args.w.now c.dpcs_base-base.result c.loop-i.i c.loop-i.j c.past-j.result c.requires c.loop-i.invariant.4 (gone _ _ _ _ _ _ _ _ c.objects_base-others.ensures c.get-n.ensures c.key_at.ensures c.past-j.ensures)) ∙ (sym c.dpc_passes.ensures ∙ c.if-not-dpc_passes.true)))

pub loop-i-preserved : goal.loop-i-preserved
loop-i-preserved c = let some : 0 < c.count-count.result - c.loop-i.i = omega (arith, c.loop-i-test.true) in
    let l : c.count-count.result - (c.loop-i.i + 1) ≡ c.count-count.result - c.loop-i.i - 1 = omega arith in
    rw l (sym (dpcs-more (c.count-count.result - c.loop-i.i) c.args.w.now c.dpcs_base-base.result c.loop-i.i some (sym (passes_at c.args.w.now c.dpcs_base-base.result c.loop-i.i c.loop-i.j c.past-j.result c.requires c.loop-i.invariant.4 (gone _ _ _ _ _ _ _ _ c.objects_base-others.ensures c.get-n.ensures c.key_at.ensures c.past-j.ensures)) ∙ (sym c.dpc_passes.ensures ∙ c.if-not-dpc_passes.false))) ∙ c.loop-i.invariant.0, counting_more _ _ _ _ _ _ _ _ _ some c.entry_at-at.ensures c.has_phase.ensures c.from-queued.ensures c.loop-i.invariant.1, counting_more _ _ _ _ _ _ _ _ _ some c.entry_at-at.ensures c.has_phase-in-loop-i.ensures c.from-running.ensures c.loop-i.invariant.2, counting_more _ _ _ _ _ _ _ _ _ some c.entry_at-at.ensures c.has_phase-in-loop-i-2.ensures c.from-returning.ensures c.loop-i.invariant.3, behind_more c.args.w.now c.dpcs_base-base.result c.loop-i.i c.loop-i.j c.past-j.result c.requires c.loop-i.invariant.4 (gone _ _ _ _ _ _ _ _ c.objects_base-others.ensures c.get-n.ensures c.key_at.ensures c.past-j.ensures) (sym c.dpc_passes.ensures ∙ c.if-not-dpc_passes.false))

pub overflow_add-result : goal.overflow_add-result
overflow_add-result c = omega (arith, c.loop-i.invariant.2.few, c.loop-i.invariant.3.few)

pub returns : goal.returns
returns c = let none : c.count-count.result - c.loop-i.i ≤ 0 = omega (arith, c.loop-i-test.false) in
    seen-made _ _ _ _ (sym c.loop-i.invariant.0 ∙ dpcs-none _ _ _ _ none) (counting-all _ _ _ _ _ _ none c.loop-i.invariant.1) (counting-all _ _ _ _ _ _ none c.loop-i.invariant.2) (counting-all _ _ _ _ _ _ none c.loop-i.invariant.3)
