use Rattle.std.proofs.Common.{◌≡◌, ◌+◌, ◌-◌, ◌≤◌, length, sym, refl, ap, ◌∙◌, arith, length-take-le}
use Rattle.objects.specs.Objects.{object_count}
use Rattle.objects.proofs.CountLaws.{count_most}
use Rattle.expiry.specs.Due.{due_list}
use Rattle.expiry.proofs.DueLaws.{collected-more, collected-all, noted-most}
use Rattle.expiry.proofs.due.collect.Goals as goal

pub loop-i-init : goal.loop-i-init
unfolding due_list
loop-i-init c = let e : object_count c.args.w.now - 0 ≡ object_count c.args.w.now = omega arith in (omega arith, refl, cc)

pub note-k-requires : goal.note-k-requires
note-k-requires c = omega (arith, count_most c.args.w.now, c.count-i-end.ensures, c.loop-i.auto.i-end, c.loop-i.invariant.0)

pub loop-i-preserved : goal.loop-i-preserved
loop-i-preserved c =
    let e : object_count c.args.w.now - (c.loop-i.i + 1) ≡ object_count c.args.w.now - c.loop-i.i - 1 = omega arith in
    let m = collected-more c.args.w.now c.objects_base-base.result c.loop-i.i c.args.time c.loop-i.list c.loop-i.k (object_count c.args.w.now - c.loop-i.i) (due_list c.args.w.now c.args.time) (omega (arith, c.count-i-end.ensures, c.loop-i-test.true)) (omega (arith, c.requires, c.count-i-end.ensures, c.loop-i.invariant.0, c.loop-i.invariant.1, c.loop-i-test.true)) c.loop-i.invariant.2 in (
      omega (arith, noted-most c.args.w.now c.objects_base-base.result c.loop-i.i c.args.time c.loop-i.k, c.note-k.ensures.0, c.loop-i.invariant.0),
      omega (arith, c.note-k.auto, c.loop-i.invariant.1),
      cc (m, c.note-k.ensures.0, c.note-k.ensures.1),
    )

pub returns : goal.returns
returns c =
    let e = collected-all c.args.w.now c.objects_base-base.result c.loop-i.i c.args.time c.loop-i.list c.loop-i.k (object_count c.args.w.now - c.loop-i.i) (due_list c.args.w.now c.args.time) (omega (arith, c.count-i-end.ensures, c.loop-i-test.false)) c.loop-i.invariant.2 in
    let h : c.loop-i.k ≤ length c.loop-i.list = omega (arith, c.requires, c.count-i-end.ensures, c.loop-i.auto.i-end, c.loop-i.invariant.0, c.loop-i.invariant.1) in
    (sym (length-take-le c.loop-i.k c.loop-i.list h) ∙ ap length e, e, h)
