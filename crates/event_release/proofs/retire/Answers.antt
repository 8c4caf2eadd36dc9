use Rattle.std.proofs.Common.{arith, rules}
use Rattle.objects.proofs.CountLaws.{count_most}
use Rattle.event_release.specs.Release.{is_retired}
use Rattle.event_release.proofs.ReleaseLaws.{retired-retained}
use Rattle.event_release.proofs.retire.Goals as goal

pub returns : goal.returns
returns c =
    let kept = c.retain-stay.ensures (λ w place. is_retired w place c.args.memory.lo c.args.memory.hi) (λ w place r p. search rules) in
    cc (kept.0, kept.1, retired-retained c.args.memory.lo c.args.memory.hi c.args.w.now c.objects_base-base.result c.count-n.result c.objects_base-base.ensures c.count-n.ensures (omega (arith, count_most c.args.w.now, c.count-n.ensures)))
