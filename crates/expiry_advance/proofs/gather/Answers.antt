use native.Mathlib.Omega.{arith}
use mathlib.Core.Path.{◌≡◌, ap, ◌∙◌}
use lib.ListN.{length, take, drop, length-append}
use lib.Seq.{length-take-le, take_at}
use Rattle.objects.specs.Objects.{objects_base}
use Rattle.expiry_advance.specs.Advance.{arranged, order}
use Rattle.expiry_advance.proofs.gather.Goals as goal

pub returns : goal.returns
unfolding order
returns c = let n : length c.arrange.new.list ≡ c.collect-n.result = omega (arith, length-take-le c.collect-n.result c.collect-n.new.list c.collect-n.ensures.2, c.arrange.auto) in
    let e : c.arrange.new.list ≡ arranged c.args.w.now (objects_base c.args.w.now) (take c.collect-n.result c.collect-n.new.list) = cc in
    (take_at c.arrange.new.list (drop c.collect-n.result c.collect-n.new.list) c.collect-n.result n ∙ e ∙ ap (arranged c.args.w.now (objects_base c.args.w.now)) c.collect-n.ensures.1, omega (arith, n, length-append c.arrange.new.list (drop c.collect-n.result c.collect-n.new.list)))
