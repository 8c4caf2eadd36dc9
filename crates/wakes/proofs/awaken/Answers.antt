use native.Mathlib.Omega.{arith}
use Rattle.wakes.specs.Wake.{awoken}
use Rattle.wakes.proofs.WakeLaws.{count_most, index-most}
use Rattle.wakes.proofs.awaken.Goals as goal

pub takes_own-requires : goal.takes_own-requires
takes_own-requires c = omega (arith, count_most c.args.w.now c.args.id, c.count_of-n.ensures)

pub overflow_add-i : goal.overflow_add-i
overflow_add-i c = omega (arith, index-most c.args.w.now c.places.result.src.now c.places.result.at c.places.result.n c.all_of-all.result, c.places.result.few, c.index-i.ensures)

pub returns : goal.returns
unfolding awoken
returns c = cc
