use native.Mathlib.Omega.{arith}
use Prim.Native.Nat.{◌^◌}
use Rattle.wide.proofs.Columns.{small, product_is}
use Rattle.wide.proofs.product.Goals as goal

pub overflow_mul-low : goal.overflow_mul-low
overflow_mul-low c = omega (arith, small _ _ c.ranges.a.fits c.ranges.b.fits)

pub overflow_mul-middle : goal.overflow_mul-middle
overflow_mul-middle c = omega (arith, small _ _ c.ranges.a.fits c.ranges.b.fits)

pub overflow_add-middle : goal.overflow_add-middle
overflow_add-middle c = omega (arith, small _ _ c.ranges.a.fits c.ranges.b.fits)

pub overflow_mul-next : goal.overflow_mul-next
overflow_mul-next c = omega (arith, small _ _ c.ranges.a.fits c.ranges.b.fits)

pub overflow_add-next : goal.overflow_add-next
overflow_add-next c = omega (arith, small _ _ c.ranges.a.fits c.ranges.b.fits)

pub overflow_mul-result : goal.overflow_mul-result
overflow_mul-result c = omega (arith, small _ _ c.ranges.a.fits c.ranges.b.fits)

pub overflow_add-result : goal.overflow_add-result
overflow_add-result c = omega (arith, small _ _ c.ranges.a.fits c.ranges.b.fits)

pub overflow_add-result-2 : goal.overflow_add-result-2
overflow_add-result-2 c = omega (arith, small _ _ c.ranges.a.fits c.ranges.b.fits)

pub returns : goal.returns
returns c = product_is (2 ^ 32) c.args.a c.args.b
