use native.Mathlib.Omega.{arith}
use Rattle.form.specs.Header.{long_enough}
use Rattle.form.proofs.FormLaws.{limits-pass}
use Rattle.form.proofs.header.is_long_enough.Goals as goal

pub overflow_mul-result : goal.overflow_mul-result
overflow_mul-result c = omega (arith, limits-pass c.args.w.now c.requires)

pub overflow_add-result : goal.overflow_add-result
overflow_add-result c = omega (arith, limits-pass c.args.w.now c.requires)

pub overflow_add-result-2 : goal.overflow_add-result-2
overflow_add-result-2 c = omega (arith, limits-pass c.args.w.now c.requires)

pub overflow_mul-result-2 : goal.overflow_mul-result-2
overflow_mul-result-2 c = omega (arith, limits-pass c.args.w.now c.requires)

pub overflow_add-result-3 : goal.overflow_add-result-3
overflow_add-result-3 c = omega (arith, limits-pass c.args.w.now c.requires)

pub returns : goal.returns
unfolding long_enough
returns c = cc
