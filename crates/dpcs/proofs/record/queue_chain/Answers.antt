use native.Mathlib.Omega.{arith}
use Rattle.dpcs.specs.Record.{queue_chain}
use Rattle.dpcs.proofs.RecordLaws.{base-least, base-most}
use Rattle.dpcs.proofs.record.queue_chain.Goals as goal

pub overflow_sub-result : goal.overflow_sub-result
overflow_sub-result c = omega (arith, base-least c.args.w.now, c.dpcs_base-base.ensures)

pub overflow_cast-result-2 : goal.overflow_cast-result-2
overflow_cast-result-2 c = omega (arith, base-most c.args.w.now, c.dpcs_base-base.ensures)

pub returns : goal.returns
unfolding queue_chain
returns c = cc
