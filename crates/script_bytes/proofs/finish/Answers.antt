use Rattle.std.proofs.Common.{arith, length-take}
use Rattle.script_bytes.specs.Bytes.{finished}
use Rattle.script_bytes.proofs.finish.Goals as goal

pub slice_bounds-answer_line-end : goal.slice_bounds-answer_line-end
slice_bounds-answer_line-end c = simp length-take (omega (arith, c.requires.0))

pub returns : goal.returns
unfolding finished
returns c = record { text_after = simp (← c.answer_line-a.ensures.text_after, ← c.wrapping_add_u64.ensures.value); within = (omega arith, c.answer_line-a.ensures.end_in_bounds) }
