use Rattle.runner.specs.Line.{answered}
use Rattle.runner.proofs.lines.answer_line.Goals as goal

pub returns : goal.returns
unfolding answered
returns c = record { text_after = simp (← c.read_line-c.ensures, ← c.perform-step.ensures, ← c.write_answer-end.ensures.result_after); end_in_bounds = c.write_answer-end.ensures.upper_bound }
