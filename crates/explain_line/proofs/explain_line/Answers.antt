use Rattle.explain_line.specs.Explain.{explained}
use Rattle.explain_line.proofs.explain_line.Goals as goal

pub returns : goal.returns
unfolding explained
returns c = record { text_after = simp (← c.read_line-c.ensures, ← c.perform-step.ensures, ← c.put_line-end.ensures.result_after); end_in_bounds = c.put_line-end.ensures.upper_bound }
