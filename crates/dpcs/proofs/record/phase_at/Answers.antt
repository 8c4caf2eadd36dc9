use native.Mathlib.Omega.{arith}
use Rattle.std.proofs.lemmas.Grind.{common_steps}
use Rattle.dpcs.specs.Record.{phase_at}
use Rattle.dpcs.proofs.record.phase_at.Goals as goal

pub returns-in-0 : goal.returns-in-0
unfolding phase_at
returns-in-0 c = simp (← c.get_in.ensures, c.in-0.is)

pub returns-in-1 : goal.returns-in-1
unfolding phase_at
returns-in-1 c = simp (← c.get_in.ensures, c.in-1.is) (cc)

pub returns-in-2 : goal.returns-in-2
unfolding phase_at
returns-in-2 c = simp (← c.get_in.ensures, c.in-2.is) (cc)

pub returns-in_default : goal.returns-in_default
unfolding phase_at
returns-in_default c = grind (arith, common_steps)
