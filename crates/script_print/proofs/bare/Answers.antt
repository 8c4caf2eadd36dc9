use Rattle.script_print.proofs.BareLaws.{no-thread}
use Rattle.script_print.specs.Print.{bare_answer}
use Rattle.script_print.proofs.bare.Goals as goal

pub returns-in-Thread : goal.returns-in-Thread
unfolding bare_answer
returns-in-Thread c = simp c.in-Thread.is

pub returns-in_default : goal.returns-in_default
returns-in_default c = no-thread c.args.a c.in_default.not-Thread
