use Rattle.script_print.specs.Print.{flag_text}
use Rattle.script_print.proofs.Text.push_flag.Goals as goal

pub returns-then-flag : goal.returns-then-flag
unfolding flag_text
returns-then-flag c = simp c.if-flag.true c.push_bytes.ensures

pub returns-else-flag : goal.returns-else-flag
unfolding flag_text
returns-else-flag c = simp c.if-flag.false c.push_bytes-else-flag.ensures
