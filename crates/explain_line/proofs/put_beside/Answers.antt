use mathlib.Core.Path.{refl}
use Rattle.script_lex.specs.Text.{bytes_of}
use Rattle.script_print.specs.Print.{printed}
use Rattle.script_print.proofs.TextLaws.{prints-more}
use Rattle.explain_line.specs.Explain.{beside}
use Rattle.explain_line.proofs.BesideLaws.{no-beside}
use Rattle.explain_line.proofs.put_beside.Goals as goal

pub returns-in-Refused : goal.returns-in-Refused
unfolding beside
returns-in-Refused c = simp c.in-Refused.is (prints-more c.args.text.now c.push_bytes.new.self c.put_why.new.text (bytes_of ": ") _ c.push_bytes.ensures c.put_why.ensures)

pub returns-in_default : goal.returns-in_default
unfolding printed
returns-in_default c = simp (no-beside c.args.line.now c.args.opened c.args.a c.in_default.not-Refused) (refl, refl)
