use Rattle.script_print.specs.Print.{answer_text}
use Rattle.script_print.proofs.TextLaws.{prints-more}
use Rattle.script_print.proofs.Text.push_deadlocked.Goals as goal

pub returns : goal.returns
unfolding answer_text
returns c = prints-more c.args.self.now c.push_bytes.new.self c.push_list.new.self _ _ c.push_bytes.ensures c.push_list.ensures
