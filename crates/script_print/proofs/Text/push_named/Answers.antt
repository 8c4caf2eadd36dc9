use Rattle.script_print.proofs.TextLaws.{prints-more}
use Rattle.script_print.proofs.Text.push_named.Goals as goal

pub returns : goal.returns
returns c = prints-more c.args.self.now c.push_bytes.new.self c.push_number.new.self _ _ c.push_bytes.ensures c.push_number.ensures
