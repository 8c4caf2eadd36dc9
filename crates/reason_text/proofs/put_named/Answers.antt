use Rattle.script_print.proofs.TextLaws.{prints-more}
use Rattle.reason_text.proofs.put_named.Goals as goal

pub returns : goal.returns
returns c = prints-more c.args.text.now c.push_bytes.new.self c.put_quoted.new.text _ _ c.push_bytes.ensures c.put_quoted.ensures
