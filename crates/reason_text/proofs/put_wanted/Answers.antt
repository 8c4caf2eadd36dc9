use mathlib.Core.List.{◌++◌}
use Rattle.script_lex.specs.Left.{left}
use Rattle.script_print.proofs.TextLaws.{prints-more}
use Rattle.reason_text.specs.Words.{quoted}
use Rattle.reason_text.proofs.put_wanted.Goals as goal

pub returns : goal.returns
returns c = let q = quoted c.args.place (left c.args.words) in
    prints-more c.args.text.now c.push_bytes.new.self c.put_kind.new.text (q ++ c.args.name.now) _ (prints-more c.args.text.now c.put_quoted.new.text c.push_bytes.new.self q c.args.name.now c.put_quoted.ensures c.push_bytes.ensures) c.put_kind.ensures
