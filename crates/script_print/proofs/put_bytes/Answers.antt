use mathlib.Core.Path.{sym}
use Rattle.script_print.proofs.PrintLaws.{full-stop}
use Rattle.script_print.proofs.RoomLaws.{printed-fitting}
use borrow.Author.Rules.{rules}
use Rattle.script_print.proofs.put_bytes.Goals as goal

pub returns-then-text-at : goal.returns-then-text-at
returns-then-text-at c = sym (full-stop c.args.text.now c.args.at c.args.bytes.now c.if-text-at.true)

pub returns : goal.returns
returns c = printed-fitting c.args.text.now c.args.at c.min-fitting.result c.args.bytes.now c.copy_from_slice.new.self c.if-text-at.false c.min-fitting.ensures (search rules)
