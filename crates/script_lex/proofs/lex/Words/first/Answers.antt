use mathlib.Core.Path.{sym}
use Rattle.script_lex.proofs.WordLaws.{first-is, out-is}
use Rattle.script_lex.specs.Words.{part}
use Rattle.script_lex.proofs.lex.Words.first.Goals as goal

pub returns-then-self-to : goal.returns-then-self-to
returns-then-self-to c = sym (out-is c.args.self.line.now c.args.self.at c.word_start-from.result c.word_end-to.result c.word_start-from.ensures c.word_end-to.ensures c.if-self-to.true)

pub returns : goal.returns
unfolding part
returns c = sym (first-is c.args.self.line.now c.args.self.at c.word_start-from.result c.word_end-to.result c.word_start-from.ensures c.word_end-to.ensures)
