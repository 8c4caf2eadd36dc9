use Rattle.script_lex.proofs.WordLaws.{is_none}
use Rattle.script_lex.proofs.lex.Words.is_end.Goals as goal

pub returns : goal.returns
returns c = is_none c.args.self.line.now c.args.self.at c.word_start.result c.word_start.ensures
