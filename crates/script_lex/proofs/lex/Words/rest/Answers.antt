use Rattle.script_lex.proofs.WordLaws.{behind-is}
use Rattle.script_lex.proofs.lex.Words.rest.Goals as goal

pub returns-clause-words : goal.returns-clause-words
returns-clause-words c = behind-is c.args.self.line.now c.args.self.at c.word_start.result c.word_end.result c.word_start.ensures c.word_end.ensures
