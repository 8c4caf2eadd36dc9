-- What is left of a line.
use Rattle.std.specs.Prelude.{List, ℕ}
use Rattle.script_lex.specs.declared.lex.Words.{Words}
use Rattle.script_lex.specs.Words.{words_at}

abbrev pub left : Words → List (List ℕ)
left ws = words_at ws.line.now ws.at
