use mathlib.Core.Path.{◌∙◌}
use Rattle.script_lex.proofs.WordLaws.{equal-same}
use Rattle.script_lex.proofs.lex.Words.is.Goals as goal

pub returns : goal.returns
returns c = simp (← c.first.ensures) (c.eq.ensures ∙ equal-same _ _)
