use mathlib.Core.Path.{◌≡◌}
use lib.ListN.{length}
use Rattle.script_lex.specs.Words.{words_at, first}
use Rattle.script_lex.specs.Left.{left}
use Rattle.reasons.specs.Reasons.{form_of}
use Rattle.reasons.proofs.table.form_of.Given as goal

abbrev pub invariant-loop-rows : goal.invariant-loop-rows
invariant-loop-rows l = form_of (left l.rows) (first (left l.words)) ≡ form_of (words_at l.table 0) (first (left l.words))

abbrev pub decreases-loop-rows : goal.decreases-loop-rows
decreases-loop-rows l = length (left l.rows)
