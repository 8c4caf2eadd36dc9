use mathlib.Core.Path.{◌≡◌}
use lib.ListN.{drop}
use Rattle.script_print.specs.Print.{printed}
use Rattle.reason_text.specs.Words.{shown}
use Rattle.reason_text.proofs.put_shown.Given as goal

abbrev pub invariant-loop-b : goal.invariant-loop-b
invariant-loop-b l = (l.text.bytes.ghost_name ≡ l.initial.text.bytes.ghost_name)
    × (printed l.text.bytes.now l.text.at (shown (drop l.b-index l.bytes)) ≡ printed l.initial.text.bytes.now l.initial.text.at (shown l.bytes))
