use mathlib.Core.Path.{◌≡◌}
use lib.ListN.{drop}
use Rattle.script_print.specs.Print.{printed, spaced}
use Rattle.script_print.proofs.Text.push_list.Given as goal

abbrev pub invariant-loop-n : goal.invariant-loop-n
invariant-loop-n l = (l.self.bytes.ghost_name ≡ l.initial.self.bytes.ghost_name)
    × (printed l.self.bytes.now l.self.at (spaced (drop l.n-index l.told)) ≡ printed l.initial.self.bytes.now l.initial.self.at (spaced l.told))
