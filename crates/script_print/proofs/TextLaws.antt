-- A lent text, one writing after another.
use mathlib.Core.Path.{◌∙◌}
use mathlib.Core.List.{List, ◌++◌}
use Prim.Native.Nat.{ℕ}
use Rattle.script_print.specs.declared.Text.{Text}
use Rattle.script_print.specs.Texts.{Prints}
use Rattle.script_print.proofs.PrintLaws.{join}

pub prints-more : (s t u : Text) (a b : List ℕ) → Prints s t a → Prints t u b → Prints s u (a ++ b)
prints-more s t u a b x y = (y.0 ∙ x.0, join s.bytes.now s.at a b x.1 y.1)
