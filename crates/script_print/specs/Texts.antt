-- A lent text that is written to.
use Rattle.std.specs.Prelude.{◌≡◌, List, ℕ}
use Rattle.script_print.specs.declared.Text.{Text}
use Rattle.script_print.specs.Print.{written, printed}

-- the bytes are put where the writing stood, and it stands behind them, in the same lent bytes
abbrev pub Prints : Text → Text → List ℕ → Type 0
Prints old new bytes = (new.bytes.ghost_name ≡ old.bytes.ghost_name) × (written new.bytes.now new.at ≡ printed old.bytes.now old.at bytes)
