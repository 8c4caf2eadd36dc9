-- Whether a line was read, by its command.
use Rattle.std.specs.Prelude.{Bool, true, false, Option, Some, None}
use Rattle.script_lex.specs.declared.command.Command.{Command}

unfoldable pub reads : Option Command → Bool
reads None = false
reads (Some c) = true
