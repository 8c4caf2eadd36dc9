-- The bytes of a pointer, by architecture.
use Rattle.std.specs.Prelude.{ℕ}
use Rattle.arch.specs.declared.Architecture.{Architecture}
use Rattle.arch.specs.declared.Architecture.TheVariants.{X64, X86}

abbrev pub width_of : Architecture → ℕ
width_of X64 = 8
width_of X86 = 4
