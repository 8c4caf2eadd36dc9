-- Texts as bytes.
use Rattle.std.specs.Prelude.{List, [] as []ᴸ, ◌∷◌ as ◌∷ᴸ◌, ℕ}
use Prim.Native.Char.{code}
use Prim.Native.String.{String, [], ◌∷◌}

-- of an ASCII text: there the code of a character is its byte
abbrev pub bytes_of : String → List ℕ
bytes_of [] = []ᴸ
bytes_of (c ∷ s) = code c ∷ᴸ bytes_of s
