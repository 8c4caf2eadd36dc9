-- An empty line has no return.
use mathlib.Core.Path.{◌≡◌, refl}
use mathlib.Core.List.{List, [], ◌∷◌}
use Prim.Native.Nat.{ℕ}
use native.Mathlib.Omega.{arith}
use lib.ListN.{length}
use Rattle.script.specs.Line.{text_length}

pub text-none : (s : List ℕ) → length s ≡ 0 → 0 ≡ text_length s
unfolding text_length
text-none [] e = refl
text-none (b ∷ s) e = absurd (omega arith)
