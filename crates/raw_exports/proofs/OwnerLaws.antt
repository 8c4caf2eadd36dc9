-- An owner that may be absent, as C lends it: whether it is there, and its number, which does not count where it is not.
use mathlib.Core.Path.{◌≡◌, refl}
use mathlib.Core.Bool.{Bool, true, false}
use mathlib.Core.List.{List}
use Prim.Native.Nat.{ℕ}
use Rattle.std.specs.Prelude.{is_some, unwrap_or}
use Rattle.std.specs.Bool.{then_some}
use Rattle.mutexes.specs.Mutexes.{adopt_refusal, adopted}

pub lent-owner : (w : List ℕ) (key : ℕ) (owned : Bool) (owner : ℕ)
    → adopted w key (is_some (then_some owned owner)) (unwrap_or (then_some owned owner) 0) ≡ adopted w key owned owner
unfolding adopted adopt_refusal
lent-owner w key true owner = refl
lent-owner w key false owner = refl
