-- What each call of the log's type does to a scheduler's words where their form is not checked.
use Rattle.std.specs.Prelude.{ℕ, List, cond, ltb, length}
use Rattle.answers.specs.declared.Answer.TheVariants.{Refused}
use Rattle.dispatcher.specs.Dispatched.{dispatched}
use Rattle.model.specs.Call.{Call}
use Rattle.calls.specs.Images.{Imaged, imaged}
use Rattle.calls.specs.Called.{Reading, tells, images, Meaning, opens, acts, starts, dispatches, reads, meaning, ReadResult, Result}

-- an output under 64 bytes, which not every image fits in, is refused with 27 all the same, and left as it is
unfoldable pub fitting : List ℕ → Imaged → Imaged
fitting out i = cond (ltb (length out) 64) (imaged (Refused 27) out) i

abbrev pub reads_bare : List ℕ → (r : Reading) → ReadResult r
reads_bare w (tells k f) = f w
reads_bare w (images n f) = λ out. fitting out (f w out)

abbrev pub runs_bare : List ℕ → (m : Meaning) → Result m
runs_bare w (opens n f) = f w
runs_bare w (acts f) = f w
runs_bare w (starts f) = f w
runs_bare w (dispatches n) = λ out. dispatched w out
runs_bare w (reads r) = reads_bare w r

unfoldable pub unchecked : List ℕ → (c : Call) → Result (meaning c)
unchecked w c = runs_bare w (meaning c)
