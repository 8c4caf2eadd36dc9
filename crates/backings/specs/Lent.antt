-- The backing of a timer or a DPC, from the numbers that a caller of the library gives.
use Rattle.std.specs.Prelude.{cond, ℕ, ltb}
use Rattle.images.specs.declared.TimerBacking.{TimerBacking}
use Rattle.images.specs.declared.TimerBacking.TheVariants.{Image}
use Rattle.images.specs.Place.{backing_of}

-- memory of no bytes
abbrev pub nowhere : TimerBacking
nowhere = Image 0 0

-- an architecture or a kind that is neither 0 nor 1 leaves no place to stand
unfoldable pub lent_backing : ℕ → ℕ → ℕ → ℕ → ℕ → TimerBacking
lent_backing architecture kind base size mapped =
    cond (ltb 1 architecture) nowhere (cond (ltb 1 kind) nowhere (backing_of kind base size mapped))
