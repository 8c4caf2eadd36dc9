-- What each read answers on the words.
use Rattle.std.specs.Prelude.{ℕ, List}
use Rattle.calls.specs.Run.{answered}
use Rattle.model.specs.Call as call
use Rattle.model.specs.Wakes.{Readings}

abbrev pub readings_on : List ℕ → Readings
readings_on w r = answered w (call.Reads r)
