-- What the code's reads answer on the words, as propositions.
use Rattle.std.specs.Prelude.{ℕ, List, ◌≡◌}
use Rattle.images.specs.declared.Timer.{Timer}
use Rattle.images.specs.declared.Dpc.{Dpc}
use Rattle.calls.specs.Run.{answered}
use Rattle.model.specs.State as state
use Rattle.model.specs.State.{Event}
use Rattle.model.specs.Answer.{ThreadIs, EventIs, TimerIs, DpcIs, Number}
use Rattle.model.specs.Call as call

-- `thread` of the number answers this thread
abbrev pub ThreadRead : List ℕ → ℕ → state.Thread → Type 0
ThreadRead w i x = answered w (call.Reads (call.Thread i)) ≡ ThreadIs i x

-- `event_state` of the key answers this event
abbrev pub EventRead : List ℕ → ℕ → Event → Type 0
EventRead w key e = answered w (call.Reads (call.EventState key)) ≡ EventIs e

-- `timer` of the address answers this timer
abbrev pub TimerRead : List ℕ → ℕ → Timer → Type 0
TimerRead w address x = answered w (call.Reads (call.TimerAt address)) ≡ TimerIs x

-- `dpc` of the address answers this DPC
abbrev pub DpcRead : List ℕ → ℕ → Dpc → Type 0
DpcRead w address x = answered w (call.Reads (call.DpcAt address)) ≡ DpcIs x

-- `queued_dpcs` of the position answers this address
abbrev pub QueueRead : List ℕ → ℕ → ℕ → Type 0
QueueRead w k address = answered w (call.Reads (call.QueuedDpcs k)) ≡ Number address
