-- Which answers are refusals, and which calls may answer 27 after an accepted start.
use Rattle.std.specs.Prelude.{ℕ, ◌<◌, Bool, true, false, ◌⊎◌, ◌≡◌}
use Rattle.model.specs.Answer.{Answer, Refused, Done, None, ThreadNumber, Flag, Number, Satisfied, Timeout, Blocked, Run, AdvanceTo, Deadlocked, Finished, ThreadIs, ObjectIs, EventIs, TimerIs, DpcIs, WorkIs, PolicyIs, CountersAre, ImageIs}
use Rattle.model.specs.Call.{Call, Open, Dispatch, Reads, TimerImage, DpcImage}
use Rattle.model.specs.Refusal.{bad_limits, words_needed}

abbrev pub is_refused : Answer → Bool
is_refused (Refused n) = true
is_refused Done = false
is_refused None = false
is_refused (ThreadNumber n) = false
is_refused (Flag b) = false
is_refused (Number n) = false
is_refused (Satisfied i) = false
is_refused Timeout = false
is_refused Blocked = false
is_refused (Run i) = false
is_refused (AdvanceTo time) = false
is_refused (Deadlocked l) = false
is_refused Finished = false
is_refused (ThreadIs i x) = false
is_refused (ObjectIs x) = false
is_refused (EventIs x) = false
is_refused (TimerIs x) = false
is_refused (DpcIs x) = false
is_refused (WorkIs x) = false
is_refused (PolicyIs x) = false
is_refused (CountersAre x) = false
is_refused (ImageIs size bytes) = false

-- an `open` with bad limits or short memory
abbrev pub ShortOpen : Call → Type 0
ShortOpen c = (m p t o d : ℕ) × (c ≡ Open m p t o d) × ((bad_limits t o d ≡ true) ⊎ (m < words_needed t o d))

-- a dispatch with an output under the limit of threads
abbrev pub ShortDispatch : ℕ → Call → Type 0
ShortDispatch limit c = (n : ℕ) × (c ≡ Dispatch n) × (n < limit)

-- an image with an output under 64 bytes
abbrev pub ShortImage : Call → Type 0
ShortImage c = ((address n : ℕ) × (c ≡ Reads (TimerImage address n)) × (n < 64)) ⊎ ((address n : ℕ) × (c ≡ Reads (DpcImage address n)) × (n < 64))

abbrev pub Short : ℕ → Call → Type 0
Short limit c = ShortOpen c ⊎ (ShortDispatch limit c ⊎ ShortImage c)
