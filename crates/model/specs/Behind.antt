-- Two DPCs that an advance queued, by what the reads answer before it and after it.
use Rattle.std.specs.Prelude.{ℕ, ◌<◌, ◌⊎◌, ◌≡◌}
use Rattle.images.specs.declared.Timer.{Timer}
use Rattle.images.specs.declared.Dpc.{Dpc}
use Rattle.images.specs.declared.DpcWork.{DpcWork}
use Rattle.images.specs.declared.DpcPhase.TheVariants.{Queued}
use Rattle.model.specs.Answer.{Answer, Number, DpcIs}
use Rattle.model.specs.Call.{Call}
use Rattle.model.specs.Call as call
use Rattle.model.specs.Acceptance.{Reached, OfTimer}

-- `queued_dpcs` of the position answers this address
abbrev pub StandsAt : (Call → Answer) → ℕ → ℕ → Type 0
StandsAt ask n a = ask (call.Reads (call.QueuedDpcs n)) ≡ Number a

-- a timer that the advance reached queued the DPC: its work is that timer's
pub record QueuedBy (before after : Call → Answer) (time a : ℕ) (t : Timer) : Type 0 where
  pub reached : Reached before time a t
  pub dpc : Dpc
  pub work : DpcWork
  pub read : after (call.Reads (call.DpcAt a)) ≡ DpcIs dpc
  pub queued : dpc.phase ≡ Queued work
  pub of_timer : OfTimer time t work

-- two timers queued them, and the first timer's due is earlier, or is the same and its address is lower
pub record InDueOrder (before after : Call → Answer) (time a b : ℕ) : Type 0 where
  pub first : Timer
  pub second : Timer
  pub by_first : QueuedBy before after time a first
  pub by_second : QueuedBy before after time b second
  pub order : (first.due < second.due) ⊎ ((first.due ≡ second.due) × (first.address < second.address))
