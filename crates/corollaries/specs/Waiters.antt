-- A thing of a wait's list that is not available, by what the code's reads answer.
use Rattle.std.specs.Prelude.{ℕ, List, false, ◌≡◌}
use Rattle.images.specs.declared.Timer.{Timer}
use Rattle.calls.specs.Run.{answered}
use Rattle.model.specs.State.{Thread, Named, Event}
use Rattle.model.specs.Threads.{has_exited}
use Rattle.model.specs.Answer.{ThreadNumber}
use Rattle.model.specs.Call as call
use Rattle.corollaries.specs.Reads.{ThreadRead, EventRead, TimerRead}

-- a mutex that a thread owns, an event or a timer that is not signaled, a thread that has not exited
pub data Unavailable (w : List ℕ) (n : Named) : Type 0 where
  owned : (i : ℕ) → n.kind ≡ 0 → answered w (call.Reads (call.MutexOwner n.key)) ≡ ThreadNumber i → Unavailable w n
  event : (e : Event) → n.kind ≡ 1 → EventRead w n.key e → e.signaled ≡ false → Unavailable w n
  timer : (t : Timer) → n.kind ≡ 2 → TimerRead w n.key t → t.signaled ≡ false → Unavailable w n
  thread : (x : Thread) → n.kind ≡ 3 → ThreadRead w n.key x → has_exited x.status ≡ false → Unavailable w n
