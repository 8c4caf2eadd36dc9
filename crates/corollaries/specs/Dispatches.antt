-- A ready thread that a dispatch makes run, by what the code's reads answer before the call and after it.
use Rattle.std.specs.Prelude.{ℕ, ◌≤◌, List, ◌≡◌}
use Rattle.calls.specs.Run.{answered}
use Rattle.model.specs.State.{Thread, running, ready}
use Rattle.model.specs.Answer.{ThreadNumber}
use Rattle.model.specs.Call as call
use Rattle.corollaries.specs.Reads.{ThreadRead}
use Rattle.corollaries.specs.Leaving.{ThreadLeft, ObjectsRead, DpcsRead, Every}

pub record MadeCurrent (before after : List ℕ) (i : ℕ) : Type 0 where
  -- it was ready, and no ready thread had a higher priority
  pub thread : Thread
  pub read : ThreadRead before i thread
  pub was : thread.status ≡ ready
  pub highest : (j : ℕ) (y : Thread) → ThreadRead before j y → y.status ≡ ready → y.priority ≤ thread.priority
  -- now it is the current thread and runs; the rest of it, and all else, reads as before
  pub current : answered after (call.Reads call.Current) ≡ ThreadNumber i
  pub runs : ThreadLeft before after i (record { priority = thread.priority; status = running; result = thread.result })
  pub objects : ObjectsRead before after Every
  pub dpcs : DpcsRead before after Every
