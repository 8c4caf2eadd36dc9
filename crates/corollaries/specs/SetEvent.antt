-- What a thread that waited for an event finds after `set_event`, by what the code's reads answer before the call and after it.
use Rattle.std.specs.Prelude.{ℕ, ◌<◌, List, cond, ◌≡◌}
use Rattle.std.proofs.Math.Option.{some}
use Rattle.model.specs.Lists.{nth}
use Rattle.model.specs.State.{Thread, Wait, ready, waiting, satisfied}
use Rattle.model.specs.Wakes.{event_named}
use Rattle.corollaries.specs.Reads.{ThreadRead}

-- the thread is ready, and its wait was satisfied with this index
pub record ReadyWith (after : List ℕ) (i k : ℕ) : Type 0 where
  pub thread : Thread
  pub read : ThreadRead after i thread
  pub status : thread.status ≡ ready
  pub result : thread.result ≡ some (satisfied k)

-- a thread that had waited longer for the event, by the wait sequence, is the one that is ready: "any" answers the event's place in its
-- list, "all" answers 0
pub record EarlierGot (before after : List ℕ) (key sequence : ℕ) : Type 0 where
  pub number : ℕ
  pub thread : Thread
  pub read : ThreadRead before number thread
  pub for : Wait
  pub waited : thread.status ≡ waiting for
  pub earlier : for.sequence < sequence
  pub place : ℕ
  pub named : nth for.objects place ≡ some (event_named key)
  pub got : ReadyWith after number (cond for.all 0 place)
