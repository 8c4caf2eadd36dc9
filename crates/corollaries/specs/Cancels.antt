-- What a cancel of a timer answers, beside what the timer reads as.
use Rattle.std.specs.Prelude.{ℕ, List, Bool, ◌≡◌}
use Rattle.images.specs.declared.Timer.{Timer}
use Rattle.calls.specs.Run.{answered}
use Rattle.model.specs.Answer.{Flag}
use Rattle.model.specs.Call.{CancelTimer}
use Rattle.corollaries.specs.Reads.{TimerRead}

-- the timer reads as inserted, and a cancel then answers yes; or as not inserted, and it answers no
pub record CancelSays (w : List ℕ) (address : ℕ) (inserted : Bool) : Type 0 where
  pub timer : Timer
  pub read : TimerRead w address timer
  pub is : timer.inserted ≡ inserted
  pub cancel : answered w (CancelTimer address) ≡ Flag inserted
