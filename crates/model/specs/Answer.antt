-- What a call answers: "its Rust result, or a number below".
use Rattle.std.specs.Prelude.{ℕ, List, Bool}
use Rattle.images.specs.declared.Timer.{Timer}
use Rattle.images.specs.declared.Dpc.{Dpc}
use Rattle.images.specs.declared.DpcWork.{DpcWork}
use Rattle.model.specs.State as state
use Rattle.model.specs.State.{State, Named, Event, Policy, Counters}

pub data Answer : Type 0 where
  Refused : ℕ → Answer  -- by this number of the table
  Done : Answer
  None : Answer  -- there is none, or nothing stands at the position
  ThreadNumber : ℕ → Answer
  Flag : Bool → Answer
  Number : ℕ → Answer
  -- a wait
  Satisfied : ℕ → Answer
  Timeout Blocked : Answer
  -- a dispatch
  Run AdvanceTo : ℕ → Answer
  Deadlocked : List ℕ → Answer
  Finished : Answer
  -- records
  ThreadIs : ℕ → state.Thread → Answer
  ObjectIs : Named → Answer
  EventIs : Event → Answer
  TimerIs : Timer → Answer
  DpcIs : Dpc → Answer
  WorkIs : DpcWork → Answer
  PolicyIs : Policy → Answer
  CountersAre : Counters → Answer
  ImageIs : ℕ → List ℕ → Answer  -- an image's size, and what an output of noughts holds after the call

-- what a call answers, and the state after it
pub record Outcome : Type 0 where
  pub answer : Answer
  pub state : State

-- an answer, and the state after it
abbrev pub gives : Answer → State → Outcome
gives a s = record { answer = a; state = s }
