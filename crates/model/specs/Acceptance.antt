-- Where the work of a DPC comes from, by what calls answer. `ask` is what a call would be answered; it is asked reads before a call, and the
-- call itself.
use Rattle.std.specs.Prelude.{ℕ, ◌≤◌, ◌<◌, List, [], ◌∷◌, ◌++◌, Bool, true, false, ◌⊎◌, ◌≡◌}
use Rattle.images.specs.declared.Timer.{Timer}
use Rattle.images.specs.declared.Dpc.{Dpc}
use Rattle.images.specs.declared.DpcWork.{DpcWork}
use Rattle.images.specs.declared.DpcOrigin.TheVariants as origin
use Rattle.images.specs.declared.DpcPhase.{DpcPhase}
use Rattle.images.specs.declared.DpcPhase.TheVariants.{Queued, Running, Returning}
use Rattle.model.specs.State.{Counters, cpu0_dispatch}
use Rattle.model.specs.Answer.{Answer, Done, Flag, TimerIs, DpcIs, PolicyIs, CountersAre}
use Rattle.model.specs.Call.{Call, Open, InsertQueueDpc, AdvanceTo}
use Rattle.model.specs.Call as call

-- the DPC's work: queued, running or returning
abbrev pub HasWork : DpcPhase → DpcWork → Type 0
HasWork p k = (p ≡ Queued k) ⊎ ((p ≡ Running k) ⊎ (p ≡ Returning k))

-- an insert of the DPC that answered yes: the work has its arguments
pub record FromInsert (ask : Call → Answer) (c : Call) (a : ℕ) (k : DpcWork) : Type 0 where
  pub inserts : c ≡ InsertQueueDpc a k.first k.second
  pub accepted : ask c ≡ Flag true
  pub origin : k.origin ≡ origin.Caller

-- the timer reads as inserted, due by the time, with this DPC
pub record Reached (ask : Call → Answer) (time a : ℕ) (t : Timer) : Type 0 where
  pub read : ask (call.Reads (call.TimerAt t.address)) ≡ TimerIs t
  pub inserted : t.inserted ≡ true
  pub due : t.due ≤ time
  pub dpc : t.dpc ≡ a

-- the work is the timer's: its address, arm, initialization and due before the advance, the time of the advance, and whether it has a period
pub record OfTimer (time : ℕ) (t : Timer) (k : DpcWork) : Type 0 where
  pub periodic : Bool
  pub origin : k.origin ≡ origin.Timer t.address t.arm_generation t.initialization t.due time periodic
  pub with_period : periodic ≡ true → t.period_ms ≡ 0 → ⊥
  pub without_period : periodic ≡ false → t.period_ms ≡ 0

-- the work is the timer's own: of its address, arm and initialization
pub record OwnWork (t : Timer) (k : DpcWork) : Type 0 where
  pub deadline : ℕ
  pub observed : ℕ
  pub periodic : Bool
  pub origin : k.origin ≡ origin.Timer t.address t.arm_generation t.initialization deadline observed periodic

-- an advance that reached a timer with the DPC: the work has the policy's arguments, and is that timer's
pub record FromExpiry (ask : Call → Answer) (c : Call) (a : ℕ) (k : DpcWork) : Type 0 where
  pub time : ℕ
  pub advances : c ≡ AdvanceTo time
  pub accepted : ask c ≡ Done
  pub policy : ask (call.Reads call.DpcPolicy) ≡ PolicyIs (cpu0_dispatch k.first k.second)
  pub timer : Timer
  pub reached : Reached ask time a timer
  pub of_timer : OfTimer time timer k

-- the work's number is of this call's acceptances: above those before the call, and not above those after it
pub record Numbered (before after : Call → Answer) (k : DpcWork) : Type 0 where
  pub old : Counters
  pub read_old : before (call.Reads call.DpcCounters) ≡ CountersAre old
  pub above : old.accepted < k.sequence
  pub new : Counters
  pub read_new : after (call.Reads call.DpcCounters) ≡ CountersAre new
  pub within : k.sequence ≤ new.accepted

-- the call accepted the work
pub record Accepts (before after : Call → Answer) (c : Call) (a : ℕ) (k : DpcWork) : Type 0 where
  pub from : FromInsert before c a k ⊎ FromExpiry before c a k
  pub numbered : Numbered before after k

-- the DPC reads as queued with the work, whose number is the last of the acceptances
pub record QueuedLast (after : Call → Answer) (a : ℕ) (k : DpcWork) : Type 0 where
  pub dpc : Dpc
  pub read : after (call.Reads (call.DpcAt a)) ≡ DpcIs dpc
  pub queued : dpc.phase ≡ Queued k
  pub counters : Counters
  pub counted : after (call.Reads call.DpcCounters) ≡ CountersAre counters
  pub last : k.sequence ≡ counters.accepted

-- ---- a list of calls. `asks` is what a call would be answered after a list of calls

-- none of the calls, made after the calls `done`, is an `open` that was accepted
abbrev pub NoRestart : (List Call → Call → Answer) → List Call → List Call → Type 0
NoRestart asks done [] = Unit
NoRestart asks done (c ∷ cs) = ((m p t o d : ℕ) → c ≡ Open m p t o d → asks done c ≡ Done → ⊥) × NoRestart asks (done ++ (c ∷ [])) cs

-- one of the calls accepted the work, and none after it started anew: by its number the work is of no other acceptance
pub record Given (asks : List Call → Call → Answer) (calls : List Call) (a : ℕ) (k : DpcWork) : Type 0 where
  pub earlier : List Call
  pub acceptance : Call
  pub later : List Call
  pub is : calls ≡ earlier ++ (acceptance ∷ later)
  pub accepts : Accepts (asks earlier) (asks (earlier ++ (acceptance ∷ []))) acceptance a k
  pub since : NoRestart asks (earlier ++ (acceptance ∷ [])) later
