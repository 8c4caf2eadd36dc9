-- What a dispatch answers when no thread can run, in words: by what is read of threads and timers.
use Rattle.std.specs.Prelude.{ℕ, ◌≤◌, List, true, false, ◌≡◌, ◌⊎◌}
use Rattle.std.proofs.Math.Option.{some}
use Rattle.images.specs.declared.Timer.{Timer}
use Rattle.model.specs.Lists.{Mem}
use Rattle.model.specs.State.{Thread, Wait, waiting}
use Rattle.model.specs.Answer.{Answer, AdvanceTo, Deadlocked, Finished}
use Rattle.model.specs.Valid.{RisingBy}
use Rattle.model.specs.Wakes.{timer_named}

-- of a thread by its number, and of a timer by its address, what reads as theirs
module _ (ReadThread : ℕ → Thread → Type 0) (ReadTimer : ℕ → Timer → Type 0) where
  -- the thread waits, for objects or for a delay's end
  pub record Waits (i : ℕ) (y : Wait) : Type 0 where
    pub thread : Thread
    pub read : ReadThread i thread
    pub status : thread.status ≡ waiting y

  abbrev pub SomeWaits : Type 0
  SomeWaits = (i : ℕ) × (y : Wait) × Waits i y

  -- some waiting thread's list names the timer
  pub record WaitedFor (address : ℕ) : Type 0 where
    pub number : ℕ
    pub for : Wait
    pub waits : Waits number for
    pub named : Mem (timer_named address) for.objects

  -- a timer counts: some thread waits, be it for a delay's end, the timer is inserted, and it has a DPC, or is not signaled and waited for
  pub record Counts (address : ℕ) (t : Timer) : Type 0 where
    pub read : ReadTimer address t
    pub someone : SomeWaits
    pub inserted : t.inserted ≡ true
    pub serves : (t.dpc ≡ 0 → ⊥) ⊎ ((t.signaled ≡ false) × WaitedFor address)

  -- a time that something is to happen at: a waiting thread's deadline, or the due of a timer that counts
  pub data Upcoming (time : ℕ) : Type 0 where
    deadline : (i : ℕ) (y : Wait) → Waits i y → y.deadline ≡ some time → Upcoming time
    due : (address : ℕ) (t : Timer) → Counts address t → t.due ≡ time → Upcoming time

  -- the answer: the least of these times; or, where there is none, deadlocked with the numbers of the threads that wait, rising, if some
  -- thread waits, and finished if none does
  pub data Idles (a : Answer) : Type 0 where
    advances : (time : ℕ) → a ≡ AdvanceTo time → Upcoming time → ((u : ℕ) → Upcoming u → time ≤ u) → Idles a
    deadlocks : (l : List ℕ) → a ≡ Deadlocked l → SomeWaits → ((u : ℕ) → Upcoming u → ⊥) → RisingBy (λ i. i) l
        → ((i : ℕ) → Mem i l → (y : Wait) × Waits i y) → ((i : ℕ) (y : Wait) → Waits i y → Mem i l) → Idles a
    finishes : a ≡ Finished → (SomeWaits → ⊥) → Idles a
