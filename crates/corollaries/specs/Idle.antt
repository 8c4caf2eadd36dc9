-- What a dispatch answers when no thread can run, by what the code's reads answer.
use Rattle.std.specs.Prelude.{ℕ, List, ◌≡◌}
use Rattle.model.specs.State.{Thread, Wait, ready}
use Rattle.model.specs.Answer.{Answer}
use Rattle.model.specs.Idle as idle
use Rattle.corollaries.specs.Reads.{ThreadRead, TimerRead}

-- no thread reads as ready
abbrev pub NoneReady : List ℕ → Type 0
NoneReady w = (i : ℕ) (x : Thread) → ThreadRead w i x → x.status ≡ ready → ⊥

-- the thread reads as waiting so, and some thread reads as waiting
abbrev pub Waits : List ℕ → ℕ → Wait → Type 0
Waits w i y = idle.Waits (ThreadRead w) (TimerRead w) i y

abbrev pub SomeWaits : List ℕ → Type 0
SomeWaits w = idle.SomeWaits (ThreadRead w) (TimerRead w)

-- something is to happen at the time: a waiting thread's deadline, or the due of a timer that counts
abbrev pub Upcoming : List ℕ → ℕ → Type 0
Upcoming w time = idle.Upcoming (ThreadRead w) (TimerRead w) time

-- the least of these times, or deadlocked, or finished
abbrev pub Idles : List ℕ → Answer → Type 0
Idles w a = idle.Idles (ThreadRead w) (TimerRead w) a
