-- Which call a command of a script makes, and what it does to the scheduler's words.
use Rattle.std.specs.Prelude.{Bool, cond, List, ℕ, ltb, length, take, Option, Some, None}
use Rattle.std.specs.Prelude as std
use Rattle.std.proofs.Math.Option.{Option as Argument, some, none}
use Rattle.answers.specs.declared.Answer.{Answer}
use Rattle.answers.specs.declared.Answer.TheVariants as answer
use Rattle.answers.specs.Outcome.{Outcome, outcome}
use Rattle.clock.specs.declared.GuestClock.{GuestClock}
use Rattle.clock.specs.declared.ClockError.{ClockError}
use Rattle.clock.specs.declared.Outcome as clock
use Rattle.clock.specs.Clock.{created, instruction, advance_microseconds, advance100ns, advance_milliseconds, flush_cycles, observe, qpc, tick64, tsc}
use Rattle.dpc_work.specs.WorkAnswer.{WorkAnswer}
use Rattle.dpc_work.specs.WorkAnswer as work
use Rattle.dpc_work.specs.Work.{Started}
use Rattle.script_lex.specs.declared.command.Command.{Command}
use Rattle.script_lex.specs.declared.command.Command.TheVariants as command
use Rattle.script_print.specs.Print.{bare_answer}
use Rattle.model.specs.Call.{Call}
use Rattle.model.specs.Call as call
use Rattle.calls.specs.Guard as kind
use Rattle.calls.specs.Called.{Reading, tells, images, Meaning, opens, acts, starts, dispatches, reads, meaning, ReadResult, Result, called}

-- ---- which call a command makes

-- a call whose answer has a line, as it is
abbrev pub ReadShown : Reading → Type 0
ReadShown (tells kind.plain f) = Unit
ReadShown (tells kind.threads f) = ⊥
ReadShown (tells kind.places f) = ⊥
ReadShown (tells kind.timers f) = ⊥
ReadShown (tells kind.dpcs f) = ⊥
ReadShown (tells kind.policies f) = ⊥
ReadShown (tells kind.counts f) = ⊥
ReadShown (images n f) = ⊥

abbrev pub Shown : Meaning → Type 0
Shown (opens n f) = ⊥
Shown (acts f) = Unit
Shown (starts f) = ⊥
Shown (dispatches n) = ⊥
Shown (reads r) = ReadShown r

abbrev pub read_shown : List ℕ → (r : Reading) → ReadShown r → ReadResult r → Outcome
read_shown w (tells kind.plain f) p a = outcome a w
read_shown w (tells kind.threads f) p a = absurd p
read_shown w (tells kind.places f) p a = absurd p
read_shown w (tells kind.timers f) p a = absurd p
read_shown w (tells kind.dpcs f) p a = absurd p
read_shown w (tells kind.policies f) p a = absurd p
read_shown w (tells kind.counts f) p a = absurd p
read_shown w (images n f) p a = absurd p

abbrev pub shown : List ℕ → (m : Meaning) → Shown m → Result m → Outcome
shown w (opens n f) p o = absurd p
shown w (acts f) p o = o
shown w (starts f) p o = absurd p
shown w (dispatches n) p o = absurd p
shown w (reads r) p a = read_shown w r p a

pub data Asked : Type 0 where
  nothing : Asked  -- the line cannot be read
  begins : ℕ → Asked  -- an `open` with this priority
  calls : (c : Call) → Shown (meaning c) → Asked
  bares : (c : Call) → Shown (meaning c) → Asked  -- a call whose answer is shown as a number alone
  works : ℕ → Asked  -- `start_dpc` of this address
  dispatching : Asked
  creates : std.Result GuestClock ClockError → Asked  -- `clock new`
  moves : (GuestClock → clock.Outcome) → Asked  -- a call that may change the clock
  asks : (GuestClock → std.Result ℕ ClockError) → Asked  -- one that only reads it

-- a number that may be absent, as a call has it
abbrev pub argument : Option ℕ → Argument ℕ
argument None = none
argument (Some n) = some n

-- the first `count` numbers of the list are the kinds and keys
abbrev pub waiting : List ℕ → Bool → Option ℕ → ℕ → ℕ → Asked
waiting list all deadline irql count = cond (ltb (length list) count) nothing (calls (call.Wait (take count list) all (argument deadline) irql) tt)

-- the call of each command; `current` and `mutex_owner` print a bare number
unfoldable pub asked : List ℕ → Option Command → Asked
asked list None = nothing
asked list (Some (command.Open p)) = begins p
asked list (Some (command.Event key manual signaled)) = calls (call.InitializeEvent key manual signaled) tt
asked list (Some (command.Create p)) = calls (call.CreateThread p) tt
asked list (Some (command.Wait all deadline irql count)) = waiting list all deadline irql count
asked list (Some command.Dispatch) = dispatching
asked list (Some (command.Set key)) = calls (call.SetEvent key) tt
asked list (Some command.Yield) = calls call.YieldCurrent tt
asked list (Some command.Current) = bares (call.Reads call.Current) tt
asked list (Some (command.RequireEventRelease base size layout)) = calls (call.Reads (call.RequireEventRelease base size layout)) tt
asked list (Some (command.RetireEventBacking base size layout)) = calls (call.RetireEventBacking base size layout) tt
asked list (Some (command.MutexOwner key)) = bares (call.Reads (call.MutexOwner key)) tt
asked list (Some (command.AdoptMutex key owner)) = calls (call.AdoptMutex key (argument owner)) tt
asked list (Some (command.MutexWaiters key)) = calls (call.Reads (call.MutexWaiters key)) tt
asked list (Some (command.Priority id priority)) = calls (call.Priority id priority) tt
asked list (Some (command.InitializeMutex key)) = calls (call.InitializeMutex key) tt
asked list (Some (command.DelayUntil deadline irql)) = calls (call.DelayUntil deadline irql) tt
asked list (Some (command.AdvanceTo time)) = calls (call.AdvanceTo time) tt
asked list (Some (command.ReleaseMutex key)) = calls (call.ReleaseMutex key) tt
asked list (Some (command.ResetEvent key)) = calls (call.ResetEvent key) tt
asked list (Some (command.Terminate status)) = calls (call.Terminate status) tt
asked list (Some command.TimerInitializations) = calls (call.Reads call.TimerInitializations) tt
asked list (Some command.DpcInitializations) = calls (call.Reads call.DpcInitializations) tt
asked list (Some (command.TimerReadOverlap address size)) = calls (call.Reads (call.TimerReadOverlap address size)) tt
asked list (Some (command.TimerMetadataOverlap address size)) = calls (call.Reads (call.TimerMetadataOverlap address size)) tt
asked list (Some (command.InitializeTimer address architecture backing manual)) = calls (call.InitializeTimer address architecture backing manual) tt
asked list (Some (command.InitializeDpc address architecture backing routine context)) = calls (call.InitializeDpc address architecture backing routine context) tt
asked list (Some (command.SetTimer address due absolute period dpc)) = calls (call.SetTimer address due absolute period dpc) tt
asked list (Some (command.CancelTimer address)) = calls (call.CancelTimer address) tt
asked list (Some (command.RequireTimerRelease address size)) = calls (call.Reads (call.RequireTimerRelease address size)) tt
asked list (Some (command.RetireTimerBacking address size)) = calls (call.RetireTimerBacking address size) tt
asked list (Some (command.ConfigureDpcDispatch first second)) = calls (call.ConfigureDpcDispatch first second) tt
asked list (Some (command.QueuedDpcs position)) = calls (call.Reads (call.QueuedDpcs position)) tt
asked list (Some (command.InsertQueueDpc address first second)) = calls (call.InsertQueueDpc address first second) tt
asked list (Some (command.RemoveQueueDpc address)) = calls (call.RemoveQueueDpc address) tt
asked list (Some (command.StartDpc address)) = works address
asked list (Some (command.ReturnedDpc address sequence)) = calls (call.ReturnedDpc address sequence) tt
asked list (Some (command.RestoredDpc address sequence)) = calls (call.RestoredDpc address sequence) tt
asked list (Some (command.ClockNew utc uptime offset mhz)) = creates (created utc uptime offset mhz)
asked list (Some command.ClockInstruction) = moves instruction
asked list (Some (command.ClockAdvanceMicroseconds n)) = moves (λ (c : GuestClock). advance_microseconds c n)
asked list (Some (command.ClockAdvance100ns n)) = moves (λ (c : GuestClock). advance100ns c n)
asked list (Some (command.ClockAdvanceMilliseconds n)) = moves (λ (c : GuestClock). advance_milliseconds c n)
asked list (Some command.ClockFlushCycles) = moves flush_cycles
asked list (Some command.ClockObserve) = moves observe
asked list (Some command.ClockQpc) = asks qpc
asked list (Some command.ClockTick64) = asks tick64
asked list (Some command.ClockTsc) = asks tsc

-- ---- what it does to the scheduler's words

-- `start_dpc` prints the sequence of the work
unfoldable pub sequence_of : WorkAnswer → Answer
sequence_of (work.Refused n) = answer.Refused n
sequence_of (work.Work x) = answer.Count x.sequence

-- what is asked of the scheduler's words, but for a dispatch; else 28
unfoldable pub on_words : List ℕ → Asked → Outcome
on_words w nothing = outcome (answer.Refused 28) w
on_words w (begins p) = outcome (answer.Refused 28) w
on_words w (calls c p) = shown w (meaning c) p (called w c)
on_words w (bares c p) = let o = shown w (meaning c) p (called w c) in outcome (bare_answer o.answer) o.words
on_words w (works address) = let o : Started = called w (call.StartDpc address) in outcome (sequence_of o.answer) o.words
on_words w dispatching = outcome (answer.Refused 28) w
on_words w (creates made) = outcome (answer.Refused 28) w
on_words w (moves f) = outcome (answer.Refused 28) w
on_words w (asks f) = outcome (answer.Refused 28) w

-- a wait
unfoldable pub waited : List ℕ → List ℕ → Bool → Option ℕ → ℕ → ℕ → Outcome
waited w list all deadline irql count = on_words w (waiting list all deadline irql count)
