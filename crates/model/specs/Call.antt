-- The calls on a scheduler's words, with their arguments, and of lent words and outputs just the length.
use Rattle.std.specs.Prelude.{ℕ, List, Bool, ℤ}
use Rattle.std.proofs.Math.Option.{Option}
use Rattle.arch.specs.declared.Architecture.{Architecture}
use Rattle.images.specs.declared.TimerBacking.{TimerBacking}

-- calls that only read
pub data Read : Type 0 where
  Current : Read
  Thread : ℕ → Read  -- its number
  Threads : ℕ → Read  -- a position
  WaitedObject : ℕ → ℕ → Read  -- a thread, a position in the list that it waits for
  MutexOwner MutexWaiters : ℕ → Read  -- a key
  EventState : ℕ → Read  -- a key
  EventStates : ℕ → Read  -- a position
  RequireEventRelease : ℕ → ℕ → ℕ → Read  -- base, size, layout
  TimerAt DpcAt : ℕ → Read  -- an address: the calls `timer` and `dpc`
  Timers Dpcs : ℕ → Read  -- a position
  TimerImage DpcImage : ℕ → ℕ → Read  -- an address, the output's length in bytes
  TimerInitializations DpcInitializations : Read
  TimerReadOverlap TimerMetadataOverlap : ℕ → ℕ → Read  -- an address, a size
  PendingTimerDpc : Read
  RequireTimerRelease : ℕ → ℕ → Read  -- an address, a size
  DpcPolicy DpcCounters : Read
  QueuedDpcs : ℕ → Read  -- a position
  ActiveDpc NextDpc : Read

-- every call on a scheduler's words
pub data Call : Type 0 where
  Open : ℕ → ℕ → ℕ → ℕ → ℕ → Call  -- the length of the lent words, a priority, the limits of threads, objects and DPCs
  CreateThread : ℕ → Call  -- a priority
  Priority : ℕ → ℕ → Call  -- a thread, a priority
  InitializeMutex : ℕ → Call  -- a key
  InitializeEvent : ℕ → Bool → Bool → Call  -- a key, manual, signaled
  AdoptMutex : ℕ → Option ℕ → Call  -- a key, its owner
  ReleaseMutex : ℕ → Call  -- a key
  SetEvent ResetEvent : ℕ → Call  -- a key
  RetireEventBacking : ℕ → ℕ → ℕ → Call  -- base, size, layout
  Wait : List ℕ → Bool → Option ℕ → ℕ → Call  -- kinds and keys in turn, all, a deadline, the IRQL
  DelayUntil : ℕ → ℕ → Call  -- a deadline, the IRQL
  YieldCurrent : Call
  Terminate : ℕ → Call  -- an exit status
  AdvanceTo : ℕ → Call  -- a time
  Dispatch : ℕ → Call  -- the output's length
  InitializeTimer : ℕ → Architecture → TimerBacking → Bool → Call  -- an address, .., manual reset
  InitializeDpc : ℕ → Architecture → TimerBacking → ℕ → ℕ → Call  -- an address, .., routine, context
  SetTimer : ℕ → ℕ → Bool → ℤ → ℕ → Call  -- an address, due, absolute, the period in ms, a DPC or 0
  SetTimerSigned : ℕ → ℤ → ℤ → ℕ → Call  -- an address, the signed due, the period in ms, a DPC or 0
  CancelTimer : ℕ → Call  -- an address
  RetireTimerBacking : ℕ → ℕ → Call  -- an address, a size
  ConfigureDpcDispatch : ℕ → ℕ → Call  -- the two arguments
  InsertQueueDpc : ℕ → ℕ → ℕ → Call  -- an address, the two arguments
  RemoveQueueDpc : ℕ → Call  -- an address
  StartDpc : ℕ → Call  -- an address
  ReturnedDpc RestoredDpc : ℕ → ℕ → Call  -- an address, a work's sequence
  Reads : Read → Call
