-- What the log keeps: its own threads, objects, DPCs, time, counts and queues. It knows nothing of words.
use Rattle.std.specs.Prelude.{ℕ, List, Bool}
use Rattle.std.proofs.Math.Option.{Option}
use Rattle.images.specs.declared.Timer.{Timer}
use Rattle.images.specs.declared.Dpc.{Dpc}

-- the largest number of a thread
abbrev pub most_threads : ℕ
most_threads = 256

-- "limits (added): threads T 1–256, objects O 0–4096, DPCs D 0–4096"
pub record Limits : Type 0 where
  pub threads : ℕ
  pub objects : ℕ
  pub dpcs : ℕ

-- ---- threads

-- "The list is pairs kind, key: 0 mutex, 1 event, 2 timer, 3 thread (its number)."
pub record Named : Type 0 where
  pub kind : ℕ
  pub key : ℕ

-- what a thread waits for; a delay waits for no object
pub record Wait : Type 0 where
  pub objects : List Named
  pub all : Bool
  pub deadline : Option ℕ  -- none: never
  pub sequence : ℕ

-- what a thread does
pub data Status : Type 0 where
  running ready : Status
  waiting : Wait → Status
  exited : ℕ → Status  -- its exit status

-- how its last wait ended
pub data WaitResult : Type 0 where
  satisfied : ℕ → WaitResult  -- the index that the wait answers
  timeout : WaitResult

-- a thread: its priority 1–31, what it does, and the result of its last wait
pub record Thread : Type 0 where
  pub priority : ℕ
  pub status : Status
  pub result : Option WaitResult

-- ---- the objects that threads wait for, besides threads

-- a mutex
pub record Mutex : Type 0 where
  pub key : ℕ
  pub owner : ℕ  -- 0: none

-- an event
pub record Event : Type 0 where
  pub key : ℕ
  pub manual : Bool  -- not auto-reset: it stays signaled when a thread takes it
  pub signaled : Bool

-- an object by its kind
pub data Object : Type 0 where
  mutex : Mutex → Object
  event : Event → Object
  timer : Timer → Object

-- the threads, and the objects that they wait for
pub record Dispatcher : Type 0 where
  pub threads : List Thread  -- "threads number 1 upward": thread 1 first
  pub current : ℕ  -- 0 where no thread is current
  pub placed : List ℕ  -- the ready threads of all priorities in the order of their placing, the earliest first
  pub waiters : List ℕ  -- the waiting threads in the order in which they blocked
  pub sequence : ℕ  -- the wait sequence: the next wait's
  pub objects : List Object  -- rising by key

-- ---- DPCs

-- the six counts of DPC work
pub record Counters : Type 0 where
  pub accepted : ℕ
  pub duplicates : ℕ
  pub removed : ℕ
  pub started : ℕ
  pub returned : ℕ
  pub restored : ℕ

-- a DPC's phase has its work, queued or active
pub record Dpcs : Type 0 where
  pub table : List Dpc  -- rising by address
  pub queue : List ℕ  -- the addresses of the queued DPCs, the head first
  pub counters : Counters

-- "no policy is set", or the one that `configure_dpc_dispatch` sets
pub data Policy : Type 0 where
  unselected : Policy
  cpu0_dispatch : ℕ → ℕ → Policy  -- the two arguments of every timer's DPC

-- ---- all of it

-- a state of the log
pub record State : Type 0 where
  pub limits : Limits
  pub dispatcher : Dispatcher
  pub dpcs : Dpcs
  pub now : ℕ
  pub policy : Policy
  pub timer_initializations : ℕ
  pub dpc_initializations : ℕ
