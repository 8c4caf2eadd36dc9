-- Arguments that fit their types, and stored numbers that pass their checks where a type bounds them.
use Rattle.std.specs.Prelude.{ℕ, ◌-◌, ◌^◌, ◌≤◌, List, [], ◌∷◌, true, ◌≡◌, ℤ, pos, negsuc}
use Rattle.std.proofs.Math.Option.{Option, none, some}
use Rattle.images.specs.declared.TimerBacking.{TimerBacking}
use Rattle.images.specs.declared.TimerBacking.TheVariants.{Image, NonpagedPool}
use Rattle.model.specs.State as state
use Rattle.model.specs.State.{State, Status, WaitResult, Object}
use Rattle.model.specs.Threads.{thread_of}
use Rattle.model.specs.Waits.{key_of, on_timer}
use Rattle.model.specs.Dpcs.{phase_at, is_busy}
use Rattle.model.specs.Valid.{Each, work_at}
use Rattle.model.specs.Call.{Call}
use Rattle.model.specs.Call as call

-- ---- the Rust's types

-- the unsigned ones
abbrev pub U8 : ℕ → Type 0
U8 n = n ≤ 2 ^ 8 - 1

abbrev pub U32 : ℕ → Type 0
U32 n = n ≤ 2 ^ 32 - 1

abbrev pub U64 : ℕ → Type 0
U64 n = n ≤ 2 ^ 64 - 1

-- the signed ones
abbrev pub I32 : ℤ → Type 0
I32 (pos n) = n ≤ 2 ^ 31 - 1
I32 (negsuc n) = n ≤ 2 ^ 31 - 1

abbrev pub I64 : ℤ → Type 0
I64 (pos n) = n ≤ 2 ^ 63 - 1
I64 (negsuc n) = n ≤ 2 ^ 63 - 1

-- of every number of a list, and of one that may be absent
abbrev pub U64s : List ℕ → Type 0
U64s [] = Unit
U64s (n ∷ l) = U64 n × U64s l

abbrev pub U64? : Option ℕ → Type 0
U64? none = Unit
U64? (some n) = U64 n

-- the numbers of a backing
abbrev pub BackingFits : TimerBacking → Type 0
BackingFits (Image base size) = U64 base × U64 size
BackingFits (NonpagedPool base requested mapped) = U64 base × U64 requested × U64 mapped

-- a call whose arguments fit their types
abbrev pub Fits : Call → Type 0
Fits (call.Open words p t o d) = U64 p × U64 t × U64 o × U64 d
Fits (call.CreateThread p) = U64 p
Fits (call.Priority id p) = U64 id × U64 p
Fits (call.InitializeMutex key) = U64 key
Fits (call.InitializeEvent key manual signaled) = U64 key
Fits (call.AdoptMutex key owner) = U64 key × U64? owner
Fits (call.ReleaseMutex key) = U64 key
Fits (call.SetEvent key) = U64 key
Fits (call.ResetEvent key) = U64 key
Fits (call.RetireEventBacking base size layout) = U64 base × U64 size × U64 layout
Fits (call.Wait l all deadline irql) = U64s l × U64? deadline × U8 irql
Fits (call.DelayUntil deadline irql) = U64 deadline × U8 irql
Fits call.YieldCurrent = Unit
Fits (call.Terminate status) = U32 status
Fits (call.AdvanceTo time) = U64 time
Fits (call.Dispatch out) = Unit
Fits (call.InitializeTimer address a b manual) = U64 address × BackingFits b
Fits (call.InitializeDpc address a b routine context) = U64 address × BackingFits b × U64 routine × U64 context
Fits (call.SetTimer address due absolute period dpc) = U64 address × U64 due × I32 period × U64 dpc
Fits (call.SetTimerSigned address v period dpc) = U64 address × I64 v × I32 period × U64 dpc
Fits (call.CancelTimer address) = U64 address
Fits (call.RetireTimerBacking address size) = U64 address × U64 size
Fits (call.ConfigureDpcDispatch first second) = U64 first × U64 second
Fits (call.InsertQueueDpc address first second) = U64 address × U64 first × U64 second
Fits (call.RemoveQueueDpc address) = U64 address
Fits (call.StartDpc address) = U64 address
Fits (call.ReturnedDpc address n) = U64 address × U64 n
Fits (call.RestoredDpc address n) = U64 address × U64 n
Fits (call.Reads r) = Unit

-- ---- "stored numbers pass their checks", beyond what `Valid` says

-- an index of a list of at most 64, and an exit status of 32 bits
abbrev pub ResultFits : Option WaitResult → Type 0
ResultFits none = Unit
ResultFits (some (state.satisfied i)) = i ≤ 63
ResultFits (some state.timeout) = Unit

-- an exit status of 32 bits
abbrev pub StatusFits : Status → Type 0
StatusFits state.running = Unit
StatusFits state.ready = Unit
StatusFits (state.waiting w) = Unit
StatusFits (state.exited n) = U32 n

-- a thread's numbers
abbrev pub ThreadFits : state.Thread → Type 0
ThreadFits t = ResultFits t.result × StatusFits t.status

-- a period that is no negative i32, and an initialization that has been
abbrev pub TimerFits : ℕ → Object → Type 0
TimerFits n = on_timer Unit (λ t. (t.period_ms ≤ 2 ^ 31 - 1) × (1 ≤ t.initialization) × (t.initialization ≤ n))

-- the numbers of a state
pub record Numbers (s : State) : Type 0 where
  pub threads : (i : ℕ) → ThreadFits (thread_of s.dispatcher i)
  pub timers : Each key_of s.dispatcher.objects (TimerFits s.timer_initializations)
  -- work bears a sequence from 1 on
  pub works : (a : ℕ) → is_busy (phase_at s.dpcs.table a) ≡ true → 1 ≤ work_at s.dpcs.table a
