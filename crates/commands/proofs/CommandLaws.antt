-- What a read answers, and what a command that a match leaves over asks of the scheduler's words.
use mathlib.Core.Path.{◌≡◌, refl, ap, ◌∙◌}
use mathlib.Core.List.{List}
use Rattle.std.specs.Prelude.{Option, Some, None, Result, is_some, unwrap_or}
use Prim.Native.Nat.{ℕ}
use mathlib.Core.Bool.{Bool}
use lib.IntN.{ℤ}
use Rattle.arch.specs.declared.Architecture.{Architecture}
use Rattle.images.specs.declared.TimerBacking.{TimerBacking}
use Rattle.answers.specs.declared.Answer.{Answer}
use Rattle.answers.specs.declared.Answer.TheVariants as answer
use Rattle.answers.specs.declared.error.SchedulerError.{SchedulerError}
use Rattle.answers.specs.Errors.{Tells, answer_of}
use Rattle.answers.proofs.Converted.{told-is}
use Rattle.answers.specs.Outcome.{outcome}
use Rattle.script_lex.specs.declared.command.Command.{Command}
use Rattle.script_lex.specs.declared.command.Command.TheVariants as command
use Rattle.calls.specs.Called.{optional}
use Rattle.commands.specs.Commands.{argument, asked, on_words}

-- a number that may be absent, as the code hands it on
pub handed-on : (o : Option ℕ) → optional (is_some o) (unwrap_or o 0) ≡ argument o
handed-on None = refl
handed-on (Some n) = refl

-- a read leaves the words
pub told-read : {A : Type 0} {R : A → Answer → Type 0} (f : A → Answer) (r : Result A SchedulerError) (a b : Answer) (w : List ℕ)
    → Tells R r a → ((x : A) (y : Answer) → R x y → y ≡ f x) → answer_of f r ≡ b → outcome a w ≡ outcome b w
told-read f r a b w t h e = ap (λ (x : Answer). outcome x w) (told-is f r a t h ∙ e)

-- it asks nothing of the scheduler's words, or is a dispatch
pub record NoWords (c : Command) : Type 0 where
  pub event : (key : ℕ) (manual signaled : Bool) → c ≡ command.Event key manual signaled → ⊥
  pub create : (p : ℕ) → c ≡ command.Create p → ⊥
  pub waits : (all : Bool) (deadline : Option ℕ) (irql count : ℕ) → c ≡ command.Wait all deadline irql count → ⊥
  pub set_event : (key : ℕ) → c ≡ command.Set key → ⊥
  pub yields : c ≡ command.Yield → ⊥
  pub current : c ≡ command.Current → ⊥
  pub require_event_release : (base size layout : ℕ) → c ≡ command.RequireEventRelease base size layout → ⊥
  pub retire_event_backing : (base size layout : ℕ) → c ≡ command.RetireEventBacking base size layout → ⊥
  pub mutex_owner : (key : ℕ) → c ≡ command.MutexOwner key → ⊥
  pub adopt_mutex : (key : ℕ) (owner : Option ℕ) → c ≡ command.AdoptMutex key owner → ⊥
  pub mutex_waiters : (key : ℕ) → c ≡ command.MutexWaiters key → ⊥
  pub priority : (id priority : ℕ) → c ≡ command.Priority id priority → ⊥
  pub initialize_mutex : (key : ℕ) → c ≡ command.InitializeMutex key → ⊥
  pub delay_until : (deadline irql : ℕ) → c ≡ command.DelayUntil deadline irql → ⊥
  pub advance_to : (time : ℕ) → c ≡ command.AdvanceTo time → ⊥
  pub release_mutex : (key : ℕ) → c ≡ command.ReleaseMutex key → ⊥
  pub reset_event : (key : ℕ) → c ≡ command.ResetEvent key → ⊥
  pub terminate : (status : ℕ) → c ≡ command.Terminate status → ⊥
  pub timer_initializations : c ≡ command.TimerInitializations → ⊥
  pub dpc_initializations : c ≡ command.DpcInitializations → ⊥
  pub timer_read_overlap : (address size : ℕ) → c ≡ command.TimerReadOverlap address size → ⊥
  pub timer_metadata_overlap : (address size : ℕ) → c ≡ command.TimerMetadataOverlap address size → ⊥
  pub initialize_timer : (address : ℕ) (architecture : Architecture) (backing : TimerBacking) (manual : Bool) → c ≡ command.InitializeTimer address architecture backing manual → ⊥
  pub initialize_dpc : (address : ℕ) (architecture : Architecture) (backing : TimerBacking) (routine context : ℕ) → c ≡ command.InitializeDpc address architecture backing routine context → ⊥
  pub set_timer : (address due : ℕ) (absolute : Bool) (period : ℤ) (dpc : ℕ) → c ≡ command.SetTimer address due absolute period dpc → ⊥
  pub cancel_timer : (address : ℕ) → c ≡ command.CancelTimer address → ⊥
  pub require_timer_release : (address size : ℕ) → c ≡ command.RequireTimerRelease address size → ⊥
  pub retire_timer_backing : (address size : ℕ) → c ≡ command.RetireTimerBacking address size → ⊥
  pub configure_dpc_dispatch : (first second : ℕ) → c ≡ command.ConfigureDpcDispatch first second → ⊥
  pub queued_dpcs : (position : ℕ) → c ≡ command.QueuedDpcs position → ⊥
  pub insert_queue_dpc : (address first second : ℕ) → c ≡ command.InsertQueueDpc address first second → ⊥
  pub remove_queue_dpc : (address : ℕ) → c ≡ command.RemoveQueueDpc address → ⊥
  pub start_dpc : (address : ℕ) → c ≡ command.StartDpc address → ⊥
  pub returned_dpc : (address sequence : ℕ) → c ≡ command.ReturnedDpc address sequence → ⊥
  pub restored_dpc : (address sequence : ℕ) → c ≡ command.RestoredDpc address sequence → ⊥

pub no_words : (w list : List ℕ) (c : Command) → NoWords c → outcome (answer.Refused 28) w ≡ on_words w (asked list (Some c))
unfolding asked on_words
no_words w list (command.Open p) q = refl
no_words w list (command.Event key manual signaled) q = absurd (q.event key manual signaled refl)
no_words w list (command.Create p) q = absurd (q.create p refl)
no_words w list (command.Wait all deadline irql count) q = absurd (q.waits all deadline irql count refl)
no_words w list command.Dispatch q = refl
no_words w list (command.Set key) q = absurd (q.set_event key refl)
no_words w list command.Yield q = absurd (q.yields refl)
no_words w list command.Current q = absurd (q.current refl)
no_words w list (command.RequireEventRelease base size layout) q = absurd (q.require_event_release base size layout refl)
no_words w list (command.RetireEventBacking base size layout) q = absurd (q.retire_event_backing base size layout refl)
no_words w list (command.MutexOwner key) q = absurd (q.mutex_owner key refl)
no_words w list (command.AdoptMutex key owner) q = absurd (q.adopt_mutex key owner refl)
no_words w list (command.MutexWaiters key) q = absurd (q.mutex_waiters key refl)
no_words w list (command.Priority id priority) q = absurd (q.priority id priority refl)
no_words w list (command.InitializeMutex key) q = absurd (q.initialize_mutex key refl)
no_words w list (command.DelayUntil deadline irql) q = absurd (q.delay_until deadline irql refl)
no_words w list (command.AdvanceTo time) q = absurd (q.advance_to time refl)
no_words w list (command.ReleaseMutex key) q = absurd (q.release_mutex key refl)
no_words w list (command.ResetEvent key) q = absurd (q.reset_event key refl)
no_words w list (command.Terminate status) q = absurd (q.terminate status refl)
no_words w list command.TimerInitializations q = absurd (q.timer_initializations refl)
no_words w list command.DpcInitializations q = absurd (q.dpc_initializations refl)
no_words w list (command.TimerReadOverlap address size) q = absurd (q.timer_read_overlap address size refl)
no_words w list (command.TimerMetadataOverlap address size) q = absurd (q.timer_metadata_overlap address size refl)
no_words w list (command.InitializeTimer address architecture backing manual) q = absurd (q.initialize_timer address architecture backing manual refl)
no_words w list (command.InitializeDpc address architecture backing routine context) q = absurd (q.initialize_dpc address architecture backing routine context refl)
no_words w list (command.SetTimer address due absolute period dpc) q = absurd (q.set_timer address due absolute period dpc refl)
no_words w list (command.CancelTimer address) q = absurd (q.cancel_timer address refl)
no_words w list (command.RequireTimerRelease address size) q = absurd (q.require_timer_release address size refl)
no_words w list (command.RetireTimerBacking address size) q = absurd (q.retire_timer_backing address size refl)
no_words w list (command.ConfigureDpcDispatch first second) q = absurd (q.configure_dpc_dispatch first second refl)
no_words w list (command.QueuedDpcs position) q = absurd (q.queued_dpcs position refl)
no_words w list (command.InsertQueueDpc address first second) q = absurd (q.insert_queue_dpc address first second refl)
no_words w list (command.RemoveQueueDpc address) q = absurd (q.remove_queue_dpc address refl)
no_words w list (command.StartDpc address) q = absurd (q.start_dpc address refl)
no_words w list (command.ReturnedDpc address sequence) q = absurd (q.returned_dpc address sequence refl)
no_words w list (command.RestoredDpc address sequence) q = absurd (q.restored_dpc address sequence refl)
no_words w list (command.ClockNew utc uptime offset mhz) q = refl
no_words w list command.ClockInstruction q = refl
no_words w list (command.ClockAdvanceMicroseconds n) q = refl
no_words w list (command.ClockAdvance100ns n) q = refl
no_words w list (command.ClockAdvanceMilliseconds n) q = refl
no_words w list command.ClockFlushCycles q = refl
no_words w list command.ClockObserve q = refl
no_words w list command.ClockQpc q = refl
no_words w list command.ClockTick64 q = refl
no_words w list command.ClockTsc q = refl
