-- What a command that a match leaves over asks for.
use Rattle.std.proofs.Common.{◌≡◌, ℕ, Bool, true, false, cond, ltb, List, [], ◌∷◌, length}
use mathlib.Core.Path.{refl, ap, ◌∙◌}
use Rattle.std.specs.Prelude.{Option, Some, None, Result, Ok, Err, is_ok, MatchOption, IsSomeAnd}
use Rattle.std.specs.Option.{option_map}
use Rattle.answers.specs.declared.error.SchedulerError.{SchedulerError}
use Rattle.answers.specs.Errors.{done}
use Rattle.script_lex.proofs.Cases.{either}
use lib.IntN.{ℤ}
use Rattle.answers.specs.declared.Answer.{Answer}
use Rattle.answers.specs.declared.Answer.TheVariants as answer
use Rattle.answers.specs.Outcome.{outcome}
use Rattle.script_lex.specs.declared.command.Command.{Command}
use Rattle.script_lex.specs.declared.command.Command.TheVariants as command
use Rattle.runner.specs.declared.session.Session.{Session}
use Rattle.runner.specs.declared.session.Step.{Step}
use Rattle.model.specs.Call.{Call}
use Rattle.calls.specs.Called.{meaning}
use Rattle.commands.specs.Commands.{Shown, nothing, calls, asked, on_words}
use Rattle.runner.specs.Session.{performed, gone_on, begun, accepts, answers_with, performed_as, unchanged}

-- it is no dispatch and asks nothing of the clock
pub record NoClock (c : Command) : Type 0 where
  pub dispatch : c ≡ command.Dispatch → ⊥
  pub new : (utc uptime : ℕ) (offset : ℤ) (mhz : ℕ) → c ≡ command.ClockNew utc uptime offset mhz → ⊥
  pub instruction : c ≡ command.ClockInstruction → ⊥
  pub microseconds : (n : ℕ) → c ≡ command.ClockAdvanceMicroseconds n → ⊥
  pub hundreds : (n : ℕ) → c ≡ command.ClockAdvance100ns n → ⊥
  pub milliseconds : (n : ℕ) → c ≡ command.ClockAdvanceMilliseconds n → ⊥
  pub flush_cycles : c ≡ command.ClockFlushCycles → ⊥
  pub observe : c ≡ command.ClockObserve → ⊥
  pub qpc : c ≡ command.ClockQpc → ⊥
  pub tick64 : c ≡ command.ClockTick64 → ⊥
  pub tsc : c ≡ command.ClockTsc → ⊥

either-on : (w out : List ℕ) (s : Session) (b : Bool) (c : Call) (p : Shown (meaning c)) → answers_with s out (on_words w (cond b nothing (calls c p))) ≡ gone_on w out s (cond b nothing (calls c p))
unfolding gone_on
either-on w out s true c p = refl
either-on w out s false c p = refl

either-begun : (w out : List ℕ) (s : Session) (b : Bool) (c : Call) (p : Shown (meaning c)) → performed_as (unchanged s (answer.Refused 28)) w out ≡ begun w out s (cond b nothing (calls c p))
unfolding begun
either-begun w out s true c p = refl
either-begun w out s false c p = refl

no-clock : (w out list : List ℕ) (s : Session) (c : Command) → NoClock c → answers_with s out (on_words w (asked list (Some c))) ≡ gone_on w out s (asked list (Some c))
unfolding asked gone_on
no-clock w out list s (command.Open p) q = refl
no-clock w out list s (command.Event key manual signaled) q = refl
no-clock w out list s (command.Create p) q = refl
no-clock w out list s (command.Wait all deadline irql count) q = either-on w out s (ltb (length list) count) _ tt
no-clock w out list s command.Dispatch q = absurd (q.dispatch refl)
no-clock w out list s (command.Set key) q = refl
no-clock w out list s command.Yield q = refl
no-clock w out list s command.Current q = refl
no-clock w out list s (command.RequireEventRelease base size layout) q = refl
no-clock w out list s (command.RetireEventBacking base size layout) q = refl
no-clock w out list s (command.MutexOwner key) q = refl
no-clock w out list s (command.AdoptMutex key owner) q = refl
no-clock w out list s (command.MutexWaiters key) q = refl
no-clock w out list s (command.Priority id priority) q = refl
no-clock w out list s (command.InitializeMutex key) q = refl
no-clock w out list s (command.DelayUntil deadline irql) q = refl
no-clock w out list s (command.AdvanceTo time) q = refl
no-clock w out list s (command.ReleaseMutex key) q = refl
no-clock w out list s (command.ResetEvent key) q = refl
no-clock w out list s (command.Terminate status) q = refl
no-clock w out list s command.TimerInitializations q = refl
no-clock w out list s command.DpcInitializations q = refl
no-clock w out list s (command.TimerReadOverlap address size) q = refl
no-clock w out list s (command.TimerMetadataOverlap address size) q = refl
no-clock w out list s (command.InitializeTimer address architecture backing manual) q = refl
no-clock w out list s (command.InitializeDpc address architecture backing routine context) q = refl
no-clock w out list s (command.SetTimer address due absolute period dpc) q = refl
no-clock w out list s (command.CancelTimer address) q = refl
no-clock w out list s (command.RequireTimerRelease address size) q = refl
no-clock w out list s (command.RetireTimerBacking address size) q = refl
no-clock w out list s (command.ConfigureDpcDispatch first second) q = refl
no-clock w out list s (command.QueuedDpcs position) q = refl
no-clock w out list s (command.InsertQueueDpc address first second) q = refl
no-clock w out list s (command.RemoveQueueDpc address) q = refl
no-clock w out list s (command.StartDpc address) q = refl
no-clock w out list s (command.ReturnedDpc address sequence) q = refl
no-clock w out list s (command.RestoredDpc address sequence) q = refl
no-clock w out list s (command.ClockNew utc uptime offset mhz) q = absurd (q.new utc uptime offset mhz refl)
no-clock w out list s command.ClockInstruction q = absurd (q.instruction refl)
no-clock w out list s (command.ClockAdvanceMicroseconds n) q = absurd (q.microseconds n refl)
no-clock w out list s (command.ClockAdvance100ns n) q = absurd (q.hundreds n refl)
no-clock w out list s (command.ClockAdvanceMilliseconds n) q = absurd (q.milliseconds n refl)
no-clock w out list s command.ClockFlushCycles q = absurd (q.flush_cycles refl)
no-clock w out list s command.ClockObserve q = absurd (q.observe refl)
no-clock w out list s command.ClockQpc q = absurd (q.qpc refl)
no-clock w out list s command.ClockTick64 q = absurd (q.tick64 refl)
no-clock w out list s command.ClockTsc q = absurd (q.tsc refl)

-- it is no `open`
pub no-open : (w out list : List ℕ) (s : Session) (c : Command) → ((p : ℕ) → c ≡ command.Open p → ⊥) → performed_as (unchanged s (answer.Refused 28)) w out ≡ begun w out s (asked list (Some c))
unfolding asked begun
no-open w out list s (command.Open p) q = absurd (q p refl)
no-open w out list s (command.Event key manual signaled) q = refl
no-open w out list s (command.Create p) q = refl
no-open w out list s (command.Wait all deadline irql count) q = either-begun w out s (ltb (length list) count) _ tt
no-open w out list s command.Dispatch q = refl
no-open w out list s (command.Set key) q = refl
no-open w out list s command.Yield q = refl
no-open w out list s command.Current q = refl
no-open w out list s (command.RequireEventRelease base size layout) q = refl
no-open w out list s (command.RetireEventBacking base size layout) q = refl
no-open w out list s (command.MutexOwner key) q = refl
no-open w out list s (command.AdoptMutex key owner) q = refl
no-open w out list s (command.MutexWaiters key) q = refl
no-open w out list s (command.Priority id priority) q = refl
no-open w out list s (command.InitializeMutex key) q = refl
no-open w out list s (command.DelayUntil deadline irql) q = refl
no-open w out list s (command.AdvanceTo time) q = refl
no-open w out list s (command.ReleaseMutex key) q = refl
no-open w out list s (command.ResetEvent key) q = refl
no-open w out list s (command.Terminate status) q = refl
no-open w out list s command.TimerInitializations q = refl
no-open w out list s command.DpcInitializations q = refl
no-open w out list s (command.TimerReadOverlap address size) q = refl
no-open w out list s (command.TimerMetadataOverlap address size) q = refl
no-open w out list s (command.InitializeTimer address architecture backing manual) q = refl
no-open w out list s (command.InitializeDpc address architecture backing routine context) q = refl
no-open w out list s (command.SetTimer address due absolute period dpc) q = refl
no-open w out list s (command.CancelTimer address) q = refl
no-open w out list s (command.RequireTimerRelease address size) q = refl
no-open w out list s (command.RetireTimerBacking address size) q = refl
no-open w out list s (command.ConfigureDpcDispatch first second) q = refl
no-open w out list s (command.QueuedDpcs position) q = refl
no-open w out list s (command.InsertQueueDpc address first second) q = refl
no-open w out list s (command.RemoveQueueDpc address) q = refl
no-open w out list s (command.StartDpc address) q = refl
no-open w out list s (command.ReturnedDpc address sequence) q = refl
no-open w out list s (command.RestoredDpc address sequence) q = refl
no-open w out list s (command.ClockNew utc uptime offset mhz) q = refl
no-open w out list s command.ClockInstruction q = refl
no-open w out list s (command.ClockAdvanceMicroseconds n) q = refl
no-open w out list s (command.ClockAdvance100ns n) q = refl
no-open w out list s (command.ClockAdvanceMilliseconds n) q = refl
no-open w out list s command.ClockFlushCycles q = refl
no-open w out list s command.ClockObserve q = refl
no-open w out list s command.ClockQpc q = refl
no-open w out list s command.ClockTick64 q = refl
no-open w out list s command.ClockTsc q = refl

-- a line that cannot be read
pub unread-line : (w out list : List ℕ) (s : Session) → performed_as (unchanged s (answer.Refused 28)) w out ≡ performed w out list s None
unfolding performed asked gone_on begun on_words
unread-line w out list s = either s.opened (λ e. simp e) (λ e. simp e)

-- an `open` has succeeded where it is not refused
pub opens : (r : Result (Unit {0}) SchedulerError) → accepts (done r) ≡ is_ok r
unfolding accepts
opens (Ok x) = refl
opens (Err e) = refl

-- what a call on the clock answers, where there is a clock
pub mapped : {A B : Type 0} (f : A → B) {P : A → B → Type 0} → ((x : A) (y : B) → P x y → y ≡ f x)
    → (o : Option A) (r : Option B) → MatchOption o (r ≡ None) (λ x. IsSomeAnd r (P x)) → r ≡ option_map f o
mapped f gives None r t = t
mapped f gives (Some x) (Some y) t = ap Some (gives x y t)
mapped f gives (Some x) None t = absurd t

-- ---- how a step is put together

pub same_step : (w out : List ℕ) (x y : Step) → x ≡ y → performed_as x w out ≡ performed_as y w out
same_step w out x y e = ap (λ (z : Step). performed_as z w out) e

-- a command that a match leaves over is one on the words, or none at all
pub goes_on : (w out list : List ℕ) (s : Session) (c : Command) → NoClock c
    → (after : List ℕ) (a : Answer) → outcome a after ≡ on_words w (asked list (Some c)) → performed_as (unchanged s a) after out ≡ gone_on w out s (asked list (Some c))
goes_on w out list s c q after a e = ap (answers_with s out) e ∙ no-clock w out list s c q
