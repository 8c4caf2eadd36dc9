-- What each read answers on a state of the log, and what its answer says of the state.
use Prim.Native.Nat.{ℕ}
use mathlib.Core.Bool.{Bool, true, false, cond}
use mathlib.Core.Option.{Option, none, some}
use mathlib.Core.Path.{◌≡◌, refl, sym, ap, ◌∙◌}
use native.Mathlib.Omega.{arith}
use borrow.Author.Tests.{eqb-true, ne_eqb}
use lib.Dec.{eqb}
use Rattle.images.specs.declared.Timer.{Timer}
use Rattle.images.specs.declared.Dpc.{Dpc}
use Rattle.model.specs.Lists.{nth, present, given}
use Rattle.model.specs.State.{State, Thread, Event, Mutex}
use Rattle.model.specs.Threads.{is_thread, thread_of}
use Rattle.model.specs.Waits.{mutex_at, event_at, timer_at, timers_of}
use Rattle.model.specs.Dpcs.{dpc_at, active_dpc}
use Rattle.model.specs.Refusal.{owner_refusal, unknown_timer, unknown_dpc}
use Rattle.model.specs.Answer.{Answer, Refused, None, ThreadNumber, Number, ThreadIs, EventIs, TimerIs, DpcIs, PolicyIs, CountersAre, gives}
use Rattle.model.specs.Call.{Call}
use Rattle.model.specs.Call as call
use Rattle.model.specs.Reads.{read_refusal, read_answer, number_or_none, thread_answer}
use Rattle.model.specs.Step.{step, refusal, effect}
use Rattle.model.specs.Leaving.{thread_numbered}
use Rattle.model.specs.Wakes.{readings_of}

-- what a call would be answered
abbrev pub asked : State → Call → Answer
asked s c = (step c s).answer

-- ---- a record, or none

module _ {A : Type 0} where
  -- a read of a record that is refused where there is none
  refused_none : (s : State) (f : A → Answer) (o : Option A)
      → (cond (eqb (cond (present o) 0 2) 0) (gives (given o None f) s) (gives (Refused (cond (present o) 0 2)) s)).answer ≡ given o (Refused 2) f
  refused_none s f none = refl
  refused_none s f (some x) = refl

  -- the answer names the record that stands there
  named : (b : Answer) (f : A → Answer) → ((x : A) → b ≡ f x → ◌≡◌ {A = ℕ} 0 1) → ((x y : A) → f x ≡ f y → x ≡ y) → (o : Option A) (x : A) → given o b f ≡ f x → o ≡ some x
  named b f other same none x e = let z = other x e in absurd (omega arith)
  named b f other same (some y) x e = ap {B = Option A} some (same y x e)

-- ---- a thread's number, or none

number-none : (n : ℕ) → number_or_none n ≡ None → n ≡ 0
number-none n e = go (eqb n 0) refl e
  where
    go : (b : Bool) → eqb n 0 ≡ b → cond b None (ThreadNumber n) ≡ None → n ≡ 0
    go true q z = eqb-true n 0 q
    go false q z = let y : ◌≡◌ {A = ℕ} 0 1 = cc in absurd (omega arith)

number-told : (n i : ℕ) → number_or_none n ≡ ThreadNumber i → n ≡ i
number-told n i e = go (eqb n 0) e
  where
    go : (b : Bool) → cond b None (ThreadNumber n) ≡ ThreadNumber i → n ≡ i
    go true z = let y : ◌≡◌ {A = ℕ} 0 1 = cc in absurd (omega arith)
    go false z = cc

pub told-number : (n : ℕ) → (n ≡ 0 → ⊥) → number_or_none n ≡ ThreadNumber n
told-number n h = ap (λ (b : Bool). cond b None (ThreadNumber n)) (ne_eqb n 0 h)

module _ (s : State) where
  -- ---- what each read answers

  pub current-answers : readings_of s call.Current ≡ number_or_none s.dispatcher.current
  unfolding step refusal effect read_refusal read_answer
  current-answers = refl

  pub thread-answers : (i : ℕ) → readings_of s (call.Thread i) ≡ given (thread_numbered s i) None (ThreadIs i)
  unfolding step refusal effect read_refusal read_answer thread_answer
  thread-answers i = go (is_thread s.dispatcher i)
    where
      go : (b : Bool) → cond b (ThreadIs i (thread_of s.dispatcher i)) None ≡ given (cond b (some (thread_of s.dispatcher i)) none) None (ThreadIs i)
      go true = refl
      go false = refl

  pub owner-answers : (key : ℕ) → readings_of s (call.MutexOwner key) ≡ given (mutex_at s.dispatcher.objects key) (Refused 2) (λ (m : Mutex). number_or_none m.owner)
  unfolding step refusal effect read_refusal read_answer owner_refusal
  owner-answers key = refused_none s (λ (m : Mutex). number_or_none m.owner) (mutex_at s.dispatcher.objects key)

  pub event-answers : (key : ℕ) → readings_of s (call.EventState key) ≡ given (event_at s.dispatcher.objects key) None EventIs
  unfolding step refusal effect read_refusal read_answer
  event-answers key = refl

  pub timer-answers : (a : ℕ) → readings_of s (call.TimerAt a) ≡ given (timer_at s.dispatcher.objects a) (Refused 2) TimerIs
  unfolding step refusal effect read_refusal read_answer unknown_timer
  timer-answers a = refused_none s TimerIs (timer_at s.dispatcher.objects a)

  pub timers-answers : (n : ℕ) → readings_of s (call.Timers n) ≡ given (nth (timers_of s.dispatcher.objects) n) None TimerIs
  unfolding step refusal effect read_refusal read_answer
  timers-answers n = refl

  pub dpc-answers : (a : ℕ) → readings_of s (call.DpcAt a) ≡ given (dpc_at s.dpcs.table a) (Refused 2) DpcIs
  unfolding step refusal effect read_refusal read_answer unknown_dpc
  dpc-answers a = refused_none s DpcIs (dpc_at s.dpcs.table a)

  pub queue-answers : (n : ℕ) → readings_of s (call.QueuedDpcs n) ≡ given (nth s.dpcs.queue n) None Number
  unfolding step refusal effect read_refusal read_answer
  queue-answers n = refl

  pub active-answers : readings_of s call.ActiveDpc ≡ given (active_dpc s.dpcs.table) None DpcIs
  unfolding step refusal effect read_refusal read_answer
  active-answers = refl

  pub counters-answers : readings_of s call.DpcCounters ≡ CountersAre s.dpcs.counters
  unfolding step refusal effect read_refusal read_answer
  counters-answers = refl

  pub policy-answers : readings_of s call.DpcPolicy ≡ PolicyIs s.policy
  unfolding step refusal effect read_refusal read_answer
  policy-answers = refl

  pub timers-made-answers : readings_of s call.TimerInitializations ≡ Number s.timer_initializations
  unfolding step refusal effect read_refusal read_answer
  timers-made-answers = refl

  pub dpcs-made-answers : readings_of s call.DpcInitializations ≡ Number s.dpc_initializations
  unfolding step refusal effect read_refusal read_answer
  dpcs-made-answers = refl

  -- ---- the current thread

  pub current-none-told : readings_of s call.Current ≡ None → s.dispatcher.current ≡ 0
  current-none-told e = number-none s.dispatcher.current (sym current-answers ∙ e)

  pub current-told : (i : ℕ) → readings_of s call.Current ≡ ThreadNumber i → s.dispatcher.current ≡ i
  current-told i e = number-told s.dispatcher.current i (sym current-answers ∙ e)

  pub told-current : (i : ℕ) → s.dispatcher.current ≡ i → (i ≡ 0 → ⊥) → readings_of s call.Current ≡ ThreadNumber i
  told-current i q n = current-answers ∙ ap number_or_none q ∙ told-number i n

  -- ---- a thread

  pub numbered-told : (i : ℕ) (x : Thread) → readings_of s (call.Thread i) ≡ ThreadIs i x → thread_numbered s i ≡ some x
  numbered-told i x e = named None (ThreadIs i) (λ y z. cc) (λ y z q. cc) (thread_numbered s i) x (sym (thread-answers i) ∙ e)

  pub thread-told : (i : ℕ) (x : Thread) → readings_of s (call.Thread i) ≡ ThreadIs i x → (is_thread s.dispatcher i ≡ true) × (thread_of s.dispatcher i ≡ x)
  thread-told i x e = go (is_thread s.dispatcher i) refl (numbered-told i x e)
    where
      go : (b : Bool) → is_thread s.dispatcher i ≡ b → cond b (some (thread_of s.dispatcher i)) none ≡ some x → (is_thread s.dispatcher i ≡ true) × (thread_of s.dispatcher i ≡ x)
      go true q z = (q, cc)
      go false q z = let y : ◌≡◌ {A = ℕ} 0 1 = cc in absurd (omega arith)

  pub told-thread : (i : ℕ) → is_thread s.dispatcher i ≡ true → readings_of s (call.Thread i) ≡ ThreadIs i (thread_of s.dispatcher i)
  told-thread i q = thread-answers i ∙ ap (λ (b : Bool). given (cond b (some (thread_of s.dispatcher i)) none) None (ThreadIs i)) q

  -- ---- objects

  -- a mutex that is there and has no owner
  pub unowned-told : (key : ℕ) → readings_of s (call.MutexOwner key) ≡ None → (m : Mutex) × (mutex_at s.dispatcher.objects key ≡ some m) × (m.owner ≡ 0)
  unowned-told key e = go (mutex_at s.dispatcher.objects key) refl (sym (owner-answers key) ∙ e)
    where
      go : (o : Option Mutex) → mutex_at s.dispatcher.objects key ≡ o → given o (Refused 2) (λ (m : Mutex). number_or_none m.owner) ≡ None
          → (m : Mutex) × (mutex_at s.dispatcher.objects key ≡ some m) × (m.owner ≡ 0)
      go none q z = let y : ◌≡◌ {A = ℕ} 0 1 = cc in absurd (omega arith)
      go (some m) q z = (m, q, number-none m.owner z)

  pub told-owner : (key : ℕ) (m : Mutex) → mutex_at s.dispatcher.objects key ≡ some m → readings_of s (call.MutexOwner key) ≡ number_or_none m.owner
  told-owner key m q = owner-answers key ∙ ap (λ (o : Option Mutex). given o (Refused 2) (λ (x : Mutex). number_or_none x.owner)) q

  pub event-told : (key : ℕ) (x : Event) → readings_of s (call.EventState key) ≡ EventIs x → event_at s.dispatcher.objects key ≡ some x
  event-told key x e = named None EventIs (λ y z. cc) (λ y z q. cc) (event_at s.dispatcher.objects key) x (sym (event-answers key) ∙ e)

  pub told-event : (key : ℕ) (x : Event) → event_at s.dispatcher.objects key ≡ some x → readings_of s (call.EventState key) ≡ EventIs x
  told-event key x q = event-answers key ∙ ap (λ (o : Option Event). given o None EventIs) q

  pub timer-told : (a : ℕ) (x : Timer) → readings_of s (call.TimerAt a) ≡ TimerIs x → timer_at s.dispatcher.objects a ≡ some x
  timer-told a x e = named (Refused 2) TimerIs (λ y z. cc) (λ y z q. cc) (timer_at s.dispatcher.objects a) x (sym (timer-answers a) ∙ e)

  pub told-timer : (a : ℕ) (x : Timer) → timer_at s.dispatcher.objects a ≡ some x → readings_of s (call.TimerAt a) ≡ TimerIs x
  told-timer a x q = timer-answers a ∙ ap (λ (o : Option Timer). given o (Refused 2) TimerIs) q

  -- ---- DPCs

  pub dpc-told : (a : ℕ) (x : Dpc) → readings_of s (call.DpcAt a) ≡ DpcIs x → dpc_at s.dpcs.table a ≡ some x
  dpc-told a x e = named (Refused 2) DpcIs (λ y z. cc) (λ y z q. cc) (dpc_at s.dpcs.table a) x (sym (dpc-answers a) ∙ e)

  pub told-dpc : (a : ℕ) (x : Dpc) → dpc_at s.dpcs.table a ≡ some x → readings_of s (call.DpcAt a) ≡ DpcIs x
  told-dpc a x q = dpc-answers a ∙ ap (λ (o : Option Dpc). given o (Refused 2) DpcIs) q

  pub queue-told : (n a : ℕ) → readings_of s (call.QueuedDpcs n) ≡ Number a → nth s.dpcs.queue n ≡ some a
  queue-told n a e = named None Number (λ y z. cc) (λ y z q. cc) (nth s.dpcs.queue n) a (sym (queue-answers n) ∙ e)

  pub told-queue : (n a : ℕ) → nth s.dpcs.queue n ≡ some a → readings_of s (call.QueuedDpcs n) ≡ Number a
  told-queue n a q = queue-answers n ∙ ap (λ (o : Option ℕ). given o None Number) q
