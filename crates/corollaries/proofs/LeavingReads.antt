-- What the code's reads answer, by the log's state that the words tell: of one state, and of the states before and after a call.
use Prim.Native.Nat.{ℕ}
use mathlib.Core.List.{List}
use mathlib.Core.Option.{Option, none, some}
use mathlib.Core.Path.{◌≡◌, sym, ap, ◌∙◌}
use lib.ListN.{length}
use Rattle.images.specs.declared.Timer.{Timer}
use Rattle.images.specs.declared.Dpc.{Dpc}
use Rattle.calls.specs.Run.{answered, left, Lent}
use Rattle.model.specs.Lists.{nth, given}
use Rattle.model.specs.State as state
use Rattle.model.specs.State.{State, Mutex, Event, Object, Counters, Dpcs, Policy}
use Rattle.model.specs.Waits.{object_at, as_mutex, as_event, as_timer, mutex_at, event_at, timer_at}
use Rattle.model.specs.Dpcs.{dpc_at}
use Rattle.model.specs.Answer.{Answer, Refused, None, ThreadNumber, Number, ThreadIs, EventIs, TimerIs, DpcIs, PolicyIs, CountersAre}
use Rattle.model.specs.Call.{Call}
use Rattle.model.specs.Call as call
use Rattle.model.specs.Reads.{number_or_none}
use Rattle.model.specs.Step.{step}
use Rattle.model.specs.Start.{Start, Accepted}
use Rattle.model.specs.Fits.{Fits}
use Rattle.model.specs.Leaving.{thread_numbered, SameThreads, ThreadPut, Becomes}
use Rattle.model.proofs.PutLaws.{numbered_in}
use Rattle.model.proofs.Told.{current-answers, thread-answers, owner-answers, event-answers, timer-answers, dpc-answers, queue-answers, counters-answers, policy-answers, timers-made-answers, dpcs-made-answers, current-told, numbered-told, told-owner, event-told, told-event, timer-told, told-timer, dpc-told, told-dpc}
use Rattle.theorem.specs.History.{Proper}
use Rattle.theorem.specs.Theorem.{logged, end}
use Rattle.corollaries.specs.Reads.{ThreadRead, EventRead, TimerRead, DpcRead}
use Rattle.corollaries.specs.Leaving.{Same, ThreadsRead, ObjectsRead, DpcsRead, Every, ThreadBecomes, ThreadLeft}
use Rattle.corollaries.proofs.Next.{next, next-but-one}

number_same : (m n : ℕ) → Number m ≡ Number n → m ≡ n
number_same m n e = cc

policy-same : (p q : Policy) → PolicyIs p ≡ PolicyIs q → p ≡ q
policy-same p q e = cc

counters-same : (c d : Counters) → CountersAre c ≡ CountersAre d → c ≡ d
counters-same c d e = cc

-- the words tell the state: every read answers what it answers on it
abbrev pub Tells : List ℕ → State → Type 0
Tells w s = (r : call.Read) → answered w (call.Reads r) ≡ (step (call.Reads r) s).answer

-- ---- of one state

module _ (w : List ℕ) (s : State) (t : Tells w s) where
  pub thread-read : (i : ℕ) (x : state.Thread) → thread_numbered s i ≡ some x → ThreadRead w i x
  thread-read i x e = t (call.Thread i) ∙ thread-answers s i ∙ ap (λ (o : Option state.Thread). given o None (ThreadIs i)) e

  pub no-thread-read : (i : ℕ) → thread_numbered s i ≡ none → answered w (call.Reads (call.Thread i)) ≡ None
  no-thread-read i e = t (call.Thread i) ∙ thread-answers s i ∙ ap (λ (o : Option state.Thread). given o None (ThreadIs i)) e

  pub read-thread : (i : ℕ) (x : state.Thread) → ThreadRead w i x → thread_numbered s i ≡ some x
  read-thread i x e = numbered-told s i x (sym (t (call.Thread i)) ∙ e)

  pub current-read : (n : ℕ) → s.dispatcher.current ≡ n → answered w (call.Reads call.Current) ≡ number_or_none n
  current-read n e = t call.Current ∙ current-answers s ∙ ap number_or_none e

  -- the current thread's number
  pub read-current : (i : ℕ) → answered w (call.Reads call.Current) ≡ ThreadNumber i → s.dispatcher.current ≡ i
  read-current i e = current-told s i (sym (t call.Current) ∙ e)

  pub event-read : (k : ℕ) (x : Event) → event_at s.dispatcher.objects k ≡ some x → EventRead w k x
  event-read k x e = t (call.EventState k) ∙ told-event s k x e

  pub no-event-read : (k : ℕ) → event_at s.dispatcher.objects k ≡ none → answered w (call.Reads (call.EventState k)) ≡ None
  no-event-read k e = t (call.EventState k) ∙ event-answers s k ∙ ap (λ (o : Option Event). given o None EventIs) e

  pub read-event : (k : ℕ) (x : Event) → EventRead w k x → event_at s.dispatcher.objects k ≡ some x
  read-event k x e = event-told s k x (sym (t (call.EventState k)) ∙ e)

  pub owner-read : (k : ℕ) (m : Mutex) → mutex_at s.dispatcher.objects k ≡ some m → answered w (call.Reads (call.MutexOwner k)) ≡ number_or_none m.owner
  owner-read k m e = t (call.MutexOwner k) ∙ told-owner s k m e

  pub timer-read : (k : ℕ) (x : Timer) → timer_at s.dispatcher.objects k ≡ some x → TimerRead w k x
  timer-read k x e = t (call.TimerAt k) ∙ told-timer s k x e

  pub no-timer-read : (k : ℕ) → timer_at s.dispatcher.objects k ≡ none → answered w (call.Reads (call.TimerAt k)) ≡ Refused 2
  no-timer-read k e = t (call.TimerAt k) ∙ timer-answers s k ∙ ap (λ (o : Option Timer). given o (Refused 2) TimerIs) e

  pub read-timer : (k : ℕ) (x : Timer) → TimerRead w k x → timer_at s.dispatcher.objects k ≡ some x
  read-timer k x e = timer-told s k x (sym (t (call.TimerAt k)) ∙ e)

  pub dpc-read : (a : ℕ) (x : Dpc) → dpc_at s.dpcs.table a ≡ some x → DpcRead w a x
  dpc-read a x e = t (call.DpcAt a) ∙ told-dpc s a x e

  pub no-dpc-read : (a : ℕ) → dpc_at s.dpcs.table a ≡ none → answered w (call.Reads (call.DpcAt a)) ≡ Refused 2
  no-dpc-read a e = t (call.DpcAt a) ∙ dpc-answers s a ∙ ap (λ (o : Option Dpc). given o (Refused 2) DpcIs) e

  pub read-dpc : (a : ℕ) (x : Dpc) → DpcRead w a x → dpc_at s.dpcs.table a ≡ some x
  read-dpc a x e = dpc-told s a x (sym (t (call.DpcAt a)) ∙ e)

  pub policy-read : (p : Policy) → s.policy ≡ p → answered w (call.Reads call.DpcPolicy) ≡ PolicyIs p
  policy-read p e = t call.DpcPolicy ∙ policy-answers s ∙ ap PolicyIs e

  pub read-policy : (p : Policy) → answered w (call.Reads call.DpcPolicy) ≡ PolicyIs p → s.policy ≡ p
  read-policy p e = policy-same s.policy p (sym (t call.DpcPolicy ∙ policy-answers s) ∙ e)

  pub counters-read : (c : Counters) → s.dpcs.counters ≡ c → answered w (call.Reads call.DpcCounters) ≡ CountersAre c
  counters-read c e = t call.DpcCounters ∙ counters-answers s ∙ ap CountersAre e

  pub read-counters : (c : Counters) → answered w (call.Reads call.DpcCounters) ≡ CountersAre c → s.dpcs.counters ≡ c
  read-counters c e = counters-same s.dpcs.counters c (sym (t call.DpcCounters ∙ counters-answers s) ∙ e)

  pub timers-made-read : (n : ℕ) → s.timer_initializations ≡ n → answered w (call.Reads call.TimerInitializations) ≡ Number n
  timers-made-read n e = t call.TimerInitializations ∙ timers-made-answers s ∙ ap Number e

  pub read-timers-made : (n : ℕ) → answered w (call.Reads call.TimerInitializations) ≡ Number n → s.timer_initializations ≡ n
  read-timers-made n e = number_same s.timer_initializations n (sym (t call.TimerInitializations ∙ timers-made-answers s) ∙ e)

  pub dpcs-made-read : (n : ℕ) → s.dpc_initializations ≡ n → answered w (call.Reads call.DpcInitializations) ≡ Number n
  dpcs-made-read n e = t call.DpcInitializations ∙ dpcs-made-answers s ∙ ap Number e

  pub read-dpcs-made : (n : ℕ) → answered w (call.Reads call.DpcInitializations) ≡ Number n → s.dpc_initializations ≡ n
  read-dpcs-made n e = number_same s.dpc_initializations n (sym (t call.DpcInitializations ∙ dpcs-made-answers s) ∙ e)

-- ---- of the states before and after a call

module _ (before after : List ℕ) (s s' : State) (b : Tells before s) (a : Tells after s') where
  -- a read that finds the same answers the same
  by-found : {A : Type 0} (r : call.Read) (f : A → Answer) (x y : A) → (step (call.Reads r) s).answer ≡ f x → (step (call.Reads r) s').answer ≡ f y → y ≡ x → Same before after r
  by-found r f x y p q e = a r ∙ q ∙ ap f e ∙ sym (b r ∙ p)

  pub same-thread : (i : ℕ) → thread_numbered s' i ≡ thread_numbered s i → Same before after (call.Thread i)
  same-thread i = by-found (call.Thread i) (λ o. given o None (ThreadIs i)) (thread_numbered s i) (thread_numbered s' i) (thread-answers s i) (thread-answers s' i)

  pub same-current : s'.dispatcher.current ≡ s.dispatcher.current → Same before after call.Current
  same-current = by-found call.Current number_or_none s.dispatcher.current s'.dispatcher.current (current-answers s) (current-answers s')

  pub same_event : (k : ℕ) → event_at s'.dispatcher.objects k ≡ event_at s.dispatcher.objects k → Same before after (call.EventState k)
  same_event k = by-found (call.EventState k) (λ o. given o None EventIs) (event_at s.dispatcher.objects k) (event_at s'.dispatcher.objects k) (event-answers s k) (event-answers s' k)

  pub same-owner : (k : ℕ) → mutex_at s'.dispatcher.objects k ≡ mutex_at s.dispatcher.objects k → Same before after (call.MutexOwner k)
  same-owner k = by-found (call.MutexOwner k) (λ o. given o (Refused 2) (λ (m : Mutex). number_or_none m.owner)) (mutex_at s.dispatcher.objects k) (mutex_at s'.dispatcher.objects k) (owner-answers s k) (owner-answers s' k)

  pub same_timer : (k : ℕ) → timer_at s'.dispatcher.objects k ≡ timer_at s.dispatcher.objects k → Same before after (call.TimerAt k)
  same_timer k = by-found (call.TimerAt k) (λ o. given o (Refused 2) TimerIs) (timer_at s.dispatcher.objects k) (timer_at s'.dispatcher.objects k) (timer-answers s k) (timer-answers s' k)

  pub same_dpc : (k : ℕ) → dpc_at s'.dpcs.table k ≡ dpc_at s.dpcs.table k → Same before after (call.DpcAt k)
  same_dpc k = by-found (call.DpcAt k) (λ o. given o (Refused 2) DpcIs) (dpc_at s.dpcs.table k) (dpc_at s'.dpcs.table k) (dpc-answers s k) (dpc-answers s' k)

  pub same_queue : s'.dpcs.queue ≡ s.dpcs.queue → (k : ℕ) → Same before after (call.QueuedDpcs k)
  same_queue e k = by-found (call.QueuedDpcs k) (λ l. given (nth l k) None Number) s.dpcs.queue s'.dpcs.queue (queue-answers s k) (queue-answers s' k) e

  pub same_counters : s'.dpcs.counters ≡ s.dpcs.counters → Same before after call.DpcCounters
  same_counters = by-found call.DpcCounters CountersAre s.dpcs.counters s'.dpcs.counters (counters-answers s) (counters-answers s')

  pub same-policy : s'.policy ≡ s.policy → Same before after call.DpcPolicy
  same-policy = by-found call.DpcPolicy PolicyIs s.policy s'.policy (policy-answers s) (policy-answers s')

  -- all of a kind

  pub threads-read : SameThreads s s' → ThreadsRead before after
  threads-read e = record { thread = λ i. same-thread i (ap (λ (l : List state.Thread). numbered_in l (length l) i) e.threads); current = same-current e.current }

  pub objects-read : {Stays : ℕ → Type 0} → ((k : ℕ) → Stays k → object_at s'.dispatcher.objects k ≡ object_at s.dispatcher.objects k) → ObjectsRead before after Stays
  objects-read h = record {
    event = λ k n. same_event k (ap as_event (h k n));
    mutex = λ k n. same-owner k (ap as_mutex (h k n));
    timer = λ k n. same_timer k (ap as_timer (h k n));
  }

  pub dpcs-read : {Stays : ℕ → Type 0} → ((k : ℕ) → Stays k → dpc_at s'.dpcs.table k ≡ dpc_at s.dpcs.table k) → s'.dpcs.queue ≡ s.dpcs.queue → s'.dpcs.counters ≡ s.dpcs.counters → DpcsRead before after Stays
  dpcs-read h q c = record { dpc = λ k n. same_dpc k (h k n); queue = same_queue q; counters = same_counters c }

  pub all-objects-read : s'.dispatcher.objects ≡ s.dispatcher.objects → ObjectsRead before after Every
  all-objects-read e = objects-read (λ k n. ap (λ (l : List Object). object_at l k) e)

  pub all-dpcs-read : s'.dpcs ≡ s.dpcs → DpcsRead before after Every
  all-dpcs-read e = dpcs-read (λ k n. ap (λ (q : Dpcs). dpc_at q.table k) e) (ap (λ (q : Dpcs). q.queue) e) (ap (λ (q : Dpcs). q.counters) e)

  pub thread-left : (i : ℕ) (x : state.Thread) → ThreadPut s s' i x → ThreadLeft before after i x
  thread-left i x p = record { thread = thread-read after s' a i x p.own; others = λ j n. same-thread j (p.others j n) }

  pub thread-becomes : {R : state.Thread → state.Thread → Type 0} (j : ℕ) → Becomes R s s' j → ThreadBecomes R before after j
  thread-becomes j h y e = let r = h y (read-thread before s b j y e) in (r.0, thread-read after s' a j r.0 r.1, r.2)

-- ---- after any list of calls, and after one call more

module _ (w : List ℕ) (start : Start) (calls : List Call) (accepted : Accepted (length w) start) (proper : Proper (length w) calls) where
  pub tells : Tells (end w start calls) (logged w start calls)
  tells r = (next w start calls accepted proper (call.Reads r) tt tt).answers

  pub tells-after : (c : Call) → Fits c → Lent (length w) c → Tells (left (end w start calls) c) (step c (logged w start calls)).state
  tells-after c fit lent r = (next-but-one w start calls accepted proper c (call.Reads r) fit lent tt tt).answers
