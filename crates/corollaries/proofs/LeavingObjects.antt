-- What a call that is not refused leaves of events, mutexes, timers and DPCs: the one reads so, and every other as before; and what the release
-- of memory takes out.
use Prim.Native.Nat.{ℕ, suc, ◌+◌}
use mathlib.Core.List.{List}
use mathlib.Core.Bool.{Bool, true, false, cond}
use mathlib.Core.Option.{Option, none, some}
use mathlib.Core.Path.{◌≡◌, refl, sym, ap, ◌∙◌, subst}
use borrow.Author.Tests.{ne_eqb}
use lib.IntN.{ℤ, pos, negsuc}
use lib.ListN.{length, get_or}
use Rattle.arch.specs.declared.Architecture.{Architecture}
use Rattle.images.specs.declared.TimerBacking.{TimerBacking}
use Rattle.images.specs.declared.Timer.{Timer}
use Rattle.images.specs.declared.Dpc.{Dpc}
use Rattle.images.specs.declared.DpcWork.{DpcWork}
use Rattle.words.specs.Layout as at
use Rattle.calls.specs.Run.{answered, left, Lent}
use Rattle.model.specs.State.{State, Event, Object, event, timer, unselected, cpu0_dispatch}
use Rattle.model.specs.Waits.{as_mutex, as_event, as_timer, timer_at}
use Rattle.model.specs.Answer.{None, ThreadNumber, Flag, Number}
use Rattle.model.specs.Call.{Call, InitializeMutex, InitializeEvent, AdoptMutex, ResetEvent, RetireEventBacking, InitializeTimer, InitializeDpc, SetTimer, SetTimerSigned, CancelTimer, RetireTimerBacking, ConfigureDpcDispatch}
use Rattle.model.specs.Call as call
use Rattle.model.specs.Reads.{number_or_none}
use Rattle.model.specs.Step.{step, refusal}
use Rattle.model.specs.Start.{Start, Accepted}
use Rattle.model.specs.Fits.{Fits}
use Rattle.model.specs.Leaving as leaving
use Rattle.model.specs.Leaving.{set_with, taken_out, fresh_timer, fresh_dpc, one_more_removed, kept_owner, Leaves, OwnQueued, CancelsWork}
use Rattle.model.proofs.ObjectsLeft as log-leaves
use Rattle.model.proofs.CancelLaws.{cancels-work}
use Rattle.model.proofs.Retired as log-retired
use Rattle.theorem.specs.History.{Proper}
use Rattle.theorem.specs.Theorem.{logged, end}
use Rattle.corollaries.specs.Reads.{EventRead, TimerRead}
use Rattle.corollaries.specs.Refusals.{is_refused}
use Rattle.corollaries.specs.Leaving as reading
use Rattle.corollaries.specs.Leaving.{OtherwiseRead, EventLeft, TimerLeft, OwnerLeft, owner_answer, OwnQueuedRead, WorkRead, TimerCancelled, DpcLeft, PolicyLeft, TimersGone, EventsGone}
use Rattle.corollaries.proofs.Next.{agree, next, valid}
use Rattle.corollaries.proofs.Refusals.{passed-by}
use Rattle.corollaries.proofs.LeavingReads.{Tells, tells, tells-after, event-read, no-event-read, read-event, owner-read, timer-read, no-timer-read, read-timer, dpc-read, no-dpc-read, read-dpc, policy-read, read-policy, counters-read, read-counters, timers-made-read, read-timers-made, dpcs-made-read, read-dpcs-made, same_event, same-owner, same_timer, same_dpc, same_queue, same_counters, same-policy, threads-read, objects-read, dpcs-read, all-objects-read, all-dpcs-read}

module _ (w : List ℕ) (start : Start) (calls : List Call) (accepted : Accepted (length w) start) (proper : Proper (length w) calls) where
  abbrev words : List ℕ
  words = end w start calls

  abbrev log : State
  log = logged w start calls

  before : Tells words log
  before = tells w start calls accepted proper

  -- a call that is not refused
  module _ (c : Call) (fit : Fits c) (lent : Lent (length w) c) where
    abbrev s₁ : State
    s₁ = (step c log).state

    abbrev words₁ : List ℕ
    words₁ = left words c

    after : Tells (left words c) (step c log).state
    after = tells-after w start calls accepted proper c fit lent

    passed : is_refused (answered words c) ≡ false → refusal c log ≡ 0
    passed = passed-by w start calls accepted proper c fit lent

    answers : answered words c ≡ (step c log).answer
    answers = (next w start calls accepted proper c fit lent).answers

    rest : (key : ℕ) (x : Object) → Leaves log s₁ key x → OtherwiseRead words words₁ key
    rest key x p = record {
      threads = threads-read words words₁ log s₁ before after p.object.threads;
      objects = objects-read words words₁ log s₁ before after p.object.others;
      dpcs = all-dpcs-read words words₁ log s₁ before after p.dpcs;
      policy = same-policy words words₁ log s₁ before after p.policy;
    }

    event-left : (key : ℕ) (x : Event) → Leaves log s₁ key (event x) → EventLeft words words₁ key x
    event-left key x p = record { event = event-read words₁ s₁ after key x (ap as_event p.object.own); rest = rest key (event x) p }

    timer-left : (address : ℕ) (x : Timer) → Leaves log s₁ address (timer x) → TimerLeft words words₁ address x
    timer-left address x p = record { timer = timer-read words₁ s₁ after address x (ap as_timer p.object.own); rest = rest address (timer x) p }

  -- ---- events

  -- a reset answers whether the event was signaled, and leaves it unsignaled
  pub reset-leaves : (key : ℕ) (x : Event) → EventRead words key x → Fits (ResetEvent key) → is_refused (answered words (ResetEvent key)) ≡ false
      → (answered words (ResetEvent key) ≡ Flag x.signaled) × EventLeft words (left words (ResetEvent key)) key (record { key = x.key; manual = x.manual; signaled = false })
  reset-leaves key x read fit ok =
      let c = ResetEvent key in
      let r = log-leaves.reset-leaves log key x (passed c fit tt ok) (read-event words log before key x read) in
      (answers c fit tt ∙ r.0, event-left c fit tt key _ r.1)

  pub initialize-event-leaves : (key : ℕ) (manual signaled : Bool) → Fits (InitializeEvent key manual signaled) → is_refused (answered words (InitializeEvent key manual signaled)) ≡ false
      → EventLeft words (left words (InitializeEvent key manual signaled)) key (record { key = key; manual = manual; signaled = signaled })
  initialize-event-leaves key manual signaled fit ok =
      let c = InitializeEvent key manual signaled in event-left c fit tt key _ (log-leaves.initialize-event-leaves log key manual signaled (passed c fit tt ok))

  -- ---- mutexes

  -- a new mutex has no owner
  pub initialize-mutex-leaves : (key : ℕ) → Fits (InitializeMutex key) → is_refused (answered words (InitializeMutex key)) ≡ false → OwnerLeft words (left words (InitializeMutex key)) key None
  initialize-mutex-leaves key fit ok =
      let c = InitializeMutex key in
      let p = log-leaves.initialize-mutex-leaves log key (passed c fit tt ok) in
      record { owner = owner-read (left words c) (step c log).state (after c fit tt) key _ (ap as_mutex p.object.own); rest = rest c fit tt key _ p }

  -- an adopted mutex has the owner that is given
  pub adopt-leaves : (key : ℕ) (owner : Option ℕ) → Fits (AdoptMutex key owner) → is_refused (answered words (AdoptMutex key owner)) ≡ false → OwnerLeft words (left words (AdoptMutex key owner)) key (owner_answer owner)
  adopt-leaves key owner fit ok =
      let c = AdoptMutex key owner in
      let p = log-leaves.adopt-leaves log key owner (passed c fit tt ok) in
      record { owner = owner-read (left words c) (step c log).state (after c fit tt) key _ (ap as_mutex p.object.own) ∙ told owner (passed c fit tt ok); rest = rest c fit tt key _ p }
    where
      told : (o : Option ℕ) → refusal (AdoptMutex key o) log ≡ 0 → number_or_none (kept_owner o) ≡ owner_answer o
      told none e = refl
      told (some i) e = ap (λ (b : Bool). cond b None (ThreadNumber i)) (ne_eqb i 0 (log-leaves.adopts-thread log key i e))

  -- ---- timers

  -- a set that is not refused has a period from 0 on
  pub set-period : (address due : ℕ) (absolute : Bool) (period : ℤ) (dpc : ℕ) → Fits (SetTimer address due absolute period dpc) → is_refused (answered words (SetTimer address due absolute period dpc)) ≡ false
      → (n : ℕ) × (period ≡ pos n)
  set-period address due absolute period dpc fit ok = log-leaves.set-period log address due absolute period dpc (passed (SetTimer address due absolute period dpc) fit tt ok)

  pub set-signed-period : (address : ℕ) (due period : ℤ) (dpc : ℕ) → Fits (SetTimerSigned address due period dpc) → is_refused (answered words (SetTimerSigned address due period dpc)) ≡ false → (n : ℕ) × (period ≡ pos n)
  set-signed-period address due period dpc fit ok = log-leaves.set-signed-period log address due period dpc (passed (SetTimerSigned address due period dpc) fit tt ok)

  module _ (address : ℕ) (x : Timer) (read : TimerRead words address x) where
    was : timer_at log.dispatcher.objects address ≡ some x
    was = read-timer words log before address x read

    -- `set_timer` answers whether it was inserted, and leaves it unsignaled, inserted, with that due, period and DPC, one arm later
    pub set-timer-leaves : (due : ℕ) (absolute : Bool) (period dpc : ℕ) → Fits (SetTimer address due absolute (pos period) dpc) → is_refused (answered words (SetTimer address due absolute (pos period) dpc)) ≡ false
        → (answered words (SetTimer address due absolute (pos period) dpc) ≡ Flag x.inserted)
        × TimerLeft words (left words (SetTimer address due absolute (pos period) dpc)) address (set_with x due absolute period dpc)
    set-timer-leaves due absolute period dpc fit ok =
        let c = SetTimer address due absolute (pos period) dpc in
        let r = log-leaves.set-timer-leaves log address due absolute period dpc x (passed c fit tt ok) was in
        (answers c fit tt ∙ r.0, timer-left c fit tt address _ r.1)

    -- a signed due from 0 on is that due, absolute
    pub set-timer-signed-absolute : (due period dpc : ℕ) → Fits (SetTimerSigned address (pos due) (pos period) dpc) → is_refused (answered words (SetTimerSigned address (pos due) (pos period) dpc)) ≡ false
        → (answered words (SetTimerSigned address (pos due) (pos period) dpc) ≡ Flag x.inserted)
        × TimerLeft words (left words (SetTimerSigned address (pos due) (pos period) dpc)) address (set_with x due true period dpc)
    set-timer-signed-absolute due period dpc fit ok =
        let c = SetTimerSigned address (pos due) (pos period) dpc in
        let r = log-leaves.set-timer-signed-absolute log address due period dpc x (passed c fit tt ok) was in
        (answers c fit tt ∙ r.0, timer-left c fit tt address _ r.1)

    -- a negative one, `negsuc n` for −(n + 1), is the time of the words plus its magnitude, relative
    pub set-timer-signed-relative : (n period dpc : ℕ) → Fits (SetTimerSigned address (negsuc n) (pos period) dpc) → is_refused (answered words (SetTimerSigned address (negsuc n) (pos period) dpc)) ≡ false
        → (answered words (SetTimerSigned address (negsuc n) (pos period) dpc) ≡ Flag x.inserted)
        × TimerLeft words (left words (SetTimerSigned address (negsuc n) (pos period) dpc)) address (set_with x (get_or words at.now 0 + suc n) false period dpc)
    set-timer-signed-relative n period dpc fit ok =
        let c = SetTimerSigned address (negsuc n) (pos period) dpc in
        let r = log-leaves.set-timer-signed-relative log address n period dpc x (passed c fit tt ok) was in (
          answers c fit tt ∙ r.0,
          timer-left c fit tt address _
              (subst (λ (now : ℕ). Leaves log (step c log).state address (timer (set_with x (now + suc n) false period dpc))) (sym ((agree w start calls accepted proper).numbers at.now _ refl)) r.1),
        )

    -- a cancel answers whether it was inserted, leaves it not inserted, and removes the work that it has queued, under a policy, and no other
    pub cancel-leaves : Fits (CancelTimer address) → is_refused (answered words (CancelTimer address)) ≡ false
        → (answered words (CancelTimer address) ≡ Flag x.inserted) × TimerCancelled words (left words (CancelTimer address)) address x (taken_out x)
    cancel-leaves fit ok =
        let c = CancelTimer address in
        let r = log-leaves.cancel-leaves log address x (passed c fit tt ok) was in (
          answers c fit tt ∙ r.0,
          record {
            timer = timer-read (left words c) (step c log).state (after c fit tt) address _ (ap as_timer r.1.own);
            threads = threads-read words (left words c) log (step c log).state before (after c fit tt) r.1.threads;
            objects = objects-read words (left words c) log (step c log).state before (after c fit tt) r.1.others;
            work = work (cancels-work log address x (passed c fit tt ok) was);
          },
        )
      where
        s' : State
        s' = (step (CancelTimer address) log).state

        words' : List ℕ
        words' = left words (CancelTimer address)

        queued : (d : Dpc) (k : DpcWork) → OwnQueued log x d k → OwnQueuedRead words x d k
        queued d k o = record {
          inserted = o.inserted;
          policy = λ e. o.policy (read-policy words log before unselected e);
          some_dpc = o.some_dpc;
          dpc = dpc-read words log before x.dpc d o.found;
          queued = o.queued;
          own = o.own;
        }

        read-queued : (d : Dpc) (k : DpcWork) → OwnQueuedRead words x d k → OwnQueued log x d k
        read-queued d k o = record {
          inserted = o.inserted;
          policy = λ e. o.policy (policy-read words log before unselected e);
          some_dpc = o.some_dpc;
          found = read-dpc words log before x.dpc d o.dpc;
          queued = o.queued;
          own = o.own;
        }

        work : CancelsWork log s' x → WorkRead words words' x
        work (leaving.removes d k o m) = reading.removes d k (queued d k o) (record {
          dpc = dpc-read words' s' (after (CancelTimer address) fit tt) d.address _ m.own;
          others = λ a n. same_dpc words words' log s' before (after (CancelTimer address) fit tt) a (m.others a n);
          counters = λ c e. counters-read words' s' (after (CancelTimer address) fit tt) _ (m.counters ∙ ap one_more_removed (read-counters words log before c e));
        })
        work (leaving.leaves n e) = reading.leaves (λ d k o. n d k (read-queued d k o)) (all-dpcs-read words words' log s' before (after (CancelTimer address) fit tt) e)

  -- a new timer is neither signaled nor inserted, never set, and bears the number of its initialization
  pub initialize-timer-leaves : (address : ℕ) (a : Architecture) (b : TimerBacking) (manual : Bool) (n : ℕ) → answered words (call.Reads call.TimerInitializations) ≡ Number n
      → Fits (InitializeTimer address a b manual) → is_refused (answered words (InitializeTimer address a b manual)) ≡ false
      → (TimerLeft words (left words (InitializeTimer address a b manual)) address (fresh_timer address a b manual (n + 1)))
      × (answered (left words (InitializeTimer address a b manual)) (call.Reads call.TimerInitializations) ≡ Number (n + 1))
  initialize-timer-leaves address a b manual n count fit ok =
      let c = InitializeTimer address a b manual in
      let e = read-timers-made words log before n count in
      let p = log-leaves.initialize-timer-leaves log address a b manual (passed c fit tt ok) in (
        timer-left c fit tt address _ (subst (λ (k : ℕ). Leaves log (step c log).state address (timer (fresh_timer address a b manual (k + 1)))) e p.0),
        timers-made-read (left words c) (step c log).state (after c fit tt) (n + 1) (p.1 ∙ ap (λ (k : ℕ). k + 1) e),
      )

  -- ---- DPCs

  -- a new DPC is idle, with its routine and its context, and there is one initialization more
  pub initialize-dpc-leaves : (address : ℕ) (a : Architecture) (b : TimerBacking) (routine context : ℕ) (n : ℕ) → answered words (call.Reads call.DpcInitializations) ≡ Number n
      → Fits (InitializeDpc address a b routine context) → is_refused (answered words (InitializeDpc address a b routine context)) ≡ false
      → (DpcLeft words (left words (InitializeDpc address a b routine context)) address (fresh_dpc address a b routine context))
      × (answered (left words (InitializeDpc address a b routine context)) (call.Reads call.DpcInitializations) ≡ Number (n + 1))
  initialize-dpc-leaves address a b routine context n count fit ok =
      let c = InitializeDpc address a b routine context in
      let r = log-leaves.initialize-dpc-leaves log address a b routine context (passed c fit tt ok) in
      let p = r.0 in (
        record {
          dpc = dpc-read (left words c) (step c log).state (after c fit tt) address _ p.own;
          threads = threads-read words (left words c) log (step c log).state before (after c fit tt) p.threads;
          objects = all-objects-read words (left words c) log (step c log).state before (after c fit tt) p.objects;
          others = dpcs-read words (left words c) log (step c log).state before (after c fit tt) p.others p.queue p.counters;
        },
        dpcs-made-read (left words c) (step c log).state (after c fit tt) (n + 1) (r.1 ∙ ap (λ (k : ℕ). k + 1) (read-dpcs-made words log before n count)),
      )

  -- the policy has the two arguments in their order
  pub configure-leaves : (first second : ℕ) → Fits (ConfigureDpcDispatch first second) → is_refused (answered words (ConfigureDpcDispatch first second)) ≡ false
      → PolicyLeft words (left words (ConfigureDpcDispatch first second)) (cpu0_dispatch first second)
  configure-leaves first second fit ok =
      let c = ConfigureDpcDispatch first second in
      let p = log-leaves.configure-leaves log first second (passed c fit tt ok) in
      record {
        policy = policy-read (left words c) (step c log).state (after c fit tt) (cpu0_dispatch first second) p.policy;
        threads = threads-read words (left words c) log (step c log).state before (after c fit tt) p.threads;
        objects = all-objects-read words (left words c) log (step c log).state before (after c fit tt) p.objects;
        dpcs = all-dpcs-read words (left words c) log (step c log).state before (after c fit tt) p.dpcs;
      }

  -- ---- memory given back

  -- exactly the timers and the DPCs that have a byte in it are gone
  pub retire-timers : (address size : ℕ) → Fits (RetireTimerBacking address size) → is_refused (answered words (RetireTimerBacking address size)) ≡ false
      → TimersGone words (left words (RetireTimerBacking address size)) address size
  retire-timers address size fit ok =
      let c = RetireTimerBacking address size in
      let s' = (step c log).state in
      let a = after c fit tt in
      let r = log-retired.retire-timers log (valid w start calls accepted proper) address size (passed c fit tt ok) in
      record {
        timer_gone = λ k x e h. no-timer-read (left words c) s' a k (r.timer_gone k x (read-timer words log before k x e) h);
        timer_stays = λ k h. same_timer words (left words c) log s' before a k (r.timer_stays k (λ x e. h x (timer-read words log before k x e)));
        dpc_gone = λ k x e h. no-dpc-read (left words c) s' a k (r.dpc_gone k x (read-dpc words log before k x e) h);
        dpc_stays = λ k h. same_dpc words (left words c) log s' before a k (r.dpc_stays k (λ x e. h x (dpc-read words log before k x e)));
        events = λ k. same_event words (left words c) log s' before a k (r.events k);
        mutexes = λ k. same-owner words (left words c) log s' before a k (r.mutexes k);
        queue = same_queue words (left words c) log s' before a r.queue;
        counters = same_counters words (left words c) log s' before a r.counters;
        threads = threads-read words (left words c) log s' before a r.threads;
      }

  -- exactly the events, of `layout` bytes each, that have one in it are gone
  pub retire-events : (base size layout : ℕ) → Fits (RetireEventBacking base size layout) → is_refused (answered words (RetireEventBacking base size layout)) ≡ false
      → EventsGone words (left words (RetireEventBacking base size layout)) base size layout
  retire-events base size layout fit ok =
      let c = RetireEventBacking base size layout in
      let s' = (step c log).state in
      let a = after c fit tt in
      let r = log-retired.retire-events log (valid w start calls accepted proper) base size layout (passed c fit tt ok) in
      record {
        event_gone = λ k x e h. no-event-read (left words c) s' a k (r.event_gone k x (read-event words log before k x e) h);
        event_stays = λ k h. same_event words (left words c) log s' before a k (r.event_stays k (λ x e. h x (event-read words log before k x e)));
        mutexes = λ k. same-owner words (left words c) log s' before a k (r.mutexes k);
        timers = λ k. same_timer words (left words c) log s' before a k (r.timers k);
        dpcs = all-dpcs-read words (left words c) log s' before a r.dpcs;
        threads = threads-read words (left words c) log s' before a r.threads;
      }
