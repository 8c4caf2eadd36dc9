-- What a call that is not refused leaves of the threads: one that exits, waits, is woken or times out, is given a priority, is created.
use Prim.Native.Nat.{ℕ, ◌≤◌, ◌<◌}
use mathlib.Core.List.{List, []}
use mathlib.Core.Bool.{Bool, false}
use mathlib.Core.Option.{Option, some}
use mathlib.Core.Path.{◌≡◌, refl, sym, ap, ◌∙◌, subst}
use lib.ListN.{length, get_or}
use Rattle.words.specs.Layout as at
use Rattle.calls.specs.Run.{answered, left, Lent}
use Rattle.model.specs.State.{State, Thread, WaitResult, satisfied, timeout, Named}
use Rattle.model.specs.Threads.{thread_of}
use Rattle.model.specs.Refusal.{pairs}
use Rattle.model.specs.Answer.{ThreadNumber}
use Rattle.model.specs.Call.{Call, CreateThread, Priority, SetEvent, ReleaseMutex, Wait, DelayUntil, YieldCurrent, Terminate, AdvanceTo}
use Rattle.model.specs.Call as call
use Rattle.model.specs.Step.{step}
use Rattle.model.specs.Start.{Start, Accepted}
use Rattle.model.specs.Fits.{Fits}
use Rattle.model.specs.Valid.{Valid}
use Rattle.model.specs.Leaving as leaving
use Rattle.model.specs.Leaving.{given_priority, Names, OneThread, GoesOn, Ungranted, WaitLeaves, AfterAdvance, AfterWake, ThatEvent, ThatMutex, DueTimer, Exits, Yields}
use Rattle.model.proofs.ThreadsLeft as log-leaves
use Rattle.model.proofs.ThreadsLeft.{numbered_is}
use Rattle.theorem.specs.History.{Proper}
use Rattle.theorem.specs.Theorem.{logged, end}
use Rattle.corollaries.specs.Reads.{ThreadRead}
use Rattle.corollaries.specs.Refusals.{is_refused}
use Rattle.corollaries.specs.Leaving as read
use Rattle.corollaries.specs.Leaving.{Same, ThreadBecomes, DueRead, ExitRead, YieldRead, GoesOnRead, UngrantedRead, WaitRead, OneThreadRead, CreateRead}
use Rattle.corollaries.proofs.Next.{agree, next, valid}
use Rattle.corollaries.proofs.Refusals.{passed-by}
use Rattle.corollaries.proofs.LeavingReads.{Tells, tells, tells-after, thread-read, no-thread-read, read-thread, current-read, read-current, timer-read, same-current, all-objects-read, all-dpcs-read, thread-left, thread-becomes}

module _ (w : List ℕ) (start : Start) (calls : List Call) (accepted : Accepted (length w) start) (proper : Proper (length w) calls) where
  abbrev words : List ℕ
  words = end w start calls

  abbrev log : State
  log = logged w start calls

  v : Valid log
  v = valid w start calls accepted proper

  before : Tells words log
  before = tells w start calls accepted proper

  after : (c : Call) → Fits c → Lent (length w) c → Tells (left words c) (step c log).state
  after = tells-after w start calls accepted proper

  -- the time of the words
  now-is : get_or words at.now 0 ≡ log.now
  now-is = (agree w start calls accepted proper).numbers at.now _ refl

  -- ---- the current thread

  module _ (i : ℕ) (x : Thread) (current : answered words (call.Reads call.Current) ≡ ThreadNumber i) (thread : ThreadRead words i x) where
    current-is : log.dispatcher.current ≡ i
    current-is = read-current words log before i current

    -- what the log says of its current thread it says of thread `i`, which is `x`
    here : (P : ℕ → Thread → Type 0) → P log.dispatcher.current (thread_of log.dispatcher log.dispatcher.current) → P i x
    here P p = subst (P i) (numbered_is log i x (read-thread words log before i x thread)).1 (subst (λ (j : ℕ). P j (thread_of log.dispatcher j)) current-is p)

    -- after `terminate n` it reads as exited with `n`, and none is current
    pub terminate-exits : (n : ℕ) → Fits (Terminate n) → is_refused (answered words (Terminate n)) ≡ false → ExitRead words (left words (Terminate n)) i n x
    terminate-exits n fit ok =
        let c = Terminate n in
        let s' = (step c log).state in
        let r : Exits log s' i n x = here (λ j y. Exits log s' j n y) (log-leaves.terminate-exits log v n (passed-by w start calls accepted proper c fit tt ok)) in
        record {
          thread = thread-read (left words c) s' (after c fit tt) i _ r.own;
          current = current-read (left words c) s' (after c fit tt) 0 r.current;
          others = λ j n. thread-becomes words (left words c) log s' before (after c fit tt) j (r.others j n);
        }

    -- after a yield it reads as ready, none is current, and all else reads as before
    pub yield-leaves : is_refused (answered words YieldCurrent) ≡ false → YieldRead words (left words YieldCurrent) i x
    yield-leaves ok =
        let s' = (step YieldCurrent log).state in
        let r : Yields log s' i x = here (Yields log s') (log-leaves.yield-leaves log v (passed-by w start calls accepted proper YieldCurrent tt tt ok)) in
        record {
          thread = thread-left words (left words YieldCurrent) log s' before (after YieldCurrent tt tt) i _ r.thread;
          current = current-read (left words YieldCurrent) s' (after YieldCurrent tt tt) 0 r.current;
          objects = all-objects-read words (left words YieldCurrent) log s' before (after YieldCurrent tt tt) r.objects;
          dpcs = all-dpcs-read words (left words YieldCurrent) log s' before (after YieldCurrent tt tt) r.dpcs;
        }

    -- ---- waits

    module _ (c : Call) (fit : Fits c) (lent : Lent (length w) c) where
      abbrev s₁ : State
      s₁ = (step c log).state

      abbrev words₁ : List ℕ
      words₁ = left words c

      goes_on : (r : WaitResult) → GoesOn log s₁ i x r → GoesOnRead words words₁ i x r
      goes_on r g = record {
        thread = thread-left words words₁ log s₁ before (after c fit lent) i _ g.thread;
        current = current-read words₁ s₁ (after c fit lent) i g.current ∙ sym (current-read words log before i current-is) ∙ current;
      }

      ungranted : (ns : List Named) (all : Bool) (deadline : Option ℕ) → Ungranted log s₁ i x ns all deadline (step c log).answer → UngrantedRead words words₁ i x ns all deadline (answered words c)
      ungranted ns all deadline (leaving.times-out e end q h g o) =
          read.times-out ((next w start calls accepted proper c fit lent).answers ∙ e) end q (subst (λ (t : ℕ). end ≤ t) (sym now-is) h) (goes_on timeout g) (all-objects-read words words₁ log s₁ before (after c fit lent) o)
      ungranted ns all deadline (leaving.blocks e h b) = read.blocks ((next w start calls accepted proper c fit lent).answers ∙ e) (λ end q. subst (λ (t : ℕ). t < end) (sym now-is) (h end q)) (record {
        sequence = b.sequence;
        thread = thread-left words words₁ log s₁ before (after c fit lent) i _ b.thread;
        last = λ j z y e q. b.last j y (ap (λ (t : Thread). t.status) (numbered_is log j z (read-thread words log before j z e)).1 ∙ q);
        current = current-read words₁ s₁ (after c fit lent) 0 b.current;
        untouched = all-objects-read words words₁ log s₁ before (after c fit lent) b.untouched;
      })

    -- after a wait its result reads as the wait answered; one that blocks reads as waiting for just the objects that the list names, and none is current
    pub wait-result : (l : List ℕ) (all : Bool) (deadline : Option ℕ) (irql : ℕ) → Fits (Wait l all deadline irql) → is_refused (answered words (Wait l all deadline irql)) ≡ false
        → (objects : List Named) × (Names l objects) × WaitRead words (left words (Wait l all deadline irql)) i x objects all deadline (answered words (Wait l all deadline irql))
    wait-result l all deadline irql fit ok =
        let c = Wait l all deadline irql in
        (pairs l, log-leaves.names-pairs l, go (here (λ j y. WaitLeaves log (step c log).state j y (pairs l) all deadline (step c log).answer) (log-leaves.wait-result log v l all deadline irql (passed-by w start calls accepted proper c fit tt ok))))
      where
        go : let c = Wait l all deadline irql in WaitLeaves log (step c log).state i x (pairs l) all deadline (step c log).answer → WaitRead words (left words c) i x (pairs l) all deadline (answered words c)
        go (leaving.grants k e g) = read.grants k ((next w start calls accepted proper (Wait l all deadline irql) fit tt).answers ∙ e) (goes_on (Wait l all deadline irql) fit tt (satisfied k) g)
        go (leaving.otherwise u) = read.otherwise (ungranted (Wait l all deadline irql) fit tt (pairs l) all deadline u)

    -- a delay waits for no object
    pub delay-result : (deadline irql : ℕ) → Fits (DelayUntil deadline irql) → is_refused (answered words (DelayUntil deadline irql)) ≡ false
        → UngrantedRead words (left words (DelayUntil deadline irql)) i x [] false (some deadline) (answered words (DelayUntil deadline irql))
    delay-result deadline irql fit ok =
        let c = DelayUntil deadline irql in
        ungranted c fit tt [] false (some deadline)
        (here (λ j y. Ungranted log (step c log).state j y [] false (some deadline) (step c log).answer) (log-leaves.delay-result log v deadline irql (passed-by w start calls accepted proper c fit tt ok)))

  -- ---- a wake pass and the timeouts

  -- after a `set_event` every thread reads as before, or it waited for the event and reads as ready with the index of its wait
  pub set-event-leaves : (key : ℕ) → Fits (SetEvent key) → is_refused (answered words (SetEvent key)) ≡ false → (j : ℕ) → ThreadBecomes (AfterWake (ThatEvent key)) words (left words (SetEvent key)) j
  set-event-leaves key fit ok j =
      let c = SetEvent key in
      thread-becomes words (left words c) log (step c log).state before (after c fit tt) j (log-leaves.set-event-leaves log v key (passed-by w start calls accepted proper c fit tt ok) j)

  -- the same for the mutex that a `release_mutex` frees
  pub release-leaves : (key : ℕ) → Fits (ReleaseMutex key) → is_refused (answered words (ReleaseMutex key)) ≡ false → (j : ℕ) → ThreadBecomes (AfterWake (ThatMutex key)) words (left words (ReleaseMutex key)) j
  release-leaves key fit ok j =
      let c = ReleaseMutex key in
      thread-becomes words (left words c) log (step c log).state before (after c fit tt) j (log-leaves.release-leaves log v key (passed-by w start calls accepted proper c fit tt ok) j)

  -- after an advance every thread reads as before, with its deadline ahead; or it waited and reads as ready: with the index of its wait, for a timer
  -- that was due, or with a timeout, at a deadline that is reached
  pub advance-timeouts : (time : ℕ) → Fits (AdvanceTo time) → is_refused (answered words (AdvanceTo time)) ≡ false
      → (j : ℕ) → ThreadBecomes (AfterAdvance (DueRead words time) time) words (left words (AdvanceTo time)) j
  advance-timeouts time fit ok j y e =
      let c = AdvanceTo time in
      let r = thread-becomes words (left words c) log (step c log).state before (after c fit tt) j (log-leaves.advance-timeouts log v time (passed-by w start calls accepted proper c fit tt ok) j) y e in
      (r.0, r.1, go r.2)
    where
      due : (n : Named) → DueTimer log time n → DueRead words time n
      due n d = record { kind = d.kind; timer = d.timer; read = timer-read words log before n.key d.timer d.found; inserted = d.inserted; due = d.due }

      go : {z : Thread} → AfterAdvance (DueTimer log time) time y z → AfterAdvance (DueRead words time) time y z
      go (leaving.same q h) = leaving.same q h
      go (leaving.woken u p k g q) = leaving.woken u p k (record { place = g.place; which = g.which; named = g.named; freed = due g.which g.freed; index = g.index }) q
      go (leaving.timed-out u p t h l q) = leaving.timed-out u p t h l q

  -- it sets the time of the words
  pub advance-time : (time : ℕ) → Fits (AdvanceTo time) → is_refused (answered words (AdvanceTo time)) ≡ false → get_or (left words (AdvanceTo time)) at.now 0 ≡ time
  advance-time time fit ok =
      let c = AdvanceTo time in
      (next w start calls accepted proper c fit tt).agree.numbers at.now _ refl ∙ log-leaves.advance-time log v time (passed-by w start calls accepted proper c fit tt ok)

  -- and the same one is current
  pub advance-current : (time : ℕ) → Fits (AdvanceTo time) → is_refused (answered words (AdvanceTo time)) ≡ false → Same words (left words (AdvanceTo time)) call.Current
  advance-current time fit ok =
      let c = AdvanceTo time in
      same-current words (left words c) log (step c log).state before (after c fit tt) (log-leaves.advance-current log v time (passed-by w start calls accepted proper c fit tt ok))

  -- ---- a priority, a new thread

  one-thread : (c : Call) (fit : Fits c) (lent : Lent (length w) c) (i : ℕ) (x : Thread) → OneThread log (step c log).state i x → OneThreadRead words (left words c) i x
  one-thread c fit lent i x o =
      let s' = (step c log).state in
      record {
        thread = thread-left words (left words c) log s' before (after c fit lent) i x o.thread;
        current = same-current words (left words c) log s' before (after c fit lent) o.current;
        objects = all-objects-read words (left words c) log s' before (after c fit lent) o.objects;
        dpcs = all-dpcs-read words (left words c) log s' before (after c fit lent) o.dpcs;
      }

  -- the thread reads with the priority, and all else as before
  pub priority-leaves : (i p : ℕ) (x : Thread) → ThreadRead words i x → Fits (Priority i p) → is_refused (answered words (Priority i p)) ≡ false → OneThreadRead words (left words (Priority i p)) i (given_priority p x)
  priority-leaves i p x thread fit ok =
      let c = Priority i p in
      one-thread c fit tt i (given_priority p x)
      (subst (λ (y : Thread). OneThread log (step c log).state i (given_priority p y)) (numbered_is log i x (read-thread words log before i x thread)).1
      (log-leaves.priority-leaves log v i p (passed-by w start calls accepted proper c fit tt ok)))

  -- the new thread has a number that nobody had; it reads as ready, with the priority and no result, and all else as before
  pub create-leaves : (p : ℕ) → Fits (CreateThread p) → is_refused (answered words (CreateThread p)) ≡ false
      → (i : ℕ) × (answered words (CreateThread p) ≡ ThreadNumber i) × CreateRead words (left words (CreateThread p)) p i
  create-leaves p fit ok =
      let c = CreateThread p in
      let r = log-leaves.create-leaves log v p (passed-by w start calls accepted proper c fit tt ok) in
      (r.0, (next w start calls accepted proper c fit tt).answers ∙ r.1, record { new = no-thread-read words log before r.0 r.2.new; one = one-thread c fit tt r.0 _ r.2.one })
