-- What Microsoft's pages say that the kernel's routines report, in our own words, of a state before the call and one after it. Each definition names the page, by its routine, that it states.
use Rattle.std.specs.Prelude.{ℕ, ◌<◌, List, Bool, true, false, cond, not, ◌≡◌, eqb, leb}
use Rattle.std.proofs.Math.Option.{Option, none, some}
use Rattle.images.specs.declared.Timer.{Timer}
use Rattle.model.specs.Lists.{Mem, member, any, every, nth, given}
use Rattle.model.specs.State.{State, Named, Event, Object, mutex, event, timer}
use Rattle.model.specs.Threads.{is_thread, has_exited, status_of}
use Rattle.model.specs.Waits.{object_at, event_at, timer_at, named_in}
use Rattle.model.specs.Answer.{Answer, Flag, Satisfied, Timeout, Blocked}

-- the page of KeSetEvent: the value that it returns is not zero where the event was signaled before
abbrev pub was_signaled : State → ℕ → Bool
was_signaled s key = given (event_at s.dispatcher.objects key) false (λ (e : Event). e.signaled)

-- the pages of KeSetTimerEx and KeSetTimer: TRUE if the timer was in the timer queue already; the page of KeCancelTimer: TRUE if it was in the timer queue
abbrev pub in_timer_queue : State → ℕ → Bool
in_timer_queue s address = given (timer_at s.dispatcher.objects address) false (λ (t : Timer). t.inserted)

-- ---- KeInsertQueueDpc, KeRemoveQueueDpc

-- the DPC is in the queue, as the pages of KeInsertQueueDpc and KeRemoveQueueDpc speak of it
abbrev pub in_dpc_queue : State → ℕ → Bool
in_dpc_queue s address = member address s.dpcs.queue

-- the page of KeInsertQueueDpc: TRUE if the DPC was not in a queue and now is; FALSE if it was queued already, and then nothing of it changes
pub record InsertReports (before after : State) (address : ℕ) (answer : Answer) : Type 0 where
  pub says : answer ≡ Flag (not (in_dpc_queue before address))
  pub queued : in_dpc_queue after address ≡ true
  pub unchanged : in_dpc_queue before address ≡ true → (after.dpcs.table ≡ before.dpcs.table) × (after.dpcs.queue ≡ before.dpcs.queue)

-- the page of KeRemoveQueueDpc: TRUE if it was in the queue; it is not queued afterwards
pub record RemoveReports (before after : State) (address : ℕ) (answer : Answer) : Type 0 where
  pub says : answer ≡ Flag (in_dpc_queue before address)
  pub out : in_dpc_queue after address ≡ false

-- ---- KeWaitForMultipleObjects

-- the page of KeWaitForMultipleObjects speaks of objects in the signaled state: a mutex that nobody owns, an event or a timer that is signaled
abbrev pub is_signaled : Object → Bool
is_signaled (mutex m) = eqb m.owner 0
is_signaled (event e) = e.signaled
is_signaled (timer t) = t.signaled

-- the page of KeWaitForMultipleObjects, of an object of its Object array: the same, or a thread that has ended
abbrev pub signaled_now : State → Named → Bool
signaled_now s n =
    cond (eqb n.kind 3)
    (cond (is_thread s.dispatcher n.key) (has_exited (status_of s.dispatcher n.key)) false)
    (given (named_in s.dispatcher.objects n) false is_signaled)

-- the lowest index that the page of KeWaitForMultipleObjects reports for WaitAny: the object at position `i` is signaled and none before it is
pub record LowestSignaled (s : State) (ns : List Named) (i : ℕ) (n : Named) : Type 0 where
  pub at : nth ns i ≡ some n
  pub signaled : signaled_now s n ≡ true
  pub lowest : (j : ℕ) (m : Named) → j < i → nth ns j ≡ some m → signaled_now s m ≡ false

-- what the pages of KeWaitForMultipleObjects, KeInitializeEvent and KeInitializeTimerEx say that a wait does to an object that is signaled: the thread owns a mutex; an event or a timer for synchronization is signaled no
-- more, and one for notification stays as it is
abbrev pub after_wait : ℕ → Object → Object
after_wait id (mutex m) = mutex (record { key = m.key; owner = id })
after_wait id (event e) = event (record { key = e.key; manual = e.manual; signaled = cond e.manual e.signaled false })
after_wait id (timer t) =
    timer (record {
      address = t.address;
      architecture = t.architecture;
      backing = t.backing;
      manual_reset = t.manual_reset;
      signaled = cond t.manual_reset t.signaled false;
      inserted = t.inserted;
      due = t.due;
      period_ms = t.period_ms;
      dpc = t.dpc;
      absolute = t.absolute;
      arm_generation = t.arm_generation;
      initialization = t.initialization;
    })

-- the page of KeWaitForMultipleObjects: the thread has taken the object; a thread that ended stays so
abbrev pub TakenBy : ℕ → List Object → List Object → Named → Type 0
TakenBy id before after n = (o : Object) → named_in before n ≡ some o → object_at after n.key ≡ some (after_wait id o)

-- the Object array of KeWaitForMultipleObjects names the object with this key; a thread is no object of the table, and its number is no key
abbrev pub NamesObject : Named → ℕ → Type 0
NamesObject n k = (k ≡ n.key) × (n.kind ≡ 3 → ⊥)

-- the page of KeWaitForMultipleObjects, WaitAny: the lowest index among the objects that are signaled, which alone is taken
pub record WaitAny (before after : State) (id : ℕ) (ns : List Named) (i : ℕ) : Type 0 where
  pub which : Named
  pub lowest : LowestSignaled before ns i which
  pub taken : TakenBy id before.dispatcher.objects after.dispatcher.objects which
  pub alone : (k : ℕ) → (NamesObject which k → ⊥) → object_at after.dispatcher.objects k ≡ object_at before.dispatcher.objects k

-- the page of KeWaitForMultipleObjects, WaitAll: success once every one is, all taken together
pub record WaitAll (before after : State) (id : ℕ) (ns : List Named) : Type 0 where
  pub every : (n : Named) → Mem n ns → signaled_now before n ≡ true
  pub taken : (n : Named) → Mem n ns → TakenBy id before.dispatcher.objects after.dispatcher.objects n
  pub others : (k : ℕ) → ((n : Named) → Mem n ns → NamesObject n k → ⊥) → object_at after.dispatcher.objects k ≡ object_at before.dispatcher.objects k

-- the listed objects satisfy the wait, as the page of KeWaitForMultipleObjects has it: for WaitAny one of them is signaled, for WaitAll every one is
abbrev pub is_satisfied : State → List Named → Bool → Bool
is_satisfied s ns all = cond all (every (signaled_now s) ns) (any (signaled_now s) ns)

-- the page of KeWaitForMultipleObjects, its Timeout is zero or reached: its end is now or past; a wait without one has no end
abbrev pub timeout_over : State → Option ℕ → Bool
timeout_over s none = false
timeout_over s (some end) = leb end s.now

-- the page of KeWaitForMultipleObjects: what a wait of the thread reports, in every case
pub record WaitReports (before after : State) (id : ℕ) (ns : List Named) (all : Bool) (timeout : Option ℕ) (answer : Answer) : Type 0 where
  -- satisfied: WaitAny, and WaitAll
  pub one : all ≡ false → is_satisfied before ns all ≡ true → (i : ℕ) × (answer ≡ Satisfied i) × WaitAny before after id ns i
  pub each : all ≡ true → is_satisfied before ns all ≡ true → (answer ≡ Satisfied 0) × WaitAll before after id ns
  -- not satisfied: with a zero or reached timeout, timeout; else the thread waits; nothing is taken
  pub over : is_satisfied before ns all ≡ false → timeout_over before timeout ≡ true → answer ≡ Timeout
  pub waits : is_satisfied before ns all ≡ false → timeout_over before timeout ≡ false → answer ≡ Blocked
  pub untaken : is_satisfied before ns all ≡ false → after.dispatcher.objects ≡ before.dispatcher.objects
