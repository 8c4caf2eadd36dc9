-- Calls that accept no work: all but `open`, `insert_queue_dpc` and `advance_to`. They leave the duplicates and the acceptances, and what work
-- there is after them was there before.
use Prim.Native.Nat.{ℕ}
use mathlib.Core.List.{List, []}
use mathlib.Core.Bool.{Bool, true, false, cond, not}
use mathlib.Core.Path.{◌≡◌, refl, sym, ap, ◌∙◌}
use mathlib.Core.Option.{Option, none, some}
use native.Mathlib.Omega.{arith}
use native.Mathlib.Decide.{ℕ_discrete}
use lib.Dec.{leb, eqb}
use Rattle.arch.specs.declared.Architecture.{Architecture}
use Rattle.images.specs.declared.TimerBacking.{TimerBacking}
use Rattle.images.specs.declared.Timer.{Timer}
use Rattle.images.specs.declared.Dpc.{Dpc}
use Rattle.images.specs.declared.DpcWork.{DpcWork}
use Rattle.images.specs.declared.DpcPhase.{DpcPhase}
use Rattle.images.specs.declared.DpcPhase.TheVariants.{Idle, Queued, Running, Returning}
use Rattle.model.specs.Lists.{keep, is_empty, given}
use Rattle.model.specs.Table.{Rising}
use Rattle.model.specs.State.{State, Dpcs, Named, Mutex, Event, timer}
use Rattle.model.specs.Threads.{with_objects, next, ran}
use Rattle.model.specs.Waits.{mutex_at, event_at, timer_at, put_object, owned_by, signaled_as, is_met, wake, reached}
use Rattle.model.specs.Dpcs.{address_of, dpc_at, phase_at, put_dpc, in_phase, rephased, is_queued, work_of, withdrawn, started, returned, restored}
use Rattle.model.specs.Timers.{armed, cancelled}
use Rattle.model.specs.Refusal.{pairs, signed_due, is_negative, dpc_overlapped}
use Rattle.model.specs.Answer.{Outcome, gives, Done, Flag, Run}
use Rattle.model.specs.Call.{Call, Open, InsertQueueDpc, AdvanceTo}
use Rattle.model.specs.Call as call
use Rattle.model.specs.Step.{effect, with_dispatcher, with_dpcs, with_table, adopted, mutex_released, event_set, event_reset, events_retired, granted, timed_out, blocks, waited, delayed, idle_answer, dispatched, timer_initialized, dpc_initialized, period_of, timer_set, cancels_work, timer_cancelled, timers_retired, configured, dpc_removed, dpc_started, dpc_returned}
use Rattle.model.proofs.TableLaws.{none-some, find-put-own, find-put-other, kept-found}
use Rattle.model.proofs.DpcLaws.{phase-found, phase-own, phase-other}
use Rattle.model.specs.Sums.{Neither}

pub record Leaves (q q' : Dpcs) : Type 0 where
  pub duplicates : q'.counters.duplicates ≡ q.counters.duplicates
  pub accepted : q'.counters.accepted ≡ q.counters.accepted
  pub works : (a : ℕ) (k : DpcWork) → work_of (phase_at q'.table a) ≡ some k → work_of (phase_at q.table a) ≡ some k

same : (q : Dpcs) → Leaves q q
same q = record { duplicates = refl; accepted = refl; works = λ a k e. e }

-- ---- changes of one DPC

-- in a phase that has no other work
rephased-works : (l : List Dpc) → Rising address_of l → (a : ℕ) (p : DpcPhase) → ((k : DpcWork) → work_of p ≡ some k → work_of (phase_at l a) ≡ some k)
    → (b : ℕ) (k : DpcWork) → work_of (phase_at (rephased l a p) b) ≡ some k → work_of (phase_at l b) ≡ some k
rephased-works l r a p h b k e = go (dpc_at l a) refl
  where
    go : (o : Option Dpc) → dpc_at l a ≡ o → work_of (phase_at l b) ≡ some k
    go none f = ap (λ (x : List Dpc). work_of (phase_at x b)) (sym (ap (λ (o : Option Dpc). given o l (λ d. put_dpc (in_phase d p) l)) f)) ∙ e
    go (some d) f = elim (ℕ_discrete b a) [
      | yes z ↦ ap (λ (n : ℕ). work_of (phase_at l n)) z ∙ h k (ap work_of (sym (phase-own l r a d f p)) ∙ ap (λ (n : ℕ). work_of (phase_at (rephased l a p) n)) (sym z) ∙ e)
      | no z ↦ ap work_of (sym (phase-other l r a d f p b z)) ∙ e
    ]

-- an idle one put
put-works : (l : List Dpc) (x : Dpc) → x.phase ≡ Idle → (b : ℕ) (k : DpcWork) → work_of (phase_at (put_dpc x l) b) ≡ some k → work_of (phase_at l b) ≡ some k
put-works l x i b k e = elim (ℕ_discrete b x.address) [
  | yes z ↦ absurd (none-some k (sym (ap work_of i) ∙ ap work_of (sym (phase-found (put_dpc x l) x.address x (find-put-own address_of x l))) ∙ ap (λ (n : ℕ). work_of (phase_at (put_dpc x l) n)) (sym z) ∙ e))
  | no z ↦ ap (λ (o : Option Dpc). work_of (given o Idle (λ (d : Dpc). d.phase))) (sym (find-put-other address_of x l b z)) ∙ e
]

-- some gone
kept-works : (f : Dpc → Bool) (l : List Dpc) → Rising address_of l → (b : ℕ) (k : DpcWork) → work_of (phase_at (keep f l) b) ≡ some k → work_of (phase_at l b) ≡ some k
kept-works f l r b k e = go (dpc_at (keep f l) b) refl
  where
    go : (o : Option Dpc) → dpc_at (keep f l) b ≡ o → work_of (phase_at l b) ≡ some k
    go none g = absurd (none-some k (sym (ap (λ (o : Option Dpc). work_of (given o Idle (λ (d : Dpc). d.phase))) g) ∙ e))
    go (some d) g = ap work_of (phase-found l b d (kept-found address_of f l r b d g).0 ∙ sym (phase-found (keep f l) b d g)) ∙ e

module _ (q : Dpcs) (r : Rising address_of q.table) where
  leaves-withdrawn : (a : ℕ) → Leaves q (withdrawn q a)
  unfolding withdrawn
  leaves-withdrawn a = record { duplicates = refl; accepted = refl; works = rephased-works q.table r a Idle (λ k e. absurd (none-some k e)) }

  leaves-started : (a : ℕ) (w : DpcWork) → phase_at q.table a ≡ Queued w → Leaves q (started q a w)
  unfolding started
  leaves-started a w e = record { duplicates = refl; accepted = refl; works = rephased-works q.table r a (Running w) (λ k z. ap work_of e ∙ z) }

  leaves-returned : (a : ℕ) (w : DpcWork) → phase_at q.table a ≡ Running w → Leaves q (returned q a w)
  unfolding returned
  leaves-returned a w e = record { duplicates = refl; accepted = refl; works = rephased-works q.table r a (Returning w) (λ k z. ap work_of e ∙ z) }

  leaves-restored : (a : ℕ) → Leaves q (restored q a)
  unfolding restored
  leaves-restored a = record { duplicates = refl; accepted = refl; works = rephased-works q.table r a Idle (λ k e. absurd (none-some k e)) }

-- ---- which calls they are

-- 1 an `open`, 2 an insert, 3 an advance, 0 any other
abbrev role : Call → ℕ
role (call.Open m p t o d) = 1
role (call.CreateThread p) = 0
role (call.Priority id p) = 0
role (call.InitializeMutex key) = 0
role (call.InitializeEvent key manual signaled) = 0
role (call.AdoptMutex key owner) = 0
role (call.ReleaseMutex key) = 0
role (call.SetEvent key) = 0
role (call.ResetEvent key) = 0
role (call.RetireEventBacking base size layout) = 0
role (call.Wait l all deadline irql) = 0
role (call.DelayUntil deadline irql) = 0
role call.YieldCurrent = 0
role (call.Terminate status) = 0
role (call.AdvanceTo time) = 3
role (call.Dispatch out) = 0
role (call.InitializeTimer address a b manual) = 0
role (call.InitializeDpc address a b routine context) = 0
role (call.SetTimer address due absolute period dpc) = 0
role (call.SetTimerSigned address v period dpc) = 0
role (call.CancelTimer address) = 0
role (call.RetireTimerBacking address size) = 0
role (call.ConfigureDpcDispatch first second) = 0
role (call.InsertQueueDpc address first second) = 2
role (call.RemoveQueueDpc address) = 0
role (call.StartDpc address) = 0
role (call.ReturnedDpc address n) = 0
role (call.RestoredDpc address n) = 0
role (call.Reads r) = 0

neither : (c : Call) → role c ≡ 0 → Neither c
neither c z = record {
  not_open = λ m p t o d e. omega (arith, z, ap role e);
  not_insert = λ a first second e. omega (arith, z, ap role e);
  not_advance = λ time e. omega (arith, z, ap role e);
}

pub data Kind (s : State) (c : Call) : Type 0 where
  opens : (m p t o d : ℕ) → c ≡ Open m p t o d → Kind s c
  inserts : (a first second : ℕ) → c ≡ InsertQueueDpc a first second → Kind s c
  advances : (time : ℕ) → c ≡ AdvanceTo time → Kind s c
  leaves : Neither c → Leaves s.dpcs (effect c s).state.dpcs → Kind s c

module _ (s : State) (r : Rising address_of s.dpcs.table) where
  abbrev L : State → Type 0
  L s' = Leaves s.dpcs s'.dpcs

  either : (b : Bool) (x y : Outcome) → L x.state → L y.state → L (cond b x y).state
  either true x y h k = h
  either false x y h k = k

  -- an outcome of a record that may be there
  there : {A : Type 0} (o : Option A) (x : Outcome) (f : A → Outcome) → L x.state → ((z : A) → L (f z).state) → L (given o x f).state
  there none x f h k = h
  there (some z) x f h k = k z

  there-state : {A : Type 0} (o : Option A) (x : State) (f : A → State) → L x → ((z : A) → L (f z)) → L (given o x f)
  there-state none x f h k = h
  there-state (some z) x f h k = k z

  kept : L s
  kept = same s.dpcs

  adopts : (key : ℕ) (owner : Option ℕ) → L (adopted s key owner)
  unfolding adopted
  adopts key owner = there-state (mutex_at s.dispatcher.objects key) _ (λ (m : Mutex). s) kept (λ m. kept)

  releases : (key : ℕ) → L (mutex_released s key)
  unfolding mutex_released
  releases key = there-state (mutex_at s.dispatcher.objects key) s (λ (m : Mutex). with_dispatcher s (wake (with_objects s.dispatcher (put_object (owned_by 0 m) s.dispatcher.objects)))) kept (λ m. kept)

  sets-event : (key : ℕ) → L (event_set s key).state
  unfolding event_set
  sets-event key = there (event_at s.dispatcher.objects key) (gives Done s)
      (λ (e : Event). gives (Flag e.signaled) (with_dispatcher s (wake (with_objects s.dispatcher (put_object (signaled_as true e) s.dispatcher.objects))))) kept (λ e. kept)

  resets : (key : ℕ) → L (event_reset s key).state
  unfolding event_reset
  resets key = there (event_at s.dispatcher.objects key) (gives Done s)
      (λ (e : Event). gives (Flag e.signaled) (with_table s (put_object (signaled_as false e) s.dispatcher.objects))) kept (λ e. kept)

  retires-events : (base size : ℕ) → L (events_retired s base size)
  unfolding events_retired
  retires-events base size = kept

  times-out : L (timed_out s).state
  unfolding timed_out
  times-out = kept

  blocking : (ns : List Named) (all : Bool) (deadline : Option ℕ) → L (blocks s ns all deadline).state
  unfolding blocks
  blocking ns all deadline = kept

  waits : (ns : List Named) (all : Bool) (deadline : Option ℕ) → L (waited s ns all deadline).state
  unfolding waited granted
  waits ns all deadline =
      either (is_met s.dispatcher ns all) (granted s ns all) _ kept (either (reached deadline s.now) (timed_out s) (blocks s ns all deadline) times-out (blocking ns all deadline))

  delays : (deadline : ℕ) → L (delayed s deadline).state
  unfolding delayed
  delays deadline = either (leb deadline s.now) (timed_out s) (blocks s [] false (some deadline)) times-out (blocking [] false (some deadline))

  dispatches : L (dispatched s).state
  unfolding dispatched
  dispatches = either (eqb s.dispatcher.current 0) _ (gives (Run s.dispatcher.current) s)
      (either (is_empty s.dispatcher.placed) (gives (idle_answer s.dispatcher) s) (gives (Run (next s.dispatcher)) (with_dispatcher s (ran s.dispatcher (next s.dispatcher)))) kept kept) kept

  makes-timer : (address : ℕ) (a : Architecture) (b : TimerBacking) (manual : Bool) → L (timer_initialized s address a b manual)
  unfolding timer_initialized
  makes-timer address a b manual = kept

  makes-dpc : (address : ℕ) (a : Architecture) (b : TimerBacking) (routine context : ℕ) → L (dpc_initialized s address a b routine context)
  unfolding dpc_initialized
  makes-dpc address a b routine context = record {
    duplicates = refl;
    accepted = refl;
    works = put-works s.dpcs.table (record { address = address; architecture = a; backing = b; routine = routine; context = context; phase = Idle }) refl;
  }

  sets-timer : (address due : ℕ) (absolute : Bool) (period dpc : ℕ) → L (timer_set s address due absolute period dpc).state
  unfolding timer_set
  sets-timer address due absolute period dpc = there (timer_at s.dispatcher.objects address) (gives Done s)
      (λ (t : Timer). gives (Flag t.inserted) (with_table s (put_object (timer (armed t due absolute period dpc)) s.dispatcher.objects))) kept (λ t. kept)

  cancels : (address : ℕ) → L (timer_cancelled s address).state
  unfolding timer_cancelled
  cancels address = there (timer_at s.dispatcher.objects address) (gives Done s)
      (λ (t : Timer). gives (Flag t.inserted) (with_table (with_dpcs s (cond (cancels_work s t) (withdrawn s.dpcs t.dpc) s.dpcs)) (put_object (timer (cancelled t)) s.dispatcher.objects)))
      kept (λ t. go t (cancels_work s t))
    where
      go : (t : Timer) (b : Bool) → Leaves s.dpcs (cond b (withdrawn s.dpcs t.dpc) s.dpcs)
      go t true = leaves-withdrawn s.dpcs r t.dpc
      go t false = same s.dpcs

  retires-timers : (address size : ℕ) → L (timers_retired s address size)
  unfolding timers_retired
  retires-timers address size = record { duplicates = refl; accepted = refl; works = kept-works (λ (d : Dpc). not (dpc_overlapped address size d)) s.dpcs.table r }

  configures : (first second : ℕ) → L (configured s first second)
  unfolding configured
  configures first second = kept

  removes : (address : ℕ) → L (dpc_removed s address).state
  unfolding dpc_removed
  removes address = either (is_queued (phase_at s.dpcs.table address)) (gives (Flag true) (with_dpcs s (withdrawn s.dpcs address))) (gives (Flag false) s) (leaves-withdrawn s.dpcs r address) kept

  starts : (address : ℕ) (p : DpcPhase) → phase_at s.dpcs.table address ≡ p → L (dpc_started s address p).state
  unfolding dpc_started
  starts address Idle e = kept
  starts address (Queued w) e = leaves-started s.dpcs r address w e
  starts address (Running w) e = kept
  starts address (Returning w) e = kept

  returns : (address : ℕ) (p : DpcPhase) → phase_at s.dpcs.table address ≡ p → L (dpc_returned s address p).state
  unfolding dpc_returned
  returns address Idle e = kept
  returns address (Queued w) e = kept
  returns address (Running w) e = leaves-returned s.dpcs r address w e
  returns address (Returning w) e = kept

  pub kind : (c : Call) → Kind s c
  unfolding effect
  kind (call.Open m p t o d) = opens m p t o d refl
  kind (call.CreateThread p) = leaves (neither (call.CreateThread p) refl) kept
  kind (call.Priority id p) = leaves (neither (call.Priority id p) refl) kept
  kind (call.InitializeMutex key) = leaves (neither (call.InitializeMutex key) refl) kept
  kind (call.InitializeEvent key manual signaled) = leaves (neither (call.InitializeEvent key manual signaled) refl) kept
  kind (call.AdoptMutex key owner) = leaves (neither (call.AdoptMutex key owner) refl) (adopts key owner)
  kind (call.ReleaseMutex key) = leaves (neither (call.ReleaseMutex key) refl) (releases key)
  kind (call.SetEvent key) = leaves (neither (call.SetEvent key) refl) (sets-event key)
  kind (call.ResetEvent key) = leaves (neither (call.ResetEvent key) refl) (resets key)
  kind (call.RetireEventBacking base size layout) = leaves (neither (call.RetireEventBacking base size layout) refl) (retires-events base size)
  kind (call.Wait l all deadline irql) = leaves (neither (call.Wait l all deadline irql) refl) (waits (pairs l) all deadline)
  kind (call.DelayUntil deadline irql) = leaves (neither (call.DelayUntil deadline irql) refl) (delays deadline)
  kind call.YieldCurrent = leaves (neither call.YieldCurrent refl) kept
  kind (call.Terminate status) = leaves (neither (call.Terminate status) refl) kept
  kind (call.AdvanceTo time) = advances time refl
  kind (call.Dispatch out) = leaves (neither (call.Dispatch out) refl) dispatches
  kind (call.InitializeTimer address a b manual) = leaves (neither (call.InitializeTimer address a b manual) refl) (makes-timer address a b manual)
  kind (call.InitializeDpc address a b routine context) = leaves (neither (call.InitializeDpc address a b routine context) refl) (makes-dpc address a b routine context)
  kind (call.SetTimer address due absolute period dpc) = leaves (neither (call.SetTimer address due absolute period dpc) refl) (sets-timer address due absolute (period_of period) dpc)
  kind (call.SetTimerSigned address v period dpc) = leaves (neither (call.SetTimerSigned address v period dpc) refl) (sets-timer address (signed_due s.now v) (not (is_negative v)) (period_of period) dpc)
  kind (call.CancelTimer address) = leaves (neither (call.CancelTimer address) refl) (cancels address)
  kind (call.RetireTimerBacking address size) = leaves (neither (call.RetireTimerBacking address size) refl) (retires-timers address size)
  kind (call.ConfigureDpcDispatch first second) = leaves (neither (call.ConfigureDpcDispatch first second) refl) (configures first second)
  kind (call.InsertQueueDpc address first second) = inserts address first second refl
  kind (call.RemoveQueueDpc address) = leaves (neither (call.RemoveQueueDpc address) refl) (removes address)
  kind (call.StartDpc address) = leaves (neither (call.StartDpc address) refl) (starts address (phase_at s.dpcs.table address) refl)
  kind (call.ReturnedDpc address n) = leaves (neither (call.ReturnedDpc address n) refl) (returns address (phase_at s.dpcs.table address) refl)
  kind (call.RestoredDpc address n) = leaves (neither (call.RestoredDpc address n) refl) (leaves-restored s.dpcs r address)
  kind (call.Reads x) = leaves (neither (call.Reads x) refl) kept
