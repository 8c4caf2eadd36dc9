-- How each call changes who is ready, and in which order.
use Prim.Native.Nat.{ℕ, zero, suc, ◌<◌}
use mathlib.Core.List.{List, [], ◌∷◌, ◌++◌}
use mathlib.Core.Bool.{Bool, true, false, cond, not}
use mathlib.Core.Option.{Option, none, some}
use mathlib.Core.Path.{◌≡◌, refl, sym, ap, ◌∙◌, subst}
use native.Mathlib.Omega.{arith}
use native.Mathlib.Decide.{ℕ_discrete, dec_lt}
use borrow.Author.Tests.{eqb-true, eqb-false}
use lib.Dec.{eqb, leb}
use Rattle.model.specs.Lists.{Mem, is_empty, given}
use Rattle.model.specs.State.{State, Dispatcher, Thread, Status, running, ready, waiting, exited, WaitResult, Named, Object}
use Rattle.model.specs.Threads.{count, thread_at, change_at, thread_of, status_of, is_ready, is_waiting, is_running, placed_as, with_thread, with_objects, with_status, with_priority, with_result, first_thread, new_thread, becomes, created, prioritized, yielded, terminated, blocked, next, ran}
use Rattle.model.specs.Waits.{mutex_at, event_at, timer_at, is_met, wake, reached, time_out}
use Rattle.model.specs.Dpcs.{phase_at, is_queued}
use Rattle.images.specs.declared.DpcPhase.{DpcPhase}
use Rattle.images.specs.declared.DpcPhase.TheVariants.{Idle, Queued, Running, Returning}
use Rattle.model.specs.Refusal.{terminate_refusal, owns_mutex, pairs, signed_due, is_negative}
use Rattle.model.specs.Call.{Call}
use Rattle.model.specs.Call as call
use Rattle.model.specs.Answer.{Outcome, gives, Refused}
use Rattle.model.specs.Step.{step, refusal, effect, opened, with_own_result, adopted, mutex_released, event_set, event_reset, events_retired, granted, timed_out, blocks, waited, delayed, period_of, expired_at, advanced, dispatched, timer_initialized, dpc_initialized, timer_set, timer_cancelled, timers_retired, configured, dpc_inserted, dpc_removed, dpc_started, dpc_returned}
use Rattle.model.specs.Valid.{Valid, Standing}
use Rattle.model.proofs.ListLaws.{not-both, mem-member}
use Rattle.model.proofs.ThreadLaws.{change-own, change-other, change-either, no-thread, append-old, append-length, stands-somewhere, standing-moved}
use Rattle.model.proofs.CreateLaws.{created-threads}
use Rattle.model.proofs.RowLaws.{passes}
use Rattle.model.proofs.KeepLaws.{ready-only, current-known, next-placed}
use Rattle.model.specs.Turns.{Prioritizes}
use Rattle.model.proofs.AheadLaws.{Keeps, keeps_same, keeps_placed}

-- ---- what a call may do

-- before a wake pass: who does not run is as it was, and keeps its place
pub record Prepared (d d₁ : Dispatcher) : Type 0 where
  pub standing : Standing d₁.threads d₁.placed d₁.waiters d₁.current d₁.sequence
  pub same : (i : ℕ) → is_running (status_of d i) ≡ false → status_of d₁ i ≡ status_of d i
  pub keeps : (i : ℕ) → is_running (status_of d i) ≡ false → Keeps i d.placed d₁.placed
  -- and who runs neither becomes ready nor waits
  pub running-not : (i : ℕ) → is_running (status_of d i) ≡ true → (is_ready (status_of d₁ i) ≡ false) × (is_waiting (status_of d₁ i) ≡ false)

pub data Change (c : Call) (s : State) (d : Dispatcher) : Type 0 where
  -- every thread does what it did
  still : ((i : ℕ) → status_of d i ≡ status_of s.dispatcher i) → d.placed ≡ s.dispatcher.placed → Change c s d
  -- one thread, which did not wait, does something else; if it was ready and is, it was given a priority
  one : (id : ℕ) (x : Status) → ((i : ℕ) → (i ≡ id → ⊥) → status_of d i ≡ status_of s.dispatcher i) → d.placed ≡ placed_as x id s.dispatcher.placed
      → (status_of s.dispatcher id ≡ ready → status_of d id ≡ ready → Prioritizes c s id) → is_waiting (status_of s.dispatcher id) ≡ false → Change c s d
  -- no thread is ready
  none-ready : ((i : ℕ) → status_of d i ≡ ready → ⊥) → Change c s d
  -- a wake pass
  woke : (d₁ : Dispatcher) → Prepared s.dispatcher d₁ → d ≡ wake d₁ → Change c s d
  -- a wake pass, then timeouts
  moved_on : (d₁ : Dispatcher) (time : ℕ) → Prepared s.dispatcher d₁ → d ≡ time_out time (wake d₁) → Change c s d

-- the state after the call, or what it answers and the state
record Leaves (c : Call) (s s' : State) : Type 0 where
  change : Change c s s'.dispatcher

record Gives (c : Call) (s : State) (o : Outcome) : Type 0 where
  change : Change c s o.state.dispatcher

-- ---- small things

given-either : {A B : Type 0} (P : B → Type 0) (o : Option A) (b : B) (f : A → B) → P b → ((x : A) → P (f x)) → P (given o b f)
given-either P none b f p q = p
given-either P (some x) b f p q = q x

cond_either : {B : Type 0} (P : B → Type 0) (t : Bool) (a b : B) → (t ≡ true → P a) → (t ≡ false → P b) → P (cond t a b)
cond_either P true a b p q = p refl
cond_either P false a b p q = q refl

-- a record with the same status
status-kept : (l : List Thread) (id : ℕ) (t : Thread) → t.status ≡ (thread_at l id).status → (i : ℕ) → (thread_at (change_at l id t) i).status ≡ (thread_at l i).status
status-kept l id t e i = elim (ℕ_discrete i id) [
  | yes q ↦ subst (λ (j : ℕ). (thread_at (change_at l id t) j).status ≡ (thread_at l j).status) (sym q) (change-either (λ (x : Thread). x.status ≡ (thread_at l id).status) l id t id e refl)
  | no n ↦ ap (λ (x : Thread). x.status) (change-other l id t i n)
]

status-other : (l : List Thread) (id : ℕ) (t : Thread) (i : ℕ) → (i ≡ id → ⊥) → (thread_at (change_at l id t) i).status ≡ (thread_at l i).status
status-other l id t i n = ap (λ (x : Thread). x.status) (change-other l id t i n)

ready-runs-not : (x : Status) → x ≡ running → x ≡ ready → ⊥
ready-runs-not x e q = not-both (ap is_ready (sym q) ∙ ap is_ready e)

runs-only : (x : Status) → is_running x ≡ true → (is_ready x ≡ false) × (is_waiting x ≡ false)
runs-only running e = (refl, refl)
runs-only ready e = absurd (not-both (sym e))
runs-only (waiting w) e = absurd (not-both (sym e))
runs-only (exited n) e = absurd (not-both (sym e))

module _ (s : State) (v : Valid s) where
  abbrev d₀ : Dispatcher
  d₀ = s.dispatcher

  -- the current thread, if there is one, is neither ready nor waits
  current-not : (is_ready (status_of d₀ d₀.current) ≡ false) × (is_waiting (status_of d₀ d₀.current) ≡ false)
  current-not = elim (ℕ_discrete d₀.current 0) [
    | yes e ↦ (ap (λ (i : ℕ). is_ready (status_of d₀ i)) e, ap (λ (i : ℕ). is_waiting (status_of d₀ i)) e)
    | no n ↦ let k = current-known s v n in (ap is_ready k.2, ap is_waiting k.2)
  ]

  same : (c : Call) (d : Dispatcher) → d.threads ≡ d₀.threads → d.placed ≡ d₀.placed → Change c s d
  same c d t p = still (λ i. ap (λ (l : List Thread). (thread_at l i).status) t) p

  -- ---- threads

  creates : (p : ℕ) → Change (call.CreateThread p) s (created d₀ p)
  creates p = one (suc (count d₀)) ready (λ i n. ap (λ (t : Thread). t.status) (old i n)) place
      (λ q r. absurd (not-both (sym (ap is_ready q) ∙ ap (λ (t : Thread). is_ready t.status) (no-thread d₀.threads (suc (count d₀)) (omega arith)))))
      (ap (λ (t : Thread). is_waiting t.status) (no-thread d₀.threads (suc (count d₀)) (omega arith)))
    where
      place : (created d₀ p).placed ≡ placed_as ready (suc (count d₀)) d₀.placed
      place = unfold created becomes in refl

      old : (i : ℕ) → (i ≡ suc (count d₀) → ⊥) → thread_of (created d₀ p) i ≡ thread_of d₀ i
      old i n = ap (λ (l : List Thread). thread_at l i) (created-threads d₀ p) ∙ go (dec_lt (count d₀) i)
        where
          go : Dec (count d₀ < i) → thread_at (d₀.threads ++ (new_thread p ∷ [])) i ≡ thread_of d₀ i
          go (yes h) = no-thread (d₀.threads ++ (new_thread p ∷ [])) i (omega (arith, h, n, append-length d₀.threads (new_thread p))) ∙ sym (no-thread d₀.threads i h)
          go (no h) = append-old d₀.threads (new_thread p) i (omega arith)

  prioritizes : (id p : ℕ) → refusal (call.Priority id p) s ≡ 0 → Change (call.Priority id p) s (prioritized d₀ id p)
  unfolding prioritized becomes
  prioritizes id p e =
      let t = with_priority (thread_of d₀ id) p in
      cond_either (Change (call.Priority id p) s) (is_ready (status_of d₀ id)) (becomes d₀ id t) (with_thread d₀ id t)
      (λ r. one id (status_of d₀ id) (λ i n. status-other d₀.threads id t i n) refl (λ q z. (p, refl, e)) (ap is_waiting (ready-only (status_of d₀ id) r)))
      (λ r. still (λ i. status-kept d₀.threads id t refl i) refl)

  -- the current thread does something else
  current-moves : (c : Call) (t : Thread) (d : Dispatcher) → d.threads ≡ change_at d₀.threads d₀.current t → d.placed ≡ placed_as t.status d₀.current d₀.placed → Change c s d
  current-moves c t d f g = one d₀.current t.status
      (λ i n. ap (λ (l : List Thread). (thread_at l i).status) f ∙ status-other d₀.threads d₀.current t i n) g
      (λ q r. absurd (not-both (sym (ap is_ready q) ∙ current-not.0))) current-not.1

  own-result : (c : Call) (l : List Object) (r : Option WaitResult) → Change c s (with_own_result (with_objects d₀ l) r)
  own-result c l r = still (λ i. status-kept d₀.threads d₀.current (with_result (thread_of d₀ d₀.current) r) refl i) refl

  times-out : (c : Call) → Change c s (timed_out s).state.dispatcher
  unfolding timed_out
  times-out c = own-result c d₀.objects _

  sleeps : (c : Call) (ns : List Named) (all : Bool) (deadline : Option ℕ) → Change c s (blocks s ns all deadline).state.dispatcher
  unfolding blocks blocked becomes
  sleeps c ns all deadline = current-moves c _ _ refl refl

  waits : (c : Call) (ns : List Named) (all : Bool) (deadline : Option ℕ) → Change c s (waited s ns all deadline).state.dispatcher
  unfolding waited granted
  waits c ns all deadline =
      cond_either (λ (o : Outcome). Change c s o.state.dispatcher) (is_met d₀ ns all) _ _ (λ e. own-result c _ _)
      (λ e. cond_either (λ (o : Outcome). Change c s o.state.dispatcher) (reached deadline s.now) _ _ (λ q. times-out c) (λ q. sleeps c ns all deadline))

  delays : (c : Call) (deadline : ℕ) → Change c s (delayed s deadline).state.dispatcher
  unfolding delayed
  delays c deadline = cond_either (λ (o : Outcome). Change c s o.state.dispatcher) (leb deadline s.now) _ _ (λ q. times-out c) (λ q. sleeps c [] false (some deadline))

  yields : Change call.YieldCurrent s (yielded d₀)
  unfolding yielded becomes
  yields = current-moves call.YieldCurrent _ _ refl refl

  dispatches : (n : ℕ) → Change (call.Dispatch n) s (dispatched s).state.dispatcher
  unfolding dispatched ran becomes
  dispatches n =
      cond_either (λ (o : Outcome). Change (call.Dispatch n) s o.state.dispatcher) (eqb d₀.current 0) _ _
      (λ e. cond_either (λ (o : Outcome). Change (call.Dispatch n) s o.state.dispatcher) (is_empty d₀.placed) _ _ (λ z. same (call.Dispatch n) d₀ refl refl)
      (λ z. runs (next d₀) (next-placed s v z).0))
      (λ e. same (call.Dispatch n) d₀ refl refl)
    where
      runs : (id : ℕ) → Mem id d₀.placed → Change (call.Dispatch n) s (becomes d₀ id (with_status (thread_of d₀ id) running))
      runs id m =
          let r : is_ready (status_of d₀ id) ≡ true = sym (v.sound.standing.placed_ready id) ∙ mem-member id d₀.placed m in
          let k = stands-somewhere d₀.threads id is_ready refl r in
          let t = with_status (thread_of d₀ id) running in
          one id running (λ i u. status-other d₀.threads id t i u) refl
          (λ a b. absurd (ready-runs-not (status_of (becomes d₀ id t) id) (ap (λ (x : Thread). x.status) (change-own d₀.threads id t k.0 k.1)) b))
          (ap is_waiting (ready-only (status_of d₀ id) r))

  -- ---- wake passes

  with-objects : (l : List Object) → Prepared d₀ (with_objects d₀ l)
  with-objects l = record { standing = v.sound.standing; same = λ i e. refl; keeps = λ i e. keeps_same i d₀.placed d₀.placed refl; running-not = λ i e. runs-only (status_of d₀ i) e }

  without-current : (status : ℕ) → refusal (call.Terminate status) s ≡ 0 → Prepared d₀ (terminated d₀ status)
  unfolding refusal terminate_refusal terminated becomes
  without-current status e =
      let id = d₀.current in
      let t = with_status (thread_of d₀ id) (exited status) in
      let a = passes (eqb id 0) 2 (cond (owns_mutex d₀.objects id) 10 0) e in
      let k = current-known s v (eqb-false id 0 a.0) in
      let apart : (i : ℕ) → is_running (status_of d₀ i) ≡ false → i ≡ id → ⊥ = λ i r q. not-both (sym (ap is_running k.2) ∙ ap (λ (j : ℕ). is_running (status_of d₀ j)) (sym q) ∙ r) in
      record {
        standing = standing-moved d₀.threads d₀.placed d₀.waiters id d₀.sequence id t v.sound.standing
            (record { from = k.0; to = k.1; runs = λ q. absurd (not-both (sym q)); later = λ q. absurd (not-both (sym q)); below = λ q. absurd (not-both (sym q)) });
        same = λ i r. status-other d₀.threads id t i (apart i r);
        keeps = λ i r. keeps_placed i id d₀.placed (apart i r) (exited status);
        running-not = λ i r. elim (ℕ_discrete i id) [
          | yes q ↦
              let z : status_of (becomes d₀ id t) i ≡ exited status = ap (status_of (becomes d₀ id t)) q ∙ ap (λ (x : Thread). x.status) (change-own d₀.threads id t k.0 k.1) in
              (ap is_ready z, ap is_waiting z)
          | no n ↦
              let z = status-other d₀.threads id t i n in
              let x = runs-only (status_of d₀ i) r in (ap is_ready z ∙ x.0, ap is_waiting z ∙ x.1)
        ];
      }

  terminates : (status : ℕ) → refusal (call.Terminate status) s ≡ 0 → Change (call.Terminate status) s (wake (terminated d₀ status))
  terminates status e = woke (terminated d₀ status) (without-current status e) refl

  sets : (key : ℕ) → Gives (call.SetEvent key) s (event_set s key)
  unfolding event_set
  sets key = given-either (Gives (call.SetEvent key) s) (event_at d₀.objects key) _ _ (record { change = same (call.SetEvent key) d₀ refl refl }) (λ e. record { change = woke _ (with-objects _) refl })

  releases : (key : ℕ) → Leaves (call.ReleaseMutex key) s (mutex_released s key)
  unfolding mutex_released
  releases key = given-either (Leaves (call.ReleaseMutex key) s) (mutex_at d₀.objects key) _ _ (record { change = same (call.ReleaseMutex key) d₀ refl refl }) (λ e. record { change = woke _ (with-objects _) refl })

  advances : (time : ℕ) → Change (call.AdvanceTo time) s (advanced s time).dispatcher
  unfolding advanced
  advances time = moved_on (with_objects d₀ (expired_at s time).objects) time (with-objects (expired_at s time).objects) refl

  -- ---- calls that leave the threads as they are

  adopts : (key : ℕ) (owner : Option ℕ) → Leaves (call.AdoptMutex key owner) s (adopted s key owner)
  unfolding adopted
  adopts key owner = given-either (Leaves (call.AdoptMutex key owner) s) (mutex_at d₀.objects key) _ _ (record { change = same (call.AdoptMutex key owner) _ refl refl }) (λ e. record { change = same (call.AdoptMutex key owner) _ refl refl })

  resets : (key : ℕ) → Gives (call.ResetEvent key) s (event_reset s key)
  unfolding event_reset
  resets key = given-either (Gives (call.ResetEvent key) s) (event_at d₀.objects key) _ _ (record { change = same (call.ResetEvent key) _ refl refl }) (λ e. record { change = same (call.ResetEvent key) _ refl refl })

  sets-timer : (c : Call) (address due : ℕ) (absolute : Bool) (period dpc : ℕ) → Gives c s (timer_set s address due absolute period dpc)
  unfolding timer_set
  sets-timer c address due absolute period dpc = given-either (Gives c s) (timer_at d₀.objects address) _ _ (record { change = same c _ refl refl }) (λ e. record { change = same c _ refl refl })

  cancels : (address : ℕ) → Gives (call.CancelTimer address) s (timer_cancelled s address)
  unfolding timer_cancelled
  cancels address = given-either (Gives (call.CancelTimer address) s) (timer_at d₀.objects address) _ _ (record { change = same (call.CancelTimer address) _ refl refl }) (λ e. record { change = same (call.CancelTimer address) _ refl refl })

  inserts : (c : Call) (address first second : ℕ) → Change c s (dpc_inserted s address first second).state.dispatcher
  unfolding dpc_inserted
  inserts c address first second = cond_either (λ (o : Outcome). Change c s o.state.dispatcher) (is_queued (phase_at s.dpcs.table address)) _ _ (λ e. same c d₀ refl refl) (λ e. same c d₀ refl refl)

  removes : (c : Call) (address : ℕ) → Change c s (dpc_removed s address).state.dispatcher
  unfolding dpc_removed
  removes c address = cond_either (λ (o : Outcome). Change c s o.state.dispatcher) (is_queued (phase_at s.dpcs.table address)) _ _ (λ e. same c d₀ refl refl) (λ e. same c d₀ refl refl)

  starts : (c : Call) (address : ℕ) (p : DpcPhase) → Change c s (dpc_started s address p).state.dispatcher
  unfolding dpc_started
  starts c address Idle = same c _ refl refl
  starts c address (Queued w) = same c _ refl refl
  starts c address (Running w) = same c _ refl refl
  starts c address (Returning w) = same c _ refl refl

  returns : (c : Call) (address : ℕ) (p : DpcPhase) → Change c s (dpc_returned s address p).state.dispatcher
  unfolding dpc_returned
  returns c address Idle = same c _ refl refl
  returns c address (Queued w) = same c _ refl refl
  returns c address (Running w) = same c _ refl refl
  returns c address (Returning w) = same c _ refl refl

  opens : (words p t o d : ℕ) → Change (call.Open words p t o d) s (opened p t o d).dispatcher
  unfolding opened
  opens words p t o d = none-ready nobody
    where
      nobody : (i : ℕ) → (thread_at (first_thread p ∷ []) i).status ≡ ready → ⊥
      nobody zero e = not-both (sym (ap is_ready e))
      nobody (suc zero) e = not-both (sym (ap is_ready e))
      nobody (suc (suc i)) e = not-both (sym (ap is_ready e))

  -- ---- every call

  changes : (c : Call) → refusal c s ≡ 0 → Change c s (effect c s).state.dispatcher
  unfolding effect events_retired timer_initialized dpc_initialized timers_retired configured
  changes (call.Open words p t o d) e = opens words p t o d
  changes (call.CreateThread p) e = creates p
  changes (call.Priority id p) e = prioritizes id p e
  changes (call.InitializeMutex key) e = same (call.InitializeMutex key) _ refl refl
  changes (call.InitializeEvent key manual signaled) e = same (call.InitializeEvent key manual signaled) _ refl refl
  changes (call.AdoptMutex key owner) e = (adopts key owner).change
  changes (call.ReleaseMutex key) e = (releases key).change
  changes (call.SetEvent key) e = (sets key).change
  changes (call.ResetEvent key) e = (resets key).change
  changes (call.RetireEventBacking base size layout) e = same (call.RetireEventBacking base size layout) _ refl refl
  changes (call.Wait l all deadline irql) e = waits (call.Wait l all deadline irql) (pairs l) all deadline
  changes (call.DelayUntil deadline irql) e = delays (call.DelayUntil deadline irql) deadline
  changes call.YieldCurrent e = yields
  changes (call.Terminate status) e = terminates status e
  changes (call.AdvanceTo time) e = advances time
  changes (call.Dispatch n) e = dispatches n
  changes (call.InitializeTimer address a b manual) e = same (call.InitializeTimer address a b manual) _ refl refl
  changes (call.InitializeDpc address a b routine context) e = same (call.InitializeDpc address a b routine context) _ refl refl
  changes (call.SetTimer address due absolute period dpc) e = (sets-timer (call.SetTimer address due absolute period dpc) address due absolute (period_of period) dpc).change
  changes (call.SetTimerSigned address d period dpc) e = (sets-timer (call.SetTimerSigned address d period dpc) address (signed_due s.now d) (not (is_negative d)) (period_of period) dpc).change
  changes (call.CancelTimer address) e = (cancels address).change
  changes (call.RetireTimerBacking address size) e = same (call.RetireTimerBacking address size) _ refl refl
  changes (call.ConfigureDpcDispatch first second) e = same (call.ConfigureDpcDispatch first second) _ refl refl
  changes (call.InsertQueueDpc address first second) e = inserts (call.InsertQueueDpc address first second) address first second
  changes (call.RemoveQueueDpc address) e = removes (call.RemoveQueueDpc address) address
  changes (call.StartDpc address) e = starts (call.StartDpc address) address (phase_at s.dpcs.table address)
  changes (call.ReturnedDpc address n) e = returns (call.ReturnedDpc address n) address (phase_at s.dpcs.table address)
  changes (call.RestoredDpc address n) e = same (call.RestoredDpc address n) _ refl refl
  changes (call.Reads r) e = same (call.Reads r) _ refl refl

  -- refused or not
  pub step-changes : (c : Call) → Change c s (step c s).state.dispatcher
  unfolding step
  step-changes c =
      cond_either (λ (o : Outcome). Change c s o.state.dispatcher) (eqb (refusal c s) 0) (effect c s) (gives (Refused (refusal c s)) s)
      (λ e. changes c (eqb-true (refusal c s) 0 e)) (λ e. same c d₀ refl refl)
