-- What the calls on threads leave of each thread: a termination, a wait, an advance, a priority, a creation.
use Prim.Native.Nat.{ℕ, zero, suc, ◌+◌, ◌*◌, ◌≤◌, ◌<◌}
use mathlib.Core.List.{List, [], ◌∷◌, ◌++◌}
use mathlib.Core.Bool.{Bool, true, false, cond}
use mathlib.Core.Option.{Option, none, some}
use mathlib.Core.Path.{◌≡◌, refl, sym, ap, ◌∙◌, subst}
use mathlib.Core.Logic.{◌⊎◌, inl, inr}
use native.Mathlib.Omega.{arith}
use native.Mathlib.Decide.{ℕ_discrete, dec_lt}
use borrow.Author.Tests.{eq-eqb, ne_eqb, eqb-true, eqb-false, leb-true, leb-false}
use lib.Dec.{eqb, leb, ltb}
use lib.ListN.{length, get_or}
use Rattle.model.specs.Lists.{nth, given}
use Rattle.model.specs.State.{State, Dispatcher, Thread, Status, running, ready, waiting, exited, Wait, WaitResult, satisfied, timeout, Named, Mutex, Event, Object, mutex, event}
use Rattle.model.specs.Threads.{count, change_at, thread_of, status_of, is_thread, is_running, is_ready, is_waiting, wait_of, current_as, with_thread, with_objects, becomes, created, prioritized, yielded, terminated, blocked}
use Rattle.model.specs.Waits.{key_of, kind_of, object_at, mutex_at, event_at, mutexes_of, put_object, owned_by, signaled_as, is_met, reached, index, wake, time_out}
use Rattle.model.specs.Valid.{Valid, Sound, Standing, OwnerLive}
use Rattle.model.specs.Refusal.{pairs, not_priority, priority_refusal, wait_refusal, delay_refusal, yield_refusal, terminate_refusal, owns_mutex, unexpired, advance_refusal}
use Rattle.model.specs.Timers.{due_timers, refusal_of_each}
use Rattle.model.specs.Answer.{Outcome, gives, Done, Flag, ThreadNumber}
use Rattle.model.specs.Call as call
use Rattle.model.specs.Step.{refusal, effect, step, with_dispatcher, event_set, mutex_released, granted, timed_out, blocks, waited, delayed, expired_at, advanced}
use Rattle.model.proofs.ListLaws.{not-both, member-mem, any_false}
use Rattle.model.proofs.TableLaws.{found}
use Rattle.model.proofs.ThreadLaws.{length-change, change-own, change-other, change-either, stands-somewhere, append-old, append-new, append-length}
use Rattle.model.proofs.ObjectLaws.{mutex-found, event-found, core, restated-put}
use Rattle.model.proofs.SoundLaws.{sound-objects, sound-becomes, is-thread, thread-is}
use Rattle.model.proofs.WakeLaws.{sound-restated}
use Rattle.model.proofs.ExpiryLaws.{all-expired, due-pending}
use Rattle.model.proofs.CreateLaws.{created-threads}
use Rattle.model.proofs.RowLaws.{passes, holds, mutex-mem}
use Rattle.model.proofs.KeepTimers.{begun}
use Rattle.model.proofs.StepLaws.{valid-step}
use Rattle.model.proofs.WdkLaws.{step_is}
use Rattle.model.specs.Leaving as leaving
use Rattle.model.specs.Leaving.{exited_with, runs_after, ready_after, waits_with, given_priority, fresh_thread, thread_numbered, OneThread, Creates, Becomes, Names, GoesOn, Ungranted, WaitLeaves, AfterWake, AfterAdvance, ThatMutex, ThatEvent, ThatThread, DueTimer, Exits, Yields}
use Rattle.model.proofs.PutLaws.{numbered_in, numbered-in, numbered-out, thread-put}
use Rattle.model.proofs.FreedLaws.{put-freed, thread-freed, time-freed}
use Rattle.model.proofs.WakeLeaves.{wake-after, wake-count, wake-none, timeouts-after, timeouts-count}

-- ---- threads by their numbers

pub numbered_is : (s : State) (i : ℕ) (x : Thread) → thread_numbered s i ≡ some x → (is_thread s.dispatcher i ≡ true) × (thread_of s.dispatcher i ≡ x)
numbered_is s i x e = go (is_thread s.dispatcher i) refl e
  where
    go : (b : Bool) → is_thread s.dispatcher i ≡ b → cond b (some (thread_of s.dispatcher i)) none ≡ some x → (is_thread s.dispatcher i ≡ true) × (thread_of s.dispatcher i ≡ x)
    go true q z = (q, cc)
    go false q z = let y : ◌≡◌ {A = ℕ} 0 1 = cc in absurd (omega arith)

pub is-numbered : (s : State) (i : ℕ) → is_thread s.dispatcher i ≡ true → thread_numbered s i ≡ some (thread_of s.dispatcher i)
is-numbered s i e = ap (λ (b : Bool). cond b (some (thread_of s.dispatcher i)) none) e

-- as many threads as before, and what becomes of each
becomes-by : (R : Thread → Thread → Type 0) (s after : State) → count after.dispatcher ≡ count s.dispatcher → (j : ℕ) → R (thread_of s.dispatcher j) (thread_of after.dispatcher j) → Becomes R s after j
becomes-by R s after c j r y e =
    let k = numbered_is s j y e in (
      thread_of after.dispatcher j,
      is-numbered after j (ap (λ (n : ℕ). cond (eqb j 0) false (leb j n)) c ∙ k.0),
      subst (λ (x : Thread). R x (thread_of after.dispatcher j)) k.1 r,
    )

runs-is : (x : Status) → is_running x ≡ true → x ≡ running
runs-is running e = refl
runs-is ready e = absurd (not-both (sym e))
runs-is (waiting w) e = absurd (not-both (sym e))
runs-is (exited n) e = absurd (not-both (sym e))

ready-not : (x : Status) → is_ready x ≡ true → is_running x ≡ false
ready-not running e = absurd (not-both (sym e))
ready-not ready e = refl
ready-not (waiting w) e = refl
ready-not (exited n) e = refl

-- ---- what a wait's list names

pub names-pairs : (l : List ℕ) → Names l (pairs l)
names-pairs [] = record { named = λ k h. absurd (omega arith); no_more = λ k h. refl }
names-pairs (kind ∷ []) = record { named = λ k h. absurd (omega arith); no_more = λ k h. refl }
names-pairs (kind ∷ key ∷ l) = let r = names-pairs l in record { named = named r; no_more = no_more r }
  where
    two : (k : ℕ) → (suc (suc (2 * k)) ≡ 2 * suc k) × (suc (suc (2 * k + 1)) ≡ 2 * suc k + 1)
    two k = (omega arith, omega arith)

    named : Names l (pairs l) → (k : ℕ) → 2 * k + 1 < length (kind ∷ key ∷ l) → nth (pairs (kind ∷ key ∷ l)) k ≡ some (record { kind = get_or (kind ∷ key ∷ l) (2 * k) 0; key = get_or (kind ∷ key ∷ l) (2 * k + 1) 0 })
    named r zero h = refl
    named r (suc k) h = r.named k (omega arith) ∙ ap (λ (n : ℕ). some (record { kind = get_or (kind ∷ key ∷ l) n 0; key = get_or l (2 * k + 1) 0 })) (two k).0
        ∙ ap (λ (n : ℕ). some (record { kind = get_or (kind ∷ key ∷ l) (2 * suc k) 0; key = get_or (kind ∷ key ∷ l) n 0 })) (two k).1

    no_more : Names l (pairs l) → (k : ℕ) → length (kind ∷ key ∷ l) ≤ 2 * k + 1 → nth (pairs (kind ∷ key ∷ l)) k ≡ none
    no_more r zero h = absurd (omega arith)
    no_more r (suc k) h = r.no_more k (omega arith)

-- ---- which thread is current

-- whoever runs is current, so where the same threads run the same one is current
same-current : (d d' : Dispatcher) → Standing d.threads d.placed d.waiters d.current d.sequence → Standing d'.threads d'.placed d'.waiters d'.current d'.sequence
    → ((i : ℕ) → is_running (status_of d' i) ≡ is_running (status_of d i)) → d'.current ≡ d.current
same-current d d' s s' h = elim (ℕ_discrete d.current 0) [
  | yes e ↦ elim (ℕ_discrete d'.current 0) [
    | yes e' ↦ e' ∙ sym e
    | no n ↦ let z : d'.current ≡ d.current = eqb-true d'.current d.current (s.current_runs d'.current (omega (arith, n)) ∙ sym (h d'.current) ∙ sym (s'.current_runs d'.current (omega (arith, n))) ∙ eq-eqb d'.current d'.current refl) in z
  ]
  | no n ↦ sym (eqb-true d.current d'.current (s'.current_runs d.current (omega (arith, n)) ∙ h d.current ∙ sym (s.current_runs d.current (omega (arith, n))) ∙ eq-eqb d.current d.current refl))
]

module _ (s : State) (v : Valid s) where
  abbrev d₀ : Dispatcher
  d₀ = s.dispatcher

  abbrev me : ℕ
  me = s.dispatcher.current

  abbrev mine : Thread
  mine = thread_of s.dispatcher s.dispatcher.current

  module _ (some-current : eqb s.dispatcher.current 0 ≡ false) where
    my-number : 1 ≤ s.dispatcher.current
    my-number = omega (arith, eqb-false me 0 some-current)

    running-me : is_running mine.status ≡ true
    running-me = sym (v.sound.standing.current_runs me my-number) ∙ eq-eqb me me refl

    runs-me : mine.status ≡ running
    runs-me = runs-is mine.status running-me

    thread-me : is_thread s.dispatcher s.dispatcher.current ≡ true
    thread-me = let r = stands-somewhere d₀.threads me is_running refl running-me in is-thread d₀ me r.0 r.1

  out : ◌≡◌ {A = ℕ} (cond (eqb me me) 0 me) 0
  out = ap (λ (b : Bool). cond b 0 me) (eq-eqb me me refl)

  -- ---- terminate

  pub terminate-exits : (n : ℕ) → refusal (call.Terminate n) s ≡ 0 → Exits s (step (call.Terminate n) s).state s.dispatcher.current n (thread_of s.dispatcher s.dispatcher.current)
  unfolding refusal terminate_refusal effect terminated
  terminate-exits n e =
      let c = passes (eqb me 0) 2 _ e in
      let t = thread-me c.0 in
      let r = thread-is d₀ me t in
      let d₁ = becomes d₀ me (exited_with n mine) in
      let k : count (wake d₁) ≡ count d₀ = wake-count d₁ ∙ length-exits in
      let a = wake-after s.limits d₀ d₁ (ThatThread me) v.quiet (thread-freed d₀ me (exited_with n mine)) (sound-exits c.0 (passes (owns_mutex d₀.objects me) 9 0 c.1).0) still in
      subst (λ (o : Outcome). Exits s o.state me n mine) (sym (step_is (call.Terminate n) s e)) (record {
        own = is-numbered (with_dispatcher s (wake d₁)) me (ap (λ (j : ℕ). cond (eqb me 0) false (leb me j)) k ∙ t) ∙ ap {B = Option Thread} some (stays (a me) (exits r.0 r.1));
        current = wake-none d₁ gone;
        others = λ j ne. becomes-by (AfterWake (ThatThread me)) s (with_dispatcher s (wake d₁)) k j (subst (λ (x : Thread). AfterWake (ThatThread me) x (thread_of (wake d₁) j)) (other j ne) (a j));
      })
    where
      stays : {a b : Thread} → AfterWake (ThatThread me) a b → a ≡ exited_with n mine → b ≡ exited_with n mine
      stays (leaving.same q) z = q ∙ z
      stays (leaving.woken w p k i q) z = absurd (not-both (sym (ap (λ (x : Thread). is_waiting x.status) (sym z) ∙ ap is_waiting p)))

      gone : (becomes d₀ me (exited_with n mine)).current ≡ 0
      gone = unfold becomes in out

      length-exits : count (becomes d₀ me (exited_with n mine)) ≡ count d₀
      length-exits = unfold becomes in (length-change d₀.threads me (exited_with n mine))

      exits : 1 ≤ me → me ≤ count d₀ → thread_of (becomes d₀ me (exited_with n mine)) me ≡ exited_with n mine
      exits f t = unfold becomes in (change-own d₀.threads me (exited_with n mine) f t)

      other : (j : ℕ) → (j ≡ me → ⊥) → thread_of (becomes d₀ me (exited_with n mine)) j ≡ thread_of d₀ j
      other j ne = unfold becomes in (change-other d₀.threads me (exited_with n mine) j ne)

      still : (j : ℕ) (w : Wait) → status_of (becomes d₀ me (exited_with n mine)) j ≡ waiting w → status_of d₀ j ≡ waiting w
      still j w = unfold becomes in (change-either (λ (x : Thread). x.status ≡ waiting w → status_of d₀ j ≡ waiting w) d₀.threads me (exited_with n mine) j (λ q. absurd (not-both (sym (ap is_waiting q)))) (λ q. q))

      sound-exits : eqb me 0 ≡ false → owns_mutex d₀.objects me ≡ false → Sound s.limits (becomes d₀ me (exited_with n mine))
      sound-exits c o =
          let r = thread-is d₀ me (thread-me c) in
          sound-becomes s.limits d₀ v.sound me (exited_with n mine)
          (record { from = r.0; to = r.1; runs = λ q. absurd (not-both (sym q)); later = λ q. absurd (not-both (sym q)); below = λ q. absurd (not-both (sym q)) })
          (v.sound.priorities me r.0 r.1) tt
          (λ q k m f z. not-both (sym (eq-eqb m.owner me z) ∙ any_false (λ (y : Mutex). eqb y.owner me) (mutexes_of d₀.objects) o m (mutex-mem d₀.objects m (found key_of d₀.objects k (mutex m) f).0)))

  -- ---- yield

  pub yield-leaves : refusal call.YieldCurrent s ≡ 0 → Yields s (step call.YieldCurrent s).state s.dispatcher.current (thread_of s.dispatcher s.dispatcher.current)
  unfolding refusal yield_refusal effect yielded becomes
  yield-leaves e =
      let c = (passes (eqb me 0) 2 _ e).0 in
      subst (λ (o : Outcome). Yields s o.state me mine) (sym (step_is call.YieldCurrent s e)) (record {
        thread = thread-put s (with_dispatcher s (yielded d₀)) me (record { priority = mine.priority; status = ready; result = mine.result }) (thread-me c) refl;
        current = out;
        objects = refl;
        dpcs = refl;
      })

  -- ---- waits

  -- the current thread goes on, with this result
  goes_on : eqb s.dispatcher.current 0 ≡ false → (d : Dispatcher) (r : WaitResult) → d.current ≡ s.dispatcher.current
      → d.threads ≡ change_at s.dispatcher.threads s.dispatcher.current (record { priority = mine.priority; status = mine.status; result = some r })
      → GoesOn s (with_dispatcher s d) s.dispatcher.current (thread_of s.dispatcher s.dispatcher.current) r
  goes_on c d r k e = record {
    thread = thread-put s (with_dispatcher s d) me (runs_after r mine) (thread-me c)
        (e ∙ ap (λ (x : Status). change_at d₀.threads me (record { priority = mine.priority; status = x; result = some r })) (runs-me c));
    current = k;
  }

  ungranted : eqb s.dispatcher.current 0 ≡ false → (ns : List Named) (all : Bool) (deadline : Option ℕ) (b : Bool) → reached deadline s.now ≡ b → let o = cond b (timed_out s) (blocks s ns all deadline) in
      Ungranted s o.state s.dispatcher.current (thread_of s.dispatcher s.dispatcher.current) ns all deadline o.answer
  unfolding timed_out blocks blocked becomes
  ungranted c ns all deadline true e = let r = reached-so deadline e in leaving.times-out refl r.0 r.1 r.2 (goes_on c (timed_out s).state.dispatcher timeout refl refl) refl
    where
      reached-so : (x : Option ℕ) → reached x s.now ≡ true → (end : ℕ) × (x ≡ some end) × (end ≤ s.now)
      reached-so none q = absurd (not-both (sym q))
      reached-so (some end) q = (end, refl, leb-true end s.now q)
  ungranted c ns all deadline false e =
      let w : Wait = record { objects = ns; all = all; deadline = deadline; sequence = d₀.sequence } in
      leaving.blocks refl (λ end q. leb-false end s.now (ap (λ (x : Option ℕ). reached x s.now) (sym q) ∙ e)) (record {
        sequence = d₀.sequence;
        thread = thread-put s (blocks s ns all deadline).state me (waits_with w mine) (thread-me c) refl;
        last = λ j y q. omega (arith, ap (λ (x : Status). (wait_of x).sequence) q, v.sound.standing.below j (member-mem j d₀.waiters (v.sound.standing.waiters_waiting j ∙ ap is_waiting q)));
        current = out;
        untouched = refl;
      })

  -- the thread's result is what the wait answers; else it waits for just these objects
  pub wait-result : (l : List ℕ) (all : Bool) (deadline : Option ℕ) (irql : ℕ) → refusal (call.Wait l all deadline irql) s ≡ 0
      → WaitLeaves s (step (call.Wait l all deadline irql) s).state s.dispatcher.current (thread_of s.dispatcher s.dispatcher.current) (pairs l) all deadline (step (call.Wait l all deadline irql) s).answer
  unfolding refusal wait_refusal effect waited granted
  wait-result l all deadline irql e =
      subst (λ (o : Outcome). WaitLeaves s o.state me mine (pairs l) all deadline o.answer) (sym (step_is (call.Wait l all deadline irql) s e))
      (go (passes (eqb me 0) 2 _ e).0 (is_met d₀ (pairs l) all))
    where
      go : eqb me 0 ≡ false → (b : Bool) → let o = cond b (granted s (pairs l) all) (cond (reached deadline s.now) (timed_out s) (blocks s (pairs l) all deadline)) in WaitLeaves s o.state me mine (pairs l) all deadline o.answer
      go c true = leaving.grants (index d₀ (pairs l) all) refl (goes_on c (granted s (pairs l) all).state.dispatcher (satisfied (index d₀ (pairs l) all)) refl refl)
      go c false = leaving.otherwise (ungranted c (pairs l) all deadline (reached deadline s.now) refl)

  -- a delay waits for no object
  pub delay-result : (deadline irql : ℕ) → refusal (call.DelayUntil deadline irql) s ≡ 0
      → Ungranted s (step (call.DelayUntil deadline irql) s).state s.dispatcher.current (thread_of s.dispatcher s.dispatcher.current) [] false (some deadline) (step (call.DelayUntil deadline irql) s).answer
  unfolding refusal delay_refusal effect delayed
  delay-result deadline irql e =
      let h = passes (ltb 1 irql) 8 _ e in
      subst (λ (o : Outcome). Ungranted s o.state me mine [] false (some deadline) o.answer) (sym (step_is (call.DelayUntil deadline irql) s e))
      (ungranted (passes (eqb me 0) 2 _ h.1).0 [] false (some deadline) (leb deadline s.now) refl)

  -- ---- the time

  -- an advance sets the time
  pub advance-time : (time : ℕ) → refusal (call.AdvanceTo time) s ≡ 0 → (step (call.AdvanceTo time) s).state.now ≡ time
  unfolding effect advanced
  advance-time time e = ap (λ (o : Outcome). o.state.now) (step_is (call.AdvanceTo time) s e)

  -- ---- calls with a wake pass

  -- an object with another owner or signal: who wakes has waited for it
  put-wakes : (key : ℕ) (x o : Object) → object_at s.dispatcher.objects key ≡ some o → key_of x ≡ key_of o → core x ≡ core o → OwnerLive s.dispatcher x → (j : ℕ)
      → Becomes (AfterWake (λ n. n ≡ record { kind = kind_of x; key = key })) s (with_dispatcher s (wake (with_objects s.dispatcher (put_object x s.dispatcher.objects)))) j
  put-wakes key x o f k c l j =
      let z = k ∙ (found key_of d₀.objects key o f).1 in
      let d₁ = with_objects d₀ (put_object x d₀.objects) in
      becomes-by (AfterWake (λ n. n ≡ record { kind = kind_of x; key = key })) s (with_dispatcher s (wake d₁)) (wake-count d₁) j
      (wake-after s.limits d₀ d₁ (λ n. n ≡ record { kind = kind_of x; key = key }) v.quiet
      (λ n p q. put-freed d₀ x n p q ∙ ap {B = Named} (λ (a : ℕ). record { kind = kind_of x; key = a }) z)
      (sound-restated s.limits d₀ v.sound d₁.objects (restated-put d₀ d₀.objects x o v.sound.rising v.sound.owners (ap (object_at d₀.objects) z ∙ f) c l))
      (λ i w q. q) j)

  pub set-event-leaves : (key : ℕ) → refusal (call.SetEvent key) s ≡ 0 → (j : ℕ) → Becomes (AfterWake (ThatEvent key)) s (step (call.SetEvent key) s).state j
  unfolding effect event_set
  set-event-leaves key e j = subst (λ (o : Outcome). Becomes (AfterWake (ThatEvent key)) s o.state j) (sym (step_is (call.SetEvent key) s e)) (go (event_at d₀.objects key) refl)
    where
      go : (o : Option Event) → event_at d₀.objects key ≡ o
          → Becomes (AfterWake (ThatEvent key)) s (given o (gives Done s) (λ (x : Event). gives (Flag x.signaled) (with_dispatcher s (wake (with_objects d₀ (put_object (signaled_as true x) d₀.objects)))))).state j
      go none f = becomes-by (AfterWake (ThatEvent key)) s s refl j (leaving.same refl)
      go (some x) f = put-wakes key (signaled_as true x) (event x) (event-found (object_at d₀.objects key) x f) refl refl tt j

  pub release-leaves : (key : ℕ) → refusal (call.ReleaseMutex key) s ≡ 0 → (j : ℕ) → Becomes (AfterWake (ThatMutex key)) s (step (call.ReleaseMutex key) s).state j
  unfolding effect mutex_released
  release-leaves key e j = subst (λ (o : Outcome). Becomes (AfterWake (ThatMutex key)) s o.state j) (sym (step_is (call.ReleaseMutex key) s e)) (go (mutex_at d₀.objects key) refl)
    where
      go : (o : Option Mutex) → mutex_at d₀.objects key ≡ o
          → Becomes (AfterWake (ThatMutex key)) s (given o s (λ (m : Mutex). with_dispatcher s (wake (with_objects d₀ (put_object (owned_by 0 m) d₀.objects))))) j
      go none f = becomes-by (AfterWake (ThatMutex key)) s s refl j (leaving.same refl)
      go (some m) f = put-wakes key (owned_by 0 m) (mutex m) (mutex-found (object_at d₀.objects key) m f) refl refl refl j

  -- ---- advance

  module _ (time : ℕ) (e : refusal (call.AdvanceTo time) s ≡ 0) where
    abbrev s₁ : State
    s₁ = (step (call.AdvanceTo time) s).state

    abbrev d₁ : Dispatcher
    d₁ = with_objects s.dispatcher (expired_at s time).objects

    advanced-is : ((step (call.AdvanceTo time) s).state.dispatcher ≡ time_out time (wake d₁)) × ((step (call.AdvanceTo time) s).state.now ≡ time)
    unfolding effect advanced
    advanced-is = (ap (λ (o : Outcome). o.state.dispatcher) (step_is (call.AdvanceTo time) s e), ap (λ (o : Outcome). o.state.now) (step_is (call.AdvanceTo time) s e))

    -- no deadline that is reached is left
    ahead : (j : ℕ) (w : Wait) (t : ℕ) → status_of s₁.dispatcher j ≡ waiting w → w.deadline ≡ some t → time < t
    ahead j w t p q = leb-false t time (
        sym (ap (λ (x : Status). reached (wait_of x).deadline time) p ∙ ap (λ (o : Option ℕ). reached o time) q)
        ∙ ap (reached (wait_of (status_of s₁.dispatcher j)).deadline) (sym advanced-is.1) ∙ (valid-step s v (call.AdvanceTo time)).in_time j)

    not-refused : refusal_of_each s.policy time (unexpired s) (due_timers s.policy time s.dispatcher.objects) ≡ 0
    unfolding refusal advance_refusal
    not-refused = (passes (ltb time s.now) 11 (refusal_of_each s.policy time (unexpired s) (due_timers s.policy time d₀.objects)) e).1

    sound-expired : Sound s.limits d₁
    sound-expired =
        let x = all-expired s.limits d₀ s.policy time (due_timers s.policy time d₀.objects) (unexpired s) (begun s v) (due-pending s.policy time d₀.objects v.sound.rising) not-refused in
        sound-objects s.limits d₀ v.sound d₁.objects (λ i n m. x.keeps n) x.owners x.rising x.room x.places

    after-advance : (j : ℕ) → AfterAdvance (DueTimer s time) time (thread_of s.dispatcher j) (thread_of s₁.dispatcher j)
    after-advance j = go (wake-after s.limits d₀ d₁ (DueTimer s time) v.quiet (time-freed s v time) sound-expired (λ i w q. q) j) (timeouts-after time (wake d₁) j) (ap (λ (d : Dispatcher). thread_of d j) advanced-is.0)
      where
        go : {b c : Thread} → AfterWake (DueTimer s time) (thread_of d₀ j) b
            → (c ≡ b) ⊎ ((w : Wait) × (t : ℕ) × (b.status ≡ waiting w) × (w.deadline ≡ some t) × (t ≤ time) × (c ≡ ready_after timeout b))
            → thread_of s₁.dispatcher j ≡ c → AfterAdvance (DueTimer s time) time (thread_of d₀ j) (thread_of s₁.dispatcher j)
        go (leaving.same q) (inl r) z = leaving.same (z ∙ r ∙ q) (λ w t p. ahead j w t (ap (λ (x : Thread). x.status) (z ∙ r ∙ q) ∙ p))
        go (leaving.same q) (inr r) z = leaving.timed-out r.0 (ap (λ (x : Thread). x.status) (sym q) ∙ r.2) r.1 r.3 r.4 (z ∙ r.5 ∙ ap (ready_after timeout) q)
        go (leaving.woken w p k i q) (inl r) z = leaving.woken w p k i (z ∙ r ∙ q)
        go (leaving.woken w p k i q) (inr r) z = absurd (not-both (sym (ap (λ (x : Thread). is_waiting x.status) (sym q) ∙ ap is_waiting r.2)))

    pub advance-timeouts : (j : ℕ) → Becomes (AfterAdvance (DueTimer s time) time) s (step (call.AdvanceTo time) s).state j
    advance-timeouts j = becomes-by (AfterAdvance (DueTimer s time) time) s s₁ (ap count advanced-is.0 ∙ timeouts-count time (wake d₁) ∙ wake-count d₁) j (after-advance j)

    runs_on : {a b : Thread} → AfterAdvance (DueTimer s time) time a b → is_running b.status ≡ is_running a.status
    runs_on (leaving.same q h) = ap (λ (x : Thread). is_running x.status) q
    runs_on (leaving.woken w p k i q) = ap (λ (x : Thread). is_running x.status) q ∙ sym (ap is_running p)
    runs_on (leaving.timed-out w p t h l q) = ap (λ (x : Thread). is_running x.status) q ∙ sym (ap is_running p)

    -- the same thread is current
    pub advance-current : (step (call.AdvanceTo time) s).state.dispatcher.current ≡ s.dispatcher.current
    advance-current = same-current d₀ s₁.dispatcher v.sound.standing (valid-step s v (call.AdvanceTo time)).sound.standing (λ i. runs_on (after-advance i))

  -- ---- priority

  pub priority-leaves : (i p : ℕ) → refusal (call.Priority i p) s ≡ 0 → OneThread s (step (call.Priority i p) s).state i (given_priority p (thread_of s.dispatcher i))
  unfolding refusal priority_refusal effect prioritized becomes
  priority-leaves i p e =
      let a = passes (not_priority p) 0 _ e in
      let t = (holds (is_thread d₀ i) 1 _ a.1).0 in
      subst (λ (o : Outcome). OneThread s o.state i (given_priority p (thread_of d₀ i))) (sym (step_is (call.Priority i p) s e)) (go t (is_ready (status_of d₀ i)) refl)
    where
      new : Thread
      new = given_priority p (thread_of d₀ i)

      -- a ready thread is not current
      apart : is_thread d₀ i ≡ true → is_ready (status_of d₀ i) ≡ true → me ≡ i → ⊥
      apart t q z = not-both (sym (eq-eqb i me (sym z)) ∙ v.sound.standing.current_runs i (thread-is d₀ i t).0 ∙ ready-not (status_of d₀ i) q)

      stays : (x : Status) → is_ready x ≡ true → (me ≡ i → ⊥) → current_as x i me ≡ me
      stays running q n = absurd (not-both (sym q))
      stays ready q n = ap (λ (b : Bool). cond b 0 me) (ne_eqb me i n)
      stays (waiting w) q n = absurd (not-both (sym q))
      stays (exited k) q n = absurd (not-both (sym q))

      go : is_thread d₀ i ≡ true → (b : Bool) → is_ready (status_of d₀ i) ≡ b → OneThread s (with_dispatcher s (cond b (becomes d₀ i (given_priority p (thread_of d₀ i))) (with_thread d₀ i (given_priority p (thread_of d₀ i))))) i (given_priority p (thread_of d₀ i))
      go t true q = record {
        thread = thread-put s (with_dispatcher s (becomes d₀ i new)) i new t refl;
        current = stays (status_of d₀ i) q (apart t q);
        objects = refl;
        dpcs = refl;
      }
      go t false q = record { thread = thread-put s (with_dispatcher s (with_thread d₀ i new)) i new t refl; current = refl; objects = refl; dpcs = refl }

  -- ---- create

  -- the new thread has the next number
  pub create-leaves : (p : ℕ) → refusal (call.CreateThread p) s ≡ 0
      → (i : ℕ) × ((step (call.CreateThread p) s).answer ≡ ThreadNumber i) × Creates s (step (call.CreateThread p) s).state p i
  unfolding effect created becomes
  create-leaves p e =
      subst (λ (o : Outcome). (i : ℕ) × (o.answer ≡ ThreadNumber i) × Creates s o.state p i) (sym (step_is (call.CreateThread p) s e)) (
        n,
        refl,
        record {
          new = numbered-out d₀.threads (count d₀) (suc (count d₀)) (omega arith);
          one = record {
            thread = record {
              own = is n ∙ numbered-in (d₀.threads ++ (fresh_thread p ∷ [])) n n (omega arith) (omega arith) ∙ ap {B = Option Thread} some (append-new d₀.threads (fresh_thread p));
              others = λ j ne. is j ∙ other j ne;
            };
            current = ap (λ (b : Bool). cond b 0 me) (ne_eqb me n below);
            objects = refl;
            dpcs = refl;
          };
        },
      )
    where
      n : ℕ
      n = suc (count d₀)

      is : (j : ℕ) → thread_numbered (with_dispatcher s (created d₀ p)) j ≡ numbered_in (d₀.threads ++ (fresh_thread p ∷ [])) (suc (count d₀)) j
      is j = ap (λ (l : List Thread). numbered_in l (length l) j) (created-threads d₀ p)
          ∙ ap (λ (k : ℕ). numbered_in (d₀.threads ++ (fresh_thread p ∷ [])) k j) (append-length d₀.threads (fresh_thread p))

      other : (j : ℕ) → (j ≡ suc (count d₀) → ⊥) → numbered_in (d₀.threads ++ (fresh_thread p ∷ [])) (suc (count d₀)) j ≡ thread_numbered s j
      other j ne = elim (dec_lt (count d₀) j) [
        | yes h ↦ numbered-out (d₀.threads ++ (fresh_thread p ∷ [])) (suc (count d₀)) j (omega (arith, h, ne)) ∙ sym (numbered-out d₀.threads (count d₀) j h)
        | no h ↦ elim (ℕ_discrete j 0) [
          | yes z ↦ subst (λ (k : ℕ). numbered_in (d₀.threads ++ (fresh_thread p ∷ [])) (suc (count d₀)) k ≡ thread_numbered s k) (sym z) refl
          | no z ↦ numbered-in (d₀.threads ++ (fresh_thread p ∷ [])) (suc (count d₀)) j (omega (arith, z)) (omega (arith, h))
              ∙ ap {B = Option Thread} some (append-old d₀.threads (fresh_thread p) j (omega (arith, h))) ∙ sym (numbered-in d₀.threads (count d₀) j (omega (arith, z)) (omega (arith, h)))
        ]
      ]

      below : me ≡ suc (count d₀) → ⊥
      below z =
          let r = stands-somewhere d₀.threads me is_running refl (running-me (ne_eqb me 0 (λ q. omega (arith, q, z)))) in
          omega (arith, r.1, z)
