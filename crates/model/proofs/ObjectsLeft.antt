-- What the calls on events, mutexes, timers and DPCs leave: the one record, and every other as it was.
use Prim.Native.Nat.{ℕ, suc, ◌+◌}
use mathlib.Core.List.{List}
use mathlib.Core.Bool.{Bool, true, false, cond, not}
use mathlib.Core.Option.{Option, none, some}
use mathlib.Core.Path.{◌≡◌, refl, sym, ap, ◌∙◌, subst}
use native.Mathlib.Omega.{arith}
use borrow.Author.Tests.{eqb-true, not-false}
use lib.Dec.{eqb}
use lib.IntN.{ℤ, pos, negsuc}
use Rattle.arch.specs.declared.Architecture.{Architecture}
use Rattle.images.specs.declared.TimerBacking.{TimerBacking}
use Rattle.images.specs.declared.Timer.{Timer}
use Rattle.model.specs.Lists.{given}
use Rattle.model.specs.State.{State, Mutex, Event, Object, mutex, event, timer, cpu0_dispatch}
use Rattle.model.specs.Threads.{is_live}
use Rattle.model.specs.Waits.{key_of, object_at, mutex_at, event_at, timer_at, put_object, signaled_as}
use Rattle.model.specs.Dpcs.{withdrawn}
use Rattle.model.specs.Timers.{new_timer, armed, cancelled}
use Rattle.model.specs.Refusal.{owner_number, bad_owner, mutex_refusal, adopt_refusal, set_refusal, set_signed_refusal}
use Rattle.model.specs.Answer.{Outcome, gives, Done, Flag}
use Rattle.model.specs.Call as call
use Rattle.model.specs.Step.{refusal, effect, step, with_table, with_dpcs, adopted, event_reset, timer_initialized, dpc_initialized, timer_set, cancels_work, timer_cancelled, configured}
use Rattle.model.proofs.TableLaws.{found}
use Rattle.model.proofs.ObjectLaws.{mutex-found, event-found, timer-found}
use Rattle.model.proofs.SoundLaws.{thread-is, live-is}
use Rattle.model.proofs.RowLaws.{passes}
use Rattle.model.proofs.WdkLaws.{step_is}
use Rattle.model.specs.Leaving.{set_with, taken_out, fresh_timer, fresh_dpc, kept_owner, ObjectPut, DpcPut, Leaves, PolicySet}
use Rattle.model.proofs.PutLaws.{object-put, dpc-put}

module _ (s : State) where
  abbrev objects₀ : List Object
  objects₀ = s.dispatcher.objects

  -- a table of objects in which one is put, and nothing else changed
  put-leaves : (key : ℕ) (x : Object) → key_of x ≡ key → Leaves s (with_table s (put_object x s.dispatcher.objects)) key x
  put-leaves key x e = record { object = object-put s (with_table s (put_object x objects₀)) key x e refl (record { threads = refl; current = refl }); dpcs = refl; policy = refl }

  -- ---- events

  -- the answer is what was; the event is not signaled
  pub reset-leaves : (key : ℕ) (x : Event) → refusal (call.ResetEvent key) s ≡ 0 → event_at s.dispatcher.objects key ≡ some x → let o = step (call.ResetEvent key) s in
      (o.answer ≡ Flag x.signaled) × Leaves s o.state key (event (record { key = x.key; manual = x.manual; signaled = false }))
  unfolding effect event_reset
  reset-leaves key x e f =
      subst (λ (o : Outcome). (o.answer ≡ Flag x.signaled) × Leaves s o.state key new)
      (sym (step_is (call.ResetEvent key) s e ∙ ap (λ (a : Option Event). given a (gives Done s) (λ (y : Event). gives (Flag y.signaled) (with_table s (put_object (signaled_as false y) objects₀)))) f))
      (refl, put-leaves key new (found key_of objects₀ key (event x) (event-found (object_at objects₀ key) x f)).1)
    where
      new : Object
      new = event (record { key = x.key; manual = x.manual; signaled = false })

  pub initialize-event-leaves : (key : ℕ) (manual signaled : Bool) → refusal (call.InitializeEvent key manual signaled) s ≡ 0
      → Leaves s (step (call.InitializeEvent key manual signaled) s).state key (event (record { key = key; manual = manual; signaled = signaled }))
  unfolding effect
  initialize-event-leaves key manual signaled e =
      let new = event (record { key = key; manual = manual; signaled = signaled }) in
      subst (λ (o : Outcome). Leaves s o.state key new) (sym (step_is (call.InitializeEvent key manual signaled) s e)) (put-leaves key new refl)

  -- ---- mutexes

  pub initialize-mutex-leaves : (key : ℕ) → refusal (call.InitializeMutex key) s ≡ 0 → Leaves s (step (call.InitializeMutex key) s).state key (mutex (record { key = key; owner = 0 }))
  unfolding effect
  initialize-mutex-leaves key e =
      subst (λ (o : Outcome). Leaves s o.state key (mutex (record { key = key; owner = 0 }))) (sym (step_is (call.InitializeMutex key) s e)) (put-leaves key (mutex (record { key = key; owner = 0 })) refl)

  -- a mutex that was there had this owner; a new one has it
  pub adopt-leaves : (key : ℕ) (owner : Option ℕ) → refusal (call.AdoptMutex key owner) s ≡ 0
      → Leaves s (step (call.AdoptMutex key owner) s).state key (mutex (record { key = key; owner = kept_owner owner }))
  unfolding refusal adopt_refusal effect adopted
  adopt-leaves key owner e =
      subst (λ (o : Outcome). Leaves s o.state key (mutex (record { key = key; owner = kept_owner owner }))) (sym (step_is (call.AdoptMutex key owner) s e))
      (subst (λ (n : ℕ). Leaves s (effect (call.AdoptMutex key owner) s).state key (mutex (record { key = key; owner = n }))) (same-owner owner)
      (go (mutex_at objects₀ key) refl (passes (bad_owner s.dispatcher owner) 9 _ e).1))
    where
      same-owner : (o : Option ℕ) → owner_number o ≡ kept_owner o
      same-owner none = refl
      same-owner (some i) = refl

      new : Object
      new = mutex (record { key = key; owner = owner_number owner })

      owner-is : (m : Mutex) (b : Bool) → eqb m.owner (owner_number owner) ≡ b → ◌≡◌ {A = ℕ} (cond b 0 10) 0 → m.owner ≡ owner_number owner
      owner-is m true q z = eqb-true m.owner (owner_number owner) q
      owner-is m false q z = absurd (omega arith)

      known : (m : Mutex) → mutex_at objects₀ key ≡ some m → m.owner ≡ owner_number owner → object_at objects₀ key ≡ some new
      known m f q =
          let g = mutex-found (object_at objects₀ key) m f in
          g ∙ ap {B = Option Object} (λ (k : ℕ). some (mutex (record { key = k; owner = m.owner }))) (found key_of objects₀ key (mutex m) g).1
          ∙ ap {B = Option Object} (λ (o : ℕ). some (mutex (record { key = key; owner = o }))) q

      go : (a : Option Mutex) → mutex_at objects₀ key ≡ a → given a (mutex_refusal s key) (λ (m : Mutex). cond (eqb m.owner (owner_number owner)) 0 10) ≡ 0
          → Leaves s (given a (with_table s (put_object new objects₀)) (λ (m : Mutex). s)) key new
      go none f z = put-leaves key new refl
      go (some m) f z = record {
        object = record { own = known m f (owner-is m (eqb m.owner (owner_number owner)) refl z); others = λ k n. refl; threads = record { threads = refl; current = refl } };
        dpcs = refl;
        policy = refl;
      }

  -- the owner that is given is a thread
  pub adopts-thread : (key i : ℕ) → refusal (call.AdoptMutex key (some i)) s ≡ 0 → i ≡ 0 → ⊥
  unfolding refusal adopt_refusal
  adopts-thread key i e z =
      let t = (live-is s.dispatcher i (not-false (is_live s.dispatcher i) (passes (not (is_live s.dispatcher i)) 9 _ e).0)).0 in
      omega (arith, (thread-is s.dispatcher i t).0, z)

  -- ---- timers

  -- the timer's own address is the key that it is found by
  address_is : (address : ℕ) (x : Timer) → timer_at s.dispatcher.objects address ≡ some x → x.address ≡ address
  address_is address x f = (found key_of objects₀ address (timer x) (timer-found (object_at objects₀ address) x f)).1

  set-leaves : (address due : ℕ) (absolute : Bool) (period dpc : ℕ) (x : Timer) → timer_at s.dispatcher.objects address ≡ some x
      → let o = timer_set s address due absolute period dpc in (o.answer ≡ Flag x.inserted) × Leaves s o.state address (timer (set_with x due absolute period dpc))
  unfolding timer_set armed
  set-leaves address due absolute period dpc x f =
      subst (λ (o : Outcome). (o.answer ≡ Flag x.inserted) × Leaves s o.state address (timer (set_with x due absolute period dpc)))
      (sym (ap (λ (a : Option Timer). given a (gives Done s) (λ (t : Timer). gives (Flag t.inserted) (with_table s (put_object (timer (armed t due absolute period dpc)) objects₀)))) f))
      (refl, put-leaves address (timer (set_with x due absolute period dpc)) (address_is address x f))

  -- a set that is not refused has a period from 0 on
  pub set-period : (address due : ℕ) (absolute : Bool) (period : ℤ) (dpc : ℕ) → refusal (call.SetTimer address due absolute period dpc) s ≡ 0 → (n : ℕ) × (period ≡ pos n)
  unfolding refusal set_refusal
  set-period address due absolute (pos n) dpc e = (n, refl)
  set-period address due absolute (negsuc n) dpc e = absurd (omega arith)

  pub set-signed-period : (address : ℕ) (due period : ℤ) (dpc : ℕ) → refusal (call.SetTimerSigned address due period dpc) s ≡ 0 → (n : ℕ) × (period ≡ pos n)
  unfolding refusal set_signed_refusal
  set-signed-period address due (pos n) dpc e = (n, refl)
  set-signed-period address due (negsuc n) dpc e = absurd (omega arith)

  -- the answer is whether it was inserted; the timer is set
  pub set-timer-leaves : (address due : ℕ) (absolute : Bool) (period dpc : ℕ) (x : Timer) → refusal (call.SetTimer address due absolute (pos period) dpc) s ≡ 0 → timer_at s.dispatcher.objects address ≡ some x
      → let o = step (call.SetTimer address due absolute (pos period) dpc) s in (o.answer ≡ Flag x.inserted) × Leaves s o.state address (timer (set_with x due absolute period dpc))
  unfolding effect
  set-timer-leaves address due absolute period dpc x e f =
      subst (λ (o : Outcome). (o.answer ≡ Flag x.inserted) × Leaves s o.state address (timer (set_with x due absolute period dpc)))
      (sym (step_is (call.SetTimer address due absolute (pos period) dpc) s e)) (set-leaves address due absolute period dpc x f)

  -- a signed due from 0 on is that due, absolute
  pub set-timer-signed-absolute : (address due period dpc : ℕ) (x : Timer) → refusal (call.SetTimerSigned address (pos due) (pos period) dpc) s ≡ 0 → timer_at s.dispatcher.objects address ≡ some x
      → let o = step (call.SetTimerSigned address (pos due) (pos period) dpc) s in (o.answer ≡ Flag x.inserted) × Leaves s o.state address (timer (set_with x due true period dpc))
  unfolding effect
  set-timer-signed-absolute address due period dpc x e f =
      subst (λ (o : Outcome). (o.answer ≡ Flag x.inserted) × Leaves s o.state address (timer (set_with x due true period dpc)))
      (sym (step_is (call.SetTimerSigned address (pos due) (pos period) dpc) s e)) (set-leaves address due true period dpc x f)

  -- a negative one is the time plus its magnitude, relative: `negsuc n` is −(n + 1)
  pub set-timer-signed-relative : (address n period dpc : ℕ) (x : Timer) → refusal (call.SetTimerSigned address (negsuc n) (pos period) dpc) s ≡ 0 → timer_at s.dispatcher.objects address ≡ some x
      → let o = step (call.SetTimerSigned address (negsuc n) (pos period) dpc) s in (o.answer ≡ Flag x.inserted) × Leaves s o.state address (timer (set_with x (s.now + suc n) false period dpc))
  unfolding effect
  set-timer-signed-relative address n period dpc x e f =
      subst (λ (o : Outcome). (o.answer ≡ Flag x.inserted) × Leaves s o.state address (timer (set_with x (s.now + suc n) false period dpc)))
      (sym (step_is (call.SetTimerSigned address (negsuc n) (pos period) dpc) s e)) (set-leaves address (s.now + suc n) false period dpc x f)

  -- the answer is whether it was inserted; it is not any more, and of its work no more is said here
  pub cancel-leaves : (address : ℕ) (x : Timer) → refusal (call.CancelTimer address) s ≡ 0 → timer_at s.dispatcher.objects address ≡ some x
      → let o = step (call.CancelTimer address) s in (o.answer ≡ Flag x.inserted) × ObjectPut s o.state address (timer (taken_out x))
  unfolding effect timer_cancelled
  cancel-leaves address x e f =
      subst (λ (o : Outcome). (o.answer ≡ Flag x.inserted) × ObjectPut s o.state address (timer (taken_out x)))
      (sym (step_is (call.CancelTimer address) s e
      ∙ ap (λ (a : Option Timer). given a (gives Done s) (λ (t : Timer). gives (Flag t.inserted)
      (with_table (with_dpcs s (cond (cancels_work s t) (withdrawn s.dpcs t.dpc) s.dpcs)) (put_object (timer (cancelled t)) objects₀)))) f)) (
        refl,
        object-put s (with_table (with_dpcs s (cond (cancels_work s x) (withdrawn s.dpcs x.dpc) s.dpcs)) (put_object (timer (taken_out x)) objects₀)) address (timer (taken_out x)) (address_is address x f) refl
            (record { threads = refl; current = refl }),
      )

  -- the timer has the number of this initialization
  pub initialize-timer-leaves : (address : ℕ) (a : Architecture) (b : TimerBacking) (manual : Bool) → refusal (call.InitializeTimer address a b manual) s ≡ 0
      → let after = (step (call.InitializeTimer address a b manual) s).state in
      (Leaves s after address (timer (fresh_timer address a b manual (s.timer_initializations + 1)))) × (after.timer_initializations ≡ s.timer_initializations + 1)
  unfolding effect timer_initialized new_timer
  initialize-timer-leaves address a b manual e =
      let new = timer (fresh_timer address a b manual (s.timer_initializations + 1)) in
      subst (λ (o : Outcome). (Leaves s o.state address new) × (o.state.timer_initializations ≡ s.timer_initializations + 1)) (sym (step_is (call.InitializeTimer address a b manual) s e))
      (record { object = object-put s (timer_initialized s address a b manual) address new refl refl (record { threads = refl; current = refl }); dpcs = refl; policy = refl }, refl)

  -- ---- DPCs

  pub initialize-dpc-leaves : (address : ℕ) (a : Architecture) (b : TimerBacking) (routine context : ℕ) → refusal (call.InitializeDpc address a b routine context) s ≡ 0
      → let after = (step (call.InitializeDpc address a b routine context) s).state in
      (DpcPut s after address (fresh_dpc address a b routine context)) × (after.dpc_initializations ≡ s.dpc_initializations + 1)
  unfolding effect dpc_initialized
  initialize-dpc-leaves address a b routine context e =
      let new = fresh_dpc address a b routine context in
      subst (λ (o : Outcome). (DpcPut s o.state address new) × (o.state.dpc_initializations ≡ s.dpc_initializations + 1)) (sym (step_is (call.InitializeDpc address a b routine context) s e))
      (dpc-put s (dpc_initialized s address a b routine context) address new refl refl refl refl refl (record { threads = refl; current = refl }), refl)

  -- the policy has the two arguments in their order
  pub configure-leaves : (first second : ℕ) → refusal (call.ConfigureDpcDispatch first second) s ≡ 0 → PolicySet s (step (call.ConfigureDpcDispatch first second) s).state (cpu0_dispatch first second)
  unfolding effect configured
  configure-leaves first second e =
      subst (λ (o : Outcome). PolicySet s o.state (cpu0_dispatch first second)) (sym (step_is (call.ConfigureDpcDispatch first second) s e))
      (record { policy = refl; threads = record { threads = refl; current = refl }; objects = refl; dpcs = refl })
