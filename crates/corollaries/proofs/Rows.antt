-- The rows of the table that never say 27.
use Prim.Native.Nat.{ℕ}
use mathlib.Core.List.{List, [], ◌∷◌}
use mathlib.Core.Bool.{Bool, true, false, cond}
use mathlib.Core.Option.{Option, none, some}
use mathlib.Core.Path.{◌≡◌, refl, ap, ◌∙◌}
use lib.Dec.{eqb}
use lib.IntN.{ℤ}
use Rattle.arch.specs.declared.Architecture.{Architecture}
use Rattle.images.specs.declared.TimerBacking.{TimerBacking}
use Rattle.images.specs.declared.Timer.{Timer}
use Rattle.images.specs.declared.DpcPhase.{DpcPhase}
use Rattle.images.specs.declared.DpcPhase.TheVariants.{Idle, Queued, Running, Returning}
use Rattle.model.specs.Lists.{given}
use Rattle.model.specs.State.{State, Policy, unselected, cpu0_dispatch, Dpcs}
use Rattle.model.specs.Waits.{mutex_at, timer_at}
use Rattle.model.specs.Dpcs.{phase_at}
use Rattle.model.specs.Timers.{horizon_refusal, queue_refusal, expiry_refusal, expire_one, Expired, due_timers, refusal_of_each}
use Rattle.model.specs.Refusal as table

-- ---- a number that is not 27

eqb-cond : (b : Bool) (m n : ℕ) → eqb (cond b m n) 27 ≡ cond b (eqb m 27) (eqb n 27)
eqb-cond true m n = refl
eqb-cond false m n = refl

cond_same : {A : Type 0} (b : Bool) (x : A) → cond b x x ≡ x
cond_same true x = refl
cond_same false x = refl

given-27 : {A : Type 0} (m : Option A) (n : ℕ) (f : A → ℕ) → eqb n 27 ≡ false → ((z : A) → eqb (f z) 27 ≡ false) → eqb (given m n f) 27 ≡ false
given-27 none n f h k = h
given-27 (some z) n f h k = k z

module _ (s : State) where
  pub create-27 : (p : ℕ) → eqb (table.create_refusal s p) 27 ≡ false
  unfolding table.create_refusal
  create-27 p = simp (eqb-cond, cond_same)

  pub priority-27 : (id p : ℕ) → eqb (table.priority_refusal s id p) 27 ≡ false
  unfolding table.priority_refusal
  priority-27 id p = simp (eqb-cond, cond_same)

  pub mutex-27 : (key : ℕ) → eqb (table.mutex_refusal s key) 27 ≡ false
  unfolding table.mutex_refusal
  mutex-27 key = simp (eqb-cond, cond_same)

  pub event-27 : (key : ℕ) → eqb (table.event_refusal s key) 27 ≡ false
  unfolding table.event_refusal
  event-27 key = simp (eqb-cond, cond_same)

  pub signal-27 : (key : ℕ) → eqb (table.signal_refusal s key) 27 ≡ false
  unfolding table.signal_refusal
  signal-27 key = simp (eqb-cond, cond_same)

  pub owner-27 : (key : ℕ) → eqb (table.owner_refusal s key) 27 ≡ false
  unfolding table.owner_refusal
  owner-27 key = simp (eqb-cond, cond_same)

  pub event-release-27 : (base size layout : ℕ) → eqb (table.event_release_refusal s base size layout) 27 ≡ false
  unfolding table.event_release_refusal
  event-release-27 base size layout = simp (eqb-cond, cond_same)

  pub wait-27 : (l : List ℕ) (all : Bool) (deadline : Option ℕ) (irql : ℕ) → eqb (table.wait_refusal s l all deadline irql) 27 ≡ false
  unfolding table.wait_refusal table.sequence_refusal
  wait-27 l all deadline irql = simp (eqb-cond, cond_same)

  pub delay-27 : (deadline irql : ℕ) → eqb (table.delay_refusal s deadline irql) 27 ≡ false
  unfolding table.delay_refusal table.sequence_refusal
  delay-27 deadline irql = simp (eqb-cond, cond_same)

  place-27 : (address size : ℕ) (a : Architecture) (b : TimerBacking) → eqb (table.place_refusal s address size a b) 27 ≡ false
  unfolding table.place_refusal
  place-27 address size a b = simp (eqb-cond, cond_same)

  pub unknown-timer-27 : (address : ℕ) → eqb (table.unknown_timer s address) 27 ≡ false
  unfolding table.unknown_timer
  unknown-timer-27 address = simp (eqb-cond, cond_same)

  pub unknown-dpc-27 : (address : ℕ) → eqb (table.unknown_dpc s address) 27 ≡ false
  unfolding table.unknown_dpc
  unknown-dpc-27 address = simp (eqb-cond, cond_same)

  pub timer-release-27 : (address size : ℕ) → eqb (table.timer_release_refusal s address size) 27 ≡ false
  unfolding table.timer_release_refusal
  timer-release-27 address size = simp (eqb-cond, cond_same)

  pub configure-27 : (first second : ℕ) → eqb (table.configure_refusal s first second) 27 ≡ false
  unfolding table.configure_refusal
  configure-27 first second = simp (eqb-cond, cond_same)

  pub start-27 : (address : ℕ) → eqb (table.start_refusal s address) 27 ≡ false
  unfolding table.start_refusal
  start-27 address = simp (eqb-cond, cond_same)

  pub returned-27 : (address n : ℕ) → eqb (table.returned_refusal s address n) 27 ≡ false
  unfolding table.returned_refusal
  returned-27 address n = simp (eqb-cond, cond_same)

  pub restored-27 : (address n : ℕ) → eqb (table.restored_refusal s address n) 27 ≡ false
  unfolding table.restored_refusal
  restored-27 address n = simp (eqb-cond, cond_same)

  pub yield-27 : eqb (table.yield_refusal s) 27 ≡ false
  unfolding table.yield_refusal
  yield-27 = simp (eqb-cond, cond_same)

  pub terminate-27 : eqb (table.terminate_refusal s) 27 ≡ false
  unfolding table.terminate_refusal
  terminate-27 = simp (eqb-cond, cond_same)

  pub timer-27 : (address : ℕ) (a : Architecture) (b : TimerBacking) → eqb (table.timer_refusal s address a b) 27 ≡ false
  unfolding table.timer_refusal
  timer-27 address a b = simp (eqb-cond, cond_same, place-27)

  pub dpc-27 : (address : ℕ) (a : Architecture) (b : TimerBacking) → eqb (table.dpc_refusal s address a b) 27 ≡ false
  unfolding table.dpc_refusal
  dpc-27 address a b = simp (eqb-cond, cond_same, place-27)

  -- ---- rows that look a record up

  pub release-27 : (key : ℕ) → eqb (table.release_refusal s key) 27 ≡ false
  unfolding table.release_refusal
  release-27 key =
      eqb-cond (eqb s.dispatcher.current 0) _ _ ∙ ap (cond (eqb s.dispatcher.current 0) false)
      (given-27 (mutex_at s.dispatcher.objects key) 2 _ refl (λ z. simp (eqb-cond, cond_same))) ∙ cond_same (eqb s.dispatcher.current 0) false

  pub adopt-27 : (key : ℕ) (owner : Option ℕ) → eqb (table.adopt_refusal s key owner) 27 ≡ false
  unfolding table.adopt_refusal
  adopt-27 key owner =
      let b = table.bad_owner s.dispatcher owner in
      eqb-cond b _ _ ∙ ap (cond b false)
      (given-27 (mutex_at s.dispatcher.objects key) _ _ (mutex-27 key) (λ z. simp (eqb-cond, cond_same))) ∙ cond_same b false

  arm-27 : (address : ℕ) → eqb (table.arm_refusal s address) 27 ≡ false
  unfolding table.arm_refusal
  arm-27 address = given-27 (timer_at s.dispatcher.objects address) 2 _ refl (λ z. simp (eqb-cond, cond_same))

  pub set-27 : (address : ℕ) (period : ℤ) (dpc : ℕ) → eqb (table.set_refusal s address period dpc) 27 ≡ false
  unfolding table.set_refusal
  set-27 address period dpc = simp (eqb-cond, cond_same, arm-27)

  pub set-signed-27 : (address : ℕ) (v period : ℤ) (dpc : ℕ) → eqb (table.set_signed_refusal s address v period dpc) 27 ≡ false
  unfolding table.set_signed_refusal
  set-signed-27 address v period dpc = simp (eqb-cond, cond_same, set-27)

  phase-27 : (p : DpcPhase) → eqb (table.insert_in_phase s p) 27 ≡ false
  phase-27 Idle = simp (eqb-cond, cond_same)
  phase-27 (Queued k) = simp (eqb-cond, cond_same)
  phase-27 (Running k) = refl
  phase-27 (Returning k) = refl

  pub insert-27 : (address : ℕ) → eqb (table.insert_refusal s address) 27 ≡ false
  unfolding table.insert_refusal
  insert-27 address = simp (eqb-cond, cond_same, phase-27 (phase_at s.dpcs.table address))

-- ---- expiries

horizon-27 : (now : ℕ) (t : Timer) → eqb (horizon_refusal now t) 27 ≡ false
unfolding horizon_refusal
horizon-27 now t = simp (eqb-cond, cond_same)

queue-27 : (q : Dpcs) (t : Timer) (p : DpcPhase) → eqb (queue_refusal q t p) 27 ≡ false
queue-27 q t Idle = simp (eqb-cond, cond_same)
queue-27 q t (Queued k) = simp (eqb-cond, cond_same)
queue-27 q t (Running k) = refl
queue-27 q t (Returning k) = refl

expiry-27 : (policy : Policy) (now : ℕ) (q : Dpcs) (t : Timer) → eqb (expiry_refusal policy now q t) 27 ≡ false
unfolding expiry_refusal
expiry-27 unselected now q t = simp (eqb-cond, cond_same, horizon-27)
expiry-27 (cpu0_dispatch first second) now q t = simp (eqb-cond, cond_same, horizon-27, queue-27 q t (phase_at q.table t.dpc))

each-27 : (policy : Policy) (now : ℕ) (e : Expired) (ts : List Timer) → eqb (refusal_of_each policy now e ts) 27 ≡ false
each-27 policy now e [] = refl
each-27 policy now e (t ∷ ts) = simp (eqb-cond, cond_same, expiry-27, each-27 policy now (expire_one policy now e t) ts)

pub advance-27 : (s : State) (time : ℕ) → eqb (table.advance_refusal s time) 27 ≡ false
unfolding table.advance_refusal
advance-27 s time = simp (eqb-cond, cond_same, each-27 s.policy time (table.unexpired s) (due_timers s.policy time s.dispatcher.objects))
