-- Timer release is refused on the words just as in the log.
use Prim.Native.Nat.{ℕ, ◌+◌, ◌*◌}
use mathlib.Core.List.{List}
use mathlib.Core.Bool.{Bool, true, false, cond, not}
use mathlib.Core.Path.{◌≡◌, refl, sym, ap, ap₂, ◌∙◌, subst}
use native.Mathlib.Omega.{arith}
use lib.Dec.{eqb}
use Rattle.images.specs.declared.Timer.{Timer}
use Rattle.images.specs.declared.Dpc.{Dpc}
use Rattle.images.specs.declared.DpcPhase.{DpcPhase}
use Rattle.images.specs.declared.DpcPhase.TheVariants.{Idle, Queued, Running, Returning}
use Rattle.images.specs.Place.{architecture_number}
use Rattle.timers.specs.Record.{is_timer, is_inserted, size_at, dpc_size_at, some_in}
use Rattle.timers.specs.Release as words
use Rattle.timers.specs.Release.{timer_stands, is_timer_held, any_timer_held, dpc_stands, is_dpc_held, any_dpc_held, release_refusal}
use Rattle.model.specs.Lists.{any}
use Rattle.model.specs.State.{State, Object, timer}
use Rattle.model.specs.Waits.{kind_of, on_timer, timers_of}
use Rattle.model.specs.Dpcs.{is_busy}
use Rattle.model.specs.Timers.{is_named}
use Rattle.model.specs.Refusal.{is_waited_on, is_periodic_origin, timer_overlapped, dpc_overlapped, timer_held, dpc_held, timer_release_refusal}
use Rattle.model.specs.Valid.{Valid}
use Rattle.model.proofs.ObjectLaws.{on-timer₂, on-timer}
use Rattle.agreement.specs.Row.{Row}
use Rattle.agreement.specs.Records.{flag, object_row, dpc_row, phase_number, holder_of, active_address}
use Rattle.agreement.specs.Agree.{objects_from, dpcs_from, Agree}
use Rattle.agreement.proofs.Records.{flag-read, architecture-read}
use Rattle.agreement.proofs.Headers.{objects-few, dpcs-few}
use Rattle.agreement.proofs.Lookups.{base-is, object-count-is, row-kind, dpcs-base-is, dpc-count-is}
use Rattle.agreement_wakes.proofs.Waiters.{waits-on-is}
use Rattle.agreement_work.proofs.Named.{is-named}
use Rattle.agreement.proofs.Walks.{some_is}
use Rattle.agreement_release.proofs.Walks.{any-timer}
use Rattle.agreement_release.proofs.Origins.{active-origin-is}

-- ---- what stands in the range

pub timer-stands-is : (w : List ℕ) (place address size : ℕ) (x : Object) → Row w place (object_row x) → timer_stands w place address size ≡ on_timer false (timer_overlapped address size) x
unfolding timer_stands is_timer size_at
timer-stands-is w place address size x r = on-timer (λ b. timer_stands w place address size ≡ b) x (λ n. simp (r 1 (kind_of x) (row-kind x), n)) λ t q.
    let z = subst (λ (y : Object). Row w place (object_row y)) q r in simp (z 1 2 refl, z 0 t.address refl, z 12 (architecture_number t.architecture) refl, architecture-read)

pub dpc-stands-is : (w : List ℕ) (place address size holder : ℕ) (d : Dpc) → Row w place (dpc_row holder d) → dpc_stands w place address size ≡ dpc_overlapped address size d
unfolding dpc_stands dpc_size_at
dpc-stands-is w place address size holder d r = simp (r 0 d.address refl, r 4 (architecture_number d.architecture) refl, architecture-read)

module _ (w : List ℕ) (s : State) (a : Agree w s) (v : Valid s) where
  abbrev holder : ℕ → ℕ
  holder = holder_of s.dispatcher.objects

  abbrev active : ℕ
  active = active_address s.dpcs.table

  -- ---- timers

  is_held : (place : ℕ) (t : Timer) → Row w place (object_row (timer t))
      → is_timer_held w place ≡ cond t.inserted true (cond (is_waited_on s 2 t.address) true (is_periodic_origin s.dpcs.table t.address))
  unfolding is_timer_held is_inserted
  is_held place t r =
      simp (
        r 0 t.address refl,
        r 5 (flag t.inserted) refl,
        flag-read,
        waits-on-is w s holder active a v.sound.standing.waiters_waiting 2 t.address,
        active-origin-is w s holder a t.address,
      )

  timer-held-is : (place address size : ℕ) (x : Object) → Row w place (object_row x) → words.timer_held w place address size ≡ on_timer false (timer_held s address size) x
  unfolding words.timer_held timer_held
  timer-held-is place address size x r = ap (λ (b : Bool). cond b (is_timer_held w place) false) (timer-stands-is w place address size x r)
      ∙ on-timer₂ (λ b c. cond b (is_timer_held w place) false ≡ c) x (λ n. refl) (λ t q. ap (λ (c : Bool). cond (timer_overlapped address size t) c false) (is_held place t (subst (λ (y : Object). Row w place (object_row y)) q r)))

  any-timer-is : (address size : ℕ) → any_timer_held w address size ≡ any (timer_held s address size) (timers_of s.dispatcher.objects)
  unfolding any_timer_held
  any-timer-is address size =
      ap₂ (λ (m b : ℕ). some_in m (λ place. words.timer_held w place address size) b 0) (object-count-is w s holder active a) (base-is w s holder active a)
      ∙ some_is (λ place. words.timer_held w place address size) (on_timer false (timer_held s address size)) (objects_from s.limits) (omega (arith, a.shape.sizes.limits.threads)) s.dispatcher.objects 0
      (omega (arith, objects-few w s holder active a))
      (λ t x e. ap (λ (p : ℕ). words.timer_held w p address size) (let z : objects_from s.limits + 32 * (0 + t) ≡ objects_from s.limits + 32 * t = omega arith in z)
      ∙ timer-held-is (objects_from s.limits + 32 * t) address size x (a.objects t x e))
      ∙ sym (any-timer (timer_held s address size) s.dispatcher.objects)

  -- ---- DPCs

  dpc-held-is : (place address size : ℕ) (d : Dpc) → Row w place (dpc_row (holder_of s.dispatcher.objects d.address) d) → words.dpc_held w place address size ≡ dpc_held s address size d
  unfolding words.dpc_held dpc_held is_dpc_held
  dpc-held-is place address size d r =
      ap₂ (λ (b c : Bool). cond b c false) (dpc-stands-is w place address size (holder d.address) d r)
      (ap₂ (λ (p h : ℕ). cond (eqb p 0) (not (eqb h 0)) true) (r 1 (phase_number d.phase) refl) (r 3 (holder d.address) refl)
      ∙ ap (λ (b : Bool). cond (eqb (phase_number d.phase) 0) b true) (sym (is-named s.dispatcher.objects a.shape.rising v.sound.places d.address))
      ∙ by d.phase (is_named s.dispatcher.objects d.address))
    where
      by : (p : DpcPhase) (b : Bool) → cond (eqb (phase_number p) 0) b true ≡ cond (is_busy p) true b
      by Idle b = refl
      by (Queued x) b = refl
      by (Running x) b = refl
      by (Returning x) b = refl

  any-dpc-is : (address size : ℕ) → any_dpc_held w address size ≡ any (dpc_held s address size) s.dpcs.table
  unfolding any_dpc_held
  any-dpc-is address size =
      ap₂ (λ (m b : ℕ). some_in m (λ place. words.dpc_held w place address size) b 0) (dpc-count-is w s holder active a) (dpcs-base-is w s holder active a)
      ∙ some_is (λ place. words.dpc_held w place address size) (dpc_held s address size) (dpcs_from s.limits)
      (omega (arith, a.shape.sizes.limits.threads, a.shape.sizes.limits.objects)) s.dpcs.table 0 (omega (arith, dpcs-few w s holder active a))
      (λ t d e. ap (λ (p : ℕ). words.dpc_held w p address size) (let z : dpcs_from s.limits + 32 * (0 + t) ≡ dpcs_from s.limits + 32 * t = omega arith in z)
      ∙ dpc-held-is (dpcs_from s.limits + 32 * t) address size d (a.dpcs t d e))

  pub timer-release-is : (address size : ℕ) → release_refusal w address size ≡ timer_release_refusal s address size
  unfolding release_refusal timer_release_refusal
  timer-release-is address size = ap₂ (λ (b c : Bool). cond b 23 (cond c 23 0)) (any-timer-is address size) (any-dpc-is address size)
