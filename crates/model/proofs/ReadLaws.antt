-- By what the reads answer on a state of the log: who waits, what is available, what a thread has.
use Prim.Native.Nat.{ℕ, ◌≤◌}
use mathlib.Core.Bool.{Bool, true, false, cond}
use mathlib.Core.Option.{some}
use mathlib.Core.Path.{◌≡◌, refl, sym, ap, ◌∙◌}
use native.Mathlib.Omega.{arith}
use borrow.Author.Tests.{eq-eqb}
use Rattle.model.specs.State.{State, Dispatcher, Thread, Status, running, ready, waiting, exited, Wait, Named, Object, mutex, event, timer}
use Rattle.model.specs.Threads.{thread_of, status_of, has_exited, is_waiting}
use Rattle.model.specs.Waits.{key_of, kind_of, object_at, as_mutex, as_event, as_timer, is_free, is_available, taken_by, with_signal}
use Rattle.model.specs.Answer.{None, ThreadNumber}
use Rattle.model.proofs.ListLaws.{not-both}
use Rattle.model.proofs.TableLaws.{found}
use Rattle.model.proofs.ThreadLaws.{stands-somewhere}
use Rattle.model.proofs.SoundLaws.{is-thread}
use Rattle.model.proofs.ObjectLaws.{mutex-found, event-found, timer-found}
use Rattle.model.specs.Wakes as shows
use Rattle.model.specs.Wakes.{readings_of, Waits, Available, Took, Single}
use Rattle.model.proofs.TakeLaws.{name_of}
use Rattle.model.proofs.PassLaws as at
use Rattle.model.proofs.PassLaws.{Offered, Had, available-offered, offered-available}
use Rattle.model.proofs.Told.{thread-told, told-thread, unowned-told, told-owner, told-number, event-told, told-event, timer-told, told-timer}

module _ (s : State) where
  abbrev d : Dispatcher
  d = s.dispatcher

  -- ---- who waits

  pub waits-told : (i : ℕ) (y : Wait) → Waits (readings_of s) i y → status_of s.dispatcher i ≡ waiting y
  waits-told i y w = ap (λ (t : Thread). t.status) (thread-told s i w.thread w.read).1 ∙ w.waits

  pub told-waits : (i : ℕ) (y : Wait) → status_of s.dispatcher i ≡ waiting y → Waits (readings_of s) i y
  told-waits i y q =
      let r = stands-somewhere d.threads i is_waiting refl (ap is_waiting q) in
      record { thread = thread_of d i; read = told-thread s i (is-thread d i r.0 r.1); waits = q }

  -- ---- what is available

  -- by its name or by its key
  by_name : (n : Named) (o x : Object) → n ≡ name_of o → object_at s.dispatcher.objects (key_of o) ≡ some x → object_at s.dispatcher.objects n.key ≡ some x
  by_name n o x z f = ap (λ (m : Named). object_at d.objects m.key) z ∙ f

  exits : (x : Status) → has_exited x ≡ true → (n : ℕ) × (x ≡ exited n)
  exits running e = absurd (not-both (sym e))
  exits ready e = absurd (not-both (sym e))
  exits (waiting w) e = absurd (not-both (sym e))
  exits (exited n) e = (n, refl)

  pub available-told : (n : Named) → is_available s.dispatcher n ≡ true → Available (readings_of s) n
  available-told n q = go (available-offered d n q)
    where
      go : Offered s.dispatcher n → Available (readings_of s) n
      go (at.ended k t x) = let r = exits (status_of d n.key) x in shows.ended (thread_of d n.key) r.0 k (told-thread s n.key t) r.1
      go (at.stands (mutex m) z f g) = shows.unowned (ap (λ (x : Named). x.kind) z)
          (told-owner s n.key m (ap as_mutex (by_name n (mutex m) (mutex m) z f)) ∙ ap (λ (b : Bool). cond b None (ThreadNumber m.owner)) g)
      go (at.stands (event e) z f g) = shows.signaled e (ap (λ (x : Named). x.kind) z) (told-event s n.key e (ap as_event (by_name n (event e) (event e) z f))) g
      go (at.stands (timer t) z f g) = shows.expired t (ap (λ (x : Named). x.kind) z) (told-timer s n.key t (ap as_timer (by_name n (timer t) (timer t) z f))) g

  stand : (n : Named) (o : Object) → n.kind ≡ kind_of o → object_at s.dispatcher.objects n.key ≡ some o → is_free o ≡ true → is_available s.dispatcher n ≡ true
  stand n o k f g =
      let q = (found key_of d.objects n.key o f).1 in
      offered-available d n (at.stands o
      (ap (λ (i : ℕ). record { kind = i; key = n.key }) k ∙ ap (λ (i : ℕ). record { kind = kind_of o; key = i }) (sym q)) (ap (object_at d.objects) q ∙ f) g)

  pub told-available : (n : Named) → Available (readings_of s) n → is_available s.dispatcher n ≡ true
  told-available n (shows.unowned k e) = let r = unowned-told s n.key e in stand n (mutex r.0) k (mutex-found (object_at d.objects n.key) r.0 r.1) (eq-eqb r.0.owner 0 r.2)
  told-available n (shows.signaled e k f g) = stand n (event e) k (event-found (object_at d.objects n.key) e (event-told s n.key e f)) g
  told-available n (shows.expired t k f g) = stand n (timer t) k (timer-found (object_at d.objects n.key) t (timer-told s n.key t f)) g
  told-available n (shows.ended x status k f g) =
      let r = thread-told s n.key x f in
      offered-available d n (at.ended k r.0 (ap (λ (t : Thread). has_exited t.status) r.1 ∙ ap has_exited g))

  -- ---- what a thread has, and what goes to one alone

  cleared : (a b : Bool) → b ≡ true → cond a b false ≡ a
  cleared true b e = e
  cleared false b e = refl

  pub had-told : (i : ℕ) → 1 ≤ i → (n : Named) → Had s.dispatcher i n → Took (readings_of s) i n
  had-told i one n (at.ended k t x) = let r = exits (status_of d n.key) x in shows.thread (thread_of d n.key) r.0 k (told-thread s n.key t) r.1
  had-told i one n (at.stands (mutex m) z f t) = shows.owns (ap (λ (x : Named). x.kind) z)
      (told-owner s n.key (record { key = m.key; owner = i }) (ap as_mutex (by_name n (mutex m) (taken_by i (mutex m)) z t)) ∙ told-number i (λ q. omega (arith, one)))
  had-told i one n (at.stands (event e) z f t) = shows.event (record { key = e.key; manual = e.manual; signaled = cond e.manual e.signaled false }) (ap (λ (x : Named). x.kind) z)
      (told-event s n.key (record { key = e.key; manual = e.manual; signaled = cond e.manual e.signaled false }) (ap as_event (by_name n (event e) (taken_by i (event e)) z t))) (cleared e.manual e.signaled f)
  had-told i one n (at.stands (timer u) z f t) = shows.timer (with_signal u (cond u.manual_reset u.signaled false)) (ap (λ (x : Named). x.kind) z)
      (told-timer s n.key (with_signal u (cond u.manual_reset u.signaled false)) (ap as_timer (by_name n (timer u) (taken_by i (timer u)) z t))) (cleared u.manual_reset u.signaled f)

  pub single-told : (i : ℕ) (n : Named) (o : Object) → n ≡ name_of o → is_free o ≡ true → is_free (taken_by i o) ≡ false → object_at s.dispatcher.objects (key_of o) ≡ some (taken_by i o) → Single (readings_of s) n
  single-told i n (mutex m) z f g t = shows.mutex (ap (λ (x : Named). x.kind) z)
  single-told i n (event e) z f g t = shows.event (record { key = e.key; manual = e.manual; signaled = cond e.manual e.signaled false }) (ap (λ (x : Named). x.kind) z)
      (told-event s n.key (record { key = e.key; manual = e.manual; signaled = cond e.manual e.signaled false }) (ap as_event (by_name n (event e) (taken_by i (event e)) z t))) (sym (cleared e.manual e.signaled f) ∙ g)
  single-told i n (timer u) z f g t = shows.timer (with_signal u (cond u.manual_reset u.signaled false)) (ap (λ (x : Named). x.kind) z)
      (told-timer s n.key (with_signal u (cond u.manual_reset u.signaled false)) (ap as_timer (by_name n (timer u) (taken_by i (timer u)) z t))) (sym (cleared u.manual_reset u.signaled f) ∙ g)
