-- Calls on timers, the release of their memory, and the passing of time: each keeps a valid state valid.
use Prim.Native.Nat.{ℕ, ◌+◌}
use mathlib.Core.List.{List}
use mathlib.Core.Bool.{Bool, true, false, cond, not, ◌&&◌}
use mathlib.Core.Path.{◌≡◌, refl, sym, ap, ◌∙◌, subst}
use mathlib.Core.Option.{Option, none, some}
use native.Mathlib.Omega.{arith}
use native.Mathlib.Decide.{ℕ_discrete}
use borrow.Author.Tests.{eqb-true, leb-false}
use lib.Dec.{eqb, leb, ltb}
use lib.IntN.{ℤ}
use Rattle.arch.specs.declared.Architecture.{Architecture}
use Rattle.images.specs.declared.TimerBacking.{TimerBacking}
use Rattle.images.specs.declared.Timer.{Timer}
use Rattle.images.specs.declared.Dpc.{Dpc}
use Rattle.images.specs.declared.DpcWork.{DpcWork}
use Rattle.images.specs.declared.DpcPhase.{DpcPhase}
use Rattle.images.specs.declared.DpcPhase.TheVariants.{Idle, Queued, Running, Returning}
use Rattle.images.specs.Place.{location_refusal, timer_size}
use Rattle.model.specs.Lists.{Mem, any, keep, present, given}
use Rattle.model.specs.State.{State, Limits, Dispatcher, Dpcs, Named, Object, timer}
use Rattle.model.specs.Threads.{status_of, is_thread, has_exited, wait_of, with_objects}
use Rattle.model.specs.Waits.{key_of, kind_of, object_at, timer_at, of_kind, named_in, is_free, is_available, put_object, timers_of, wake}
use Rattle.model.specs.Dpcs.{address_of, dpc_at, phase_at, is_queued, is_busy, withdrawn, is_idle}
use Rattle.model.specs.Timers.{most, lifetime, new_timer, armed, cancelled, is_named, is_named_by_other, due_timers, refusal_of_each}
use Rattle.model.specs.Refusal.{collides, is_full, is_waited_on, is_inserted, place_refusal, timer_refusal, is_negative, arm_refusal, set_refusal, set_signed_refusal, signed_due, is_periodic_origin, timer_overlapped, dpc_overlapped, timer_held, dpc_held, timer_release_refusal, is_unselected, unexpired, advance_refusal}
use Rattle.model.specs.Step.{with_dpcs, with_table, timer_initialized, timer_set, own_queued, cancels_work, timer_cancelled, is_retired_timer, timers_retired, expired_at, advanced}
use Rattle.model.specs.Answer.{gives, Done, Flag}
use Rattle.model.specs.Valid.{OwnerLive, Placed, Served, Linked, Valid}
use Rattle.model.proofs.ListLaws.{not-both, any_false}
use Rattle.model.proofs.TableLaws.{found, find-put-own, find-put-other, rising-put, find-kept, kept-found, each-put, length-put-known}
use Rattle.model.proofs.ObjectLaws.{on-timer, each-timer, timer-found}
use Rattle.model.proofs.SoundLaws.{sound-objects}
use Rattle.model.proofs.WakeLaws.{wake-quiet, timed-out}
use Rattle.model.proofs.DpcLaws.{idle-not-busy, present-some, phase-found, phase-known, queueing-withdrawn, queueing-kept, kept-phases}
use Rattle.model.proofs.LinkLaws.{Less, linked-same, linked-put, linked-idle, linked-less, linked-kept, linked-table, unnamed-by-other, timer-found-mem, unnamed}
use Rattle.model.proofs.ExpiryLaws.{exists-put, Expiring, all-expired, due-pending}
use Rattle.model.proofs.RowLaws.{passes, holds, unwaited}
use Rattle.model.proofs.KeepObjects.{valid-table, valid-put, valid-kept}
use Rattle.model.proofs.KeepDpcs.{valid-dpcs, withdrawn-linked}

-- an object in the place of one of its kind that was free whenever it is
available-put : (d : Dispatcher) (x o : Object) → object_at d.objects (key_of x) ≡ some o → kind_of x ≡ kind_of o → (is_free x ≡ true → is_free o ≡ true) → (n : Named)
    → is_available (with_objects d (put_object x d.objects)) n ≡ true → is_available d n ≡ true
available-put d x o f e h n t = go (eqb n.kind 3) t
  where
    back : given (named_in (put_object x d.objects) n) false is_free ≡ true → given (named_in d.objects n) false is_free ≡ true
    back p = elim (ℕ_discrete n.key (key_of x)) [
      | yes q ↦ ap (λ (k : ℕ). given (of_kind n.kind (object_at d.objects k)) false is_free) q ∙ ap (λ (a : Option Object). given (of_kind n.kind a) false is_free) f
          ∙ kind (eqb (kind_of o) n.kind) refl (sym (ap (λ (a : Option Object). given (of_kind n.kind a) false is_free) (find-put-own key_of x d.objects))
          ∙ ap (λ (k : ℕ). given (of_kind n.kind (object_at (put_object x d.objects) k)) false is_free) (sym q) ∙ p)
      | no z ↦ sym (ap (λ (a : Option Object). given (of_kind n.kind a) false is_free) (find-put-other key_of x d.objects n.key z)) ∙ p
    ]
      where
        kind : (b : Bool) → eqb (kind_of o) n.kind ≡ b → given (cond (eqb (kind_of x) n.kind) (some x) none) false is_free ≡ true → given (cond b (some o) none) false is_free ≡ true
        kind true q z = h (sym (ap (λ (b : Bool). given (cond b (some x) none) false is_free) (ap (λ (k : ℕ). eqb k n.kind) e ∙ q)) ∙ z)
        kind false q z = sym (ap (λ (b : Bool). given (cond b (some x) none) false is_free) (ap (λ (k : ℕ). eqb k n.kind) e ∙ q)) ∙ z

    go : (b : Bool) → cond b (cond (is_thread d n.key) (has_exited (status_of d n.key)) false) (given (named_in (put_object x d.objects) n) false is_free) ≡ true
        → cond b (cond (is_thread d n.key) (has_exited (status_of d n.key)) false) (given (named_in d.objects n) false is_free) ≡ true
    go true q = q
    go false q = back q

module _ (s : State) (v : Valid s) where
  abbrev d₀ : Dispatcher
  d₀ = s.dispatcher

  abbrev lim : Limits
  lim = s.limits

  abbrev objects : List Object
  objects = s.dispatcher.objects

  abbrev table : List Dpc
  table = s.dpcs.table

  -- a timer in the place of one at its address, signaled only if that was
  valid-retimed : (t u : Timer) → object_at objects u.address ≡ some (timer u) → t.address ≡ u.address → (t.signaled ≡ true → u.signaled ≡ true) → Placed (timer t)
      → Linked (put_object (timer t) objects) table → Valid (with_table s (put_object (timer t) objects))
  valid-retimed t u f a h p l =
      let g : object_at objects (key_of (timer t)) ≡ some (timer u) = ap (object_at objects) a ∙ f in
      valid-table s v (put_object (timer t) objects) (λ i n m e. exists-put d₀ (timer t) (timer u) g refl n e) (λ i n m e. available-put d₀ (timer t) (timer u) g refl h n e)
      (each-put key_of (OwnerLive d₀) (timer t) objects tt v.sound.owners) (rising-put key_of (timer t) objects v.sound.rising)
      (omega (arith, length-put-known key_of (timer t) objects v.sound.rising (timer u) g, v.sound.room)) (each-put key_of Placed (timer t) objects p v.sound.places) l

  -- ---- initialize_timer

  pub valid-init-timer : (address : ℕ) (a : Architecture) (b : TimerBacking) (manual : Bool) → timer_refusal s address a b ≡ 0 → Valid (timer_initialized s address a b manual)
  unfolding timer_refusal place_refusal timer_initialized new_timer
  valid-init-timer address a b manual e =
      let r₁ = passes (collides s 2 address) 4 _ e in
      let r₂ = passes (is_full s address) 3 _ r₁.1 in
      let r₃ = passes (leb lifetime s.timer_initializations) 13 _ r₂.1 in
      let r₄ = passes (is_inserted objects address) 5 _ r₃.1 in
      let r₅ = passes (is_waited_on s 2 address) 5 _ r₄.1 in
      let r₆ = holds (eqb (location_refusal address (timer_size a) a b) 0) 14 _ r₅.1 in
      let t = new_timer address a b manual (s.timer_initializations + 1) in
      let w = valid-put s v (timer t) r₁.0 r₂.0 r₅.0 tt (eqb-true (location_refusal address (timer_size a) a b) 0 r₆.0) (linked-idle t objects table refl (no-dpc r₁.0) v.linked) in
      record {
        limits = v.limits;
        sound = w.sound;
        quiet = w.quiet;
        in_time = w.in_time;
        queueing = v.queueing;
        linked = w.linked;
        policy = v.policy;
        timers_lived = omega (arith, leb-false lifetime s.timer_initializations r₃.0);
        dpcs_lived = v.dpcs_lived;
      }
    where
      no-dpc : collides s 2 address ≡ false → present (dpc_at table address) ≡ false
      no-dpc q = unfold collides in (go (present (dpc_at table address)) refl q)
        where
          go : (b : Bool) → present (dpc_at table address) ≡ b → cond b true (given (object_at objects address) false (λ o. not (eqb (kind_of o) 2))) ≡ false → present (dpc_at table address) ≡ false
          go true y z = absurd (not-both z)
          go false y z = y

  -- ---- set_timer

  valid-armed : (address due : ℕ) (absolute : Bool) (period dpc : ℕ) → (t : Timer) → timer_at objects address ≡ some t
      → ((dpc ≡ 0 → ⊥) → (present (dpc_at table dpc) ≡ true) × (is_named_by_other objects address dpc ≡ false) × (is_busy (phase_at table dpc) ≡ false))
      → Valid (with_table s (put_object (timer (armed t due absolute period dpc)) objects))
  unfolding armed
  valid-armed address due absolute period dpc t e h =
      let f = timer-found (object_at objects address) t e in
      let k : t.address ≡ address = (found key_of objects address (timer t) f).1 in
      let g : object_at objects t.address ≡ some (timer t) = ap (object_at objects) k ∙ f in
      valid-retimed u t g refl (λ z. absurd (not-both (sym z))) (v.sound.places t.address (timer t) g)
      (linked-put (timer u) objects table
      (λ i n. let q = h n in (q.0, λ w z. absurd (not-both (sym (ap is_queued z) ∙ ap is_queued (idle-not-busy (phase_at table dpc) q.2)))))
      (each-timer objects (λ j w z i₁ i₂ n q. k ∙ sym (unnamed-by-other objects address dpc (h n).1 j w z i₂ (sym q))))
      (each-timer objects (λ j w z i₁ i₂ n q. unnamed-by-other objects address dpc (h (λ y. n (q ∙ y))).1 j w z i₁ q ∙ sym k))
      (v.linked.apart t.address (ap present g)) v.linked)
    where
      u : Timer
      u = armed t due absolute period dpc

  pub valid-set-timer : (address due : ℕ) (absolute : Bool) (p : ℤ) (period dpc : ℕ) → set_refusal s address p dpc ≡ 0 → Valid (timer_set s address due absolute period dpc).state
  unfolding set_refusal timer_set
  valid-set-timer address due absolute p period dpc e =
      let r₁ = passes (is_negative p) 16 _ e in
      go (eqb dpc 0) refl r₁.1
    where
      set : (o : Option Timer) → timer_at objects address ≡ o → ((dpc ≡ 0 → ⊥) → (present (dpc_at table dpc) ≡ true) × (is_named_by_other objects address dpc ≡ false) × (is_busy (phase_at table dpc) ≡ false))
          → Valid (given o (gives Done s) (λ (t : Timer). gives (Flag t.inserted) (with_table s (put_object (timer (armed t due absolute period dpc)) objects)))).state
      set none f h = v
      set (some t) f h = valid-armed address due absolute period dpc t f h

      go : (b : Bool) → eqb dpc 0 ≡ b
          → cond b (arm_refusal s address) (cond (present (dpc_at table dpc)) (cond (is_named_by_other objects address dpc) 18 (cond (is_busy (phase_at table dpc)) 19 (arm_refusal s address))) 2) ≡ 0
          → Valid (given (timer_at objects address) (gives Done s) (λ (t : Timer). gives (Flag t.inserted) (with_table s (put_object (timer (armed t due absolute period dpc)) objects)))).state
      go true q z = set (timer_at objects address) refl (λ n. absurd (n (eqb-true dpc 0 q)))
      go false q z =
          let r₂ = holds (present (dpc_at table dpc)) 1 (cond (is_named_by_other objects address dpc) 18 (cond (is_busy (phase_at table dpc)) 19 (arm_refusal s address))) z in
          let r₃ = passes (is_named_by_other objects address dpc) 17 (cond (is_busy (phase_at table dpc)) 19 (arm_refusal s address)) r₂.1 in
          let r₄ = passes (is_busy (phase_at table dpc)) 18 (arm_refusal s address) r₃.1 in
          set (timer_at objects address) refl (λ n. (r₂.0, r₃.0, r₄.0))

  pub valid-set-signed : (address : ℕ) (d p : ℤ) (due : ℕ) (absolute : Bool) (period dpc : ℕ) → set_signed_refusal s address d p dpc ≡ 0 → Valid (timer_set s address due absolute period dpc).state
  unfolding set_signed_refusal
  valid-set-signed address d p due absolute period dpc e =
      let r₁ = passes (is_negative p) 16 (cond (is_negative d && ltb most (signed_due s.now d)) 13 (set_refusal s address p dpc)) e in
      let r₂ = passes (is_negative d && ltb most (signed_due s.now d)) 12 (set_refusal s address p dpc) r₁.1 in
      valid-set-timer address due absolute p period dpc r₂.1

  -- ---- cancel_timer

  cancel-less : (t : Timer) → Less (cancelled t) t
  cancel-less t = record { inserted = λ e. absurd (not-both (sym e)); address = refl; dpc = refl; arm = refl; initialization = refl }

  pub valid-cancelled : (t : Timer) → object_at objects t.address ≡ some (timer t) → Valid (with_table s (put_object (timer (cancelled t)) objects))
  valid-cancelled t f = valid-retimed (cancelled t) t f refl (λ z. z) (v.sound.places t.address (timer t) f) (linked-less (cancelled t) t objects table (cancel-less t) f v.linked)

-- the work of the cancelled timer first, then the timer
pub valid-cancel : (s : State) → Valid s → (address : ℕ) → Valid (timer_cancelled s address).state
unfolding timer_cancelled
valid-cancel s v address = go (timer_at s.dispatcher.objects address) refl
  where
    work : (t : Timer) → cancels_work s t ≡ true → (w : DpcWork) × (phase_at s.dpcs.table t.dpc ≡ Queued w)
    work t e = unfold cancels_work in (by t.inserted (is_unselected s.policy) (eqb t.dpc 0) e)
      where
        queued : (p : DpcPhase) → phase_at s.dpcs.table t.dpc ≡ p → own_queued t p ≡ true → (w : DpcWork) × (phase_at s.dpcs.table t.dpc ≡ Queued w)
        queued Idle q z = absurd (not-both (sym z))
        queued (Queued w) q z = (w, q)
        queued (Running w) q z = absurd (not-both (sym z))
        queued (Returning w) q z = absurd (not-both (sym z))

        by : (a b c : Bool) → cond a (cond b false (cond c false (own_queued t (phase_at s.dpcs.table t.dpc)))) false ≡ true → (w : DpcWork) × (phase_at s.dpcs.table t.dpc ≡ Queued w)
        by true true c z = absurd (not-both (sym z))
        by true false true z = absurd (not-both (sym z))
        by true false false z = queued (phase_at s.dpcs.table t.dpc) refl z
        by false b c z = absurd (not-both (sym z))

    both : (t : Timer) → object_at s.dispatcher.objects t.address ≡ some (timer t) → (b : Bool) → cancels_work s t ≡ b
        → Valid (with_table (with_dpcs s (cond b (withdrawn s.dpcs t.dpc) s.dpcs)) (put_object (timer (cancelled t)) s.dispatcher.objects))
    both t f true e =
        let w = work t e in
        let d = phase-known s.dpcs.table t.dpc (ap is_idle w.1) in
        let q = withdrawn s.dpcs t.dpc in
        valid-cancelled (with_dpcs s q) (valid-dpcs s v q (queueing-withdrawn s.limits.dpcs s.dpcs v.queueing t.dpc d.0 d.1 w.0 (sym (phase-found s.dpcs.table t.dpc d.0 d.1) ∙ w.1)) (withdrawn-linked s v t.dpc d.0 d.1)) t f
    both t f false e = valid-cancelled s v t f

    go : (o : Option Timer) → timer_at s.dispatcher.objects address ≡ o
        → Valid (given o (gives Done s) (λ (t : Timer). gives (Flag t.inserted) (with_table (with_dpcs s (cond (cancels_work s t) (withdrawn s.dpcs t.dpc) s.dpcs)) (put_object (timer (cancelled t)) s.dispatcher.objects)))).state
    go none f = v
    go (some t) f =
        let g = timer-found (object_at s.dispatcher.objects address) t f in
        let k : t.address ≡ address = (found key_of s.dispatcher.objects address (timer t) g).1 in
        both t (ap (object_at s.dispatcher.objects) k ∙ g) (cancels_work s t) refl

-- ---- retire_timer_backing: the DPCs first, then the timers

module _ (s : State) (v : Valid s) (address size : ℕ) (e : timer_release_refusal s address size ≡ 0) where
  none-held : (any (timer_held s address size) (timers_of s.dispatcher.objects) ≡ false) × (any (dpc_held s address size) s.dpcs.table ≡ false)
  unfolding timer_release_refusal
  none-held =
      let a = passes (any (timer_held s address size) (timers_of s.dispatcher.objects)) 22 (cond (any (dpc_held s address size) s.dpcs.table) 23 0) e in
      let b = passes (any (dpc_held s address size) s.dpcs.table) 22 0 a.1 in (a.0, b.0)

  abbrev stays : Dpc → Bool
  stays d = not (dpc_overlapped address size d)

  gone-free : (d : Dpc) → Mem d s.dpcs.table → stays d ≡ false → (is_busy d.phase ≡ false) × (is_named s.dispatcher.objects d.address ≡ false)
  gone-free d m z = unfold dpc_held in (by (dpc_overlapped address size d) (is_busy d.phase) z (any_false (dpc_held s address size) s.dpcs.table none-held.1 d m))
    where
      by : (a b : Bool) → not a ≡ false → cond a (cond b true (is_named s.dispatcher.objects d.address)) false ≡ false → (b ≡ false) × (is_named s.dispatcher.objects d.address ≡ false)
      by true true p q = absurd (not-both q)
      by true false p q = (refl, q)
      by false b p q = absurd (not-both p)

  idle : (d : Dpc) → Mem d s.dpcs.table → stays d ≡ false → d.phase ≡ Idle
  idle d m z = idle-not-busy d.phase (gone-free d m z).0

  abbrev q : Dpcs
  q = record { table = keep stays s.dpcs.table; queue = s.dpcs.queue; counters = s.dpcs.counters }

  served : (k : ℕ) (t : Timer) → object_at s.dispatcher.objects k ≡ some (timer t) → Served (keep stays s.dpcs.table) (timer t)
  served k t f = λ i n. let r = v.linked.served k (timer t) f i n in (still i r.0, λ w z. r.1 w (sym (kept-phases s.limits.dpcs s.dpcs v.queueing stays idle t.dpc) ∙ z))
    where
      still : t.inserted ≡ true → present (dpc_at s.dpcs.table t.dpc) ≡ true → present (dpc_at (keep stays s.dpcs.table) t.dpc) ≡ true
      still i p =
          let d = present-some s.dpcs.table t.dpc p in
          let m = found address_of s.dpcs.table t.dpc d.0 d.1 in
          by d.0 d.1 m.0 m.1 i (stays d.0) refl
        where
          by : (d : Dpc) → dpc_at s.dpcs.table t.dpc ≡ some d → Mem d s.dpcs.table → d.address ≡ t.dpc → t.inserted ≡ true → (b : Bool) → stays d ≡ b → present (dpc_at (keep stays s.dpcs.table) t.dpc) ≡ true
          by d g m a i' true z = ap present (find-kept address_of stays s.dpcs.table t.dpc d g z)
          by d g m a i' false z = absurd (unnamed s.dispatcher.objects d.address (gone-free d m z).1 k t f i' (sym a))

  absent-on : (k : ℕ) → present (dpc_at s.dpcs.table k) ≡ false → present (dpc_at (keep stays s.dpcs.table) k) ≡ false
  absent-on k z = by (dpc_at (keep stays s.dpcs.table) k) refl
    where
      by : (o : Option Dpc) → dpc_at (keep stays s.dpcs.table) k ≡ o → present (dpc_at (keep stays s.dpcs.table) k) ≡ false
      by none f = ap present f
      by (some d) f = absurd (not-both (sym (ap present (kept-found address_of stays s.dpcs.table v.queueing.rising k d f).0) ∙ z))

  fewer-dpcs : Valid (with_dpcs s q)
  fewer-dpcs = valid-dpcs s v q (queueing-kept s.limits.dpcs s.dpcs v.queueing stays idle)
      (linked-table s.dispatcher.objects s.dpcs.table (keep stays s.dpcs.table) (each-timer s.dispatcher.objects served) (λ k p z. absent-on k z) v.linked)

  timer_stays : (i : ℕ) (n : Named) → Mem n (wait_of (status_of s.dispatcher i)).objects → (t : Timer) → object_at s.dispatcher.objects n.key ≡ some (timer t) → 2 ≡ n.kind → not (timer_overlapped address size t) ≡ true
  timer_stays i n m t f k = unfold timer_held in (by (timer_overlapped address size t) t.inserted (is_waited_on s 2 t.address) refl
      (any_false (timer_held s address size) (timers_of s.dispatcher.objects) none-held.0 t (timer-found-mem s.dispatcher.objects n.key t f)))
    where
      by : (a b c : Bool) → is_waited_on s 2 t.address ≡ c → cond a (cond b true (cond c true (is_periodic_origin s.dpcs.table t.address))) false ≡ false → not a ≡ true
      by true true c w z = absurd (not-both z)
      by true false true w z = absurd (not-both z)
      by true false false w z = absurd (unwaited s.dispatcher (record { kind = 2; key = t.address }) w i n m (sym k) (sym (found key_of s.dispatcher.objects n.key (timer t) f).1))
      by false b c w z = refl

  pub valid-retire-timers : Valid (timers_retired s address size)
  unfolding timers_retired
  valid-retire-timers = valid-kept (with_dpcs s q) fewer-dpcs (λ o. not (is_retired_timer address size o))
      (λ i n m o f k. on-timer (λ b. not b ≡ true) o (λ z. refl) (λ t e. timer_stays i n m t (f ∙ ap some e) (sym (ap kind_of e) ∙ k)))
      (linked-kept (λ o. not (is_retired_timer address size o)) s.dispatcher.objects (keep stays s.dpcs.table) v.sound.rising fewer-dpcs.linked)

-- ---- advance_to

pub begun : (s : State) → Valid s → Expiring s.limits s.dispatcher (unexpired s)
begun s v = record {
  rising = v.sound.rising;
  room = v.sound.room;
  owners = v.sound.owners;
  places = v.sound.places;
  keeps = λ n z. z;
  queueing = v.queueing;
  linked = v.linked;
}

pub valid-advance : (s : State) → Valid s → (time : ℕ) → advance_refusal s time ≡ 0 → Valid (advanced s time)
unfolding advance_refusal advanced
valid-advance s v time e =
    let r = passes (ltb time s.now) 11 (refusal_of_each s.policy time (unexpired s) (due_timers s.policy time s.dispatcher.objects)) e in
    let x = all-expired s.limits s.dispatcher s.policy time (due_timers s.policy time s.dispatcher.objects) (unexpired s) (begun s v)
    (due-pending s.policy time s.dispatcher.objects v.sound.rising) r.1 in
    let l = (expired_at s time).objects in
    let a = sound-objects s.limits s.dispatcher v.sound l (λ i n m. x.keeps n) x.owners x.rising x.room x.places in
    let w = wake-quiet s.limits (with_objects s.dispatcher l) a in
    let t = timed-out s.limits time (wake (with_objects s.dispatcher l)) w.0.sound w.1 in
    record {
      limits = v.limits;
      sound = t.sound;
      quiet = t.quiet;
      in_time = t.in_time;
      queueing = x.queueing;
      linked = subst (λ (y : List Object). Linked y (expired_at s time).dpcs.table) (sym t.objects) (linked-same l (wake (with_objects s.dispatcher l)).objects (expired_at s time).dpcs.table w.0.same x.linked);
      policy = v.policy;
      timers_lived = v.timers_lived;
      dpcs_lived = v.dpcs_lived;
    }
