-- Calls on mutexes, events and the memory of events: each keeps a valid state valid.
use Prim.Native.Nat.{ℕ, ◌+◌, ◌≤◌, ◌<◌}
use mathlib.Core.List.{List}
use mathlib.Core.Bool.{Bool, true, false, cond, not, ◌&&◌, ◌||◌}
use mathlib.Core.Path.{◌≡◌, refl, sym, ap, ◌∙◌}
use mathlib.Core.Option.{Option, none, some}
use native.Mathlib.Omega.{arith}
use borrow.Author.Tests.{eqb-true, eqb-false, leb-false, leb-true, lt-ltb, ltb-true, not-false}
use lib.Dec.{eqb, leb, ltb}
use lib.ListN.{length}
use Rattle.model.specs.Lists.{Mem, any, keep, present, given}
use Rattle.model.specs.Table.{Rising}
use Rattle.model.specs.State.{State, Limits, Dispatcher, Status, running, ready, waiting, exited, Named, Mutex, Event, Object, mutex, event}
use Rattle.model.specs.Threads.{status_of, is_thread, is_live, has_exited, wait_of, with_objects}
use Rattle.model.specs.Waits.{key_of, kind_of, object_at, mutex_at, event_at, of_kind, named_in, exists, is_free, is_available, put_object, owned_by, signaled_as, events_of, wake}
use Rattle.model.specs.Dpcs.{dpc_at}
use Rattle.model.specs.Timers.{most}
use Rattle.model.specs.Refusal.{collides, is_full, is_owned, is_waited_on, mutex_refusal, event_refusal, owner_number, bad_owner, adopt_refusal, release_refusal, is_split, event_held, event_release_refusal}
use Rattle.model.specs.Step.{with_dispatcher, with_table, adopted, mutex_released, event_set, event_reset, is_retired_event, events_retired}
use Rattle.model.specs.Answer.{gives, Done, Flag}
use Rattle.model.specs.Valid.{Each, WaitingValid, OwnerLive, Placed, Linked, Valid}
use Rattle.model.proofs.ListLaws.{not-both, any_false, length-keep}
use Rattle.model.proofs.TableLaws.{found, find-put-other, rising-put, rising-keep, find-kept, each-put, each_keep, length-put, length-put-known}
use Rattle.model.proofs.ObjectLaws.{on-event, mutex-found, event-found, Falls, Restated, restated-put, put-falls, wake-falls}
use Rattle.model.proofs.SoundLaws.{sound-objects}
use Rattle.model.proofs.WakeLaws.{sound-restated, quiet-restated, wake-quiet, wake-in-time}
use Rattle.model.proofs.LinkLaws.{linked-same, linked-mutex, linked-event, linked-kept}
use Rattle.model.proofs.RowLaws.{passes, or-false, unwaited, event-mem}
use Rattle.model.proofs.KeepLaws.{valid-dispatcher}

-- ---- what a thread waits for, besides threads, stands in the table

pub named-found : (d : Dispatcher) (n : Named) → eqb n.kind 3 ≡ false → exists d n ≡ true → (o : Object) × (object_at d.objects n.key ≡ some o) × (kind_of o ≡ n.kind)
named-found d n e t = go (object_at d.objects n.key) refl (sym (ap (λ (b : Bool). cond b (is_thread d n.key) (present (named_in d.objects n))) e) ∙ t)
  where
    go : (a : Option Object) → object_at d.objects n.key ≡ a → present (of_kind n.kind (object_at d.objects n.key)) ≡ true → (o : Object) × (object_at d.objects n.key ≡ some o) × (kind_of o ≡ n.kind)
    go none f p = absurd (not-both (sym p ∙ ap (λ (a : Option Object). present (of_kind n.kind a)) f))
    go (some o) f p = (o, f, kind (eqb (kind_of o) n.kind) refl (sym (ap (λ (a : Option Object). present (of_kind n.kind a)) f) ∙ p))
      where
        kind : (b : Bool) → eqb (kind_of o) n.kind ≡ b → present (cond b (some o) none) ≡ true → kind_of o ≡ n.kind
        kind true q z = eqb-true (kind_of o) n.kind q
        kind false q z = absurd (not-both (sym z))

waiting-exists : (d : Dispatcher) (x : Status) → WaitingValid d x → (n : Named) → Mem n (wait_of x).objects → exists d n ≡ true
waiting-exists d running v n m = absurd m
waiting-exists d ready v n m = absurd m
waiting-exists d (waiting w) v n m = v.exist n m
waiting-exists d (exited k) v n m = absurd m

-- ---- a named object that is found as before

module _ (d : Dispatcher) (l : List Object) (n : Named) (h : eqb n.kind 3 ≡ false → object_at l n.key ≡ object_at d.objects n.key) where
  exists-at : exists (with_objects d l) n ≡ exists d n
  exists-at = go (eqb n.kind 3) refl
    where
      go : (b : Bool) → eqb n.kind 3 ≡ b → cond b (is_thread d n.key) (present (named_in l n)) ≡ cond b (is_thread d n.key) (present (named_in d.objects n))
      go true e = refl
      go false e = ap (λ (a : Option Object). present (of_kind n.kind a)) (h e)

  available-at : is_available (with_objects d l) n ≡ is_available d n
  available-at = go (eqb n.kind 3) refl
    where
      go : (b : Bool) → eqb n.kind 3 ≡ b
          → cond b (cond (is_thread d n.key) (has_exited (status_of d n.key)) false) (given (named_in l n) false is_free) ≡ cond b (cond (is_thread d n.key) (has_exited (status_of d n.key)) false) (given (named_in d.objects n) false is_free)
      go true e = refl
      go false e = ap (λ (a : Option Object). given (of_kind n.kind a) false is_free) (h e)

module _ (s : State) (v : Valid s) where
  abbrev d₀ : Dispatcher
  d₀ = s.dispatcher

  abbrev lim : Limits
  lim = s.limits

  pub waited-exists : (i : ℕ) (n : Named) → Mem n (wait_of (status_of d₀ i)).objects → exists d₀ n ≡ true
  waited-exists i n m = waiting-exists d₀ (status_of d₀ i) (v.sound.waits i) n m

  -- ---- another table of objects

  pub valid-table : (l : List Object) → ((i : ℕ) (n : Named) → Mem n (wait_of (status_of d₀ i)).objects → exists d₀ n ≡ true → exists (with_objects d₀ l) n ≡ true)
      → ((i : ℕ) (n : Named) → Mem n (wait_of (status_of d₀ i)).objects → is_available (with_objects d₀ l) n ≡ true → is_available d₀ n ≡ true)
      → Each key_of l (OwnerLive d₀) → Rising key_of l → length l ≤ lim.objects → Each key_of l Placed → Linked l s.dpcs.table → Valid (with_table s l)
  valid-table l keeps falls o r k p h = valid-dispatcher s v (with_objects d₀ l) (sound-objects lim d₀ v.sound l keeps o r k p)
      (λ i. wake-falls (with_objects d₀ l) d₀ (wait_of (status_of d₀ i)) (falls i) (v.quiet i)) v.in_time h

  -- what threads wait for is found as before
  pub valid-unmoved : (l : List Object) → ((i : ℕ) (n : Named) → Mem n (wait_of (status_of d₀ i)).objects → eqb n.kind 3 ≡ false → object_at l n.key ≡ object_at d₀.objects n.key)
      → Each key_of l (OwnerLive d₀) → Rising key_of l → length l ≤ lim.objects → Each key_of l Placed → Linked l s.dpcs.table → Valid (with_table s l)
  valid-unmoved l h = valid-table l (λ i n m e. exists-at d₀ l n (h i n m) ∙ e) (λ i n m e. sym (available-at d₀ l n (h i n m)) ∙ e)

  -- owners and signals, and nothing becomes free
  pub valid-restated : (l : List Object) → Restated d₀ d₀.objects l → Falls d₀.objects l → Valid (with_table s l)
  valid-restated l r f = valid-dispatcher s v (with_objects d₀ l) (sound-restated lim d₀ v.sound l r) (quiet-restated lim d₀ v.sound l r f v.quiet) v.in_time
      (linked-same d₀.objects l s.dpcs.table r.same v.linked)

  -- owners and signals, and a wake pass
  pub valid-awake : (l : List Object) → Restated d₀ d₀.objects l → Valid (with_dispatcher s (wake (with_objects d₀ l)))
  valid-awake l r =
      let a = sound-restated lim d₀ v.sound l r in
      let w = wake-quiet lim (with_objects d₀ l) a in
      valid-dispatcher s v (wake (with_objects d₀ l)) w.0.sound w.1 (wake-in-time lim (with_objects d₀ l) a s.now v.in_time)
      (linked-same d₀.objects (wake (with_objects d₀ l)).objects s.dpcs.table (λ k. w.0.same k ∙ r.same k) v.linked)

  -- ---- an object initialized: new, or not waited on

  no-dpc : (kind key : ℕ) → collides s kind key ≡ false → present (dpc_at s.dpcs.table key) ≡ false
  unfolding collides
  no-dpc kind key e = go (present (dpc_at s.dpcs.table key)) refl e
    where
      go : (b : Bool) → present (dpc_at s.dpcs.table key) ≡ b → cond b true (given (object_at d₀.objects key) false (λ o. not (eqb (kind_of o) kind))) ≡ false → present (dpc_at s.dpcs.table key) ≡ false
      go true q z = absurd (not-both z)
      go false q z = q

  own-kind : (kind key : ℕ) → collides s kind key ≡ false → (o : Object) → object_at d₀.objects key ≡ some o → kind_of o ≡ kind
  unfolding collides
  own-kind kind key e o f = go (present (dpc_at s.dpcs.table key)) e
    where
      go : (b : Bool) → cond b true (given (object_at d₀.objects key) false (λ x. not (eqb (kind_of x) kind))) ≡ false → kind_of o ≡ kind
      go true z = absurd (not-both z)
      go false z = eqb-true (kind_of o) kind (not-false (eqb (kind_of o) kind) (sym (ap (λ (a : Option Object). given a false (λ x. not (eqb (kind_of x) kind))) f) ∙ z))

  pub room_for : (x : Object) → is_full s (key_of x) ≡ false → length (put_object x d₀.objects) ≤ lim.objects
  unfolding is_full
  room_for x e = go (object_at d₀.objects (key_of x)) refl e
    where
      go : (a : Option Object) → object_at d₀.objects (key_of x) ≡ a → cond (present (object_at d₀.objects (key_of x))) false (leb lim.objects (length d₀.objects)) ≡ false → length (put_object x d₀.objects) ≤ lim.objects
      go none f z =
          let y : leb lim.objects (length d₀.objects) ≡ false = sym (ap (λ (a : Option Object). cond (present a) false (leb lim.objects (length d₀.objects))) f) ∙ z in
          omega (arith, length-put key_of x d₀.objects, leb-false lim.objects (length d₀.objects) y)
      go (some o) f z = omega (arith, length-put-known key_of x d₀.objects v.sound.rising o f, v.sound.room)

  pub valid-put : (x : Object) → collides s (kind_of x) (key_of x) ≡ false → is_full s (key_of x) ≡ false → is_waited_on s (kind_of x) (key_of x) ≡ false → OwnerLive d₀ x → Placed x
      → Linked (put_object x d₀.objects) s.dpcs.table → Valid (with_table s (put_object x d₀.objects))
  valid-put x c f w o p h = valid-unmoved (put_object x d₀.objects)
      (λ i n m e. let q = named-found d₀ n e (waited-exists i n m) in
      find-put-other key_of x d₀.objects n.key (λ z. unwaited d₀ (record { kind = kind_of x; key = key_of x }) w i n m (sym q.2 ∙ own-kind (kind_of x) (key_of x) c q.0 (ap (object_at d₀.objects) (sym z) ∙ q.1)) z))
      (each-put key_of (OwnerLive d₀) x d₀.objects o v.sound.owners) (rising-put key_of x d₀.objects v.sound.rising) (room_for x f) (each-put key_of Placed x d₀.objects p v.sound.places) h

  -- ---- initialize_mutex, with an owner as adopt_mutex has it

  pub valid-mutex : (key owner : ℕ) → cond (eqb owner 0) true (is_live d₀ owner) ≡ true → mutex_refusal s key ≡ 0 → Valid (with_table s (put_object (mutex (record { key = key; owner = owner })) d₀.objects))
  unfolding mutex_refusal
  valid-mutex key owner o e =
      let a = passes (collides s 0 key) 4 (cond (eqb key 0) 4 (cond (is_full s key) 4 (cond (is_owned d₀.objects key) 6 (cond (is_waited_on s 0 key) 6 0)))) e in
      let b = passes (eqb key 0) 3 (cond (is_full s key) 4 (cond (is_owned d₀.objects key) 6 (cond (is_waited_on s 0 key) 6 0))) a.1 in
      let c = passes (is_full s key) 3 (cond (is_owned d₀.objects key) 6 (cond (is_waited_on s 0 key) 6 0)) b.1 in
      let g = passes (is_owned d₀.objects key) 5 (cond (is_waited_on s 0 key) 6 0) c.1 in
      let w = passes (is_waited_on s 0 key) 5 0 g.1 in
      let x : Mutex = record { key = key; owner = owner } in
      valid-put (mutex x) a.0 c.0 w.0 o (eqb-false key 0 b.0) (linked-mutex x d₀.objects s.dpcs.table (no-dpc 0 key a.0) v.linked)

  pub valid-event : (key : ℕ) (manual signaled : Bool) → event_refusal s key ≡ 0 → Valid (with_table s (put_object (event (record { key = key; manual = manual; signaled = signaled })) d₀.objects))
  unfolding event_refusal
  valid-event key manual signaled e =
      let a = passes (collides s 1 key) 4 (cond (eqb key 0) 4 (cond (is_full s key) 4 (cond (is_waited_on s 1 key) 6 0))) e in
      let b = passes (eqb key 0) 3 (cond (is_full s key) 4 (cond (is_waited_on s 1 key) 6 0)) a.1 in
      let c = passes (is_full s key) 3 (cond (is_waited_on s 1 key) 6 0) b.1 in
      let w = passes (is_waited_on s 1 key) 5 0 c.1 in
      let x : Event = record { key = key; manual = manual; signaled = signaled } in
      valid-put (event x) a.0 c.0 w.0 tt (eqb-false key 0 b.0) (linked-event x d₀.objects s.dpcs.table (no-dpc 1 key a.0) v.linked)

  pub valid-adopt : (key : ℕ) (owner : Option ℕ) → adopt_refusal s key owner ≡ 0 → Valid (adopted s key owner)
  unfolding adopt_refusal adopted
  valid-adopt key owner e =
      let a = passes (bad_owner d₀ owner) 9 (given (mutex_at d₀.objects key) (mutex_refusal s key) (λ (m : Mutex). cond (eqb m.owner (owner_number owner)) 0 10)) e in
      go (mutex_at d₀.objects key) a.1 (live owner a.0)
    where
      live : (o : Option ℕ) → bad_owner d₀ o ≡ false → cond (eqb (owner_number o) 0) true (is_live d₀ (owner_number o)) ≡ true
      live none z = refl
      live (some id) z = by (eqb id 0)
        where
          by : (b : Bool) → cond b true (is_live d₀ id) ≡ true
          by true = refl
          by false = not-false (is_live d₀ id) z

      go : (o : Option Mutex) → given o (mutex_refusal s key) (λ (m : Mutex). cond (eqb m.owner (owner_number owner)) 0 10) ≡ 0 → cond (eqb (owner_number owner) 0) true (is_live d₀ (owner_number owner)) ≡ true
          → Valid (given o (with_table s (put_object (mutex (record { key = key; owner = owner_number owner })) d₀.objects)) (λ (m : Mutex). s))
      go none z o = valid-mutex key (owner_number owner) o z
      go (some m) z o = v

  -- ---- release_mutex

  pub valid-release : (key : ℕ) → release_refusal s key ≡ 0 → Valid (mutex_released s key)
  unfolding release_refusal mutex_released
  valid-release key e = go (mutex_at d₀.objects key) refl
    where
      go : (o : Option Mutex) → mutex_at d₀.objects key ≡ o → Valid (given o s (λ (m : Mutex). with_dispatcher s (wake (with_objects d₀ (put_object (owned_by 0 m) d₀.objects)))))
      go none f = v
      go (some m) f =
          let g = mutex-found (object_at d₀.objects key) m f in
          let k : m.key ≡ key = (found key_of d₀.objects key (mutex m) g).1 in
          valid-awake (put_object (owned_by 0 m) d₀.objects) (restated-put d₀ d₀.objects (owned_by 0 m) (mutex m) v.sound.rising v.sound.owners (ap (object_at d₀.objects) k ∙ g) refl refl)

  -- ---- set_event, reset_event

  signaled-restated : (b : Bool) (key : ℕ) (x : Event) → object_at d₀.objects key ≡ some (event x) → Restated d₀ d₀.objects (put_object (signaled_as b x) d₀.objects)
  signaled-restated b key x g = restated-put d₀ d₀.objects (signaled_as b x) (event x) v.sound.rising v.sound.owners (ap (object_at d₀.objects) (found key_of d₀.objects key (event x) g).1 ∙ g) refl tt

  pub valid-set : (key : ℕ) → Valid (event_set s key).state
  unfolding event_set
  valid-set key = go (event_at d₀.objects key) refl
    where
      go : (o : Option Event) → event_at d₀.objects key ≡ o
          → Valid (given o (gives Done s) (λ (e : Event). gives (Flag e.signaled) (with_dispatcher s (wake (with_objects d₀ (put_object (signaled_as true e) d₀.objects)))))).state
      go none f = v
      go (some x) f = valid-awake (put_object (signaled_as true x) d₀.objects) (signaled-restated true key x (event-found (object_at d₀.objects key) x f))

  pub valid-reset : (key : ℕ) → Valid (event_reset s key).state
  unfolding event_reset
  valid-reset key = go (event_at d₀.objects key) refl
    where
      go : (o : Option Event) → event_at d₀.objects key ≡ o
          → Valid (given o (gives Done s) (λ (e : Event). gives (Flag e.signaled) (with_table s (put_object (signaled_as false e) d₀.objects)))).state
      go none f = v
      go (some x) f =
          let g = event-found (object_at d₀.objects key) x f in
          let k : x.key ≡ key = (found key_of d₀.objects key (event x) g).1 in
          valid-restated (put_object (signaled_as false x) d₀.objects) (signaled-restated false key x g)
          (put-falls (signaled_as false x) (event x) d₀.objects (ap (object_at d₀.objects) k ∙ g) (λ z. absurd (not-both (sym z))))

  -- ---- some objects gone that nobody waits for

  pub valid-kept : (f : Object → Bool) → ((i : ℕ) (n : Named) → Mem n (wait_of (status_of d₀ i)).objects → (o : Object) → object_at d₀.objects n.key ≡ some o → kind_of o ≡ n.kind → f o ≡ true)
      → Linked (keep f d₀.objects) s.dpcs.table → Valid (with_table s (keep f d₀.objects))
  valid-kept f h l = valid-unmoved (keep f d₀.objects)
      (λ i n m e. let q = named-found d₀ n e (waited-exists i n m) in find-kept key_of f d₀.objects n.key q.0 q.1 (h i n m q.0 q.1 q.2) ∙ sym q.1)
      (each_keep key_of (OwnerLive d₀) f d₀.objects v.sound.rising v.sound.owners) (rising-keep key_of f d₀.objects v.sound.rising)
      (omega (arith, v.sound.room, length-keep f d₀.objects)) (each_keep key_of Placed f d₀.objects v.sound.rising v.sound.places) l

  -- ---- retire_event_backing

  pub valid-retire-events : (base size layout : ℕ) → event_release_refusal s base size layout ≡ 0 → Valid (events_retired s base size)
  unfolding event_release_refusal events_retired event_held
  valid-retire-events base size layout e =
      let a = passes (ltb most (base + size)) 22 (cond (eqb size 0) 23 (cond (eqb layout 0) 23 (cond (any (event_held s base (base + size) layout) (events_of d₀.objects)) 23 0))) e in
      let b = passes (eqb size 0) 22 (cond (eqb layout 0) 23 (cond (any (event_held s base (base + size) layout) (events_of d₀.objects)) 23 0)) a.1 in
      let c = passes (eqb layout 0) 22 (cond (any (event_held s base (base + size) layout) (events_of d₀.objects)) 23 0) b.1 in
      let g = passes (any (event_held s base (base + size) layout) (events_of d₀.objects)) 22 0 c.1 in
      valid-kept (λ o. not (is_retired_event base (base + size) o)) (λ i n m o f k. on-event (λ b. not b ≡ true) o (λ z. refl) (λ x q. stays i n m x (f ∙ ap some q) (sym (ap kind_of q) ∙ k) (eqb-false layout 0 c.0) g.0))
      (linked-kept (λ o. not (is_retired_event base (base + size) o)) d₀.objects s.dpcs.table v.sound.rising v.linked)
    where
      stays : (i : ℕ) (n : Named) → Mem n (wait_of (status_of d₀ i)).objects → (x : Event) → object_at d₀.objects n.key ≡ some (event x) → 1 ≡ n.kind → (layout ≡ 0 → ⊥)
          → any (event_held s base (base + size) layout) (events_of d₀.objects) ≡ false → not (leb base x.key && ltb x.key (base + size)) ≡ true
      stays i n m x f k pos held = go (leb base x.key) (ltb x.key (base + size)) refl refl
        where
          key-is : x.key ≡ n.key
          key-is = (found key_of d₀.objects n.key (event x) f).1

          none-held : event_held s base (base + size) layout x ≡ false
          none-held = any_false (event_held s base (base + size) layout) (events_of d₀.objects) held x (event-mem d₀.objects x (found key_of d₀.objects n.key (event x) f).0)

          -- an event in the memory that is waited on would be held
          clash : base ≤ x.key → x.key < base + size → ⊥
          clash p q = over (ltb most (x.key + layout)) none-held
            where
              overlapped : (ltb x.key (base + size) && ltb base (x.key + layout)) ≡ true
              overlapped = ap (λ (b : Bool). b && ltb base (x.key + layout)) (lt-ltb x.key (base + size) q) ∙ lt-ltb base (x.key + layout) (omega (arith, p, pos))

              over : (b : Bool) → cond b true (cond (ltb x.key (base + size) && ltb base (x.key + layout)) (is_split base (base + size) x.key (x.key + layout) || is_waited_on s 1 x.key) false) ≡ false → ⊥
              over true z = not-both z
              over false z =
                  let y = or-false (is_split base (base + size) x.key (x.key + layout)) (is_waited_on s 1 x.key)
                  (sym (ap (λ (b : Bool). cond b (is_split base (base + size) x.key (x.key + layout) || is_waited_on s 1 x.key) false) overlapped) ∙ z) in
                  unwaited d₀ (record { kind = 1; key = x.key }) y.1 i n m (sym k) (sym key-is)

          go : (a b : Bool) → leb base x.key ≡ a → ltb x.key (base + size) ≡ b → not (a && b) ≡ true
          go true true p q = absurd (clash (leb-true base x.key p) (ltb-true x.key (base + size) q))
          go true false p q = refl
          go false b p q = refl
