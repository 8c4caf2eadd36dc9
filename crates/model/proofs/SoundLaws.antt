-- What each change of a thread or of the objects keeps.
use Prim.Native.Nat.{ℕ, ◌≤◌}
use mathlib.Core.List.{List}
use mathlib.Core.Bool.{Bool, true, false, cond}
use mathlib.Core.Path.{◌≡◌, refl, sym, ap, ◌∙◌, subst}
use mathlib.Core.Option.{some}
use native.Mathlib.Omega.{arith}
use native.Mathlib.Decide.{ℕ_discrete}
use borrow.Author.Tests.{ne_eqb, eqb-false, le-leb, leb-true}
use lib.Dec.{eqb, leb}
use lib.ListN.{length}
use Rattle.model.specs.Lists.{Mem, given, present}
use Rattle.model.specs.Table.{Rising}
use Rattle.model.specs.State.{Limits, Dispatcher, Thread, Status, running, ready, waiting, exited, Wait, Named, Mutex, Object, mutex}
use Rattle.model.specs.Threads.{count, thread_at, change_at, status_of, priority_of, is_thread, is_live, has_exited, wait_of, with_thread, with_objects, with_sequence, becomes}
use Rattle.model.specs.Waits.{key_of, object_at, named_in, exists, is_free, is_available, can_wake, reached}
use Rattle.model.specs.Valid.{Each, WaitingValid, OwnerLive, Placed, Sound, Quiet, InTime}
use Rattle.model.proofs.ListLaws.{not-both}
use Rattle.model.proofs.ThreadLaws.{length-change, change-own, change-other, change-either, Movable, standing-moved, standing-same, standing-sequence}
use Rattle.model.proofs.ObjectLaws.{at-mutex, wake-falls}

-- ---- what exists for one exists for another

pub waits-on : (d d' : Dispatcher) (x : Status) → ((n : Named) → Mem n (wait_of x).objects → exists d n ≡ true → exists d' n ≡ true) → WaitingValid d x → WaitingValid d' x
waits-on d d' running h v = tt
waits-on d d' ready h v = tt
waits-on d d' (waiting w) h v = record { few = v.few; kinds = v.kinds; once = v.once; exist = λ n m. h n m (v.exist n m); delay = v.delay }
waits-on d d' (exited k) h v = tt

-- by a count of threads that is at least as large
thread-on : (d d' : Dispatcher) → count d ≤ count d' → (i : ℕ) → is_thread d i ≡ true → is_thread d' i ≡ true
thread-on d d' h i t = go (eqb i 0) t
  where
    go : (b : Bool) → cond b false (leb i (count d)) ≡ true → cond b false (leb i (count d')) ≡ true
    go true e = e
    go false e = le-leb i (count d') (omega (arith, leb-true i (count d) e, h))

pub exists-on : (d d' : Dispatcher) → count d ≤ count d' → d'.objects ≡ d.objects → (n : Named) → exists d n ≡ true → exists d' n ≡ true
exists-on d d' h e n t = go (eqb n.kind 3) t
  where
    go : (b : Bool) → cond b (is_thread d n.key) (present (named_in d.objects n)) ≡ true
        → cond b (is_thread d' n.key) (present (named_in d'.objects n)) ≡ true
    go true q = thread-on d d' h n.key q
    go false q = ap (λ (l : List Object). present (named_in l n)) e ∙ q

-- a thread is a thread
pub is-thread : (d : Dispatcher) (i : ℕ) → 1 ≤ i → i ≤ count d → is_thread d i ≡ true
is-thread d i h k = ap (λ (b : Bool). cond b false (leb i (count d))) (ne_eqb i 0 (λ e. omega arith)) ∙ le-leb i (count d) k

pub thread-is : (d : Dispatcher) (i : ℕ) → is_thread d i ≡ true → (1 ≤ i) × (i ≤ count d)
thread-is d i t = go (eqb i 0) refl t
  where
    go : (b : Bool) → eqb i 0 ≡ b → cond b false (leb i (count d)) ≡ true → (1 ≤ i) × (i ≤ count d)
    go true e q = absurd (not-both (sym q))
    go false e q = (omega (arith, eqb-false i 0 e), leb-true i (count d) q)

pub is_live_lem : (d : Dispatcher) (i : ℕ) → 1 ≤ i → i ≤ count d → has_exited (status_of d i) ≡ false → is_live d i ≡ true
is_live_lem d i h k e = ap (λ (b : Bool). cond b (cond (has_exited (status_of d i)) false true) false) (is-thread d i h k) ∙ ap (λ (b : Bool). cond b false true) e

pub live-is : (d : Dispatcher) (i : ℕ) → is_live d i ≡ true → (is_thread d i ≡ true) × (has_exited (status_of d i) ≡ false)
live-is d i t = go (is_thread d i) (has_exited (status_of d i)) refl refl t
  where
    go : (a b : Bool) → is_thread d i ≡ a → has_exited (status_of d i) ≡ b → cond a (cond b false true) false ≡ true → (is_thread d i ≡ true) × (has_exited (status_of d i) ≡ false)
    go true true p q e = absurd (not-both (sym e))
    go true false p q e = (p, q)
    go false b p q e = absurd (not-both (sym e))

-- an owner that lives on
pub owner-on : (d d' : Dispatcher) (x : Object) → ((m : Mutex) → x ≡ mutex m → is_live d m.owner ≡ true → is_live d' m.owner ≡ true) → OwnerLive d x → OwnerLive d' x
owner-on d d' x f h = at-mutex x (λ m e. go m (eqb m.owner 0) (f m e) (subst (OwnerLive d) e h))
  where
    go : (m : Mutex) (b : Bool) → (is_live d m.owner ≡ true → is_live d' m.owner ≡ true) → cond b true (is_live d m.owner) ≡ true → cond b true (is_live d' m.owner) ≡ true
    go m true k q = q
    go m false k q = k q

-- ---- other objects

module _ (lim : Limits) (d : Dispatcher) (s : Sound lim d) where
  pub sound-objects : (l : List Object) → ((i : ℕ) (n : Named) → Mem n (wait_of (status_of d i)).objects → exists d n ≡ true → exists (with_objects d l) n ≡ true)
      → Each key_of l (OwnerLive d) → Rising key_of l → length l ≤ lim.objects → Each key_of l Placed → Sound lim (with_objects d l)
  sound-objects l h o r k p = record {
    some = s.some;
    few = s.few;
    priorities = s.priorities;
    standing = s.standing;
    waits = λ i. waits-on d (with_objects d l) (status_of d i) (h i) (s.waits i);
    owners = o;
    rising = r;
    room = k;
    places = p;
  }

  -- ---- one thread moved

  module _ (id : ℕ) (t : Thread) where
    pub after-count : count (becomes d id t) ≡ count d
    unfolding becomes
    after-count = length-change d.threads id t

    after-exists : (n : Named) → exists d n ≡ true → exists (becomes d id t) n ≡ true
    unfolding becomes
    after-exists n e = exists-on d (becomes d id t) (omega (arith, length-change d.threads id t)) refl n e

    -- nobody's owner exits
    abbrev pub Unowned : Type 0
    Unowned = (k : ℕ) (m : Mutex) → object_at d.objects k ≡ some (mutex m) → m.owner ≡ id → ⊥

    live-after : (i : ℕ) → (has_exited t.status ≡ true → i ≡ id → ⊥) → is_live d i ≡ true → is_live (becomes d id t) i ≡ true
    unfolding becomes
    live-after i h e =
        let v = live-is d i e in
        let k = thread-is d i v.0 in
        is_live_lem (becomes d id t) i k.0 (omega (arith, k.1, length-change d.threads id t)) (elim (ℕ_discrete i id) [
          | yes q ↦ subst (λ (j : ℕ). has_exited (thread_at (change_at d.threads id t) j).status ≡ false) (sym q)
              (ap (λ (x : Thread). has_exited x.status) (change-own d.threads id t (omega (arith, q, k.0)) (omega (arith, q, k.1))) ∙ not-exited (has_exited t.status) refl q)
          | no n ↦ ap (λ (x : Thread). has_exited x.status) (change-other d.threads id t i n) ∙ v.1
        ])
      where
        not-exited : (b : Bool) → has_exited t.status ≡ b → i ≡ id → has_exited t.status ≡ false
        not-exited true q z = absurd (h q z)
        not-exited false q z = q

    pub sound-becomes : Movable d.threads d.waiters d.current d.sequence id t → (1 ≤ t.priority) × (t.priority ≤ 31) → WaitingValid d t.status
        → (has_exited t.status ≡ true → Unowned) → Sound lim (becomes d id t)
    unfolding becomes
    sound-becomes m p w u = record {
      some = omega (arith, s.some, length-change d.threads id t);
      few = omega (arith, s.few, length-change d.threads id t);
      priorities = λ i a b. elim (ℕ_discrete i id) [
        | yes e ↦ subst (λ (j : ℕ). (1 ≤ (thread_at (change_at d.threads id t) j).priority) × ((thread_at (change_at d.threads id t) j).priority ≤ 31)) (sym e)
            (subst (λ (x : Thread). (1 ≤ x.priority) × (x.priority ≤ 31)) (sym (change-own d.threads id t m.from m.to)) p)
        | no n ↦ subst (λ (x : Thread). (1 ≤ x.priority) × (x.priority ≤ 31)) (sym (change-other d.threads id t i n)) (s.priorities i a (omega (arith, length-change d.threads id t)))
      ];
      standing = standing-moved d.threads d.placed d.waiters d.current d.sequence id t s.standing m;
      waits = λ i. change-either (λ (x : Thread). WaitingValid (becomes d id t) x.status) d.threads id t i
          (waits-on d (becomes d id t) t.status (λ n a e. after-exists n e) w)
          (waits-on d (becomes d id t) (status_of d i) (λ n a e. after-exists n e) (s.waits i));
      owners = λ k x e. owner-on d (becomes d id t) x (λ m q. live-after m.owner (λ z. u z k m (e ∙ ap some q))) (s.owners k x e);
      rising = s.rising;
      room = s.room;
      places = s.places;
    }

    -- ---- nothing becomes available by a thread that does not exit

    available-after : has_exited t.status ≡ false → (n : Named) → is_available (becomes d id t) n ≡ true → is_available d n ≡ true
    unfolding becomes
    available-after f n e = go (eqb n.kind 3) e
      where
        back : (b : Bool) → is_thread (becomes d id t) n.key ≡ b → cond b (has_exited (status_of (becomes d id t) n.key)) false ≡ true → cond (is_thread d n.key) (has_exited (status_of d n.key)) false ≡ true
        back true q z =
            let w = thread-on (becomes d id t) d (omega (arith, length-change d.threads id t)) n.key q in
            ap (λ (b : Bool). cond b (has_exited (status_of d n.key)) false) w
            ∙ change-either (λ (x : Thread). has_exited x.status ≡ true → has_exited (status_of d n.key) ≡ true) d.threads id t n.key (λ y. absurd (not-both (sym y ∙ f))) (λ y. y) z
        back false q z = absurd (not-both (sym z))

        go : (b : Bool) → cond b (cond (is_thread (becomes d id t) n.key) (has_exited (status_of (becomes d id t) n.key)) false) (given (named_in d.objects n) false is_free) ≡ true
            → cond b (cond (is_thread d n.key) (has_exited (status_of d n.key)) false) (given (named_in d.objects n) false is_free) ≡ true
        go true q = back (is_thread (becomes d id t) n.key) refl q
        go false q = q

    pub unmet-after : has_exited t.status ≡ false → (w : Wait) → can_wake d w ≡ false → can_wake (becomes d id t) w ≡ false
    unmet-after f w e = wake-falls (becomes d id t) d w (λ n m q. available-after f n q) e

    pub quiet-becomes : has_exited t.status ≡ false → can_wake d (wait_of t.status) ≡ false → Quiet d → Quiet (becomes d id t)
    unfolding becomes
    quiet-becomes f e q i = change-either (λ (x : Thread). can_wake (becomes d id t) (wait_of x.status) ≡ false) d.threads id t i
        (unmet-after f (wait_of t.status) e) (unmet-after f (wait_of (status_of d i)) (q i))

    pub in-time-becomes : (now : ℕ) → reached (wait_of t.status).deadline now ≡ false → InTime now d → InTime now (becomes d id t)
    unfolding becomes
    in-time-becomes now e q i = change-either (λ (x : Thread). reached (wait_of x.status).deadline now ≡ false) d.threads id t i e (q i)

    -- ---- the same status, with another priority or result

    kept-status : t.status ≡ status_of d id → (i : ℕ) → status_of (with_thread d id t) i ≡ status_of d i
    kept-status e i = elim (ℕ_discrete i id) [
      | yes q ↦ subst (λ (j : ℕ). status_of (with_thread d id t) j ≡ status_of d j) (sym q) (change-either (λ (x : Thread). x.status ≡ status_of d id) d.threads id t id e refl)
      | no n ↦ ap (λ (x : Thread). x.status) (change-other d.threads id t i n)
    ]

    kept-available : t.status ≡ status_of d id → (n : Named) → is_available (with_thread d id t) n ≡ is_available d n
    kept-available e n = ap
        (λ (f : ℕ × Status). cond (eqb n.kind 3) (cond (cond (eqb n.key 0) false (leb n.key f.0)) (has_exited f.1) false) (given (named_in d.objects n) false is_free)) both
      where
        pair : ℕ → Status → ℕ × Status
        pair a b = (a, b)

        both : pair (count (with_thread d id t)) (status_of (with_thread d id t) n.key) ≡ pair (count d) (status_of d n.key)
        both = ap (λ (a : ℕ). pair a (status_of (with_thread d id t) n.key)) (length-change d.threads id t) ∙ ap (pair (count d)) (kept-status e n.key)

    pub sound-same : t.status ≡ status_of d id → (1 ≤ id → id ≤ count d → (1 ≤ t.priority) × (t.priority ≤ 31)) → Sound lim (with_thread d id t)
    sound-same e p = record {
      some = omega (arith, s.some, length-change d.threads id t);
      few = omega (arith, s.few, length-change d.threads id t);
      priorities = λ i a b. let b' : i ≤ count d = omega (arith, b, length-change d.threads id t) in elim (ℕ_discrete i id) [
        | yes q ↦ subst (λ (j : ℕ). (1 ≤ priority_of (with_thread d id t) j) × (priority_of (with_thread d id t) j ≤ 31)) (sym q)
            (let h : (1 ≤ id) × (id ≤ count d) = (omega (arith, a, q), omega (arith, b', q)) in
            subst (λ (x : Thread). (1 ≤ x.priority) × (x.priority ≤ 31)) (sym (change-own d.threads id t h.0 h.1)) (p h.0 h.1))
        | no n ↦ subst (λ (x : Thread). (1 ≤ x.priority) × (x.priority ≤ 31)) (sym (change-other d.threads id t i n)) (s.priorities i a b')
      ];
      standing = standing-same d.threads d.placed d.waiters d.current d.sequence id t s.standing e;
      waits = λ i. subst (WaitingValid (with_thread d id t)) (sym (kept-status e i))
          (waits-on d (with_thread d id t) (status_of d i) (λ n a z. exists-on d (with_thread d id t) (omega (arith, length-change d.threads id t)) refl n z) (s.waits i));
      owners = λ k x z. owner-on d (with_thread d id t) x (λ m q. live_same m.owner) (s.owners k x z);
      rising = s.rising;
      room = s.room;
      places = s.places;
    }
      where
        live_same : (i : ℕ) → is_live d i ≡ true → is_live (with_thread d id t) i ≡ true
        live_same i q = let v = live-is d i q in let k = thread-is d i v.0 in
            is_live_lem (with_thread d id t) i k.0 (omega (arith, k.1, length-change d.threads id t)) (ap has_exited (kept-status e i) ∙ v.1)

    pub quiet_same : t.status ≡ status_of d id → Quiet d → Quiet (with_thread d id t)
    quiet_same e q i = subst (λ (x : Status). can_wake (with_thread d id t) (wait_of x) ≡ false) (sym (kept-status e i))
        (wake-falls (with_thread d id t) d (wait_of (status_of d i)) (λ n m z. sym (kept-available e n) ∙ z) (q i))

    pub in-time-same : (now : ℕ) → t.status ≡ status_of d id → InTime now d → InTime now (with_thread d id t)
    in-time-same now e q i = ap (λ (x : Status). reached (wait_of x).deadline now) (kept-status e i) ∙ q i

  -- ---- a later wait sequence

  pub sound-sequence : (n : ℕ) → d.sequence ≤ n → Sound lim (with_sequence d n)
  sound-sequence n h = record {
    some = s.some;
    few = s.few;
    priorities = s.priorities;
    standing = standing-sequence d.threads d.placed d.waiters d.current d.sequence n h s.standing;
    waits = λ i. waits-on d (with_sequence d n) (status_of d i) (λ m a e. e) (s.waits i);
    owners = s.owners;
    rising = s.rising;
    room = s.room;
    places = s.places;
  }

  pub unmet-sequence : (n : ℕ) (w : Wait) → can_wake d w ≡ false → can_wake (with_sequence d n) w ≡ false
  unmet-sequence n w e = wake-falls (with_sequence d n) d w (λ x m z. z) e

  pub quiet-sequence : (n : ℕ) → Quiet d → Quiet (with_sequence d n)
  quiet-sequence n q i = unmet-sequence n (wait_of (status_of d i)) (q i)
