-- What a call has made available: of the things that were not, the one that it set or released, or the timers that expired.
use Prim.Native.Nat.{ℕ, ◌≤◌}
use mathlib.Core.List.{List, [], ◌∷◌}
use mathlib.Core.Bool.{Bool, true, false, cond}
use mathlib.Core.Option.{Option, none, some}
use mathlib.Core.Path.{◌≡◌, refl, sym, ap, ◌∙◌}
use mathlib.Core.Logic.{◌⊎◌, inl, inr}
use native.Mathlib.Decide.{ℕ_discrete}
use borrow.Author.Tests.{eqb-true, leb-true}
use lib.Dec.{eqb, leb}
use Rattle.images.specs.declared.Timer.{Timer}
use Rattle.model.specs.Lists.{Mem, given}
use Rattle.model.specs.State.{State, Dispatcher, Thread, Named, Object, timer, Policy}
use Rattle.model.specs.Threads.{status_of, is_thread, has_exited, with_objects, becomes}
use Rattle.model.specs.Waits.{key_of, kind_of, object_at, as_timer, of_kind, named_in, is_free, is_available, put_object}
use Rattle.model.specs.Timers.{expired, is_due, due_timers, Expired, expire_one, expire_each}
use Rattle.model.specs.Refusal.{unexpired}
use Rattle.model.specs.Step.{expired_at}
use Rattle.model.specs.Valid.{Valid}
use Rattle.model.proofs.ListLaws.{not-both}
use Rattle.model.proofs.TableLaws.{some_same, mem-found, find-put-own, find-put-other}
use Rattle.model.proofs.ThreadLaws.{length-change, change-other}
use Rattle.model.proofs.ExpiryLaws.{expired-is}
use Rattle.model.proofs.OrderLaws.{listed-due}
use Rattle.model.specs.Leaving.{ThatThread, DueTimer}

named-is : (n : Named) (k a : ℕ) → n.kind ≡ k → n.key ≡ a → n ≡ record { kind = k; key = a }
named-is n k a p q = ap {B = Named} (λ (j : ℕ). record { kind = j; key = n.key }) p ∙ ap {B = Named} (λ (j : ℕ). record { kind = k; key = j }) q

-- ---- by other objects

-- what is available with other objects, and was not, is an object of that kind, and not as it was
module _ (d : Dispatcher) (l : List Object) (n : Named) (now : is_available (with_objects d l) n ≡ true) (was : is_available d n ≡ false) where
  freed-object : (x : Object) × (object_at l n.key ≡ some x) × (kind_of x ≡ n.kind) × (object_at l n.key ≡ object_at d.objects n.key → ⊥)
  freed-object = go (eqb n.kind 3) now was
    where
      found-free : (o : Option Object) → given (of_kind n.kind o) false is_free ≡ true → (x : Object) × (o ≡ some x) × (kind_of x ≡ n.kind)
      found-free none z = absurd (not-both (sym z))
      found-free (some x) z = kind (eqb (kind_of x) n.kind) refl z
        where
          kind : (b : Bool) → eqb (kind_of x) n.kind ≡ b → given (cond b (some x) none) false is_free ≡ true → (y : Object) × (some x ≡ some y) × (kind_of y ≡ n.kind)
          kind true q y = (x, refl, eqb-true (kind_of x) n.kind q)
          kind false q y = absurd (not-both (sym y))

      go : (b : Bool) → cond b (cond (is_thread d n.key) (has_exited (status_of d n.key)) false) (given (named_in l n) false is_free) ≡ true
          → cond b (cond (is_thread d n.key) (has_exited (status_of d n.key)) false) (given (named_in d.objects n) false is_free) ≡ false
          → (x : Object) × (object_at l n.key ≡ some x) × (kind_of x ≡ n.kind) × (object_at l n.key ≡ object_at d.objects n.key → ⊥)
      go true p q = absurd (not-both (sym p ∙ q))
      go false p q =
          let h = found-free (object_at l n.key) p in
          (h.0, h.1, h.2, λ z. not-both (sym p ∙ ap (λ (o : Option Object). given (of_kind n.kind o) false is_free) z ∙ q))

-- an object put: it is that one
pub put-freed : (d : Dispatcher) (x : Object) (n : Named) → is_available (with_objects d (put_object x d.objects)) n ≡ true → is_available d n ≡ false → n ≡ record { kind = kind_of x; key = key_of x }
put-freed d x n now was =
    let h = freed-object d (put_object x d.objects) n now was in
    elim (ℕ_discrete n.key (key_of x)) [
      | yes e ↦
          let q : some x ≡ some h.0 = sym (find-put-own key_of x d.objects) ∙ ap (object_at (put_object x d.objects)) (sym e) ∙ h.1 in
          named-is n (kind_of x) (key_of x) (sym h.2 ∙ ap kind_of (sym (some_same x h.0 q))) e
      | no e ↦ absurd (h.3 (find-put-other key_of x d.objects n.key e))
    ]

-- ---- by a thread

-- one thread changed: it is that one
pub thread-freed : (d : Dispatcher) (i : ℕ) (t : Thread) (n : Named) → is_available (becomes d i t) n ≡ true → is_available d n ≡ false → ThatThread i n
unfolding becomes
thread-freed d i t n now was = go (eqb n.kind 3) refl now was
  where
    exits : Dispatcher → Bool
    exits e = cond (is_thread e n.key) (has_exited (status_of e n.key)) false

    same : (n.key ≡ i → ⊥) → exits (becomes d i t) ≡ exits d
    same z = ap (λ (k : ℕ). cond (cond (eqb n.key 0) false (leb n.key k)) (has_exited (status_of (becomes d i t) n.key)) false) (length-change d.threads i t)
        ∙ ap (λ (y : Thread). cond (is_thread d n.key) (has_exited y.status) false) (change-other d.threads i t n.key z)

    go : (b : Bool) → eqb n.kind 3 ≡ b → cond b (exits (becomes d i t)) (given (named_in d.objects n) false is_free) ≡ true → cond b (exits d) (given (named_in d.objects n) false is_free) ≡ false → ThatThread i n
    go true e p q = elim (ℕ_discrete n.key i) [
      | yes z ↦ named-is n 3 i (eqb-true n.kind 3 e) z
      | no z ↦ absurd (not-both (sym p ∙ same z ∙ q))
    ]
    go false e p q = absurd (not-both (sym p ∙ q))

-- ---- by time

-- an object is as it was, or a timer of the list
expired-either : (policy : Policy) (now : ℕ) (ts : List Timer) (e : Expired) (k : ℕ)
    → (object_at (expire_each policy now e ts).objects k ≡ object_at e.objects k)
    ⊎ ((u : Timer) × (Mem u ts) × (u.address ≡ k) × (t : Timer) × (object_at (expire_each policy now e ts).objects k ≡ some (timer t)))
expired-either policy now [] e k = inl refl
expired-either policy now (t ∷ ts) e k = go (expired-either policy now ts (expire_one policy now e t) k)
  where
    result : Option Object
    result = object_at (expire_each policy now (expire_one policy now e t) ts).objects k

    one : (object_at (expire_one policy now e t).objects k ≡ object_at e.objects k) ⊎ ((t.address ≡ k) × (object_at (expire_one policy now e t).objects k ≡ some (timer (expired now t))))
    one = unfold expire_one in (elim (ℕ_discrete k (expired now t).address) [
      | yes q ↦ inr (sym (expired-is now t).0 ∙ sym q, ap (object_at (put_object (timer (expired now t)) e.objects)) q ∙ find-put-own key_of (timer (expired now t)) e.objects)
      | no q ↦ inl (find-put-other key_of (timer (expired now t)) e.objects k q)
    ])

    first : result ≡ object_at (expire_one policy now e t).objects k
        → (object_at (expire_one policy now e t).objects k ≡ object_at e.objects k) ⊎ ((t.address ≡ k) × (object_at (expire_one policy now e t).objects k ≡ some (timer (expired now t))))
        → (result ≡ object_at e.objects k) ⊎ ((u : Timer) × (Mem u (t ∷ ts)) × (u.address ≡ k) × (y : Timer) × (result ≡ some (timer y)))
    first q (inl r) = inl (q ∙ r)
    first q (inr r) = inr (t, inl refl, r.0, expired now t, q ∙ r.1)

    go : (result ≡ object_at (expire_one policy now e t).objects k) ⊎ ((u : Timer) × (Mem u ts) × (u.address ≡ k) × (y : Timer) × (result ≡ some (timer y)))
        → (result ≡ object_at e.objects k) ⊎ ((u : Timer) × (Mem u (t ∷ ts)) × (u.address ≡ k) × (y : Timer) × (result ≡ some (timer y)))
    go (inl q) = first q one
    go (inr q) = inr (q.0, inr q.1, q.2, q.3, q.4)

-- after the expiry: it is a timer that was due
pub time-freed : (s : State) → Valid s → (time : ℕ) (n : Named) → is_available (with_objects s.dispatcher (expired_at s time).objects) n ≡ true → is_available s.dispatcher n ≡ false → DueTimer s time n
time-freed s v time n now was = go (expired-either s.policy time (due_timers s.policy time s.dispatcher.objects) (unexpired s) n.key)
  where
    is-due : (u : Timer) → is_due time u ≡ true → (u.inserted ≡ true) × (u.due ≤ time)
    is-due u e = by u.inserted refl e
      where
        by : (b : Bool) → u.inserted ≡ b → cond b (leb u.due time) false ≡ true → (u.inserted ≡ true) × (u.due ≤ time)
        by true q z = (q, leb-true u.due time z)
        by false q z = absurd (not-both (sym z))

    go : (object_at (expired_at s time).objects n.key ≡ object_at s.dispatcher.objects n.key)
        ⊎ ((u : Timer) × (Mem u (due_timers s.policy time s.dispatcher.objects)) × (u.address ≡ n.key) × (t : Timer) × (object_at (expired_at s time).objects n.key ≡ some (timer t)))
        → DueTimer s time n
    go (inl q) = absurd ((freed-object s.dispatcher (expired_at s time).objects n now was).3 q)
    go (inr q) =
        let h = freed-object s.dispatcher (expired_at s time).objects n now was in
        let m = listed-due s.policy time s.dispatcher.objects q.0 q.1 in
        let z = is-due q.0 m.1 in
        record {
          kind = sym h.2 ∙ ap kind_of (sym (some_same (timer q.3) h.0 (sym q.4 ∙ h.1)));
          timer = q.0;
          found = ap (λ (k : ℕ). as_timer (object_at s.dispatcher.objects k)) (sym q.2) ∙ ap as_timer (mem-found key_of s.dispatcher.objects v.sound.rising (timer q.0) m.0);
          inserted = z.0;
          due = z.1;
        }
