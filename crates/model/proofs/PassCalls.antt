-- The four calls that run a wake pass: what each makes available before it, and that `advance_to` then times out others.
use Prim.Native.Nat.{ℕ, suc, ◌+◌, ◌-◌, ◌*◌, ◌/◌, ◌%◌, ◌≤◌, ◌<◌}
use mathlib.Core.List.{List, [], ◌∷◌}
use mathlib.Core.Bool.{Bool, true, false, cond}
use mathlib.Core.Option.{Option, none, some}
use mathlib.Core.Logic.{◌⊎◌, inl, inr, ⊎_elim}
use mathlib.Core.Path.{◌≡◌, refl, sym, ap, ◌∙◌, subst}
use native.Mathlib.Omega.{arith}
use native.Mathlib.Decide.{ℕ_discrete}
use native.Mathlib.Nat.{add-mul, one-mul, mod-lt, div-add-mod'}
use borrow.Author.Tests.{eqb-true, eqb-false, leb-true, le-leb}
use lib.Dec.{eqb, leb}
use Rattle.images.specs.declared.Timer.{Timer}
use Rattle.model.specs.Lists.{Mem, member, present, given}
use Rattle.model.specs.State.{State, Dispatcher, Thread, Status, running, ready, waiting, exited, satisfied, timeout, Named, Mutex, Event, Object, mutex, event, timer, Policy}
use Rattle.model.specs.Threads.{count, thread_at, thread_of, status_of, has_exited, is_waiting, wait_of, with_objects, with_status, ready_again, becomes, terminated, woken, numbers_of}
use Rattle.model.specs.Waits.{on_timer, key_of, object_at, as_timer, mutex_at, event_at, of_kind, is_free, is_available, put_object, owned_by, signaled_as, reached, is_overdue, pass, wake, time_out_each, time_out}
use Rattle.model.specs.Timers.{Expired, expired, retimed, next_due, is_due, due_timers, expire_one, expire_each}
use Rattle.model.specs.Valid.{Valid}
use Rattle.model.specs.Refusal.{unexpired, signal_refusal, release_refusal, terminate_refusal, owns_mutex}
use Rattle.model.specs.Answer.{Outcome, gives, Done, Flag}
use Rattle.model.specs.Call.{Call, SetEvent, ReleaseMutex, Terminate, AdvanceTo}
use Rattle.model.specs.Step.{step, refusal, effect, with_dispatcher, event_set, mutex_released, advanced, expired_at}
use Rattle.model.proofs.ListLaws.{not-both, member-mem, member-not}
use Rattle.model.proofs.TableLaws.{some_same, found, find-put-own, find-put-other}
use Rattle.model.proofs.ThreadLaws.{length-change, change-own, change-other, stands-somewhere, standing-moved}
use Rattle.model.proofs.SoundLaws.{is-thread}
use Rattle.model.proofs.ObjectLaws.{core, mutex-found, event-found, timer-found}
use Rattle.model.proofs.WakeLaws.{waits-not}
use Rattle.model.proofs.RowLaws.{passes, there}
use Rattle.model.proofs.KeepLaws.{current-known}
use Rattle.model.proofs.ExpiryLaws.{expired-is, Pending, pending-on, due-pending}
use Rattle.model.proofs.OrderLaws.{due-listed, listed-due}
use Rattle.model.proofs.WdkLaws.{step_is}
use Rattle.model.specs.Wakes as calls
use Rattle.model.specs.Wakes.{readings_of, mutex_named, event_named, thread_named, Freed, Expires, Advances, RunsPass, WakePass}
use Rattle.model.proofs.TakeLaws.{name_of}
use Rattle.model.proofs.PassLaws as at
use Rattle.model.proofs.PassLaws.{offered-available}
use Rattle.model.proofs.Told.{timer-told, told-timer, current-told, told-current}
use Rattle.model.proofs.GiveLaws as give
use Rattle.model.proofs.GiveLaws.{Ended, Changed, ExpiresIn, PassOf, gives-pass}

-- nothing after the pass
ended_so : (d d' : Dispatcher) → d' ≡ d → Ended d d'
ended_so d d' e = subst (Ended d) (sym e) (record {
  objects = refl;
  number = refl;
  unwaiting = λ i q. refl;
  waiting = λ i q k r. not-both (sym q ∙ ap is_waiting r.0);
  alive = λ i q. waits-not (status_of d i) q;
})

-- objects alone are changed
objects-only : (s : State) → Valid s → (c : Call) (l : List Object) → ((k : ℕ) → (object_at l k ≡ object_at s.dispatcher.objects k) ⊎ Changed s c l k)
    → ((n : Named) → Freed (readings_of s) c n → is_available (with_objects s.dispatcher l) n ≡ true)
    → ExpiresIn s c l → Advances c ⊎ ((step c s).state.dpcs ≡ s.dpcs)
    → Ended (pass (with_objects s.dispatcher l) s.dispatcher.waiters) (step c s).state.dispatcher → PassOf s c
objects-only s v c l o f x q e = record {
  at = with_objects s.dispatcher l;
  standing = v.sound.standing;
  number = refl;
  waits = λ i y q. q;
  waited = λ i y q. q;
  exits = λ i q. q;
  exited = λ i q. inl q;
  objects = o;
  freed = f;
  expires = x;
  dpcs = q;
  ended = e;
}

-- one object is put in its place, and is free
put-free : (s : State) (c : Call) (k : ℕ) (x o : Object) → object_at s.dispatcher.objects k ≡ some o → key_of x ≡ key_of o → core x ≡ core o → is_free x ≡ true → Freed (readings_of s) c (name_of o)
    → (j : ℕ) → (object_at (put_object x s.dispatcher.objects) j ≡ object_at s.dispatcher.objects j) ⊎ Changed s c (put_object x s.dispatcher.objects) j
put-free s c k x o f key same free freed j = elim (ℕ_discrete j k) [
  | yes e ↦ inr (record {
    was = o;
    now = x;
    before = ap (object_at s.dispatcher.objects) e ∙ f;
    after = ap (object_at (put_object x s.dispatcher.objects)) (e ∙ sym at_key) ∙ find-put-own key_of x s.dispatcher.objects;
    alike = give.but-signal same;
    free = free;
    freed = freed;
  })
  | no n ↦ inl (find-put-other key_of x s.dispatcher.objects j (λ e. n (e ∙ at_key)))
]
  where
    at_key : key_of x ≡ k
    at_key = key ∙ (found key_of s.dispatcher.objects k o f).1

-- ---- `set_event`

module _ (s : State) (v : Valid s) (key : ℕ) where
  set-pass : refusal (SetEvent key) s ≡ 0 → PassOf s (SetEvent key)
  unfolding refusal signal_refusal effect event_set wake
  set-pass z = go (event_at s.dispatcher.objects key) refl z
    where
      go : (o : Option Event) → event_at s.dispatcher.objects key ≡ o → ◌≡◌ {A = ℕ} (cond (present o) 0 2) 0 → PassOf s (SetEvent key)
      go none q y = absurd (omega arith)
      go (some e) q y = objects-only s v (SetEvent key) (put_object (signaled_as true e) s.dispatcher.objects)
          (put-free s (SetEvent key) key (signaled_as true e) (event e) here refl refl refl (calls.by_set key refl (ap event_named (found key_of s.dispatcher.objects key (event e) here).1)))
          freed
          (λ time c k t f i u. let w : ◌≡◌ {A = ℕ} 0 1 = cc in absurd (omega arith))
          (inr (ap (λ (o : Outcome). o.state.dpcs) (step_is (SetEvent key) s z) ∙ ap (λ (o : Option Event). (given o (gives Done s) (λ (x : Event). gives (Flag x.signaled) (with_dispatcher s (wake (with_objects s.dispatcher (put_object (signaled_as true x) s.dispatcher.objects)))))).state.dpcs) q))
          (ended_so _ _ (ap (λ (o : Outcome). o.state.dispatcher) (step_is (SetEvent key) s z)
          ∙ ap (λ (o : Option Event). (given o (gives Done s) (λ (x : Event). gives (Flag x.signaled) (with_dispatcher s (wake (with_objects s.dispatcher (put_object (signaled_as true x) s.dispatcher.objects)))))).state.dispatcher) q))
        where
          here : object_at s.dispatcher.objects key ≡ some (event e)
          here = event-found (object_at s.dispatcher.objects key) e q

          set_here : object_at (put_object (signaled_as true e) s.dispatcher.objects) key ≡ some (signaled_as true e)
          set_here = ap (object_at (put_object (signaled_as true e) s.dispatcher.objects)) (sym (found key_of s.dispatcher.objects key (event e) here).1) ∙ find-put-own key_of (signaled_as true e) s.dispatcher.objects

          freed : (n : Named) → Freed (readings_of s) (SetEvent key) n → is_available (with_objects s.dispatcher (put_object (signaled_as true e) s.dispatcher.objects)) n ≡ true
          freed n (calls.by_set k c m) =
              let w : key ≡ k = cc in
              ap (is_available (with_objects s.dispatcher (put_object (signaled_as true e) s.dispatcher.objects))) (m ∙ ap event_named (sym w))
              ∙ ap (λ (o : Option Object). given (of_kind 1 o) false is_free) set_here
          freed n (calls.by_release k c m) = let w : ◌≡◌ {A = ℕ} 0 1 = cc in absurd (omega arith)
          freed n (calls.by_exit st i c r m) = let w : ◌≡◌ {A = ℕ} 0 1 = cc in absurd (omega arith)
          freed n (calls.by_expiry time t c k r i u) = let w : ◌≡◌ {A = ℕ} 0 1 = cc in absurd (omega arith)

-- ---- `release_mutex`

module _ (s : State) (v : Valid s) (key : ℕ) where
  release-pass : refusal (ReleaseMutex key) s ≡ 0 → PassOf s (ReleaseMutex key)
  unfolding refusal release_refusal effect mutex_released wake
  release-pass z =
      let a = passes (eqb s.dispatcher.current 0) 2 (given (mutex_at s.dispatcher.objects key) 2 (λ (m : Mutex). cond (eqb m.owner s.dispatcher.current) 0 10)) z in
      let b = there (mutex_at s.dispatcher.objects key) 1 (λ (m : Mutex). cond (eqb m.owner s.dispatcher.current) 0 10) a.1 in
      of b.0 b.1
    where
      of : (m : Mutex) → mutex_at s.dispatcher.objects key ≡ some m → PassOf s (ReleaseMutex key)
      of m q = objects-only s v (ReleaseMutex key) (put_object (owned_by 0 m) s.dispatcher.objects)
          (put-free s (ReleaseMutex key) key (owned_by 0 m) (mutex m) here refl refl refl (calls.by_release key refl (ap mutex_named (found key_of s.dispatcher.objects key (mutex m) here).1)))
          freed
          (λ time c k t f i u. let w : ◌≡◌ {A = ℕ} 0 1 = cc in absurd (omega arith))
          (inr (ap (λ (o : Outcome). o.state.dpcs) (step_is (ReleaseMutex key) s z) ∙ ap (λ (o : Option Mutex). (given o s (λ (x : Mutex). with_dispatcher s (wake (with_objects s.dispatcher (put_object (owned_by 0 x) s.dispatcher.objects))))).dpcs) q))
          (ended_so _ _ (ap (λ (o : Outcome). o.state.dispatcher) (step_is (ReleaseMutex key) s z)
          ∙ ap (λ (o : Option Mutex). (given o s (λ (x : Mutex). with_dispatcher s (wake (with_objects s.dispatcher (put_object (owned_by 0 x) s.dispatcher.objects))))).dispatcher) q))
        where
          here : object_at s.dispatcher.objects key ≡ some (mutex m)
          here = mutex-found (object_at s.dispatcher.objects key) m q

          put-here : object_at (put_object (owned_by 0 m) s.dispatcher.objects) key ≡ some (owned_by 0 m)
          put-here = ap (object_at (put_object (owned_by 0 m) s.dispatcher.objects)) (sym (found key_of s.dispatcher.objects key (mutex m) here).1) ∙ find-put-own key_of (owned_by 0 m) s.dispatcher.objects

          freed : (n : Named) → Freed (readings_of s) (ReleaseMutex key) n → is_available (with_objects s.dispatcher (put_object (owned_by 0 m) s.dispatcher.objects)) n ≡ true
          freed n (calls.by_release k c e) =
              let w : key ≡ k = cc in
              ap (is_available (with_objects s.dispatcher (put_object (owned_by 0 m) s.dispatcher.objects))) (e ∙ ap mutex_named (sym w))
              ∙ ap (λ (o : Option Object). given (of_kind 0 o) false is_free) put-here
          freed n (calls.by_set k c e) = let w : ◌≡◌ {A = ℕ} 0 1 = cc in absurd (omega arith)
          freed n (calls.by_exit st i c r e) = let w : ◌≡◌ {A = ℕ} 0 1 = cc in absurd (omega arith)
          freed n (calls.by_expiry time t c k r i u) = let w : ◌≡◌ {A = ℕ} 0 1 = cc in absurd (omega arith)

-- ---- `terminate`

module _ (s : State) (v : Valid s) (status : ℕ) where
  abbrev me : ℕ
  me = s.dispatcher.current

  abbrev gone : Thread
  gone = with_status (thread_of s.dispatcher s.dispatcher.current) (exited status)

  exit-pass : refusal (Terminate status) s ≡ 0 → PassOf s (Terminate status)
  unfolding refusal terminate_refusal effect terminated becomes wake
  exit-pass z =
      let a = passes (eqb me 0) 2 (cond (owns_mutex s.dispatcher.objects me) 10 0) z in
      let k = current-known s v (eqb-false me 0 a.0) in
      record {
        at = terminated s.dispatcher status;
        standing = standing-moved s.dispatcher.threads s.dispatcher.placed s.dispatcher.waiters me s.dispatcher.sequence me gone v.sound.standing
            (record { from = k.0; to = k.1; runs = λ q. absurd (not-both (sym q)); later = λ q. absurd (not-both (sym q)); below = λ q. absurd (not-both (sym q)) });
        number = length-change s.dispatcher.threads me gone;
        waits = λ i y q. ap (λ (t : Thread). t.status) (change-other s.dispatcher.threads me gone i (λ e. not-both (ap is_waiting (sym q ∙ ap (status_of s.dispatcher) e ∙ k.2)))) ∙ q;
        waited = λ i y q. elim (ℕ_discrete i me) [
          | yes e ↦ absurd (not-both (ap is_waiting (sym q ∙ own k i e)))
          | no n ↦ sym (ap (λ (t : Thread). t.status) (change-other s.dispatcher.threads me gone i n)) ∙ q
        ];
        exits = λ i q. ap (λ (t : Thread). has_exited t.status) (change-other s.dispatcher.threads me gone i (λ e. not-both (sym q ∙ ap (λ (j : ℕ). has_exited (status_of s.dispatcher j)) e ∙ ap has_exited k.2))) ∙ q;
        exited = λ i q. elim (ℕ_discrete i me) [
          | yes e ↦ inr (calls.by_exit status me refl (told-current s me refl (eqb-false me 0 a.0)) (ap thread_named e))
          | no n ↦ inl (sym (ap (λ (t : Thread). has_exited t.status) (change-other s.dispatcher.threads me gone i n)) ∙ q)
        ];
        objects = λ j. inl refl;
        freed = freed k;
        expires = λ time c k t f i u. let w : ◌≡◌ {A = ℕ} 0 1 = cc in absurd (omega arith);
        dpcs = inr (ap (λ (o : Outcome). o.state.dpcs) (step_is (Terminate status) s z));
        ended = ended_so _ _ (ap (λ (o : Outcome). o.state.dispatcher) (step_is (Terminate status) s z));
      }
    where
      own : (1 ≤ s.dispatcher.current) × (s.dispatcher.current ≤ count s.dispatcher) × (status_of s.dispatcher s.dispatcher.current ≡ running)
          → (i : ℕ) → i ≡ s.dispatcher.current → status_of (terminated s.dispatcher status) i ≡ exited status
      own k i e = ap (status_of (terminated s.dispatcher status)) e ∙ ap (λ (t : Thread). t.status) (change-own s.dispatcher.threads me gone k.0 k.1)

      freed : (1 ≤ s.dispatcher.current) × (s.dispatcher.current ≤ count s.dispatcher) × (status_of s.dispatcher s.dispatcher.current ≡ running)
          → (n : Named) → Freed (readings_of s) (Terminate status) n → is_available (terminated s.dispatcher status) n ≡ true
      freed k n (calls.by_exit st i c r m) =
          let e = current-told s i r in
          ap (is_available (terminated s.dispatcher status)) (m ∙ ap thread_named (sym e))
          ∙ offered-available (terminated s.dispatcher status) (thread_named me) (at.ended refl
          (is-thread (terminated s.dispatcher status) me k.0 (subst (λ (j : ℕ). me ≤ j) (sym (length-change s.dispatcher.threads me gone)) k.1)) (ap has_exited (own k me refl)))
      freed k n (calls.by_set j c m) = let w : ◌≡◌ {A = ℕ} 0 1 = cc in absurd (omega arith)
      freed k n (calls.by_release j c m) = let w : ◌≡◌ {A = ℕ} 0 1 = cc in absurd (omega arith)
      freed k n (calls.by_expiry time t c j r i u) = let w : ◌≡◌ {A = ℕ} 0 1 = cc in absurd (omega arith)

-- ---- `advance_to`: the timers that are due

-- an object is as it was and no timer that expires, or it is one
each-expired : (policy : Policy) (now : ℕ) (ts : List Timer) (e : Expired) → Pending e.objects ts → (k : ℕ)
    → ((object_at (expire_each policy now e ts).objects k ≡ object_at e.objects k) × ((t : Timer) → Mem t ts → t.address ≡ k → ⊥))
    ⊎ ((t : Timer) × (Mem t ts) × (object_at e.objects k ≡ some (timer t)) × (object_at (expire_each policy now e ts).objects k ≡ some (timer (expired now t))))
unfolding expire_one
each-expired policy now [] e p k = inl (refl, λ t m q. m)
each-expired policy now (t ∷ ts) e p k = go (ℕ_discrete k t.address) (each-expired policy now ts (expire_one policy now e t) (pending-on policy now e t ts p) k)
  where
    other : (k ≡ t.address → ⊥) → object_at (put_object (timer (expired now t)) e.objects) k ≡ object_at e.objects k
    other n = find-put-other key_of (timer (expired now t)) e.objects k (λ q. n (q ∙ (expired-is now t).0))

    go : Dec (k ≡ t.address)
        → ((object_at (expire_each policy now (expire_one policy now e t) ts).objects k ≡ object_at (expire_one policy now e t).objects k) × ((t : Timer) → Mem t ts → t.address ≡ k → ⊥))
        ⊎ ((u : Timer) × (Mem u ts) × (object_at (expire_one policy now e t).objects k ≡ some (timer u)) × (object_at (expire_each policy now (expire_one policy now e t) ts).objects k ≡ some (timer (expired now u))))
        → ((object_at (expire_each policy now (expire_one policy now e t) ts).objects k ≡ object_at e.objects k) × ((u : Timer) → Mem u (t ∷ ts) → u.address ≡ k → ⊥))
        ⊎ ((u : Timer) × (Mem u (t ∷ ts)) × (object_at e.objects k ≡ some (timer u)) × (object_at (expire_each policy now (expire_one policy now e t) ts).objects k ≡ some (timer (expired now u))))
    go (yes q) (inl r) = inr (
      t,
      inl refl,
      ap (object_at e.objects) q ∙ p.0,
      r.0 ∙ ap (object_at (put_object (timer (expired now t)) e.objects)) (q ∙ sym (expired-is now t).0) ∙ find-put-own key_of (timer (expired now t)) e.objects,
    )
    go (yes q) (inr r) = absurd (p.2 r.0 r.1 ((found key_of (expire_one policy now e t).objects k (timer r.0) r.2).1 ∙ q))
    go (no n) (inl r) = inl (r.0 ∙ other n, λ u m z. ⊎_elim (λ (w : u ≡ t). n (sym z ∙ ap (λ (x : Timer). x.address) w)) (λ (w : Mem u ts). r.1 u w z) m)
    go (no n) (inr r) = inr (r.0, inr r.1, sym (other n) ∙ r.2, r.3)

-- ---- .. and who times out after it

timed-other : (xs : List ℕ) (d : Dispatcher) (i : ℕ) → (Mem i xs → ⊥) → thread_of (time_out_each d xs) i ≡ thread_of d i
unfolding woken becomes
timed-other [] d i n = refl
timed-other (x ∷ xs) d i n = timed-other xs (woken d x timeout) i (λ m. n (inr m)) ∙ change-other d.threads x (ready_again (thread_of d x) (some timeout)) i (λ e. n (inl e))

timed-count : (xs : List ℕ) (d : Dispatcher) → (count (time_out_each d xs) ≡ count d) × ((time_out_each d xs).objects ≡ d.objects)
unfolding woken becomes
timed-count [] d = (refl, refl)
timed-count (x ∷ xs) d = let r = timed-count xs (woken d x timeout) in (r.0 ∙ length-change d.threads x (ready_again (thread_of d x) (some timeout)), r.1)

-- it is ready, and its wait has timed out
abbrev Out : Dispatcher → ℕ → Type 0
Out d i = (status_of d i ≡ ready) × ((thread_of d i).result ≡ some timeout)

timed-own : (xs : List ℕ) (d : Dispatcher) (i : ℕ) → 1 ≤ i → i ≤ count d → Mem i xs → Out (time_out_each d xs) i
unfolding woken becomes
timed-own [] d i a b m = absurd m
timed-own (x ∷ xs) d i a b m = go (member i xs) refl (timed-own xs (woken d x timeout) i a (subst (λ (j : ℕ). i ≤ j) (sym (length-change d.threads x (ready_again (thread_of d x) (some timeout)))) b))
  where
    go : (c : Bool) → member i xs ≡ c → (Mem i xs → Out (time_out_each (woken d x timeout) xs) i) → Out (time_out_each (woken d x timeout) xs) i
    go true q ih = ih (member-mem i xs q)
    go false q ih = ⊎_elim
        (λ (e : i ≡ x).
        let r = timed-other xs (woken d x timeout) i (member-not i xs q)
        ∙ ap (thread_of (woken d x timeout)) e
        ∙ change-own d.threads x (ready_again (thread_of d x) (some timeout)) (subst (λ (j : ℕ). 1 ≤ j) e a) (subst (λ (j : ℕ). j ≤ count d) e b) in
        (ap (λ (t : Thread). t.status) r, ap (λ (t : Thread). t.result) r))
        (λ (w : Mem i xs). absurd (member-not i xs q w)) m

timed-either : (xs : List ℕ) (d : Dispatcher) (i : ℕ) → is_waiting (status_of d i) ≡ true → (Out (time_out_each d xs) i) ⊎ (thread_of (time_out_each d xs) i ≡ thread_of d i)
timed-either xs d i q = go (member i xs) refl
  where
    go : (b : Bool) → member i xs ≡ b → (Out (time_out_each d xs) i) ⊎ (thread_of (time_out_each d xs) i ≡ thread_of d i)
    go true m = let g = stands-somewhere d.threads i is_waiting refl q in inl (timed-own xs d i g.0 g.1 (member-mem i xs m))
    go false m = inr (timed-other xs d i (member-not i xs m))

numbers-pass : (f : Thread → Bool) (n : ℕ) (l : List Thread) (i : ℕ) → Mem i (numbers_of f n l) → (k : ℕ) × (i ≡ n + k) × (f (thread_at l (suc k)) ≡ true)
numbers-pass f n [] i m = absurd m
numbers-pass f n (t ∷ ts) i m = go (f t) refl m (numbers-pass f (suc n) ts i)
  where
    go : (b : Bool) → f t ≡ b → Mem i (cond b (n ∷ numbers_of f (suc n) ts) (numbers_of f (suc n) ts)) → (Mem i (numbers_of f (suc n) ts) → (k : ℕ) × (i ≡ suc n + k) × (f (thread_at ts (suc k)) ≡ true))
        → (k : ℕ) × (i ≡ n + k) × (f (thread_at (t ∷ ts) (suc k)) ≡ true)
    go true q (inl e) ih = (0, omega (arith, e), q)
    go true q (inr w) ih = let r = ih w in (suc r.0, omega (arith, r.1), r.2)
    go false q w ih = let r = ih w in (suc r.0, omega (arith, r.1), r.2)

overdue-waits : (now : ℕ) (x : Status) → reached (wait_of x).deadline now ≡ true → is_waiting x ≡ true
overdue-waits now running e = absurd (not-both (sym e))
overdue-waits now ready e = absurd (not-both (sym e))
overdue-waits now (waiting w) e = refl
overdue-waits now (exited n) e = absurd (not-both (sym e))

ended-out : (now : ℕ) (d : Dispatcher) → Ended d (time_out now d)
unfolding time_out
ended-out now d = let xs = numbers_of (is_overdue now) 1 d.threads in record {
  objects = (timed-count xs d).1;
  number = (timed-count xs d).0;
  unwaiting = λ i q. timed-other xs d i (λ m.
      let r = numbers-pass (is_overdue now) 1 d.threads i m in
      not-both (sym (overdue-waits now (status_of d i) (ap (λ (j : ℕ). is_overdue now (thread_at d.threads j)) (let e : i ≡ suc r.0 = omega (arith, r.1) in e) ∙ r.2)) ∙ q));
  waiting = λ i q k r. ⊎_elim
      (λ (t : Out (time_out_each d xs) i). other k (sym t.1 ∙ r.1))
      (λ (t : thread_of (time_out_each d xs) i ≡ thread_of d i). not-both (sym q ∙ ap is_waiting (sym (ap (λ (x : Thread). x.status) t) ∙ r.0)))
      (timed-either xs d i q);
  alive = λ i q. ⊎_elim
      (λ (t : Out (time_out_each d xs) i). ap has_exited t.0)
      (λ (t : thread_of (time_out_each d xs) i ≡ thread_of d i). ap (λ (x : Thread). has_exited x.status) t ∙ waits-not (status_of d i) q)
      (timed-either xs d i q);
}
  where
    other : (k : ℕ) → some timeout ≡ some (satisfied k) → ⊥
    other k e = let y : ◌≡◌ {A = ℕ} 0 1 = cc in omega arith

-- ---- `advance_to`

due-so : (now : ℕ) (t : Timer) → is_due now t ≡ true → (t.inserted ≡ true) × (t.due ≤ now)
due-so now t e = go t.inserted refl e
  where
    go : (b : Bool) → t.inserted ≡ b → cond b (leb t.due now) false ≡ true → (t.inserted ≡ true) × (t.due ≤ now)
    go true q z = (q, leb-true t.due now z)
    go false q z = absurd (not-both (sym z))

-- the first time ahead that is whole periods after the due
first-ahead : (due now p : ℕ) → due ≤ now → (p ≡ 0 → ⊥) → (now < due + ((now - due) / p + 1) * p) × (due + ((now - due) / p + 1) * p ≤ now + p)
first-ahead due now p h n =
    let r = div-add-mod' (now - due) p in
    let m : (now - due) % p < p = mod-lt (now - due) (omega (arith, n)) in
    let q = add-mul ((now - due) / p) 1 p ∙ ap (λ (k : ℕ). (now - due) / p * p + k) (one-mul p) in
    (omega (arith, r, m, q), omega (arith, r, m, q))

expires-so : (now : ℕ) (t : Timer) → t.due ≤ now → Expires now t (expired now t)
unfolding expired next_due
expires-so now t h = go (eqb t.period_ms 0) refl
  where
    go : (b : Bool) → eqb t.period_ms 0 ≡ b
        → Expires now t (cond (cond b false true) (retimed t true true (t.due + ((now - t.due) / (10000 * t.period_ms) + 1) * (10000 * t.period_ms))) (retimed t true false t.due))
    go true q = calls.once (eqb-true t.period_ms 0 q) refl
    go false q =
        let n = eqb-false t.period_ms 0 q in
        let a = first-ahead t.due now (10000 * t.period_ms) h (λ z. n (omega (arith, z))) in
        calls.again ((now - t.due) / (10000 * t.period_ms) + 1) n a.0 a.1 refl

module _ (s : State) (v : Valid s) (time : ℕ) where
  abbrev l : List Object
  l = s.dispatcher.objects

  expiry : (k : ℕ)
      → ((object_at (expired_at s time).objects k ≡ object_at s.dispatcher.objects k) × ((t : Timer) → Mem t (due_timers s.policy time s.dispatcher.objects) → t.address ≡ k → ⊥))
      ⊎ ((t : Timer) × (Mem t (due_timers s.policy time s.dispatcher.objects)) × (object_at s.dispatcher.objects k ≡ some (timer t)) × (object_at (expired_at s time).objects k ≡ some (timer (expired time t))))
  expiry k = each-expired s.policy time (due_timers s.policy time l) (unexpired s) (due-pending s.policy time l v.sound.rising) k

  changed : (k : ℕ) → (object_at (expired_at s time).objects k ≡ object_at s.dispatcher.objects k) ⊎ Changed s (AdvanceTo time) (expired_at s time).objects k
  changed k = ⊎_elim
      (λ (r : (object_at (expired_at s time).objects k ≡ object_at l k) × ((t : Timer) → Mem t (due_timers s.policy time l) → t.address ≡ k → ⊥)). inl r.0)
      (λ (r : (t : Timer) × (Mem t (due_timers s.policy time l)) × (object_at l k ≡ some (timer t)) × (object_at (expired_at s time).objects k ≡ some (timer (expired time t)))).
      let u = due-so time r.0 (listed-due s.policy time l r.0 r.1).1 in
      inr (record {
        was = timer r.0;
        now = timer (expired time r.0);
        before = r.2;
        after = r.3;
        alike = give.but-expiry r.0 (expired time r.0) refl refl;
        free = (expired-is time r.0).1;
        freed = calls.by_expiry time r.0 refl refl (told-timer s r.0.address r.0 (ap as_timer (ap (object_at l) (found key_of l k (timer r.0) r.2).1 ∙ r.2))) u.0 u.1;
      }))
      (expiry k)

  freed : (n : Named) → Freed (readings_of s) (AdvanceTo time) n → is_available (with_objects s.dispatcher (expired_at s time).objects) n ≡ true
  freed n (calls.by_expiry tm t c k r i u) =
      let w : tm ≡ time = cc in
      let f = timer-found (object_at l n.key) t (timer-told s n.key t r) in
      let q = found key_of l n.key (timer t) f in
      let m = due-listed s.policy time l t q.0 (ap (λ (b : Bool). cond b (leb t.due time) false) i ∙ le-leb t.due time (subst (λ (j : ℕ). t.due ≤ j) w u)) in
      ap (λ (j : ℕ). is_available (with_objects s.dispatcher (expired_at s time).objects) (record { kind = j; key = n.key })) k
      ∙ ⊎_elim
      (λ (x : (object_at (expired_at s time).objects n.key ≡ object_at l n.key) × ((t : Timer) → Mem t (due_timers s.policy time l) → t.address ≡ n.key → ⊥)). absurd (x.1 t m q.1))
      (λ (x : (t : Timer) × (Mem t (due_timers s.policy time l)) × (object_at l n.key ≡ some (timer t)) × (object_at (expired_at s time).objects n.key ≡ some (timer (expired time t)))).
      ap (λ (o : Option Object). given (of_kind 2 o) false is_free) x.3 ∙ (expired-is time x.0).1)
      (expiry n.key)
  freed n (calls.by_set j c m) = let w : ◌≡◌ {A = ℕ} 0 1 = cc in absurd (omega arith)
  freed n (calls.by_release j c m) = let w : ◌≡◌ {A = ℕ} 0 1 = cc in absurd (omega arith)
  freed n (calls.by_exit st i c r m) = let w : ◌≡◌ {A = ℕ} 0 1 = cc in absurd (omega arith)

  expires : ExpiresIn s (AdvanceTo time) (expired_at s time).objects
  expires tm c k t f i u =
      let w : time ≡ tm = cc in
      subst (λ (j : ℕ). t.due ≤ j → (x : Timer) × (object_at (expired_at s time).objects k ≡ some (timer x)) × Expires j t x) w
      (λ h. ⊎_elim
      (λ (x : (object_at (expired_at s time).objects k ≡ object_at l k) × ((t : Timer) → Mem t (due_timers s.policy time l) → t.address ≡ k → ⊥)).
      absurd (x.1 t (due-listed s.policy time l t (found key_of l k (timer t) f).0 (ap (λ (b : Bool). cond b (leb t.due time) false) i ∙ le-leb t.due time h)) (found key_of l k (timer t) f).1))
      (λ (x : (t : Timer) × (Mem t (due_timers s.policy time l)) × (object_at l k ≡ some (timer t)) × (object_at (expired_at s time).objects k ≡ some (timer (expired time t)))).
      let e : x.0 ≡ t = ap (on_timer t (λ (y : Timer). y)) (some_same (timer x.0) (timer t) (sym x.2 ∙ f)) in
      (expired time t, x.3 ∙ ap {B = Option Object} (λ (y : Timer). some (timer (expired time y))) e, expires-so time t h))
      (expiry k)) u

  advance-pass : refusal (AdvanceTo time) s ≡ 0 → PassOf s (AdvanceTo time)
  unfolding effect advanced wake
  advance-pass z = objects-only s v (AdvanceTo time) (expired_at s time).objects changed freed expires (inl (time, refl))
      (subst (Ended (wake (with_objects s.dispatcher (expired_at s time).objects))) (sym (ap (λ (o : Outcome). o.state.dispatcher) (step_is (AdvanceTo time) s z)))
      (ended-out time (wake (with_objects s.dispatcher (expired_at s time).objects))))

-- ---- each of the four

pub wake-pass : (s : State) → Valid s → (c : Call) → RunsPass c → refusal c s ≡ 0 → WakePass (readings_of s) (readings_of (step c s).state) c
wake-pass s v c (calls.set_event key e) z = gives-pass s v.quiet c (subst (λ (c : Call). refusal c s ≡ 0 → PassOf s c) (sym e) (set-pass s v key) z)
wake-pass s v c (calls.release-mutex key e) z = gives-pass s v.quiet c (subst (λ (c : Call). refusal c s ≡ 0 → PassOf s c) (sym e) (release-pass s v key) z)
wake-pass s v c (calls.terminate status e) z = gives-pass s v.quiet c (subst (λ (c : Call). refusal c s ≡ 0 → PassOf s c) (sym e) (exit-pass s v status) z)
wake-pass s v c (calls.advance-to time e) z = gives-pass s v.quiet c (subst (λ (c : Call). refusal c s ≡ 0 → PassOf s c) (sym e) (advance-pass s v time) z)
