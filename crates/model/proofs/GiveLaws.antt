-- What a wake pass gives to whom, by the reads: for any call that makes something available and then runs one.
use Prim.Native.Nat.{ℕ, ◌≤◌, ◌<◌}
use mathlib.Core.List.{List, [], ◌∷◌}
use mathlib.Core.Bool.{Bool, true, false, cond}
use mathlib.Core.Option.{Option, none, some}
use mathlib.Core.Logic.{◌⊎◌, inl, inr, ⊎_elim}
use mathlib.Core.Path.{◌≡◌, refl, sym, ap, ◌∙◌, subst}
use native.Mathlib.Omega.{arith}
use native.Mathlib.Decide.{ℕ_discrete}
use Rattle.images.specs.declared.Timer.{Timer}
use Rattle.model.specs.Lists.{Mem, Distinct, nth, given}
use Rattle.model.specs.State.{State, Dispatcher, Thread, Status, running, ready, waiting, exited, Wait, satisfied, Named, Mutex, Event, Object, mutex, event, timer, Dpcs}
use Rattle.model.specs.Threads.{count, thread_of, status_of, has_exited, is_waiting, is_ready, wait_of}
use Rattle.model.specs.Waits.{key_of, kind_of, object_at, as_mutex, as_event, as_timer, is_free, is_available, taken_by, on_event, on_timer, signaled_as, with_signal, is_met, can_wake, pass}
use Rattle.model.specs.Dpcs.{dpc_at}
use Rattle.model.specs.Valid.{Standing, sequence_at, Quiet}
use Rattle.model.specs.Answer.{None, Refused, Number, EventIs, TimerIs, DpcIs, CountersAre}
use Rattle.model.specs.Call.{Call, AdvanceTo}
use Rattle.model.specs.Call as call
use Rattle.model.specs.Reads.{number_or_none}
use Rattle.model.specs.Step.{step}
use Rattle.model.proofs.ListLaws.{not-both, any_at, nth-mem, mem-nth, member-mem, mem-member, rising-distinct}
use Rattle.model.proofs.TableLaws.{some_same, none-some, found}
use Rattle.model.proofs.ThreadLaws.{stands-somewhere}
use Rattle.model.proofs.SoundLaws.{is-thread}
use Rattle.model.proofs.ObjectLaws.{core, same_kind, taken-core, on-mutex, on-event, on-timer, event-found, timer-found}
use Rattle.model.proofs.NumberLaws.{rising-before}
use Rattle.model.specs.Wakes.{Readings, readings_of, timer_named, thread_named, Woken, WokenBy, Available, Freed, Took, Untaken, TakenFirst, timer_with, Expires, Advances, WakePass}
use Rattle.model.specs.Wakes as wakes
use Rattle.model.proofs.TakeLaws.{name_of, taken-kind}
use Rattle.model.proofs.PassLaws as at
use Rattle.model.proofs.PassLaws.{Offered, Had, number_same, available-offered, offered-available, Got, Awake, AllWait, can-wake, Taker, Lost, pass-count, pass-absent, pass-exited, pass-either, pass-falls, got-had, any_place, all-zero, pass-any, pass_all, pass_alone}
use Rattle.model.proofs.Told.{event-told, told-event, timer-told, told-timer, owner-answers, event-answers, timer-answers, dpc-answers, queue-answers, counters-answers, thread-told, told-thread}
use Rattle.model.proofs.ReadLaws.{waits-told, told-waits, available-told, told-available, had-told, single-told}

-- what a call does after its pass: it gives and takes no object, and wakes no thread with an index
pub record Ended (d d' : Dispatcher) : Type 0 where
  pub objects : d'.objects ≡ d.objects
  pub number : count d' ≡ count d
  pub unwaiting : (i : ℕ) → is_waiting (status_of d i) ≡ false → thread_of d' i ≡ thread_of d i
  pub waiting : (i : ℕ) → is_waiting (status_of d i) ≡ true → (k : ℕ) → Awake d' i k → ⊥
  pub alive : (i : ℕ) → is_waiting (status_of d i) ≡ true → has_exited (status_of d' i) ≡ false

-- the same object but for its owner or signal, or a timer that has expired
pub data Alike (was now : Object) : Type 0 where
  but-signal : core now ≡ core was → Alike was now
  but-expiry : (t u : Timer) → was ≡ timer t → now ≡ timer u → Alike was now

-- an object that the call makes available
pub record Changed (s : State) (c : Call) (l : List Object) (k : ℕ) : Type 0 where
  pub was : Object
  pub now : Object
  pub before : object_at s.dispatcher.objects k ≡ some was
  pub after : object_at l k ≡ some now
  pub alike : Alike was now
  pub free : is_free now ≡ true
  pub freed : Freed (readings_of s) c (name_of was)

-- before its pass a timer that is due has expired
abbrev pub ExpiresIn : State → Call → List Object → Type 0
ExpiresIn s c l = (time : ℕ) → c ≡ AdvanceTo time → (k : ℕ) (t : Timer) → object_at s.dispatcher.objects k ≡ some (timer t) → t.inserted ≡ true → t.due ≤ time
    → (u : Timer) × (object_at l k ≡ some (timer u)) × Expires time t u

-- before its pass: who waits waits, and what the call makes available is available more
pub record PassOf (s : State) (c : Call) : Type 0 where
  pub at : Dispatcher
  pub standing : Standing (at).threads (at).placed (at).waiters (at).current (at).sequence
  pub number : count at ≡ count s.dispatcher
  pub waits : (i : ℕ) (y : Wait) → status_of s.dispatcher i ≡ waiting y → status_of at i ≡ waiting y
  pub waited : (i : ℕ) (y : Wait) → status_of at i ≡ waiting y → status_of s.dispatcher i ≡ waiting y
  pub exits : (i : ℕ) → has_exited (status_of s.dispatcher i) ≡ true → has_exited (status_of at i) ≡ true
  pub exited : (i : ℕ) → has_exited (status_of at i) ≡ true → (has_exited (status_of s.dispatcher i) ≡ true) ⊎ Freed (readings_of s) c (thread_named i)
  pub objects : (k : ℕ) → (object_at (at).objects k ≡ object_at s.dispatcher.objects k) ⊎ Changed s c (at).objects k
  pub freed : (n : Named) → Freed (readings_of s) c n → is_available at n ≡ true
  pub expires : ExpiresIn s c (at).objects
  pub dpcs : Advances c ⊎ ((step c s).state.dpcs ≡ s.dpcs)
  pub ended : Ended (pass at (at).waiters) (step c s).state.dispatcher

alike-kind : (was now : Object) → Alike was now → kind_of now ≡ kind_of was
alike-kind was now (but-signal e) = same_kind now was e
alike-kind was now (but-expiry t u e f) = ap kind_of f ∙ sym (ap kind_of e)

event-core : (e : Event) (x : Object) → core x ≡ core (event e) → (y : Bool) × (x ≡ event (record { key = e.key; manual = e.manual; signaled = y }))
event-core e (mutex m) h = absurd (omega (arith, same_kind (mutex m) (event e) h))
event-core e (event x) h = (x.signaled, ap (on_event (event x) (signaled_as x.signaled)) h)
event-core e (timer t) h = absurd (omega (arith, same_kind (timer t) (event e) h))

timer-core : (t : Timer) (x : Object) → core x ≡ core (timer t) → (u : Timer) × (x ≡ timer u) × (u ≡ with_signal t u.signaled)
timer-core t (mutex m) h = absurd (omega (arith, same_kind (mutex m) (timer t) h))
timer-core t (event e) h = absurd (omega (arith, same_kind (event e) (timer t) h))
timer-core t (timer u) h = (u, refl, ap (on_timer u (λ (z : Timer). with_signal z u.signaled)) h)

waits-for : (x : Status) → is_waiting x ≡ true → (y : Wait) × (x ≡ waiting y)
waits-for running e = absurd (not-both (sym e))
waits-for ready e = absurd (not-both (sym e))
waits-for (waiting y) e = (y, refl)
waits-for (exited n) e = absurd (not-both (sym e))

not-waiting : (x : Status) → has_exited x ≡ true → is_waiting x ≡ false
not-waiting running e = refl
not-waiting ready e = refl
not-waiting (waiting y) e = absurd (not-both (sym e))
not-waiting (exited n) e = refl

head_of : (ns : List Named) → (ns ≡ [] → ⊥) → (n : Named) × (nth ns 0 ≡ some n)
head_of [] e = absurd (e refl)
head_of (n ∷ ns) e = (n, refl)

named_by : (k : ℕ) (o : Object) (l : List Object) (κ : ℕ) → object_at l k ≡ some o → kind_of o ≡ κ → name_of o ≡ record { kind = κ; key = k }
named_by k o l κ f e = ap (λ (i : ℕ). record { kind = i; key = key_of o }) e ∙ ap (λ (i : ℕ). record { kind = κ; key = i }) (found key_of l k o f).1

module _ (s : State) (quiet : Quiet s.dispatcher) (c : Call) (p : PassOf s c) where
  abbrev d₀ : Dispatcher
  d₀ = s.dispatcher

  abbrev d : Dispatcher
  d = p.at

  abbrev w : Dispatcher
  w = pass p.at p.at.waiters

  abbrev s' : State
  s' = (step c s).state

  abbrev a : Readings
  a = readings_of s

  abbrev b : Readings
  b = readings_of (step c s).state

  once : Distinct d.waiters
  once = rising-distinct (sequence_at d.threads) d.waiters p.standing.waiters_rising

  all-wait : AllWait d d.waiters
  all-wait i m = waits-for (status_of d i) (sym (p.standing.waiters_waiting i) ∙ mem-member i d.waiters m)

  listed : (i : ℕ) (y : Wait) → status_of d i ≡ waiting y → Mem i d.waiters
  listed i y e = member-mem i d.waiters (p.standing.waiters_waiting i ∙ ap is_waiting e)

  -- ---- before the pass, and after

  kept : (n : Named) → is_available d₀ n ≡ true → is_available d n ≡ true
  kept n q = go (available-offered d₀ n q)
    where
      go : Offered d₀ n → is_available d n ≡ true
      go (at.ended k t x) = offered-available d n (at.ended k (number_same d₀ d n.key p.number t) (p.exits n.key x))
      go (at.stands o z f g) = ⊎_elim
          (λ (e : object_at d.objects (key_of o) ≡ object_at d₀.objects (key_of o)). offered-available d n (at.stands o z (e ∙ f) g))
          (λ (e : Changed s c d.objects (key_of o)).
          let same = some_same e.was o (sym e.before ∙ f) in
          let name = named_by (key_of o) e.now d.objects (kind_of o) e.after (alike-kind e.was e.now e.alike ∙ ap kind_of same) in
          offered-available d n (at.stands e.now (z ∙ sym name) (ap (object_at d.objects) (found key_of d.objects (key_of o) e.now e.after).1 ∙ e.after) e.free))
          (p.objects (key_of o))

  gained : (n : Named) → is_available d n ≡ true → Available a n ⊎ Freed a c n
  gained n q = go (available-offered d n q)
    where
      go : Offered d n → Available a n ⊎ Freed a c n
      go (at.ended k t x) = ⊎_elim
          (λ (e : has_exited (status_of d₀ n.key) ≡ true).
          inl (available-told s n (offered-available d₀ n (at.ended k (number_same d d₀ n.key (sym p.number) t) e))))
          (λ (e : Freed a c (thread_named n.key)). inr (subst (Freed a c) (sym (ap (λ (i : ℕ). record { kind = i; key = n.key }) k)) e))
          (p.exited n.key x)
      go (at.stands o z f g) = ⊎_elim
          (λ (e : object_at d.objects (key_of o) ≡ object_at d₀.objects (key_of o)). inl (available-told s n (offered-available d₀ n (at.stands o z (sym e ∙ f) g))))
          (λ (e : Changed s c d.objects (key_of o)).
          let same = some_same e.now o (sym e.after ∙ f) in
          inr (subst (Freed a c) (named_by (key_of o) e.was d₀.objects (kind_of o) e.before (sym (alike-kind e.was e.now e.alike) ∙ ap kind_of same) ∙ sym z) e.freed))
          (p.objects (key_of o))

  ended-available : (n : Named) → is_available w n ≡ true → is_available s'.dispatcher n ≡ true
  ended-available n q = go (available-offered w n q)
    where
      go : Offered w n → is_available s'.dispatcher n ≡ true
      go (at.ended k t x) = offered-available s'.dispatcher n (at.ended k (number_same w s'.dispatcher n.key p.ended.number t)
          (ap (λ (z : Thread). has_exited z.status) (p.ended.unwaiting n.key (not-waiting (status_of w n.key) x)) ∙ x))
      go (at.stands o z f g) = offered-available s'.dispatcher n (at.stands o z (ap (λ (l : List Object). object_at l (key_of o)) p.ended.objects ∙ f) g)

  ended-falls : (n : Named) → is_available s'.dispatcher n ≡ true → is_available w n ≡ true
  ended-falls n q = go (available-offered s'.dispatcher n q)
    where
      same : has_exited (status_of s'.dispatcher n.key) ≡ true → (t : Bool) → is_waiting (status_of w n.key) ≡ t
          → has_exited (status_of w n.key) ≡ true
      same x true t = absurd (not-both (sym x ∙ p.ended.alive n.key t))
      same x false t = sym (ap (λ (z : Thread). has_exited z.status) (p.ended.unwaiting n.key t)) ∙ x

      go : Offered s'.dispatcher n → is_available w n ≡ true
      go (at.ended k t x) = offered-available w n (at.ended k (number_same s'.dispatcher w n.key (sym p.ended.number) t) (same x (is_waiting (status_of w n.key)) refl))
      go (at.stands o z f g) = offered-available w n (at.stands o z (sym (ap (λ (l : List Object). object_at l (key_of o)) p.ended.objects) ∙ f) g)

  ended-had : (i : ℕ) (n : Named) → Had w i n → Had s'.dispatcher i n
  ended-had i n (at.ended k t x) = at.ended k (number_same w s'.dispatcher n.key p.ended.number t)
      (ap (λ (z : Thread). has_exited z.status) (p.ended.unwaiting n.key (not-waiting (status_of w n.key) x)) ∙ x)
  ended-had i n (at.stands o z g f) = at.stands o z g (ap (λ (l : List Object). object_at l (key_of o)) p.ended.objects ∙ f)

  -- ---- who is woken

  end-awake : (i k : ℕ) → Awake w i k → Awake s'.dispatcher i k
  end-awake i k r =
      let q = p.ended.unwaiting i (ap is_waiting r.0) in
      (ap (λ (t : Thread). t.status) q ∙ r.0, ap (λ (t : Thread). t.result) q ∙ r.1)

  awake-end : (i k : ℕ) → Awake s'.dispatcher i k → Awake w i k
  awake-end i k r = go (is_waiting (status_of w i)) refl
    where
      go : (t : Bool) → is_waiting (status_of w i) ≡ t → Awake w i k
      go true q = absurd (p.ended.waiting i q k r)
      go false q =
          let e = p.ended.unwaiting i q in
          (sym (ap (λ (t : Thread). t.status) e) ∙ r.0, sym (ap (λ (t : Thread). t.result) e) ∙ r.1)

  awake-woken : (i : ℕ) (y : Wait) (k : ℕ) → status_of d i ≡ waiting y → Awake w i k → Woken a b i y k
  awake-woken i y k e r =
      let q = end-awake i k r in
      let g = stands-somewhere s'.dispatcher.threads i is_ready refl (ap is_ready q.0) in
      record {
        waited = told-waits s i y (p.waited i y e);
        thread = thread_of s'.dispatcher i;
        read = told-thread s' i (is-thread s'.dispatcher i g.0 g.1);
        is-ready = q.0;
        result = q.1;
      }

  woken-awake : (i : ℕ) (y : Wait) (k : ℕ) → Woken a b i y k → (status_of d i ≡ waiting y) × Awake w i k
  woken-awake i y k r =
      let q = (thread-told s' i r.thread r.read).1 in
      (p.waits i y (waits-told s i y r.waited), awake-end i k (ap (λ (t : Thread). t.status) q ∙ r.is-ready, ap (λ (t : Thread). t.result) q ∙ r.result))

  got-woken : (n : Named) (i : ℕ) (g : Got d w n i) → WokenBy a b n i g.for
  got-woken n i g = record { place = g.place; named = g.named; woken = awake-woken i g.for (cond g.for.all 0 g.place) g.waited (g.is-ready, g.result) }

  woken-got : (n : Named) (i : ℕ) (y : Wait) → WokenBy a b n i y → Got d w n i
  woken-got n i y g =
      let r = woken-awake i y (cond y.all 0 g.place) g.woken in
      record { for = y; waited = r.0; place = g.place; named = g.named; is-ready = r.1.0; result = r.1.1 }

  lost-first : (i : ℕ) (y : Wait) (n : Named) → status_of d i ≡ waiting y → Lost d w d.waiters i n
      → TakenFirst a b y.sequence n
  lost-first i y n e l = record {
    number = l.by;
    for = l.got.for;
    earlier = subst (λ (m : ℕ). m < y.sequence) (ap (λ (x : Status). (wait_of x).sequence) l.got.waited)
        (subst (λ (m : ℕ). sequence_at d.threads l.by < m) (ap (λ (x : Status). (wait_of x).sequence) e)
        (rising-before (sequence_at d.threads) d.waiters p.standing.waiters_rising l.by i l.before));
    got = got-woken n l.by l.got;
    single = single-told s' l.by n l.object l.is l.free l.gone (ap (λ (x : List Object). object_at x (key_of l.object)) p.ended.objects ∙ l.taken);
  }

  -- ---- an object that wakes nobody

  not_taken : (n : Named) → Untaken a b n → (k : ℕ) (o : Object) → name_of o ≡ n → Taker d w d.waiters k o → ⊥
  not_taken n u k o e t = u t.by t.got.for (subst (λ (m : Named). WokenBy a b m t.by t.got.for) e (got-woken (name_of o) t.by t.got))

  untaken-same : {X : Type 0} (view : Option Object → Option X) (κ : ℕ) → ((o : Object) → (kind_of o ≡ κ → ⊥) → view (some o) ≡ none) → (k : ℕ)
      → (Freed a c (record { kind = κ; key = k }) → ⊥) → Untaken a b (record { kind = κ; key = k })
      → view (object_at s'.dispatcher.objects k) ≡ view (object_at d₀.objects k)
  untaken-same view κ off k nf u = ap (λ (l : List Object). view (object_at l k)) p.ended.objects ∙ go (object_at d₀.objects k) refl (p.objects k)
    where
      -- in the pass: it is as it was, or it is of another kind, and stays so
      passed : (o : Object) → object_at d.objects k ≡ some o → (kind_of o ≡ κ → ⊥) ⊎ (kind_of o ≡ κ) → view (object_at w.objects k) ≡ view (some o)
      passed o f g = ⊎_elim
          (λ (e : object_at w.objects k ≡ some o). ap view e)
          (λ (t : Taker d w d.waiters k o). ⊎_elim
          (λ (x : kind_of o ≡ κ → ⊥). ap view t.taken ∙ off (taken_by t.by o) (λ e. x (sym (taken-kind t.by o) ∙ e)) ∙ sym (off o x))
          (λ (x : kind_of o ≡ κ). absurd (not_taken (record { kind = κ; key = k }) u k o (named_by k o d.objects κ f x) t))
          g)
          (pass-either d.waiters d once all-wait k o f)

      either : (o : Object) → (kind_of o ≡ κ → ⊥) ⊎ (kind_of o ≡ κ)
      either o = elim (ℕ_discrete (kind_of o) κ) [ yes e ↦ inr e | no e ↦ inl e ]

      go : (x : Option Object) → object_at d₀.objects k ≡ x → (object_at d.objects k ≡ object_at d₀.objects k) ⊎ Changed s c d.objects k
          → view (object_at w.objects k) ≡ view (object_at d₀.objects k)
      go none f (inl e) = ap view (pass-absent d.waiters d k (e ∙ f) ∙ sym f)
      go none f (inr e) = absurd (none-some e.was (sym f ∙ e.before))
      go (some o) f (inl e) = passed o (e ∙ f) (either o) ∙ ap view (sym f)
      go (some o) f (inr e) = ⊎_elim
          (λ (x : kind_of o ≡ κ → ⊥).
          let y : kind_of e.now ≡ κ → ⊥ = λ q. x (ap kind_of (some_same o e.was (sym f ∙ e.before)) ∙ sym (alike-kind e.was e.now e.alike) ∙ q) in
          passed e.now e.after (inl y) ∙ off e.now y ∙ sym (ap view f ∙ off o x))
          (λ (x : kind_of o ≡ κ). absurd (nf (subst (Freed a c) (named_by k e.was d₀.objects κ e.before (ap kind_of (some_same e.was o (sym e.before ∙ f)) ∙ x)) e.freed)))
          (either o)

  -- ---- an object that is there stays there, and the pass changes owners and signals alone

  end-core : (k : ℕ) (o : Object) → object_at d.objects k ≡ some o → (x : Object) × (object_at s'.dispatcher.objects k ≡ some x) × (core x ≡ core o)
  end-core k o f = ⊎_elim
      (λ (e : object_at w.objects k ≡ some o). (o, ap (λ (l : List Object). object_at l k) p.ended.objects ∙ e, refl))
      (λ (t : Taker d w d.waiters k o). (taken_by t.by o, ap (λ (l : List Object). object_at l k) p.ended.objects ∙ t.taken, taken-core t.by o))
      (pass-either d.waiters d once all-wait k o f)

  end-event : (key : ℕ) (e : Event) → a (call.EventState key) ≡ EventIs e
      → (x : Bool) × (b (call.EventState key) ≡ EventIs (record { key = e.key; manual = e.manual; signaled = x }))
  end-event key e r = by (p.objects key)
    where
      here : object_at d₀.objects key ≡ some (event e)
      here = event-found (object_at d₀.objects key) e (event-told s key e r)

      reads : (o : Object) → object_at d.objects key ≡ some o → core o ≡ core (event e)
          → (x : Bool) × (b (call.EventState key) ≡ EventIs (record { key = e.key; manual = e.manual; signaled = x }))
      reads o f h =
          let x = end-core key o f in
          let y = event-core e x.0 (x.2 ∙ h) in
          (y.0, told-event s' key (record { key = e.key; manual = e.manual; signaled = y.0 }) (ap as_event (x.1 ∙ ap {B = Option Object} some y.1)))

      changed : (q : Changed s c d.objects key) → Alike q.was q.now
          → (x : Bool) × (b (call.EventState key) ≡ EventIs (record { key = e.key; manual = e.manual; signaled = x }))
      changed q (but-signal h) = reads q.now q.after (h ∙ ap core (some_same q.was (event e) (sym q.before ∙ here)))
      changed q (but-expiry t u g h) = absurd (omega (arith, ap kind_of (sym (some_same q.was (event e) (sym q.before ∙ here)) ∙ g)))

      by : (object_at d.objects key ≡ object_at d₀.objects key) ⊎ Changed s c d.objects key
          → (x : Bool) × (b (call.EventState key) ≡ EventIs (record { key = e.key; manual = e.manual; signaled = x }))
      by (inl q) = reads (event e) (q ∙ here) refl
      by (inr q) = changed q q.alike

  -- the timer after, but for its signal as it is before the call or by its expiry
  pub record Later (address : ℕ) (t : Timer) : Type 0 where
    pub now : Timer
    pub read : b (call.TimerAt address) ≡ TimerIs now
    pub signal : (Freed a c (timer_named address) → ⊥) → now ≡ timer_with t now.signaled t.inserted t.due
    pub expires : (time : ℕ) → c ≡ AdvanceTo time → t.inserted ≡ true → t.due ≤ time → Expires time t now

  -- a signal taken after the expiry
  then-taken : (time : ℕ) (t u v : Timer) → v ≡ with_signal u v.signaled → Expires time t u → Expires time t v
  then-taken time t u v e (wakes.once p q) = wakes.once p (e ∙ ap (λ (x : Timer). with_signal x v.signaled) q)
  then-taken time t u v e (wakes.again n p ahead first q) = wakes.again n p ahead first (e ∙ ap (λ (x : Timer). with_signal x v.signaled) q)

  end-timer : (address : ℕ) (t : Timer) → a (call.TimerAt address) ≡ TimerIs t → Later address t
  end-timer address t r = by (p.objects address)
    where
      here : object_at d₀.objects address ≡ some (timer t)
      here = timer-found (object_at d₀.objects address) t (timer-told s address t r)

      reads : (o : Object) → object_at d.objects address ≡ some o → (v : Timer) → core o ≡ core (timer v) → ((Freed a c (timer_named address) → ⊥) → v ≡ t) → Later address t
      reads o f v h g =
          let x = end-core address o f in
          let y = timer-core v x.0 (x.2 ∙ h) in
          record {
            now = y.0;
            read = told-timer s' address y.0 (ap as_timer (x.1 ∙ ap {B = Option Object} some y.1));
            signal = λ z. y.2 ∙ ap (λ (u : Timer). with_signal u y.0.signaled) (g z);
            expires = λ time e i u.
                let q = p.expires time e address t here i u in
                let m = timer-core q.0 x.0 (x.2 ∙ ap core (some_same o (timer q.0) (sym f ∙ q.1))) in
                then-taken time t q.0 y.0 (let same : m.0 ≡ y.0 = ap (on_timer y.0 (λ (z : Timer). z)) (sym m.1 ∙ y.1) in sym same ∙ m.2 ∙ ap (λ (z : Timer). with_signal q.0 z.signaled) same) q.2;
          }

      changed : (q : Changed s c d.objects address) → Alike q.was q.now → Later address t
      changed q (but-signal h) = reads q.now q.after t (h ∙ ap core (some_same q.was (timer t) (sym q.before ∙ here))) (λ z. refl)
      changed q (but-expiry u v g h) =
          reads q.now q.after v (ap core h)
          (λ z. absurd (z (subst (Freed a c) (named_by address q.was d₀.objects 2 q.before (ap kind_of g)) q.freed)))

      by : (object_at d.objects address ≡ object_at d₀.objects address) ⊎ Changed s c d.objects address → Later address t
      by (inl q) = reads (timer t) (q ∙ here) t refl (λ z. refl)
      by (inr q) = changed q q.alike

  -- ---- the whole of it

  one : (i : ℕ) (y : Wait) → status_of d i ≡ waiting y → 1 ≤ i
  one i y e = (stands-somewhere d.threads i is_waiting refl (ap is_waiting e)).0

  took : (i : ℕ) (n : Named) (g : Got d w n i) → (Available a n ⊎ Freed a c n) × Took b i n
  took i n g =
      let h = got-had d d.waiters once all-wait i (listed i g.for g.waited) n g in
      (gained n h.0, had-told s' i (one i g.for g.waited) n (ended-had i n h.1))

  -- of a wait for any nothing was available
  unmet : (i : ℕ) (y : Wait) → y.all ≡ false → status_of d₀ i ≡ waiting y → (k : ℕ) (n : Named) → nth y.objects k ≡ some n → Available a n → ⊥
  unmet i y q e k n at x = not-both (
      sym (can-wake d₀ y k n at (ap (is_met d₀ y.objects) q ∙ any_at (is_available d₀) n y.objects (nth-mem y.objects k n at) (told-available s n x)))
      ∙ ap (λ (z : Status). can_wake d₀ (wait_of z)) (sym e) ∙ quiet i)

  pub gives-pass : WakePass a b c
  gives-pass = record {
    any_took = λ i y k r q.
        let e = woken-awake i y k r in
        let n = any_place d d.waiters once all-wait i (listed i y e.0) y e.0 k q e.1.0 e.1.1 in
        let t = took i n.0 (record {
          for = y;
          waited = e.0;
          place = k;
          named = n.1;
          is-ready = e.1.0;
          result = e.1.1 ∙ ap (λ (t : Bool). some (satisfied (cond t 0 k))) (sym q);
        }) in
        (n.0, n.1, ⊎_elim (λ (x : Available a n.0). absurd (unmet i y q (waits-told s i y r.waited) k n.0 n.1 x)) (λ (x : Freed a c n.0). x) t.0, t.1);
    all_took = λ i y k r q.
        let e = woken-awake i y k r in
        let z = all-zero d d.waiters once all-wait i (listed i y e.0) y e.0 k q e.1.0 e.1.1 in (
          z,
          λ n m.
              let l = mem-nth y.objects n m in
              took i n (record {
                for = y;
                waited = e.0;
                place = l.0;
                named = l.1;
                is-ready = e.1.0;
                result = e.1.1 ∙ ap (λ (t : ℕ). some (satisfied t)) z ∙ ap (λ (t : Bool). some (satisfied (cond t 0 l.0))) (sym q);
              }),
        );
    shared = λ n i j y z f h.
        let g = woken-got n i y f in
        let g' = woken-got n j z h in
        ⊎_elim
        (λ (e : i ≡ j). inl e)
        (λ (e : is_available w n ≡ true). inr (available-told s' n (ended-available n e)))
        (pass_alone d d.waiters once all-wait i j (listed i g.for g.waited) (listed j g'.for g'.waited) n g g');
    nothing_else = λ n q. gained n (pass-falls d d.waiters once all-wait n (ended-falls n (told-available s' n q)));
    only_signal = end-event;
    timer_stays = λ address t r. let x = end-timer address t r in (x.now, x.read, x.signal, x.expires);
    same_dpc = ⊎_elim (λ (x : Advances c). inl x) (λ (e : s'.dpcs ≡ s.dpcs). inr (λ k. dpc-answers s' k ∙ ap (λ (q : Dpcs). given (dpc_at q.table k) (Refused 2) DpcIs) e ∙ sym (dpc-answers s k))) p.dpcs;
    same_queue = ⊎_elim (λ (x : Advances c). inl x) (λ (e : s'.dpcs ≡ s.dpcs). inr (λ k. queue-answers s' k ∙ ap (λ (q : Dpcs). given (nth q.queue k) None Number) e ∙ sym (queue-answers s k))) p.dpcs;
    same_counters = ⊎_elim (λ (x : Advances c). inl x) (λ (e : s'.dpcs ≡ s.dpcs). inr (counters-answers s' ∙ ap (λ (q : Dpcs). CountersAre q.counters) e ∙ sym (counters-answers s))) p.dpcs;
    freed_stays = λ n f u. available-told s' n (ended-available n (stays n u (available-offered d n (p.freed n f))));
    same_mutex = λ key nf u. owner-answers s' key ∙ ap (λ (o : Option Mutex). given o (Refused 2) (λ (m : Mutex). number_or_none m.owner)) (untaken-same as_mutex 0 (λ o e. on-mutex (λ x. x ≡ none) o (λ q. refl) (λ m q. absurd (e (ap kind_of q)))) key nf u) ∙ sym (owner-answers s key);
    same_event = λ key nf u. event-answers s' key ∙ ap (λ (o : Option Event). given o None EventIs) (untaken-same as_event 1 (λ o e. on-event (λ x. x ≡ none) o (λ q. refl) (λ m q. absurd (e (ap kind_of q)))) key nf u) ∙ sym (event-answers s key);
    same_timer = λ key nf u. timer-answers s' key ∙ ap (λ (o : Option Timer). given o (Refused 2) TimerIs) (untaken-same as_timer 2 (λ o e. on-timer (λ x. x ≡ none) o (λ q. refl) (λ m q. absurd (e (ap kind_of q)))) key nf u) ∙ sym (timer-answers s key);
    goes_any = λ i y r q k n at f.
        let e = p.waits i y (waits-told s i y r) in
        ⊎_elim
        (λ (z : (m : ℕ) × (m ≤ k) × Awake w i m). inl (z.0, z.1, awake-woken i y z.0 e z.2))
        (λ (z : Lost d w d.waiters i n). inr (lost-first i y n e z))
        (pass-any d d.waiters once all-wait i (listed i y e) y e q k n at (p.freed n f));
    goes_all = λ i y r q ne h.
        let e = p.waits i y (waits-told s i y r) in
        let x = head_of y.objects ne in
        ⊎_elim
        (λ (z : Awake w i 0). inl (awake-woken i y 0 e z))
        (λ (z : (n : Named) × (Mem n y.objects) × Lost d w d.waiters i n). inr (z.0, z.1, lost-first i y z.0 e z.2))
        (pass_all d d.waiters once all-wait i (listed i y e) y e q 0 x.0 x.1
        (λ n m. ⊎_elim (λ (z : Available a n). kept n (told-available s n z)) (λ (z : Freed a c n). p.freed n z) (h n m)));
  }
    where
      stays : (n : Named) → Untaken a b n → Offered d n → is_available w n ≡ true
      stays n u (at.ended k t x) = offered-available w n (at.ended k (number_same d w n.key (pass-count d.waiters d) t)
          (ap (λ (z : Thread). has_exited z.status) (pass-exited d.waiters d all-wait n.key x) ∙ x))
      stays n u (at.stands o z f g) = ⊎_elim
          (λ (e : object_at w.objects (key_of o) ≡ some o). offered-available w n (at.stands o z e g))
          (λ (t : Taker d w d.waiters (key_of o) o). absurd (not_taken n u (key_of o) o (sym z) t))
          (pass-either d.waiters d once all-wait (key_of o) o f)
