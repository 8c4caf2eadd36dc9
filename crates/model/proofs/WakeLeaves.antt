-- What the wake pass and the timeouts leave of each thread.
use Prim.Native.Nat.{ℕ, suc, ◌+◌, ◌≤◌}
use mathlib.Core.List.{List, [], ◌∷◌}
use mathlib.Core.Bool.{Bool, true, false, cond}
use mathlib.Core.Option.{Option, none, some}
use mathlib.Core.Path.{◌≡◌, refl, sym, ap, ◌∙◌, subst}
use mathlib.Core.Logic.{◌⊎◌, inl, inr}
use native.Mathlib.Omega.{arith}
use native.Mathlib.Decide.{ℕ_discrete}
use borrow.Author.Tests.{leb-true}
use lib.Dec.{eqb}
use Rattle.model.specs.Lists.{Mem, any, nth, is_empty}
use Rattle.model.specs.State.{Limits, Dispatcher, Thread, Status, running, ready, waiting, exited, Wait, satisfied, timeout, Named, Object}
use Rattle.model.specs.Threads.{count, thread_at, thread_of, status_of, is_waiting, has_exited, wait_of, with_objects, ready_again, becomes, woken, numbers_of}
use Rattle.model.specs.Waits.{is_available, every_available, first_available, is_met, index, can_wake, takes, wake_one, pass, wake, reached, is_overdue, time_out_each, time_out}
use Rattle.model.specs.Valid.{Sound, Quiet}
use Rattle.model.proofs.ListLaws.{not-both, neither}
use Rattle.model.proofs.ThreadLaws.{length-change, change-other, change-either, stands-somewhere}
use Rattle.model.proofs.ObjectLaws.{Falls, Restated, takes-restated, available-falls}
use Rattle.model.proofs.SoundLaws.{sound-becomes, unmet-after, is_live_lem}
use Rattle.model.proofs.WakeLaws.{can-wake, sound-restated}
use Rattle.model.specs.Leaving as leaving
use Rattle.model.specs.Leaving.{ready_after, GrantedBy, AfterWake}

-- ---- a waiting thread

waits-is : (x : Status) → is_waiting x ≡ true → x ≡ waiting (wait_of x)
waits-is running e = absurd (not-both (sym e))
waits-is ready e = absurd (not-both (sym e))
waits-is (waiting w) e = refl
waits-is (exited n) e = absurd (not-both (sym e))

-- ---- what a wait is granted by

-- for "all": one that was not available before
lacking : (d d₀ : Dispatcher) (ns : List Named) → every_available d ns ≡ true → every_available d₀ ns ≡ false → (p : ℕ) × (n : Named) × (nth ns p ≡ some n) × (is_available d n ≡ true) × (is_available d₀ n ≡ false)
lacking d d₀ [] t f = absurd (not-both f)
lacking d d₀ (n ∷ ns) t f = go (is_available d n) (is_available d₀ n) refl refl t f (lacking d d₀ ns)
  where
    go : (a b : Bool) → is_available d n ≡ a → is_available d₀ n ≡ b → cond a (every_available d ns) false ≡ true → cond b (every_available d₀ ns) false ≡ false
        → (every_available d ns ≡ true → every_available d₀ ns ≡ false → (p : ℕ) × (n : Named) × (nth ns p ≡ some n) × (is_available d n ≡ true) × (is_available d₀ n ≡ false))
        → (p : ℕ) × (m : Named) × (nth (n ∷ ns) p ≡ some m) × (is_available d m ≡ true) × (is_available d₀ m ≡ false)
    go true true q r z y ih = let h = ih z y in (suc h.0, h.1, h.2, h.3, h.4)
    go true false q r z y ih = (0, n, refl, q, r)
    go false b q r z y ih = absurd (not-both (sym z))

-- for "any": the first that is available
first_one : (d d₀ : Dispatcher) (ns : List Named) → any (is_available d) ns ≡ true → any (is_available d₀) ns ≡ false → (n : Named) × (nth ns (first_available d ns) ≡ some n) × (is_available d n ≡ true) × (is_available d₀ n ≡ false)
first_one d d₀ [] t f = absurd (not-both (sym t))
first_one d d₀ (n ∷ ns) t f = let g = neither (is_available d₀ n) (any (is_available d₀) ns) f in go (is_available d n) refl t g.0 (λ z. first_one d d₀ ns z g.1)
  where
    go : (a : Bool) → is_available d n ≡ a → cond a true (any (is_available d) ns) ≡ true → is_available d₀ n ≡ false
        → (any (is_available d) ns ≡ true → (n : Named) × (nth ns (first_available d ns) ≡ some n) × (is_available d n ≡ true) × (is_available d₀ n ≡ false))
        → (m : Named) × (nth (n ∷ ns) (cond a 0 (suc (first_available d ns))) ≡ some m) × (is_available d m ≡ true) × (is_available d₀ m ≡ false)
    go true q z r ih = (n, refl, q, r)
    go false q z r ih = ih z

met_by : (d d₀ : Dispatcher) (ns : List Named) (all : Bool) → is_met d ns all ≡ true → is_met d₀ ns all ≡ false
    → (p : ℕ) × (n : Named) × (nth ns p ≡ some n) × (is_available d n ≡ true) × (is_available d₀ n ≡ false) × (index d ns all ≡ cond all 0 p)
met_by d d₀ ns true t f = let h = lacking d d₀ ns t f in (h.0, h.1, h.2, h.3, h.4, refl)
met_by d d₀ ns false t f = let h = first_one d d₀ ns t f in (first_available d ns, h.0, h.1, h.2, h.3, refl)

-- ---- the wake pass

ready-waits : (w : Wait) → ready ≡ waiting w → ⊥
ready-waits w e = not-both (sym (ap is_waiting e))

module _ (d : Dispatcher) (x : ℕ) where
  abbrev for : Wait
  for = wait_of (status_of d x)

  abbrev taken : List Object
  taken = takes d x for.objects for.all

  abbrev place : ℕ
  place = index d for.objects for.all

  abbrev made-ready : Thread
  made-ready = ready_again (thread_of d x) (some (satisfied place))

  abbrev visited : Bool → Dispatcher
  visited b = cond b (woken (with_objects d taken) x (satisfied place)) d

  one-count : count (wake_one d x) ≡ count d
  unfolding wake_one woken becomes
  one-count = go (can_wake d for)
    where
      go : (b : Bool) → count (visited b) ≡ count d
      go true = length-change d.threads x made-ready
      go false = refl

  one_none : d.current ≡ 0 → (wake_one d x).current ≡ 0
  unfolding wake_one woken becomes
  one_none e = go (can_wake d for)
    where
      left : (b : Bool) → cond b 0 d.current ≡ 0
      left true = refl
      left false = e

      go : (b : Bool) → (visited b).current ≡ 0
      go true = left (eqb d.current x)
      go false = e

  -- a visit that wakes keeps the state sound, and makes nothing available: else a wait for that alone could be granted after it, and not before
  module _ (lim : Limits) (s : Sound lim d) (c : can_wake d (wait_of (status_of d x)) ≡ true) where
    waits : status_of d x ≡ waiting for
    waits = waits-is (status_of d x) (can-wake d (status_of d x) c)

    range : (1 ≤ x) × (x ≤ count d)
    range = stands-somewhere d.threads x is_waiting refl (ap is_waiting waits)

    restated : (Restated d d.objects taken) × Falls d.objects taken
    restated = takes-restated d x range.0 (is_live_lem d x range.0 range.1 (ap has_exited waits)) for.objects for.all s.rising s.owners

    sound-taken : Sound lim (with_objects d taken)
    sound-taken = sound-restated lim d s taken restated.0

    visit-sound : Sound lim (visited true)
    unfolding woken
    visit-sound = sound-becomes lim (with_objects d taken) sound-taken x made-ready
        (record { from = range.0; to = range.1; runs = λ q. absurd (not-both (sym q)); later = λ q. absurd (not-both (sym q)); below = λ q. absurd (not-both (sym q)) })
        (s.priorities x range.0 range.1) tt (λ q. absurd (not-both (sym q)))

    visit-falls : (n : Named) → is_available (visited true) n ≡ true → is_available d n ≡ true
    unfolding woken
    visit-falls n q = available-falls d taken restated.0.same restated.1 n (go (is_available (with_objects d taken) n) refl)
      where
        alone : Wait
        alone = record { objects = n ∷ []; all = false; deadline = none; sequence = 0 }

        go : (b : Bool) → is_available (with_objects d taken) n ≡ b → is_available (with_objects d taken) n ≡ true
        go true z = z
        go false z = absurd (not-both (sym (ap (λ (b : Bool). cond b true false) q) ∙ unmet-after lim (with_objects d taken) sound-taken x made-ready refl alone (ap (λ (b : Bool). cond b true false) z)))

-- nobody of `d₀` could be granted its wait; then some things became available, in `d₁`, and a pass begins
module _ (lim : Limits) (d₀ d₁ : Dispatcher) (Freed : Named → Type 0) (quiet : Quiet d₀) (freed : (n : Named) → is_available d₁ n ≡ true → is_available d₀ n ≡ false → Freed n) where
  -- in the midst of the pass: nothing more is available, and whoever waits still waits for what it waited for
  record Midst (d : Dispatcher) : Type 0 where
    sound : Sound lim d
    falls : (n : Named) → is_available d n ≡ true → is_available d₁ n ≡ true
    waits : (i : ℕ) (w : Wait) → status_of d i ≡ waiting w → status_of d₀ i ≡ waiting w

  one-granted : (d : Dispatcher) → Midst d → (x : ℕ) → can_wake d (wait_of (status_of d x)) ≡ true → GrantedBy Freed (wait_of (status_of d x)) (index d (wait_of (status_of d x)).objects (wait_of (status_of d x)).all)
  one-granted d m x c = go (is_empty (for d x).objects) c (sym (ap (λ (y : Status). can_wake d₀ (wait_of y)) (m.waits x (for d x) (waits-is (status_of d x) (can-wake d (status_of d x) c)))) ∙ quiet x)
    where
      go : (b : Bool) → cond b false (is_met d (for d x).objects (for d x).all) ≡ true → cond b false (is_met d₀ (for d x).objects (for d x).all) ≡ false
          → GrantedBy Freed (wait_of (status_of d x)) (index d (wait_of (status_of d x)).objects (wait_of (status_of d x)).all)
      go true z y = absurd (not-both (sym z))
      go false z y =
          let h = met_by d d₀ (for d x).objects (for d x).all z y in
          record { place = h.0; which = h.1; named = h.2; freed = freed h.1 (m.falls h.1 h.3) h.4; index = h.5 }

  one-after : (d : Dispatcher) → Midst d → (x i : ℕ) → AfterWake Freed (thread_of d i) (thread_of (wake_one d x) i)
  unfolding wake_one woken becomes
  one-after d m x i = go (can_wake d (for d x)) refl
    where
      go : (b : Bool) → can_wake d (for d x) ≡ b → AfterWake Freed (thread_of d i) (thread_of (visited d x b) i)
      go true c = elim (ℕ_discrete i x) [
        | yes e ↦ change-either (AfterWake Freed (thread_of d i)) d.threads x (made-ready d x) i
            (subst (λ (j : ℕ). AfterWake Freed (thread_of d j) (made-ready d x)) (sym e)
            (leaving.woken (for d x) (waits-is (status_of d x) (can-wake d (status_of d x) c)) (place d x) (one-granted d m x c) refl))
            (leaving.same refl)
        | no n ↦ leaving.same (change-other d.threads x (made-ready d x) i n)
      ]
      go false c = leaving.same refl

  one-midst : (d : Dispatcher) → Midst d → (x : ℕ) → Midst (wake_one d x)
  unfolding wake_one
  one-midst d m x = go (can_wake d (for d x)) refl
    where
      go : (b : Bool) → can_wake d (for d x) ≡ b → Midst (visited d x b)
      go true c = record {
        sound = visit-sound d x lim m.sound c;
        falls = λ n q. m.falls n (visit-falls d x lim m.sound c n q);
        waits = λ i w. unfold woken becomes in (change-either (λ (t : Thread). t.status ≡ waiting w → status_of d₀ i ≡ waiting w) d.threads x (made-ready d x) i (λ q. absurd (ready-waits w q)) (m.waits i w));
      }
      go false c = m

  then-wake : (a b c : Thread) → AfterWake Freed a b → AfterWake Freed b c → AfterWake Freed a c
  then-wake a b c (leaving.same e) h = subst (λ (x : Thread). AfterWake Freed x c) e h
  then-wake a b c (leaving.woken w s k p e) (leaving.same q) = leaving.woken w s k p (q ∙ e)
  then-wake a b c (leaving.woken w s k p e) (leaving.woken w' s' k' p' e') = absurd (ready-waits w' (sym (ap (λ (x : Thread). x.status) e) ∙ s'))

  pass-after : (xs : List ℕ) (d : Dispatcher) → Midst d → (i : ℕ) → AfterWake Freed (thread_of d i) (thread_of (pass d xs) i)
  pass-after [] d m i = leaving.same refl
  pass-after (x ∷ xs) d m i =
      then-wake (thread_of d i) (thread_of (wake_one d x) i) (thread_of (pass (wake_one d x) xs) i) (one-after d m x i) (pass-after xs (wake_one d x) (one-midst d m x) i)

  pub wake-after : Sound lim d₁ → ((i : ℕ) (w : Wait) → status_of d₁ i ≡ waiting w → status_of d₀ i ≡ waiting w) → (i : ℕ) → AfterWake Freed (thread_of d₁ i) (thread_of (wake d₁) i)
  unfolding wake
  wake-after s h i = pass-after d₁.waiters d₁ (record { sound = s; falls = λ n q. q; waits = h }) i

pass-count : (xs : List ℕ) (d : Dispatcher) → count (pass d xs) ≡ count d
pass-count [] d = refl
pass-count (x ∷ xs) d = pass-count xs (wake_one d x) ∙ one-count d x

pass-none : (xs : List ℕ) (d : Dispatcher) → d.current ≡ 0 → (pass d xs).current ≡ 0
pass-none [] d e = e
pass-none (x ∷ xs) d e = pass-none xs (wake_one d x) (one_none d x e)

module _ (d : Dispatcher) where
  pub wake-count : count (wake d) ≡ count d
  unfolding wake
  wake-count = pass-count d.waiters d

  -- a pass makes no thread current
  pub wake-none : d.current ≡ 0 → (wake d).current ≡ 0
  unfolding wake
  wake-none e = pass-none d.waiters d e

-- ---- the timeouts

-- a thread of the list is ready with a timeout, and every other as it was
abbrev AfterTimeouts : List ℕ → ℕ → Thread → Thread → Type 0
AfterTimeouts xs i before after = (after ≡ before) ⊎ ((Mem i xs) × (after ≡ ready_after timeout before))

then-timeouts : (x : ℕ) (xs : List ℕ) (i : ℕ) (a b c : Thread) → (b ≡ a) ⊎ ((i ≡ x) × (b ≡ ready_after timeout a)) → AfterTimeouts xs i b c → AfterTimeouts (x ∷ xs) i a c
then-timeouts x xs i a b c (inl e) (inl q) = inl (q ∙ e)
then-timeouts x xs i a b c (inl e) (inr q) = inr (inr q.0, q.1 ∙ ap (ready_after timeout) e)
then-timeouts x xs i a b c (inr e) (inl q) = inr (inl e.0, q ∙ e.1)
then-timeouts x xs i a b c (inr e) (inr q) = inr (inl e.0, q.1 ∙ ap (ready_after timeout) e.1)

timed-after : (d : Dispatcher) (x i : ℕ) → (thread_of (woken d x timeout) i ≡ thread_of d i) ⊎ ((i ≡ x) × (thread_of (woken d x timeout) i ≡ ready_after timeout (thread_of d i)))
unfolding woken becomes
timed-after d x i = elim (ℕ_discrete i x) [
  | yes e ↦ change-either (λ (t : Thread). (t ≡ thread_of d i) ⊎ ((i ≡ x) × (t ≡ ready_after timeout (thread_of d i)))) d.threads x (ready_again (thread_of d x) (some timeout)) i
      (inr (e, ap (λ (j : ℕ). ready_after timeout (thread_of d j)) (sym e))) (inl refl)
  | no n ↦ inl (change-other d.threads x (ready_again (thread_of d x) (some timeout)) i n)
]

each_after : (xs : List ℕ) (d : Dispatcher) (i : ℕ) → AfterTimeouts xs i (thread_of d i) (thread_of (time_out_each d xs) i)
each_after [] d i = inl refl
each_after (x ∷ xs) d i = then-timeouts x xs i (thread_of d i) (thread_of (woken d x timeout) i) (thread_of (time_out_each (woken d x timeout) xs) i) (timed-after d x i) (each_after xs (woken d x timeout) i)

each-count : (xs : List ℕ) (d : Dispatcher) → count (time_out_each d xs) ≡ count d
unfolding woken becomes
each-count [] d = refl
each-count (x ∷ xs) d = each-count xs (woken d x timeout) ∙ length-change d.threads x (ready_again (thread_of d x) (some timeout))

-- the numbers of the threads that pass a test are those of threads that do
numbers-pass : (f : Thread → Bool) (n : ℕ) (l : List Thread) (i : ℕ) → Mem i (numbers_of f n l) → (j : ℕ) × (i ≡ n + j) × (f (thread_at l (suc j)) ≡ true)
numbers-pass f n [] i m = absurd m
numbers-pass f n (x ∷ xs) i m = go (f x) refl m (numbers-pass f (suc n) xs i)
  where
    go : (b : Bool) → f x ≡ b → Mem i (cond b (n ∷ numbers_of f (suc n) xs) (numbers_of f (suc n) xs))
        → (Mem i (numbers_of f (suc n) xs) → (j : ℕ) × (i ≡ suc n + j) × (f (thread_at xs (suc j)) ≡ true)) → (j : ℕ) × (i ≡ n + j) × (f (thread_at (x ∷ xs) (suc j)) ≡ true)
    go true e (inl q) ih = (0, omega (arith, q), e)
    go true e (inr q) ih = let r = ih q in (suc r.0, omega (arith, r.1), r.2)
    go false e q ih = let r = ih q in (suc r.0, omega (arith, r.1), r.2)

-- a thread that is overdue waits, with a deadline that is reached
overdue-is : (now : ℕ) (x : Status) → reached (wait_of x).deadline now ≡ true → (w : Wait) × (d : ℕ) × (x ≡ waiting w) × (w.deadline ≡ some d) × (d ≤ now)
overdue-is now running e = absurd (not-both (sym e))
overdue-is now ready e = absurd (not-both (sym e))
overdue-is now (waiting w) e = go w.deadline refl e
  where
    go : (o : Option ℕ) → w.deadline ≡ o → reached o now ≡ true → (u : Wait) × (d : ℕ) × (waiting w ≡ waiting u) × (u.deadline ≡ some d) × (d ≤ now)
    go none q z = absurd (not-both (sym z))
    go (some d) q z = (w, d, refl, q, leb-true d now z)
overdue-is now (exited n) e = absurd (not-both (sym e))

module _ (now : ℕ) (d : Dispatcher) where
  pub timeouts-after : (i : ℕ) → (thread_of (time_out now d) i ≡ thread_of d i)
      ⊎ ((w : Wait) × (t : ℕ) × (status_of d i ≡ waiting w) × (w.deadline ≡ some t) × (t ≤ now) × (thread_of (time_out now d) i ≡ ready_after timeout (thread_of d i)))
  unfolding time_out
  timeouts-after i = go (each_after (numbers_of (is_overdue now) 1 d.threads) d i)
    where
      go : AfterTimeouts (numbers_of (is_overdue now) 1 d.threads) i (thread_of d i) (thread_of (time_out now d) i) → (thread_of (time_out now d) i ≡ thread_of d i)
          ⊎ ((w : Wait) × (t : ℕ) × (status_of d i ≡ waiting w) × (w.deadline ≡ some t) × (t ≤ now) × (thread_of (time_out now d) i ≡ ready_after timeout (thread_of d i)))
      go (inl e) = inl e
      go (inr e) =
          let r = numbers-pass (is_overdue now) 1 d.threads i e.0 in
          let z : i ≡ suc r.0 = omega (arith, r.1) in
          let o = overdue-is now (status_of d i) (ap (λ (j : ℕ). is_overdue now (thread_of d j)) z ∙ r.2) in
          inr (o.0, o.1, o.2, o.3, o.4, e.1)

  pub timeouts-count : count (time_out now d) ≡ count d
  unfolding time_out
  timeouts-count = each-count (numbers_of (is_overdue now) 1 d.threads) d
