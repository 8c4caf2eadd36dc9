-- The wake pass and the timeouts: what they keep, and why one pass is enough: within it availability only falls.
use Prim.Native.Nat.{ℕ, zero, suc, ◌+◌, ◌≤◌, ◌<◌}
use mathlib.Core.List.{List, [], ◌∷◌}
use mathlib.Core.Bool.{Bool, true, false, cond}
use mathlib.Core.Path.{◌≡◌, refl, sym, ap, ◌∙◌, subst}
use mathlib.Core.Logic.{◌⊎◌, inl, inr, ⊎_elim}
use mathlib.Core.Option.{some}
use native.Mathlib.Omega.{arith}
use native.Mathlib.Decide.{ℕ_discrete}
use lib.ListN.{length}
use Rattle.model.specs.Lists.{Mem}
use Rattle.model.specs.State.{Limits, Dispatcher, Thread, Status, running, ready, waiting, exited, Wait, WaitResult, satisfied, timeout, Object}
use Rattle.model.specs.Threads.{count, thread_at, thread_of, status_of, is_waiting, has_exited, wait_of, with_objects, ready_again, becomes, woken, numbers_of}
use Rattle.model.specs.Waits.{can_wake, reached, takes, index, wake_one, pass, wake, is_overdue, time_out_each, time_out}
use Rattle.model.specs.Valid.{Sound, Quiet, InTime, Placed}
use Rattle.model.proofs.ListLaws.{not-both, member-mem}
use Rattle.model.proofs.ThreadLaws.{length-change, change-own, change-other, stands-somewhere}
use Rattle.model.proofs.ObjectLaws.{Same, Falls, Restated, takes-restated, exists-same, available-falls, wake-falls, each_same, placed-core}
use Rattle.model.proofs.SoundLaws.{sound-objects, sound-becomes, unmet-after, quiet-becomes, in-time-becomes, is_live_lem}

-- ---- owners and signals restated

module _ (lim : Limits) (d : Dispatcher) (s : Sound lim d) (l : List Object) (r : Restated d d.objects l) where
  pub sound-restated : Sound lim (with_objects d l)
  sound-restated = sound-objects lim d s l (λ i n m e. exists-same d l r.same n e) r.owners r.rising (omega (arith, r.size, s.room))
      (each_same Placed placed-core d.objects l r.same s.places)

  pub quiet-restated : Falls d.objects l → Quiet d → Quiet (with_objects d l)
  quiet-restated f q i = wake-falls (with_objects d l) d (wait_of (status_of d i)) (λ n m e. available-falls d l r.same f n e) (q i)

-- ---- who can be woken waits

pub can-wake : (d : Dispatcher) (x : Status) → can_wake d (wait_of x) ≡ true → is_waiting x ≡ true
can-wake d running e = absurd (not-both (sym e))
can-wake d ready e = absurd (not-both (sym e))
can-wake d (waiting w) e = refl
can-wake d (exited n) e = absurd (not-both (sym e))

pub waits-not : (x : Status) → is_waiting x ≡ true → has_exited x ≡ false
waits-not running e = refl
waits-not ready e = refl
waits-not (waiting w) e = refl
waits-not (exited n) e = absurd (not-both (sym e))

unwaiting : (d : Dispatcher) (x : Status) → is_waiting x ≡ false → can_wake d (wait_of x) ≡ false
unwaiting d running e = refl
unwaiting d ready e = refl
unwaiting d (waiting w) e = absurd (not-both e)
unwaiting d (exited n) e = refl

in-range : (d : Dispatcher) (i : ℕ) → is_waiting (status_of d i) ≡ true → (1 ≤ i) × (i ≤ count d)
in-range d i e = stands-somewhere d.threads i is_waiting refl e

-- ---- one thread made ready

made-ready : (lim : Limits) (d : Dispatcher) → Sound lim d → (id : ℕ) → 1 ≤ id → id ≤ count d → (r : WaitResult) → Sound lim (woken d id r)
unfolding woken
made-ready lim d s id a b r = sound-becomes lim d s id (ready_again (thread_of d id) (some r))
    (record { from = a; to = b; runs = λ e. absurd (not-both (sym e)); later = λ e. absurd (not-both (sym e)); below = λ e. absurd (not-both (sym e)) })
    (s.priorities id a b) tt (λ e. absurd (not-both (sym e)))

-- ---- one visit

module _ (lim : Limits) (d : Dispatcher) (s : Sound lim d) (x : ℕ) (c : can_wake d (wait_of (status_of d x)) ≡ true) where
  abbrev w : Wait
  w = wait_of (status_of d x)

  range : (1 ≤ x) × (x ≤ count d)
  range = in-range d x (can-wake d (status_of d x) c)

  abbrev l : List Object
  l = takes d x w.objects w.all

  taken : (Restated d d.objects l) × Falls d.objects l
  taken = takes-restated d x range.0 (is_live_lem d x range.0 range.1 (waits-not (status_of d x) (can-wake d (status_of d x) c))) w.objects w.all s.rising s.owners

  abbrev r : WaitResult
  r = satisfied (index d w.objects w.all)

  visit-sound : Sound lim (woken (with_objects d l) x r)
  visit-sound = made-ready lim (with_objects d l) (sound-restated lim d s l taken.0) x range.0 range.1 r

  visit-unmet : (v : Wait) → can_wake d v ≡ false → can_wake (woken (with_objects d l) x r) v ≡ false
  unfolding woken
  visit-unmet v e = unmet-after lim (with_objects d l) (sound-restated lim d s l taken.0) x (ready_again (thread_of d x) (some r)) refl v
      (wake-falls (with_objects d l) d v (λ n m z. available-falls d l taken.0.same taken.1 n z) e)

  visit-other : (i : ℕ) → (i ≡ x → ⊥) → status_of (woken (with_objects d l) x r) i ≡ status_of d i
  unfolding woken becomes
  visit-other i n = ap (λ (t : Thread). t.status) (change-other d.threads x (ready_again (thread_of d x) (some r)) i n)

  visit-own : status_of (woken (with_objects d l) x r) x ≡ ready
  unfolding woken becomes
  visit-own = ap (λ (t : Thread). t.status) (change-own d.threads x (ready_again (thread_of d x) (some r)) range.0 range.1)

  visit-restated : (Same d.objects (woken (with_objects d l) x r).objects) × (count (woken (with_objects d l) x r) ≡ count d)
  unfolding woken becomes
  visit-restated = (taken.0.same, length-change d.threads x (ready_again (thread_of d x) (some r)))

  visit-in-time : (now : ℕ) → InTime now d → InTime now (woken (with_objects d l) x r)
  unfolding woken
  visit-in-time now q = in-time-becomes lim (with_objects d l) (sound-restated lim d s l taken.0) x (ready_again (thread_of d x) (some r)) now refl q

-- who waits and is still to be visited, or cannot be met
abbrev Left : Dispatcher → List ℕ → Type 0
Left d xs = (i : ℕ) → (Mem i xs) ⊎ (can_wake d (wait_of (status_of d i)) ≡ false)

pub record Passed (lim : Limits) (d d' : Dispatcher) : Type 0 where
  pub sound : Sound lim d'
  pub same : Same d.objects d'.objects

visited : (lim : Limits) (d : Dispatcher) → Sound lim d → (x : ℕ) (xs : List ℕ) → Left d (x ∷ xs) → (Passed lim d (wake_one d x)) × Left (wake_one d x) xs
unfolding wake_one
visited lim d s x xs h = go (can_wake d (wait_of (status_of d x))) refl
  where
    go : (b : Bool) → can_wake d (wait_of (status_of d x)) ≡ b
        → let w = wait_of (status_of d x) in
        let d' = cond b (woken (with_objects d (takes d x w.objects w.all)) x (satisfied (index d w.objects w.all))) d in (Passed lim d d') × Left d' xs
    go true e = (
      record { sound = visit-sound lim d s x e; same = (visit-restated lim d s x e).0 },
      λ i. elim (ℕ_discrete i x) [
        | yes q ↦ inr (subst (λ (j : ℕ). can_wake (woken (with_objects d (l lim d s x e)) x (r lim d s x e)) (wait_of (status_of (woken (with_objects d (l lim d s x e)) x (r lim d s x e)) j)) ≡ false) (sym q)
            (ap (λ (y : Status). can_wake (woken (with_objects d (l lim d s x e)) x (r lim d s x e)) (wait_of y)) (visit-own lim d s x e)))
        | no n ↦ ⊎_elim
            (λ (a : (i ≡ x) ⊎ Mem i xs). ⊎_elim (λ (z : i ≡ x). absurd (n z)) (λ (z : Mem i xs). inl z) a)
            (λ (u : can_wake d (wait_of (status_of d i)) ≡ false). inr (ap (λ (y : Status). can_wake (woken (with_objects d (l lim d s x e)) x (r lim d s x e)) (wait_of y)) (visit-other lim d s x e i n) ∙ visit-unmet lim d s x e (wait_of (status_of d i)) u))
            (h i)
      ],
    )
    go false e = (
      record { sound = s; same = λ k. refl },
      λ i. ⊎_elim
          (λ (a : (i ≡ x) ⊎ Mem i xs). ⊎_elim (λ (z : i ≡ x). inr (subst (λ (j : ℕ). can_wake d (wait_of (status_of d j)) ≡ false) (sym z) e)) (λ (z : Mem i xs). inl z) a)
          (λ (u : can_wake d (wait_of (status_of d i)) ≡ false). inr u) (h i),
    )

pass-quiet : (lim : Limits) (xs : List ℕ) (d : Dispatcher) → Sound lim d → Left d xs → (Passed lim d (pass d xs)) × Quiet (pass d xs)
pass-quiet lim [] d s h = (record { sound = s; same = λ k. refl }, λ i. ⊎_elim (λ (a : ⊥). absurd a) (λ (u : can_wake d (wait_of (status_of d i)) ≡ false). u) (h i))
pass-quiet lim (x ∷ xs) d s h =
    let v = visited lim d s x xs h in
    let p = pass-quiet lim xs (wake_one d x) v.0.sound v.1 in
    (record { sound = p.0.sound; same = λ k. p.0.same k ∙ v.0.same k }, p.1)

-- after a pass no thread waits for what it could take, whatever was so before
pub wake-quiet : (lim : Limits) (d : Dispatcher) → Sound lim d → (Passed lim d (wake d)) × Quiet (wake d)
unfolding wake
wake-quiet lim d s = pass-quiet lim d.waiters d s (λ i. begin i (is_waiting (status_of d i)) refl)
  where
    begin : (i : ℕ) (b : Bool) → is_waiting (status_of d i) ≡ b → (Mem i d.waiters) ⊎ (can_wake d (wait_of (status_of d i)) ≡ false)
    begin i true e = inl (member-mem i d.waiters (s.standing.waiters_waiting i ∙ e))
    begin i false e = inr (unwaiting d (status_of d i) e)

-- ---- a pass reaches no deadline

one-in-time : (lim : Limits) (d : Dispatcher) → Sound lim d → (now : ℕ) (x : ℕ) → InTime now d → InTime now (wake_one d x)
unfolding wake_one
one-in-time lim d s now x q = go (can_wake d (wait_of (status_of d x))) refl
  where
    go : (b : Bool) → can_wake d (wait_of (status_of d x)) ≡ b
        → let w = wait_of (status_of d x) in InTime now (cond b (woken (with_objects d (takes d x w.objects w.all)) x (satisfied (index d w.objects w.all))) d)
    go true e = visit-in-time lim d s x e now q
    go false e = q

one-sound : (lim : Limits) (d : Dispatcher) → Sound lim d → (x : ℕ) → Sound lim (wake_one d x)
unfolding wake_one
one-sound lim d s x = go (can_wake d (wait_of (status_of d x))) refl
  where
    go : (b : Bool) → can_wake d (wait_of (status_of d x)) ≡ b
        → let w = wait_of (status_of d x) in Sound lim (cond b (woken (with_objects d (takes d x w.objects w.all)) x (satisfied (index d w.objects w.all))) d)
    go true e = visit-sound lim d s x e
    go false e = s

pass-in-time : (lim : Limits) (xs : List ℕ) (d : Dispatcher) → Sound lim d → (now : ℕ) → InTime now d → InTime now (pass d xs)
pass-in-time lim [] d s now q = q
pass-in-time lim (x ∷ xs) d s now q = pass-in-time lim xs (wake_one d x) (one-sound lim d s x) now (one-in-time lim d s now x q)

pub wake-in-time : (lim : Limits) (d : Dispatcher) → Sound lim d → (now : ℕ) → InTime now d → InTime now (wake d)
unfolding wake
wake-in-time lim d s now q = pass-in-time lim d.waiters d s now q

-- ---- timeouts

-- the numbers of the threads that pass a test: all of them, and threads
pub numbers-all : (f : Thread → Bool) (n : ℕ) (l : List Thread) (i : ℕ) → f (thread_at l (suc i)) ≡ true → suc i ≤ length l → Mem (n + i) (numbers_of f n l)
numbers-all f n [] i t h = absurd (omega arith)
numbers-all f n (x ∷ xs) zero t h = subst (Mem (n + 0)) (sym (ap (λ (b : Bool). cond b (n ∷ numbers_of f (suc n) xs) (numbers_of f (suc n) xs)) t)) (inl (let e : n + 0 ≡ n = omega arith in e))
numbers-all f n (x ∷ xs) (suc i) t h = go (f x) (subst (λ (j : ℕ). Mem j (numbers_of f (suc n) xs)) (let e : suc n + i ≡ n + suc i = omega arith in e) (numbers-all f (suc n) xs i t (omega arith)))
  where
    go : (b : Bool) → Mem (n + suc i) (numbers_of f (suc n) xs) → Mem (n + suc i) (cond b (n ∷ numbers_of f (suc n) xs) (numbers_of f (suc n) xs))
    go true m = inr m
    go false m = m

numbers-range : (f : Thread → Bool) (n : ℕ) (l : List Thread) (i : ℕ) → Mem i (numbers_of f n l) → (n ≤ i) × (i < n + length l)
numbers-range f n [] i m = absurd m
numbers-range f n (x ∷ xs) i m = go (f x) m (numbers-range f (suc n) xs i)
  where
    go : (b : Bool) → Mem i (cond b (n ∷ numbers_of f (suc n) xs) (numbers_of f (suc n) xs)) → (Mem i (numbers_of f (suc n) xs) → (suc n ≤ i) × (i < suc n + length xs)) → (n ≤ i) × (i < n + suc (length xs))
    go true (inl e) ih = (omega (arith, e), omega (arith, e))
    go true (inr m') ih = let h = ih m' in (omega (arith, h.0), omega (arith, h.1))
    go false m' ih = let h = ih m' in (omega (arith, h.0), omega (arith, h.1))

module _ (d : Dispatcher) (x : ℕ) (one : 1 ≤ x) (le : x ≤ count d) where
  timed-own : status_of (woken d x timeout) x ≡ ready
  unfolding woken becomes
  timed-own = ap (λ (t : Thread). t.status) (change-own d.threads x (ready_again (thread_of d x) (some timeout)) one le)

  timed-other : (i : ℕ) → (i ≡ x → ⊥) → status_of (woken d x timeout) i ≡ status_of d i
  unfolding woken becomes
  timed-other i n = ap (λ (t : Thread). t.status) (change-other d.threads x (ready_again (thread_of d x) (some timeout)) i n)

  timed-count : (count (woken d x timeout) ≡ count d) × ((woken d x timeout).objects ≡ d.objects)
  unfolding woken becomes
  timed-count = (length-change d.threads x (ready_again (thread_of d x) (some timeout)), refl)

  timed-quiet : (lim : Limits) → Sound lim d → Quiet d → Quiet (woken d x timeout)
  unfolding woken
  timed-quiet lim s q = quiet-becomes lim d s x (ready_again (thread_of d x) (some timeout)) refl refl q

pub record TimedOut (lim : Limits) (d d' : Dispatcher) (now : ℕ) : Type 0 where
  pub sound : Sound lim d'
  pub quiet : Quiet d'
  pub objects : d'.objects ≡ d.objects
  pub in_time : InTime now d'

each-out : (lim : Limits) (now : ℕ) (xs : List ℕ) (d : Dispatcher) → Sound lim d → Quiet d → ((i : ℕ) → Mem i xs → (1 ≤ i) × (i ≤ count d))
    → ((i : ℕ) → (Mem i xs) ⊎ (reached (wait_of (status_of d i)).deadline now ≡ false)) → TimedOut lim d (time_out_each d xs) now
each-out lim now [] d s q k h = record { sound = s; quiet = q; objects = refl; in_time = λ i. ⊎_elim (λ (a : ⊥). absurd a) (λ (u : reached (wait_of (status_of d i)).deadline now ≡ false). u) (h i) }
each-out lim now (x ∷ xs) d s q k h =
    let a = k x (inl refl) in
    let c = timed-count d x a.0 a.1 in
    let p = each-out lim now xs (woken d x timeout) (made-ready lim d s x a.0 a.1 timeout) (timed-quiet d x a.0 a.1 lim s q)
    (λ i m. let b = k i (inr m) in (b.0, omega (arith, b.1, c.0)))
    (λ i. elim (ℕ_discrete i x) [
      | yes e ↦ inr (ap (λ (j : ℕ). reached (wait_of (status_of (woken d x timeout) j)).deadline now) e ∙ ap (λ (y : Status). reached (wait_of y).deadline now) (timed-own d x a.0 a.1))
      | no n ↦ ⊎_elim
          (λ (b : (i ≡ x) ⊎ Mem i xs). ⊎_elim (λ (z : i ≡ x). absurd (n z)) (λ (z : Mem i xs). inl z) b)
          (λ (u : reached (wait_of (status_of d i)).deadline now ≡ false). inr (ap (λ (y : Status). reached (wait_of y).deadline now) (timed-other d x a.0 a.1 i n) ∙ u)) (h i)
    ]) in
    record { sound = p.sound; quiet = p.quiet; objects = p.objects ∙ c.1; in_time = p.in_time }

pub timed-out : (lim : Limits) (now : ℕ) (d : Dispatcher) → Sound lim d → Quiet d → TimedOut lim d (time_out now d) now
unfolding time_out
timed-out lim now d s q = each-out lim now (numbers_of (is_overdue now) 1 d.threads) d s q
    (λ i m. let r = numbers-range (is_overdue now) 1 d.threads i m in (r.0, omega (arith, r.1)))
    (λ i. listed i (is_overdue now (thread_at d.threads i)) refl)
  where
    listed : (i : ℕ) (b : Bool) → is_overdue now (thread_at d.threads i) ≡ b → (Mem i (numbers_of (is_overdue now) 1 d.threads)) ⊎ (reached (wait_of (status_of d i)).deadline now ≡ false)
    listed i false e = inr e
    listed zero true e = absurd (not-both (sym e))
    listed (suc n) true e = inl (subst (λ (j : ℕ). Mem j (numbers_of (is_overdue now) 1 d.threads)) (let z : 1 + n ≡ suc n = omega arith in z)
        (numbers-all (is_overdue now) 1 d.threads n e (stands-somewhere d.threads (suc n) (λ y. reached (wait_of y).deadline now) refl e).1))
