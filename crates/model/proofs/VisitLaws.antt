-- Threads that wait, made ready one after the other: each is placed behind those that were made ready before it.
use Prim.Native.Nat.{ℕ}
use mathlib.Core.List.{List, [], ◌∷◌}
use mathlib.Core.Bool.{Bool, true, false, cond}
use mathlib.Core.Option.{some}
use mathlib.Core.Path.{◌≡◌, refl, sym, ap, ◌∙◌, subst}
use mathlib.Core.Logic.{inl, inr}
use native.Mathlib.Decide.{ℕ_discrete}
use Rattle.model.specs.Lists.{Mem, Before, Distinct, without}
use Rattle.model.specs.State.{Dispatcher, Thread, ready, satisfied, timeout}
use Rattle.model.specs.Threads.{thread_at, thread_of, status_of, is_waiting, wait_of, change_at, placed_as, with_objects, ready_again, becomes, woken, numbers_of}
use Rattle.model.specs.Waits.{can_wake, takes, index, wake_one, pass, wake, is_overdue, time_out_each, time_out}
use Rattle.model.proofs.ListLaws.{not-both, append-mem-right, rising-distinct}
use Rattle.model.proofs.ThreadLaws.{change-own, change-other, stands-somewhere}
use Rattle.model.proofs.AheadLaws.{Ahead, Keeps, keeps_same, keeps_on, keeps_placed}
use Rattle.model.proofs.NumberLaws.{numbers-rise}

-- it waits, and so is not placed
pub record Asleep (d : Dispatcher) (i : ℕ) : Type 0 where
  pub waits : is_waiting (status_of d i) ≡ true
  pub unplaced : Mem i d.placed → ⊥

-- what a visit of a thread does: nothing, or the thread is ready with such a result, and placed last
pub data Visit (Ends : Thread → Type 0) (d d' : Dispatcher) (x : ℕ) : Type 0 where
  leaves : d'.threads ≡ d.threads → d'.placed ≡ d.placed → Visit Ends d d' x
  readies : (t : Thread) → t.status ≡ ready → Ends t → d'.threads ≡ change_at d.threads x t → d'.placed ≡ placed_as ready x d.placed → Visit Ends d d' x

-- what becomes of a thread that waits: it waits on, or is ready with such a result, and placed
pub data Fate (Ends : Thread → Type 0) (d d' : Dispatcher) (i : ℕ) : Type 0 where
  sleeps : thread_of d' i ≡ thread_of d i → (Mem i d'.placed → ⊥) → Fate Ends d d' i
  wakes : status_of d' i ≡ ready → Ends (thread_of d' i) → Mem i d'.placed → Fate Ends d d' i

-- a thread that nobody visits is as it was, and keeps its place
pub record Untouched (d d' : Dispatcher) (i : ℕ) : Type 0 where
  pub thread : thread_of d' i ≡ thread_of d i
  pub keeps : Keeps i d.placed d'.placed

module _ (Ends : Thread → Type 0) (visit : Dispatcher → ℕ → Dispatcher) (is : (d : Dispatcher) (x : ℕ) → Visit Ends d (visit d x) x) where
  -- each of the list visited, in its order
  abbrev visits : Dispatcher → List ℕ → Dispatcher
  visits d [] = d
  visits d (x ∷ xs) = visits (visit d x) xs

  other : (d : Dispatcher) (x i : ℕ) → (i ≡ x → ⊥) → Untouched d (visit d x) i
  other d x i n = go (is d x)
    where
      go : Visit Ends d (visit d x) x → Untouched d (visit d x) i
      go (leaves t p) = record { thread = ap (λ (l : List Thread). thread_at l i) t; keeps = keeps_same i d.placed (visit d x).placed p }
      go (readies y r e t p) = record {
        thread = ap (λ (l : List Thread). thread_at l i) t ∙ change-other d.threads x y i n;
        keeps = subst (Keeps i d.placed) (sym p) (keeps_placed i x d.placed n ready);
      }

  others : (xs : List ℕ) (d : Dispatcher) (i : ℕ) → (Mem i xs → ⊥) → Untouched d (visits d xs) i
  others [] d i n = record { thread = refl; keeps = keeps_same i d.placed d.placed refl }
  others (x ∷ xs) d i n =
      let a = other d x i (λ e. n (inl e)) in
      let b = others xs (visit d x) i (λ m. n (inr m)) in
      record { thread = b.thread ∙ a.thread; keeps = keeps_on i d.placed (visit d x).placed (visits (visit d x) xs).placed a.keeps b.keeps }

  still-asleep : (d : Dispatcher) (x i : ℕ) → (i ≡ x → ⊥) → Asleep d i → Asleep (visit d x) i
  still-asleep d x i n a =
      let o = other d x i n in
      record { waits = ap (λ (t : Thread). is_waiting t.status) o.thread ∙ a.waits; unplaced = λ m. a.unplaced (o.keeps.back m) }

  own : (d : Dispatcher) (x : ℕ) → Asleep d x → Fate Ends d (visit d x) x
  own d x a = go (is d x)
    where
      go : Visit Ends d (visit d x) x → Fate Ends d (visit d x) x
      go (leaves t p) = sleeps (ap (λ (l : List Thread). thread_at l x) t) (λ m. a.unplaced (subst (Mem x) p m))
      go (readies y r e t p) =
          let k = stands-somewhere d.threads x is_waiting refl a.waits in
          let q : thread_of (visit d x) x ≡ y = ap (λ (l : List Thread). thread_at l x) t ∙ change-own d.threads x y k.0 k.1 in
          wakes (ap (λ (z : Thread). z.status) q ∙ r) (subst Ends (sym q) e) (subst (Mem x) (sym p) (append-mem-right x (without x d.placed) (x ∷ []) (inl refl)))

  -- a fate stays what it is while others are visited
  fate-on : (xs : List ℕ) (d d₁ : Dispatcher) (i : ℕ) → (Mem i xs → ⊥) → Fate Ends d d₁ i → Fate Ends d (visits d₁ xs) i
  fate-on xs d d₁ i n f = go (others xs d₁ i n) f
    where
      go : Untouched d₁ (visits d₁ xs) i → Fate Ends d d₁ i → Fate Ends d (visits d₁ xs) i
      go o (sleeps t u) = sleeps (o.thread ∙ t) (λ m. u (o.keeps.back m))
      go o (wakes r e m) = wakes (ap (λ (t : Thread). t.status) o.thread ∙ r) (subst Ends (sym o.thread) e) (o.keeps.stays m)

  fate : (xs : List ℕ) (d : Dispatcher) (i : ℕ) → Distinct xs → Asleep d i → Fate Ends d (visits d xs) i
  fate [] d i ds a = sleeps refl a.unplaced
  fate (x ∷ xs) d i ds a = elim (ℕ_discrete i x) [
    | yes e ↦ subst (Fate Ends d (visits (visit d x) xs)) (sym e) (fate-on xs d (visit d x) x ds.0 (own d x (subst (Asleep d) e a)))
    | no n ↦ later (other d x i n) (fate xs (visit d x) i ds.1 (still-asleep d x i n a))
  ]
    where
      later : Untouched d (visit d x) i → Fate Ends (visit d x) (visits (visit d x) xs) i → Fate Ends d (visits (visit d x) xs) i
      later o (sleeps t u) = sleeps (t ∙ o.thread) u
      later o (wakes r e m) = wakes r e m

  -- one that was made ready is ahead of those that were visited after it
  ahead : (xs : List ℕ) (d : Dispatcher) → Distinct xs → ((k : ℕ) → Mem k xs → Asleep d k) → (i j : ℕ) → Before i j xs → status_of (visits d xs) i ≡ ready → Ahead i j (visits d xs).placed
  ahead [] d ds a i j b r = absurd b
  ahead (x ∷ xs) d ds a i j (inl b) r =
      subst (λ (k : ℕ). Ahead k j (visits (visit d x) xs).placed) (sym b.0)
      (first (own d x (a x (inl refl))) (subst (λ (k : ℕ). status_of (visits (visit d x) xs) k ≡ ready) b.0 r))
    where
      o : Untouched (visit d x) (visits (visit d x) xs) x
      o = others xs (visit d x) x ds.0

      apart : j ≡ x → ⊥
      apart e = ds.0 (subst (λ (k : ℕ). Mem k xs) e b.1)

      first : Fate Ends d (visit d x) x → status_of (visits (visit d x) xs) x ≡ ready → Ahead x j (visits (visit d x) xs).placed
      first (sleeps t u) q = absurd (not-both (sym (ap (λ (y : Thread). is_waiting y.status) (o.thread ∙ t) ∙ (a x (inl refl)).waits) ∙ ap is_waiting q))
      first (wakes s e m) q = o.keeps.ahead j m (inr (still-asleep d x j apart (a j (inr b.1))).unplaced)
  ahead (x ∷ xs) d ds a i j (inr b) r =
      ahead xs (visit d x) ds.1 (λ k m. still-asleep d x k (λ e. ds.0 (subst (λ (y : ℕ). Mem y xs) e m)) (a k (inr m))) i j b r

-- ---- the wake pass

-- the wait was satisfied
abbrev pub WasSatisfied : Thread → Type 0
WasSatisfied t = (k : ℕ) × (t.result ≡ some (satisfied k))

wake-visit : (d : Dispatcher) (x : ℕ) → Visit WasSatisfied d (wake_one d x) x
unfolding wake_one woken becomes
wake-visit d x = go (can_wake d (wait_of (status_of d x)))
  where
    go : (b : Bool) → let w = wait_of (status_of d x) in Visit WasSatisfied d (cond b (woken (with_objects d (takes d x w.objects w.all)) x (satisfied (index d w.objects w.all))) d) x
    go true = let w = wait_of (status_of d x) in readies (ready_again (thread_of d x) (some (satisfied (index d w.objects w.all)))) refl (index d w.objects w.all, refl) refl refl
    go false = leaves refl refl

pass-visits : (d : Dispatcher) (xs : List ℕ) → visits WasSatisfied wake_one wake-visit d xs ≡ pass d xs
pass-visits d [] = refl
pass-visits d (x ∷ xs) = pass-visits (wake_one d x) xs

module _ (d : Dispatcher) where
  pub wake-others : (i : ℕ) → (Mem i d.waiters → ⊥) → Untouched d (wake d) i
  unfolding wake
  wake-others i n = subst (λ (e : Dispatcher). Untouched d e i) (pass-visits d d.waiters) (others WasSatisfied wake_one wake-visit d.waiters d i n)

  pub wake-fate : (i : ℕ) → Distinct d.waiters → Asleep d i → Fate WasSatisfied d (wake d) i
  unfolding wake
  wake-fate i ds a = subst (λ (e : Dispatcher). Fate WasSatisfied d e i) (pass-visits d d.waiters) (fate WasSatisfied wake_one wake-visit d.waiters d i ds a)

  pub wake-ahead : Distinct d.waiters → ((k : ℕ) → Mem k d.waiters → Asleep d k) → (i j : ℕ) → Before i j d.waiters → status_of (wake d) i ≡ ready → Ahead i j (wake d).placed
  unfolding wake
  wake-ahead ds a i j b =
      subst (λ (e : Dispatcher). status_of e i ≡ ready → Ahead i j e.placed) (pass-visits d d.waiters) (ahead WasSatisfied wake_one wake-visit d.waiters d ds a i j b)

-- ---- the timeouts

-- the wait timed out
abbrev pub HasTimedOut : Thread → Type 0
HasTimedOut t = t.result ≡ some timeout

abbrev timed_out : Dispatcher → ℕ → Dispatcher
timed_out d x = woken d x timeout

timeout-visit : (d : Dispatcher) (x : ℕ) → Visit HasTimedOut d (timed_out d x) x
unfolding woken becomes
timeout-visit d x = readies (ready_again (thread_of d x) (some timeout)) refl refl refl refl

timeout-visits : (d : Dispatcher) (xs : List ℕ) → visits HasTimedOut timed_out timeout-visit d xs ≡ time_out_each d xs
timeout-visits d [] = refl
timeout-visits d (x ∷ xs) = timeout-visits (timed_out d x) xs

module _ (now : ℕ) (d : Dispatcher) where
  -- whose deadline is at or before the time
  abbrev pub late : List ℕ
  late = numbers_of (is_overdue now) 1 d.threads

  pub late-distinct : Distinct late
  late-distinct = rising-distinct (λ x. x) late (numbers-rise (is_overdue now) d.threads)

  pub timeout-others : (i : ℕ) → (Mem i late → ⊥) → Untouched d (time_out now d) i
  unfolding time_out
  timeout-others i n = subst (λ (e : Dispatcher). Untouched d e i) (timeout-visits d late) (others HasTimedOut timed_out timeout-visit late d i n)

  pub timeout-fate : (i : ℕ) → Asleep d i → Fate HasTimedOut d (time_out now d) i
  unfolding time_out
  timeout-fate i a = subst (λ (e : Dispatcher). Fate HasTimedOut d e i) (timeout-visits d late) (fate HasTimedOut timed_out timeout-visit late d i late-distinct a)

  pub timeout-ahead : ((k : ℕ) → Mem k late → Asleep d k) → (i j : ℕ) → Before i j late → status_of (time_out now d) i ≡ ready → Ahead i j (time_out now d).placed
  unfolding time_out
  timeout-ahead a i j b =
      subst (λ (e : Dispatcher). status_of e i ≡ ready → Ahead i j e.placed) (timeout-visits d late) (ahead HasTimedOut timed_out timeout-visit late d late-distinct a i j b)
