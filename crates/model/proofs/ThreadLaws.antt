-- Where threads stand after one of them has changed.
use Prim.Native.Nat.{ℕ, zero, suc, ◌+◌, ◌≤◌, ◌<◌}
use mathlib.Core.List.{List, [], ◌∷◌, ◌++◌}
use mathlib.Core.Bool.{Bool, true, false, cond, not}
use mathlib.Core.Path.{◌≡◌, refl, sym, ap, ◌∙◌, subst}
use mathlib.Core.Logic.{◌⊎◌, inl, inr, ⊎_elim}
use native.Mathlib.Omega.{arith}
use native.Mathlib.Decide.{ℕ_discrete, dec_lt}
use borrow.Author.Tests.{eq-eqb, ne_eqb, eqb-true, eqb-false}
use lib.Dec.{eqb}
use lib.ListN.{set, length, length-set, length-append, get_or-append, get_or-eq_default}
use lib.Seq.{get_or-set_same, get_or-set_other, get_or-append_seam, set-append_seam}
use Rattle.model.specs.Lists.{Mem, Distinct, without, member}
use Rattle.model.specs.State.{Thread, Status, running, ready, waiting, exited}
use Rattle.model.specs.Threads.{no_one, thread_at, change_at, is_ready, is_waiting, is_running, wait_of, placed_as, waiters_as, current_as}
use Rattle.model.specs.Valid.{Standing, RisingBy, sequence_at}
use Rattle.model.proofs.ListLaws.{not-both, mem-last, mem-without, distinct-keep, distinct-last, rising-keep, rising-last, rising-same, last-own, last-other, out-own, out-other}

-- ---- one record changed

pub length-change : (l : List Thread) (id : ℕ) (t : Thread) → length (change_at l id t) ≡ length l
length-change l zero t = refl
length-change l (suc n) t = length-set l n t

pub change-own : (l : List Thread) (id : ℕ) (t : Thread) → 1 ≤ id → id ≤ length l → thread_at (change_at l id t) id ≡ t
change-own l zero t h k = absurd (omega arith)
change-own l (suc n) t h k = get_or-set_same l n t no_one (omega arith)

pub change-other : (l : List Thread) (id : ℕ) (t : Thread) (i : ℕ) → (i ≡ id → ⊥) → thread_at (change_at l id t) i ≡ thread_at l i
change-other l id t zero n = refl
change-other l zero t (suc i) n = refl
change-other l (suc j) t (suc i) n = get_or-set_other l j i t no_one (λ e. n (ap suc e))

-- whoever it is: the new record, or the old one
pub change-either : (P : Thread → Type 0) (l : List Thread) (id : ℕ) (t : Thread) (i : ℕ) → P t → P (thread_at l i) → P (thread_at (change_at l id t) i)
change-either P l id t i p o = elim (ℕ_discrete i id) [
  | yes e ↦ own id e
  | no n ↦ subst P (sym (change-other l id t i n)) o
]
  where
    own : (j : ℕ) → i ≡ j → P (thread_at (change_at l j t) i)
    own zero e = o
    own (suc j) e = elim (dec_lt j (length l)) [
      | yes h ↦ subst (λ (k : ℕ). P (thread_at (set l j t) k)) (sym e) (subst P (sym (get_or-set_same l j t no_one h)) p)
      | no h ↦ subst (λ (k : ℕ). P (thread_at (set l j t) k)) (sym e) (subst P (get_or-eq_default l no_one (omega arith) ∙ sym (get_or-eq_default (set l j t) no_one (omega (arith, length-set l j t)))) (subst (λ (k : ℕ). P (thread_at l k)) e o))
    ]

-- a number that no thread has
pub no-thread : (l : List Thread) (i : ℕ) → length l < i → thread_at l i ≡ no_one
no-thread l zero h = refl
no-thread l (suc n) h = get_or-eq_default l no_one (omega arith)

-- a thread that runs, is ready or waits is a thread
pub stands-somewhere : (l : List Thread) (i : ℕ) (f : Status → Bool) → f (exited 0) ≡ false → f (thread_at l i).status ≡ true → (1 ≤ i) × (i ≤ length l)
stands-somewhere l zero f e t = absurd (not-both (sym t ∙ e))
stands-somewhere l (suc n) f e t = elim (dec_lt n (length l)) [
  | yes h ↦ (omega arith, omega arith)
  | no h ↦ absurd (not-both (sym t ∙ ap (λ (x : Thread). f x.status) (no-thread l (suc n) (omega arith)) ∙ e))
]

-- ---- one thread more

pub append-old : (l : List Thread) (t : Thread) (i : ℕ) → i ≤ length l → thread_at (l ++ (t ∷ [])) i ≡ thread_at l i
append-old l t zero h = refl
append-old l t (suc n) h = get_or-append l (t ∷ []) no_one n (omega arith)

pub append-new : (l : List Thread) (t : Thread) → thread_at (l ++ (t ∷ [])) (suc (length l)) ≡ t
append-new l t = get_or-append_seam l t [] no_one

pub append-length : (l : List Thread) (t : Thread) → length (l ++ (t ∷ [])) ≡ suc (length l)
append-length l t = length-append l (t ∷ []) ∙ (let e : length l + 1 ≡ suc (length l) = omega arith in e)

pub append-either : (P : Thread → Type 0) (l : List Thread) (t : Thread) (i : ℕ) → P t → P (thread_at l i) → P (thread_at (l ++ (t ∷ [])) i)
append-either P l t i p o = elim (ℕ_discrete i (suc (length l))) [
  | yes e ↦ subst (λ (k : ℕ). P (thread_at (l ++ (t ∷ [])) k)) (sym e) (subst P (sym (append-new l t)) p)
  | no n ↦ elim (dec_lt (length l) i) [
    | yes h ↦ subst P (no-thread l i h ∙ sym (no-thread (l ++ (t ∷ [])) i (omega (arith, h, n, append-length l t)))) o
    | no h ↦ subst P (sym (append-old l t i (omega arith))) o
  ]
]

-- ---- where a thread stands by its status

module _ (x : Status) (id : ℕ) (l : List ℕ) where
  placed-own : (y : Status) → member id (placed_as y id l) ≡ is_ready y
  placed-own running = out-own id l
  placed-own ready = last-own id (without id l)
  placed-own (waiting w) = out-own id l
  placed-own (exited n) = out-own id l

  placed-other : (y : Status) (i : ℕ) → (i ≡ id → ⊥) → member i (placed_as y id l) ≡ member i l
  placed-other running i n = out-other i id l n
  placed-other ready i n = last-other i id (without id l) n ∙ out-other i id l n
  placed-other (waiting w) i n = out-other i id l n
  placed-other (exited k) i n = out-other i id l n

  placed-distinct : (y : Status) → Distinct l → Distinct (placed_as y id l)
  placed-distinct running d = distinct-keep (λ z. not (eqb z id)) l d
  placed-distinct ready d = distinct-last (without id l) id (distinct-keep (λ z. not (eqb z id)) l d) (λ m. (mem-without id id l m).1 refl)
  placed-distinct (waiting w) d = distinct-keep (λ z. not (eqb z id)) l d
  placed-distinct (exited n) d = distinct-keep (λ z. not (eqb z id)) l d

  waiters-own : (y : Status) → member id (waiters_as y id l) ≡ is_waiting y
  waiters-own running = out-own id l
  waiters-own ready = out-own id l
  waiters-own (waiting w) = last-own id (without id l)
  waiters-own (exited n) = out-own id l

  waiters-other : (y : Status) (i : ℕ) → (i ≡ id → ⊥) → member i (waiters_as y id l) ≡ member i l
  waiters-other running i n = out-other i id l n
  waiters-other ready i n = out-other i id l n
  waiters-other (waiting w) i n = last-other i id (without id l) n ∙ out-other i id l n
  waiters-other (exited k) i n = out-other i id l n

  -- each waiter is the thread itself, which then waits, or was one before
  waiters-mem : (y : Status) (i : ℕ) → Mem i (waiters_as y id l) → ((Mem i l) × (i ≡ id → ⊥)) ⊎ ((i ≡ id) × (is_waiting y ≡ true))
  waiters-mem running i m = inl (mem-without i id l m)
  waiters-mem ready i m = inl (mem-without i id l m)
  waiters-mem (waiting w) i m = ⊎_elim (λ (a : Mem i (without id l)). inl (mem-without i id l a)) (λ (e : i ≡ id). inr (e, refl)) (mem-last i (without id l) id m)
  waiters-mem (exited n) i m = inl (mem-without i id l m)

  waiters-rise : (f : ℕ → ℕ) (y : Status) → RisingBy f (without id l) → (is_waiting y ≡ true → (i : ℕ) → Mem i (without id l) → f i < f id) → RisingBy f (waiters_as y id l)
  waiters-rise f running r h = r
  waiters-rise f ready r h = r
  waiters-rise f (waiting w) r h = rising-last f (without id l) id r (h refl)
  waiters-rise f (exited n) r h = r

left-own : (id c : ℕ) → 1 ≤ id → eqb id (cond (eqb c id) 0 c) ≡ false
left-own id c h = go (eqb c id) refl
  where
    go : (b : Bool) → eqb c id ≡ b → eqb id (cond b 0 c) ≡ false
    go true e = ne_eqb id 0 (λ q. omega arith)
    go false e = ne_eqb id c (λ q. eqb-false c id e (sym q))

left_other : (id c i : ℕ) → 1 ≤ i → (i ≡ id → ⊥) → eqb i (cond (eqb c id) 0 c) ≡ eqb i c
left_other id c i h n = go (eqb c id) refl
  where
    go : (b : Bool) → eqb c id ≡ b → eqb i (cond b 0 c) ≡ eqb i c
    go true e = ne_eqb i 0 (λ q. omega arith) ∙ sym (ne_eqb i c (λ q. n (q ∙ eqb-true c id e)))
    go false e = refl

current-own : (id c : ℕ) → 1 ≤ id → (y : Status) → eqb id (current_as y id c) ≡ is_running y
current-own id c h running = eq-eqb id id refl
current-own id c h ready = left-own id c h
current-own id c h (waiting w) = left-own id c h
current-own id c h (exited n) = left-own id c h

-- another thread is current after as before; one that is made to run finds none other current
current-other : (id c i : ℕ) → 1 ≤ i → (i ≡ id → ⊥) → (y : Status) → (is_running y ≡ true → (c ≡ 0) ⊎ (c ≡ id)) → eqb i (current_as y id c) ≡ eqb i c
current-other id c i h n running f = ne_eqb i id n ∙ sym (ne_eqb i c (λ e. ⊎_elim (λ (z : c ≡ 0). absurd (omega arith)) (λ (z : c ≡ id). n (e ∙ z)) (f refl)))
current-other id c i h n ready f = left_other id c i h n
current-other id c i h n (waiting w) f = left_other id c i h n
current-other id c i h n (exited k) f = left_other id c i h n

-- ---- one thread moved

-- what is asked of a thread's new record: one that runs finds none current, one that waits has a sequence above all others
pub record Movable (threads : List Thread) (waiters : List ℕ) (current sequence id : ℕ) (t : Thread) : Type 0 where
  pub from : 1 ≤ id
  pub to : id ≤ length threads
  pub runs : is_running t.status ≡ true → (current ≡ 0) ⊎ (current ≡ id)
  pub later : is_waiting t.status ≡ true → (i : ℕ) → Mem i waiters → (i ≡ id → ⊥) → sequence_at threads i < (wait_of t.status).sequence
  pub below : is_waiting t.status ≡ true → (wait_of t.status).sequence < sequence

pub standing-moved : (threads : List Thread) (placed waiters : List ℕ) (current sequence id : ℕ) (t : Thread)
    → Standing threads placed waiters current sequence → Movable threads waiters current sequence id t
    → Standing (change_at threads id t) (placed_as t.status id placed) (waiters_as t.status id waiters) (current_as t.status id current) sequence
standing-moved threads placed waiters current sequence id t s m = record {
  placed_ready = λ i. by i (placed_as t.status id placed) is_ready (placed-own t.status id placed t.status) (λ n. placed-other t.status id placed t.status i n ∙ s.placed_ready i);
  placed_once = placed-distinct t.status id placed t.status s.placed_once;
  waiters_waiting = λ i. by i (waiters_as t.status id waiters) is_waiting (waiters-own t.status id waiters t.status) (λ n. waiters-other t.status id waiters t.status i n ∙ s.waiters_waiting i);
  waiters_rising = waiters-rise t.status id waiters (sequence_at (change_at threads id t)) t.status
      (rising-same (sequence_at threads) (sequence_at (change_at threads id t)) (without id waiters)
      (λ y a. sym (seq-other y (mem-without y id waiters a).1)) (rising-keep (sequence_at threads) (λ z. not (eqb z id)) waiters s.waiters_rising))
      (λ e i a. let w = mem-without i id waiters a in omega (arith, m.later e i w.0 w.1, seq-own, seq-other i w.1));
  below = λ i a. ⊎_elim
      (λ (w : (Mem i waiters) × (i ≡ id → ⊥)). omega (arith, s.below i w.0, seq-other i w.1))
      (λ (w : (i ≡ id) × (is_waiting t.status ≡ true)). subst (λ (j : ℕ). sequence_at (change_at threads id t) j < sequence) (sym w.0) (omega (arith, seq-own, m.below w.1)))
      (waiters-mem t.status id waiters t.status i a);
  current_runs = λ i h. elim (ℕ_discrete i id) [
    | yes e ↦ subst (λ (j : ℕ). eqb j (current_as t.status id current) ≡ is_running (thread_at (change_at threads id t) j).status) (sym e)
        (current-own id current m.from t.status ∙ ap (λ (x : Thread). is_running x.status) (sym own))
    | no n ↦ current-other id current i h n t.status m.runs ∙ s.current_runs i h ∙ ap (λ (x : Thread). is_running x.status) (sym (change-other threads id t i n))
  ];
}
  where
    own : thread_at (change_at threads id t) id ≡ t
    own = change-own threads id t m.from m.to

    seq-own : sequence_at (change_at threads id t) id ≡ (wait_of t.status).sequence
    seq-own = ap (λ (x : Thread). (wait_of x.status).sequence) own

    seq-other : (i : ℕ) → (i ≡ id → ⊥) → sequence_at (change_at threads id t) i ≡ sequence_at threads i
    seq-other i n = ap (λ (x : Thread). (wait_of x.status).sequence) (change-other threads id t i n)

    by : (i : ℕ) (l : List ℕ) (f : Status → Bool) → member id l ≡ f t.status → ((i ≡ id → ⊥) → member i l ≡ f (thread_at threads i).status)
        → member i l ≡ f (thread_at (change_at threads id t) i).status
    by i l f o other = elim (ℕ_discrete i id) [
      | yes e ↦ subst (λ (j : ℕ). member j l ≡ f (thread_at (change_at threads id t) j).status) (sym e) (o ∙ ap (λ (x : Thread). f x.status) (sym own))
      | no n ↦ other n ∙ ap (λ (x : Thread). f x.status) (sym (change-other threads id t i n))
    ]

-- the same status: nobody moves
pub standing-same : (threads : List Thread) (placed waiters : List ℕ) (current sequence id : ℕ) (t : Thread)
    → Standing threads placed waiters current sequence → t.status ≡ (thread_at threads id).status
    → Standing (change_at threads id t) placed waiters current sequence
standing-same threads placed waiters current sequence id t s e = record {
  placed_ready = λ i. s.placed_ready i ∙ ap is_ready (sym (kept i));
  placed_once = s.placed_once;
  waiters_waiting = λ i. s.waiters_waiting i ∙ ap is_waiting (sym (kept i));
  waiters_rising = rising-same (sequence_at threads) (sequence_at (change_at threads id t)) waiters (λ y a. ap (λ (x : Status). (wait_of x).sequence) (sym (kept y))) s.waiters_rising;
  below = λ i a. omega (arith, s.below i a, ap (λ (x : Status). (wait_of x).sequence) (kept i));
  current_runs = λ i h. s.current_runs i h ∙ ap is_running (sym (kept i));
}
  where
    kept : (i : ℕ) → (thread_at (change_at threads id t) i).status ≡ (thread_at threads i).status
    kept i = elim (ℕ_discrete i id) [
      | yes q ↦ subst (λ (j : ℕ). (thread_at (change_at threads id t) j).status ≡ (thread_at threads j).status) (sym q) (change-either (λ (x : Thread). x.status ≡ (thread_at threads id).status) threads id t id e refl)
      | no n ↦ ap (λ (x : Thread). x.status) (change-other threads id t i n)
    ]

pub standing-sequence : (threads : List Thread) (placed waiters : List ℕ) (current n m : ℕ) → n ≤ m → Standing threads placed waiters current n → Standing threads placed waiters current m
standing-sequence threads placed waiters current n m h s = record {
  placed_ready = s.placed_ready;
  placed_once = s.placed_once;
  waiters_waiting = s.waiters_waiting;
  waiters_rising = s.waiters_rising;
  below = λ i a. omega (arith, s.below i a);
  current_runs = s.current_runs;
}

-- ---- one thread more

-- one that stands nowhere changes nothing
append-none : (l : List Thread) (i : ℕ) → thread_at (l ++ (no_one ∷ [])) i ≡ thread_at l i
append-none l i = elim (dec_lt (length l) i) [
  | yes h ↦ beyond (ℕ_discrete i (suc (length l))) h
  | no h ↦ append-old l no_one i (omega arith)
]
  where
    beyond : Dec (i ≡ suc (length l)) → length l < i → thread_at (l ++ (no_one ∷ [])) i ≡ thread_at l i
    beyond (yes e) h = ap (thread_at (l ++ (no_one ∷ []))) e ∙ append-new l no_one ∙ sym (no-thread l i h)
    beyond (no n) h = no-thread (l ++ (no_one ∷ [])) i (omega (arith, n, h, append-length l no_one)) ∙ sym (no-thread l i h)

standing-none : (threads : List Thread) (placed waiters : List ℕ) (current sequence : ℕ) → Standing threads placed waiters current sequence → Standing (threads ++ (no_one ∷ [])) placed waiters current sequence
standing-none threads placed waiters current sequence s = record {
  placed_ready = λ i. s.placed_ready i ∙ ap is_ready (sym (kept i));
  placed_once = s.placed_once;
  waiters_waiting = λ i. s.waiters_waiting i ∙ ap is_waiting (sym (kept i));
  waiters_rising = rising-same (sequence_at threads) (sequence_at (threads ++ (no_one ∷ []))) waiters (λ y a. ap (λ (x : Status). (wait_of x).sequence) (sym (kept y))) s.waiters_rising;
  below = λ i a. omega (arith, s.below i a, ap (λ (x : Status). (wait_of x).sequence) (kept i));
  current_runs = λ i h. s.current_runs i h ∙ ap is_running (sym (kept i));
}
  where
    kept : (i : ℕ) → (thread_at (threads ++ (no_one ∷ [])) i).status ≡ (thread_at threads i).status
    kept i = ap (λ (x : Thread). x.status) (append-none threads i)

-- a ready thread more, placed last
pub standing-new : (threads : List Thread) (placed waiters : List ℕ) (current sequence : ℕ) (t : Thread) → t.status ≡ ready → Standing threads placed waiters current sequence
    → Standing (change_at (threads ++ (t ∷ [])) (suc (length threads)) t) (placed_as t.status (suc (length threads)) placed) (waiters_as t.status (suc (length threads)) waiters) (current_as t.status (suc (length threads)) current) sequence
standing-new threads placed waiters current sequence t e s =
    subst (λ (l : List Thread). Standing l (placed_as t.status (suc (length threads)) placed) (waiters_as t.status (suc (length threads)) waiters) (current_as t.status (suc (length threads)) current) sequence)
    (set-append_seam threads no_one [] t ∙ sym (set-append_seam threads t [] t))
    (standing-moved (threads ++ (no_one ∷ [])) placed waiters current sequence (suc (length threads)) t (standing-none threads placed waiters current sequence s) (record {
      from = omega arith;
      to = omega (arith, append-length threads no_one);
      runs = λ q. absurd (not-both (sym q ∙ ap is_running e));
      later = λ q i a n. absurd (not-both (sym q ∙ ap is_waiting e));
      below = λ q. absurd (not-both (sym q ∙ ap is_waiting e));
    }))
