-- A walk of the objects' records for a timer ends at the record of the timer that the log finds, or at place 0 where it finds none.
use Prim.Native.Nat.{ℕ, zero, suc, ◌+◌, ◌-◌, ◌*◌, ◌≤◌}
use mathlib.Core.List.{List, [], ◌∷◌}
use mathlib.Core.Bool.{Bool, true, false, cond}
use mathlib.Core.Option.{Option, none, some}
use mathlib.Core.Path.{◌≡◌, refl, sym, ap, ◌∙◌, subst}
use native.Mathlib.Omega.{arith}
use lib.ListN.{length}
use lib.Dec.{eqb}
use borrow.Author.Tests.{eq-eqb, ne_eqb}
use Rattle.images.specs.declared.Timer.{Timer}
use Rattle.words.specs.Layout.{entry_at}
use Rattle.timers.specs.Record as words
use Rattle.timers.specs.Record.{is_timer, first_in}
use Rattle.timers.specs.Reads.{timer_answer, is_nth, passed_to, nth_in}
use Rattle.timers.specs.TimerAnswer as answer
use Rattle.call_answers.specs.Told.{told_timer}
use Rattle.model.specs.Lists.{nth, first_of, given}
use Rattle.model.specs.State.{Object, mutex, event, timer}
use Rattle.model.specs.Waits.{kind_of, timers_of}
use Rattle.model.specs.Answer.{None, TimerIs}
use Rattle.model.proofs.ObjectLaws.{on-timer}
use Rattle.agreement.specs.Row.{Row}
use Rattle.agreement.specs.Records.{timer_row, object_row}
use Rattle.agreement.proofs.Places.{entry_place}
use Rattle.agreement.proofs.Records.{timer-read}
use Rattle.agreement.proofs.Lookups.{row-kind}

-- ---- the place of a timer, or 0

abbrev pub Stands : List ℕ → ℕ → Option Timer → Type 0
Stands w place none = place ≡ 0
Stands w place (some t) = (1 ≤ place) × Row w place (timer_row t)

pub stands-told : (w : List ℕ) (place : ℕ) (o : Option Timer) → Stands w place o → told_timer (timer_answer w place) ≡ given o None TimerIs
unfolding timer_answer
stands-told w place none e =
    ap (λ (b : Bool). told_timer (cond b answer.None (answer.Timer (words.timer_at w place)))) (eq-eqb place 0 e)
stands-told w place (some t) e =
    ap (λ (b : Bool). told_timer (cond b answer.None (answer.Timer (words.timer_at w place)))) (ne_eqb place 0 (λ z. omega (arith, e.0)))
    ∙ ap TimerIs (timer-read w place t e.1)

-- ---- the records of a list of objects, from record `i` of the table on

abbrev pub Rows : List ℕ → ℕ → ℕ → List Object → Type 0
Rows w base i ys = (j : ℕ) (x : Object) → nth ys j ≡ some x → Row w (base + 32 * (i + j)) (object_row x)

module _ (w : List ℕ) (base : ℕ) (low : base ≤ 1000000) (one : 1 ≤ base) where
  pub rows_head : (i : ℕ) (y : Object) (ys : List Object) → i ≤ 8192 → Rows w base i (y ∷ ys) → Row w (entry_at base i) (object_row y)
  rows_head i y ys few r =
      subst (λ (p : ℕ). Row w p (object_row y)) (let z : base + 32 * (i + 0) ≡ base + 32 * i = omega arith in z ∙ sym (entry_place base i low few)) (r 0 y refl)

  pub rows-tail : (i : ℕ) (y : Object) (ys : List Object) → Rows w base i (y ∷ ys) → Rows w base (i + 1) ys
  rows-tail i y ys r j x e = subst (λ (p : ℕ). Row w p (object_row x)) (let z : base + 32 * (i + suc j) ≡ base + 32 * (i + 1 + j) = omega arith in z) (r (suc j) x e)

  pub entry-some : (i : ℕ) → i ≤ 8192 → 1 ≤ entry_at base i
  entry-some i few = omega (arith, entry_place base i low few)

  -- word 1 is the kind
  pub timer-here : (place : ℕ) (y : Object) → Row w place (object_row y) → is_timer w place ≡ eqb (kind_of y) 2
  unfolding is_timer
  timer-here place y r = ap (λ (k : ℕ). eqb k 2) (r 1 (kind_of y) (row-kind y))

  -- the timer that has `n` timers before it
  pub nth-stands : (ys : List Object) (i n : ℕ) → i + length ys ≤ 8192 → Rows w base i ys → Stands w (nth_in (length ys) w base i n) (nth (timers_of ys) n)
  unfolding nth_in is_nth passed_to
  nth-stands [] i n few r = refl
  nth-stands (mutex m ∷ ys) i n few r =
      subst (λ (b : Bool). Stands w (cond (cond b (eqb n 0) false) (entry_at base i) (nth_in (length ys) w base (i + 1) (cond b (n - 1) n))) (nth (timers_of ys) n))
      (sym (timer-here (entry_at base i) (mutex m) (rows_head i (mutex m) ys (omega arith) r)))
      (nth-stands ys (i + 1) n (omega arith) (rows-tail i (mutex m) ys r))
  nth-stands (event v ∷ ys) i n few r =
      subst (λ (b : Bool). Stands w (cond (cond b (eqb n 0) false) (entry_at base i) (nth_in (length ys) w base (i + 1) (cond b (n - 1) n))) (nth (timers_of ys) n))
      (sym (timer-here (entry_at base i) (event v) (rows_head i (event v) ys (omega arith) r)))
      (nth-stands ys (i + 1) n (omega arith) (rows-tail i (event v) ys r))
  nth-stands (timer t ∷ ys) i zero few r =
      subst (λ (b : Bool). Stands w (cond (cond b true false) (entry_at base i) (nth_in (length ys) w base (i + 1) (cond b 0 0))) (some t))
      (sym (timer-here (entry_at base i) (timer t) (rows_head i (timer t) ys (omega arith) r)))
      (entry-some i (omega arith), rows_head i (timer t) ys (omega arith) r)
  nth-stands (timer t ∷ ys) i (suc n) few r =
      subst (λ (b : Bool). Stands w (cond (cond b (eqb (suc n) 0) false) (entry_at base i) (nth_in (length ys) w base (i + 1) (cond b (suc n - 1) (suc n)))) (nth (timers_of ys) n))
      (sym (timer-here (entry_at base i) (timer t) (rows_head i (timer t) ys (omega arith) r)))
      (subst (λ (b : Bool). Stands w (cond b (entry_at base i) (nth_in (length ys) w base (i + 1) (suc n - 1))) (nth (timers_of ys) n)) (sym (ne_eqb (suc n) 0 (λ z. omega arith)))
      (subst (λ (k : ℕ). Stands w (nth_in (length ys) w base (i + 1) k) (nth (timers_of ys) n)) (let z : n ≡ suc n - 1 = omega arith in z)
      (nth-stands ys (i + 1) n (omega arith) (rows-tail i (timer t) ys r))))

  -- the first timer that passes a test
  module _ (test : ℕ → Bool) (f : Timer → Bool) (others : (place : ℕ) (y : Object) → Row w place (object_row y) → eqb (kind_of y) 2 ≡ false → test place ≡ false)
      (same : (place : ℕ) (t : Timer) → Row w place (timer_row t) → test place ≡ f t) where
    pub first-stands : (ys : List Object) (i : ℕ) → i + length ys ≤ 8192 → Rows w base i ys → Stands w (first_in (length ys) test base i) (first_of f (timers_of ys))
    unfolding first_in
    first-stands [] i few r = refl
    first-stands (x ∷ ys) i few r = at_head (first-stands ys (i + 1) (omega arith) (rows-tail i x ys r))
      where
        rest : ℕ
        rest = first_in (length ys) test base (i + 1)

        row : Row w (entry_at base i) (object_row x)
        row = rows_head i x ys (omega arith) r

        go : (t : Timer) → Row w (entry_at base i) (timer_row t) → (b : Bool) → Stands w rest (first_of f (timers_of ys)) → Stands w (cond b (entry_at base i) rest) (cond b (some t) (first_of f (timers_of ys)))
        go t z true h = (entry-some i (omega arith), z)
        go t z false h = h

        at_head : Stands w rest (first_of f (timers_of ys)) → Stands w (cond (test (entry_at base i)) (entry_at base i) rest) (first_of f (timers_of (x ∷ ys)))
        at_head h = on-timer (λ ts. Stands w (cond (test (entry_at base i)) (entry_at base i) rest) (first_of f ts)) x
            (λ n. subst (λ (b : Bool). Stands w (cond b (entry_at base i) rest) (first_of f (timers_of ys))) (sym (others (entry_at base i) x row n)) h)
            (λ t q. let z = subst (λ (y : Object). Row w (entry_at base i) (object_row y)) q row in
            subst (λ (b : Bool). Stands w (cond b (entry_at base i) rest) (cond (f t) (some t) (first_of f (timers_of ys)))) (sym (same (entry_at base i) t z)) (go t z (f t) h))
