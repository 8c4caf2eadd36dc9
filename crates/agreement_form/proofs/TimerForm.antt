-- What the clauses on places, keys and timers say of words in form.
use Prim.Native.Nat.{ℕ, suc, ◌+◌, ◌-◌, ◌*◌, ◌≤◌, ◌<◌}
use mathlib.Core.List.{List}
use mathlib.Core.Bool.{cond, true, false}
use mathlib.Core.Path.{◌≡◌, ap}
use native.Mathlib.Omega.{arith}
use borrow.Author.Tests.{eq-eqb, ne_eqb, eqb-true, eqb-false, leb-true, ltb-false, ltb-true}
use lib.ListN.{get_or}
use lib.Dec.{eqb, leb, ltb}
use Rattle.words.specs.Layout as at
use Rattle.tables.specs.Table.{key_at}
use Rattle.images.specs.Place.{architecture_of, backing_of, location_refusal, timer_size}
use Rattle.form_dpc.specs.Place.{key_rises, mapped_passes, located}
use Rattle.form_dpc.specs.Timer.{timer_flags, timer_times, timer_placed, timer_numbers}
use Rattle.agreement_tables.proofs.Search.{key-is}
use Rattle.agreement_form.proofs.Clauses.{both, not_first, if-so, if-not}

-- ---- places

-- what stands at `place`, with its architecture and backing from word `from` on
pub record PlacedAt (w : List ℕ) (place from size : ℕ) : Type 0 where
  pub architecture : get_or w (place + from) 0 ≤ 1
  pub kind : get_or w (place + (from + 1)) 0 ≤ 1
  pub image : get_or w (place + (from + 1)) 0 ≡ 0 → get_or w (place + (from + 4)) 0 ≡ 0
  pub free : location_refusal (get_or w place 0) size (architecture_of (get_or w (place + from) 0))
      (backing_of (get_or w (place + (from + 1)) 0) (get_or w (place + (from + 2)) 0) (get_or w (place + (from + 3)) 0) (get_or w (place + (from + 4)) 0)) ≡ 0

mapped-form : (kind mapped : ℕ) → mapped_passes kind mapped ≡ true → kind ≡ 0 → mapped ≡ 0
unfolding mapped_passes
mapped-form kind mapped e q = eqb-true mapped 0 (if-so (eqb kind 0) (eqb mapped 0) e (eq-eqb kind 0 q))

pub located-form : (w : List ℕ) (place from size : ℕ) → located w place from size ≡ true → PlacedAt w place from size
unfolding located
located-form w place from size e =
    let n = get_or w (place + from) 0 in
    let k = get_or w (place + (from + 1)) 0 in
    let r = location_refusal (get_or w place 0) size (architecture_of n) (backing_of k (get_or w (place + (from + 2)) 0) (get_or w (place + (from + 3)) 0) (get_or w (place + (from + 4)) 0)) in
    let m = mapped_passes k (get_or w (place + (from + 4)) 0) in
    let a = not_first (ltb 1 n) (cond (ltb 1 k) false (cond m (eqb r 0) false)) e in
    let b = not_first (ltb 1 k) (cond m (eqb r 0) false) a.1 in
    let c = both m (eqb r 0) b.1 in
    record { architecture = ltb-false 1 n a.0; kind = ltb-false 1 k b.0; image = mapped-form k (get_or w (place + (from + 4)) 0) c.0; free = eqb-true r 0 c.1 }

-- keys rise
pub rises-form : (w : List ℕ) (base i : ℕ) → base ≤ 1000000 → suc i ≤ 4096 → key_rises w base (suc i) ≡ true → get_or w (base + 32 * i) 0 < get_or w (base + 32 * suc i) 0
unfolding key_rises
rises-form w base i low few e =
    let h = if-not (eqb (suc i) 0) (ltb (key_at w base (suc i - 1)) (key_at w base (suc i))) e (ne_eqb (suc i) 0 (λ q. omega arith)) in
    let z : suc i - 1 ≡ i = omega arith in
    omega (arith, ltb-true (key_at w base (suc i - 1)) (key_at w base (suc i)) h, ap (key_at w base) z, key-is w base i low (omega arith), key-is w base (suc i) low (omega arith))

-- ---- a timer

pub record TimerForm (w : List ℕ) (place : ℕ) : Type 0 where
  pub manual : get_or w (place + at.manual) 0 ≤ 1
  pub signaled : get_or w (place + at.signaled) 0 ≤ 1
  pub inserted : get_or w (place + at.inserted) 0 ≤ 1
  pub absolute : get_or w (place + at.absolute) 0 ≤ 1
  pub period : get_or w (place + at.period) 0 ≤ 2147483647
  pub initialized : 1 ≤ get_or w (place + at.initialization) 0
  pub made : get_or w (place + at.initialization) 0 ≤ get_or w at.timer_initializations 0
  pub stands : PlacedAt w place 12 (timer_size (architecture_of (get_or w (place + at.timer_architecture) 0)))

module _ (w : List ℕ) (place : ℕ) where
  flags-form : timer_flags w place ≡ true → (get_or w (place + at.manual) 0 ≤ 1) × (get_or w (place + at.signaled) 0 ≤ 1) × (get_or w (place + at.inserted) 0 ≤ 1) × (get_or w (place + at.absolute) 0 ≤ 1)
  unfolding timer_flags
  flags-form e =
      let x = get_or w (place + at.manual) 0 in
      let y = get_or w (place + at.signaled) 0 in
      let z = get_or w (place + at.inserted) 0 in
      let u = get_or w (place + at.absolute) 0 in
      let a = not_first (ltb 1 x) (cond (ltb 1 y) false (cond (ltb 1 z) false (leb u 1))) e in
      let b = not_first (ltb 1 y) (cond (ltb 1 z) false (leb u 1)) a.1 in
      let c = not_first (ltb 1 z) (leb u 1) b.1 in
      (ltb-false 1 x a.0, ltb-false 1 y b.0, ltb-false 1 z c.0, leb-true u 1 c.1)

  times-form : timer_times w place ≡ true → (get_or w (place + at.period) 0 ≤ 2147483647) × (1 ≤ get_or w (place + at.initialization) 0) × (get_or w (place + at.initialization) 0 ≤ get_or w at.timer_initializations 0)
  unfolding timer_times
  times-form e =
      let x = get_or w (place + at.period) 0 in
      let y = get_or w (place + at.initialization) 0 in
      let a = not_first (ltb 2147483647 x) (cond (eqb y 0) false (leb y (get_or w at.timer_initializations 0))) e in
      let b = not_first (eqb y 0) (leb y (get_or w at.timer_initializations 0)) a.1 in
      let there = eqb-false y 0 b.0 in
      (ltb-false 2147483647 x a.0, omega (arith, there), leb-true y (get_or w at.timer_initializations 0) b.1)

  pub timer-form : timer_numbers w place ≡ true → TimerForm w place
  unfolding timer_numbers timer_placed
  timer-form e =
      let a = both (timer_flags w place) (cond (timer_times w place) (timer_placed w place) false) e in
      let b = both (timer_times w place) (timer_placed w place) a.1 in
      let f = flags-form a.0 in
      let t = times-form b.0 in
      record {
        manual = f.0;
        signaled = f.1;
        inserted = f.2;
        absolute = f.3;
        period = t.0;
        initialized = t.1;
        made = t.2;
        stands = located-form w place 12 (timer_size (architecture_of (get_or w (place + at.timer_architecture) 0))) b.1;
      }
