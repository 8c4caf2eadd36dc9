-- The objects' keys gone along beside the addresses of the DPCs: the place that is reached is the one that a search finds.
use Prim.Native.Nat.{ℕ, zero, suc, ◌+◌, ◌-◌, ◌*◌, ◌/◌, ◌≤◌, ◌<◌}
use native.Mathlib.Omega.{arith}
use native.Mathlib.Decide.{ℕ_discrete, dec_lt}
use mathlib.Core.List.{List}
use mathlib.Core.Bool.{Bool, cond, true, false, not}
use mathlib.Core.Path.{◌≡◌, refl, ap, sym, ◌∙◌}
use lib.ListN.{get_or}
use lib.Dec.{eqb, leb, ltb}
use borrow.Author.Tests.{eq-eqb, ne_eqb, le-ltb, ltb-true, ltb-false}
use Rattle.words.specs.Layout as at
use Rattle.words.specs.Layout.{objects_at, entry_at}
use Rattle.tables.specs.declared.Part.{Part}
use Rattle.tables.specs.Table.{key_at, narrowed, searched_in, position}
use Rattle.tables.proofs.TableLaws.{search-found}
use Rattle.objects.specs.Objects.{objects_base, found_at, object_found}
use Rattle.form_dpc.specs.Place.{key_rises, past_in, Risen}
use Rattle.form_dpc.specs.Dpc.{dpc_numbers, address_once, address_at, sequence_given, named_rightly, dpc_passes, dpc_passes_at}

less_one : (k : ℕ) → suc k - 1 ≡ k
less_one k = omega arith

rises-above : (w : List ℕ) (base i : ℕ) → 0 < i → key_rises w base i ≡ true → key_at w base (i - 1) < key_at w base i
unfolding key_rises
rises-above w base i h e = let z : i ≡ 0 → ⊥ = λ q. omega arith in ltb-true _ _ (simp (ne_eqb i 0 z) at e)

-- ---- what is passed is below, and what is not is not

past-most : (m : ℕ) (w : List ℕ) (base i key : ℕ) → past_in m w base i key ≤ i + m
unfolding past_in
past-most zero w base i key = omega arith
past-most (suc m) w base i key = go (ltb (key_at w base i) key) (past-most m w base (i + 1) key)
  where
    go : (b : Bool) → past_in m w base (i + 1) key ≤ i + 1 + m → cond b (past_in m w base (i + 1) key) i ≤ i + suc m
    go true ih = omega arith
    go false ih = omega arith

past-low : (m : ℕ) (w : List ℕ) (base i key : ℕ) → ((x : ℕ) → x < i → key_at w base x < key) → (x : ℕ) → x < past_in m w base i key → key_at w base x < key
unfolding past_in
past-low zero w base i key lo x h = lo x h
past-low (suc m) w base i key lo x h = go (ltb (key_at w base i) key) refl (past-low m w base (i + 1) key) h
  where
    one : key_at w base i < key → (y : ℕ) → Dec (y ≡ i) → y < i + 1 → key_at w base y < key
    one l y (yes q) k = let z : key_at w base y ≡ key_at w base i = cc in omega (arith, z)
    one l y (no q) k = lo y (omega (arith, q))

    go : (b : Bool) → ltb (key_at w base i) key ≡ b → (((y : ℕ) → y < i + 1 → key_at w base y < key) → (y : ℕ) → y < past_in m w base (i + 1) key → key_at w base y < key)
        → x < cond b (past_in m w base (i + 1) key) i → key_at w base x < key
    go true e ih l = ih (λ y k. one (ltb-true (key_at w base i) key e) y (ℕ_discrete y i) k) x l
    go false e ih l = lo x l

-- a part of fewer records than this is searched in `k` steps
abbrev halves : ℕ → ℕ
halves zero = 1
halves (suc k) = halves k + halves k

module _ (w : List ℕ) (base n : ℕ) (few : n ≤ 4096) (rise : (i : ℕ) → i < n → key_rises w base i ≡ true) where
  upto : (x i : ℕ) → i ≤ x → x < n → key_at w base i ≤ key_at w base x
  upto zero i h l = let e : i ≡ 0 = omega arith in let z : key_at w base i ≡ key_at w base 0 = cc in omega (arith, z)
  upto (suc x) i h l = go (ℕ_discrete i (suc x)) (upto x i)
    where
      go : Dec (i ≡ suc x) → (i ≤ x → x < n → key_at w base i ≤ key_at w base x) → key_at w base i ≤ key_at w base (suc x)
      go (yes e) ih = let z : key_at w base i ≡ key_at w base (suc x) = cc in omega (arith, z)
      go (no e) ih =
          let z : key_at w base (suc x - 1) ≡ key_at w base x = ap (λ (y : ℕ). key_at w base y) (less_one x) in
          omega (arith, z, ih (omega (arith, e)) (omega arith), rises-above w base (suc x) (omega arith) (rise (suc x) l))

  past-high : (m i key : ℕ) → i + m ≡ n → (x : ℕ) → past_in m w base i key ≤ x → x < n → key ≤ key_at w base x
  unfolding past_in
  past-high zero i key e x h l = absurd (omega arith)
  past-high (suc m) i key e x h l = go (ltb (key_at w base i) key) refl (past-high m (i + 1) key (omega arith)) h
    where
      go : (b : Bool) → ltb (key_at w base i) key ≡ b → ((y : ℕ) → past_in m w base (i + 1) key ≤ y → y < n → key ≤ key_at w base y)
          → cond b (past_in m w base (i + 1) key) i ≤ x → key ≤ key_at w base x
      go true f ih k = ih x k l
      go false f ih k = omega (arith, ltb-false (key_at w base i) key f, upto x i k l)

  module _ (key j : ℕ) (within : j ≤ n) (lo : (x : ℕ) → x < j → key_at w base x < key) (hi : (x : ℕ) → j ≤ x → x < n → key ≤ key_at w base x) where
    is-before : (x : ℕ) → x < n → key_at w base x < key → x < j
    is-before x l h = go (dec_lt x j)
      where
        go : Dec (x < j) → x < j
        go (yes q) = q
        go (no q) = absurd (omega (arith, hi x (omega (arith, q)) l))

    is-behind : (x : ℕ) → key ≤ key_at w base x → j ≤ x
    is-behind x h = go (dec_lt x j)
      where
        go : Dec (x < j) → j ≤ x
        go (yes q) = absurd (omega (arith, lo x q))
        go (no q) = omega (arith, q)

    searched-at : (f : ℕ) (p : Part) → p.size < halves f → p.from ≤ j → j ≤ p.from + p.size → p.from + p.size ≤ n → searched_in f w base key p ≡ j
    unfolding searched_in narrowed
    searched-at zero p small l h in_table = omega arith
    searched-at (suc f) p small l h in_table = go (ℕ_discrete p.size 0) (searched-at f)
      where
        upper : Part
        upper = record { from = p.from + p.size / 2 + 1; size = p.size - (p.size / 2 + 1) }

        lower : Part
        lower = record { from = p.from; size = p.size / 2 }

        step : (b : Bool) → ltb (key_at w base (p.from + p.size / 2)) key ≡ b → (p.size ≡ 0 → ⊥)
            → ((q : Part) → q.size < halves f → q.from ≤ j → j ≤ q.from + q.size → q.from + q.size ≤ n → searched_in f w base key q ≡ j)
            → searched_in f w base key (cond b upper lower) ≡ j
        step true e some ih =
            let m = is-before (p.from + p.size / 2) (omega (arith, some)) (ltb-true (key_at w base (p.from + p.size / 2)) key e) in
            ih upper (omega (arith, some)) (omega (arith, m)) (omega (arith, some)) (omega (arith, some))
        step false e some ih =
            let m = is-behind (p.from + p.size / 2) (ltb-false (key_at w base (p.from + p.size / 2)) key e) in
            ih lower (omega (arith, some)) l (omega (arith, m)) (omega (arith, some))

        go : Dec (p.size ≡ 0)
            → ((q : Part) → q.size < halves f → q.from ≤ j → j ≤ q.from + q.size → q.from + q.size ≤ n → searched_in f w base key q ≡ j)
            → searched_in (suc f) w base key p ≡ j
        go (yes e) ih = search-found (suc f) w base key p e ∙ (let z : p.from ≡ j = omega (arith, e) in z)
        go (no some) ih =
            ap (λ (b : Bool). cond b p.from (searched_in f w base key (narrowed w base key p))) (ne_eqb p.size 0 some)
            ∙ step (ltb (key_at w base (p.from + p.size / 2)) key) refl some ih

    position_at : position w base n key ≡ j
    unfolding position
    position_at =
        ap (λ (b : Bool). cond b n (searched_in 13 w base key (record { from = 0; size = n }))) (le-ltb 8191 n (omega arith))
        ∙ searched-at 13 (record { from = 0; size = n }) (omega arith) (omega arith) (omega arith) (omega arith)

    found-at : ((x : ℕ) → entry_at base x ≡ 0 → ⊥) → eqb (found_at w base n key) 0 ≡ cond (leb n j) true (not (eqb (key_at w base j) key))
    unfolding found_at
    found-at some =
        ap (λ (x : ℕ). eqb (cond (leb n x) 0 (cond (eqb (key_at w base x) key) (entry_at base x) 0)) 0) position_at ∙ go (leb n j) (eqb (key_at w base j) key)
      where
        go : (a b : Bool) → eqb (cond a 0 (cond b (entry_at base j) 0)) 0 ≡ cond a true (not b)
        go true b = eq-eqb 0 0 refl
        go false true = ne_eqb (entry_at base j) 0 (some j)
        go false false = eq-eqb 0 0 refl

-- ---- of a DPC

entry-some : (w : List ℕ) (x : ℕ) → entry_at (objects_base w) x ≡ 0 → ⊥
unfolding entry_at objects_base objects_at
entry-some w x = go (leb (get_or w at.thread_limit 0) at.most_threads) (leb (objects_base w) 1000000) (leb x 8192)
  where
    go : (a b d : Bool) → cond b (cond d (cond a (at.header_size + at.thread_size * get_or w at.thread_limit 0) at.header_size + 32 * x) at.unused) at.unused ≡ 0 → ⊥
    go true true true = λ e. omega arith
    go false true true = λ e. omega arith
    go a true false = λ e. omega arith
    go a false d = λ e. omega arith

-- `j` objects, which stand before the others, have keys below the address of the DPC at place `i`
pub record Behind (w : List ℕ) (base i j : ℕ) : Type 0 where
  pub within : j ≤ get_or w at.objects 0
  pub below : (x : ℕ) → x < j → key_rises w base i ≡ true → key_at w (objects_base w) x < key_at w base i

pub behind-none : (w : List ℕ) (base : ℕ) → Behind w base 0 0
behind-none w base = record { within = omega arith; below = λ x h e. absurd (omega arith) }

pub gone : (w : List ℕ) (base i from j others n key : ℕ) → others ≡ objects_base w → n ≡ get_or w at.objects 0 → key ≡ key_at w base i → j ≡ past_in (n - from) w others from key
    → j ≡ past_in (get_or w at.objects 0 - from) w (objects_base w) from (key_at w base i)
gone w base i from j others n key a b d e = cc

module _ (w : List ℕ) (base i from j : ℕ) (r : Risen w) (b : Behind w base i from)
    (e : j ≡ past_in (get_or w at.objects 0 - from) w (objects_base w) from (key_at w base i)) where
  reached : j ≤ get_or w at.objects 0
  reached = omega (arith, b.within, e, past-most (get_or w at.objects 0 - from) w (objects_base w) from (key_at w base i))

  low : key_rises w base i ≡ true → (x : ℕ) → x < j → key_at w (objects_base w) x < key_at w base i
  low f x h = past-low (get_or w at.objects 0 - from) w (objects_base w) from (key_at w base i) (λ y k. b.below y k f) x (omega (arith, e))

  high : (x : ℕ) → j ≤ x → x < get_or w at.objects 0 → key_at w base i ≤ key_at w (objects_base w) x
  high x h l = past-high w (objects_base w) (get_or w at.objects 0) r.few r.rise (get_or w at.objects 0 - from) from (key_at w base i) (omega (arith, b.within)) x (omega (arith, e)) l

  address-at : address_at w base i j ≡ address_once w base i
  unfolding address_at address_once object_found
  address-at = go (key_rises w base i) refl
    where
      go : (c : Bool) → key_rises w base i ≡ c
          → cond c (cond (leb (get_or w at.objects 0) j) true (not (eqb (key_at w (objects_base w) j) (key_at w base i)))) false
          ≡ cond c (eqb (found_at w (objects_base w) (get_or w at.objects 0) (key_at w base i)) 0) false
      go true f = sym (found-at w (objects_base w) (get_or w at.objects 0) r.few r.rise (key_at w base i) j reached (low f) high (entry-some w))
      go false f = refl

  pub passes_at : dpc_passes_at w base i j ≡ dpc_passes w base i
  unfolding dpc_passes_at dpc_passes
  passes_at = simp address-at

  pub behind_more : dpc_passes_at w base i j ≡ true → Behind w base (i + 1) j
  unfolding dpc_passes_at address_at
  behind_more p = record {
    within = reached;
    below = λ x h f.
        let z : key_at w base (i + 1 - 1) ≡ key_at w base i = ap (λ (y : ℕ). key_at w base y) (let q : i + 1 - 1 ≡ i = omega arith in q) in
        omega (arith, z, low (rose (dpc_numbers w (entry_at base i)) (key_rises w base i) refl p) x h, rises-above w base (i + 1) (omega arith) f);
  }
    where
      rose : (a c : Bool) → key_rises w base i ≡ c
          → cond a (cond (cond c (cond (leb (get_or w at.objects 0) j) true (not (eqb (key_at w (objects_base w) j) (key_at w base i)))) false)
          (cond (sequence_given w (entry_at base i)) (named_rightly w (entry_at base i)) false) false) false ≡ true
          → key_rises w base i ≡ true
      rose true true q h = q
      rose true false q h = let z : ◌≡◌ {A = ℕ} 0 1 = cc in absurd (omega arith)
      rose false c q h = let z : ◌≡◌ {A = ℕ} 0 1 = cc in absurd (omega arith)
