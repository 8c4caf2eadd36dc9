-- The search by halves finds the position of a key.
use Prim.Native.Nat.{ℕ, zero, suc, ◌+◌, ◌-◌, ◌*◌, ◌/◌, ◌≤◌, ◌<◌}
use mathlib.Core.List.{List}
use mathlib.Core.Bool.{Bool, true, false, cond, not}
use mathlib.Core.Path.{◌≡◌, refl, sym, ap, ap₂, ◌∙◌}
use mathlib.Core.Option.{Option, none, some}
use native.Mathlib.Omega.{arith}
use native.Mathlib.Decide.{ℕ_discrete, dec_lt}
use borrow.Author.Tests.{eq-eqb, ne_eqb, le-ltb, le-leb, lt-leb, leb-false, ltb-true, ltb-false}
use lib.Dec.{eqb, leb, ltb}
use lib.ListN.{get_or, length}
use Rattle.words.specs.Layout.{entry_at}
use Rattle.tables.specs.declared.Part.{Part}
use Rattle.tables.specs.Table.{key_at, narrowed, searched_in, position}
use Rattle.tables.proofs.TableLaws.{search-found, entry-is, ends, narrowed-within}
use Rattle.objects.specs.Objects.{found_at}
use Rattle.model.specs.Lists.{present}
use Rattle.model.specs.Table.{find, Rising}
use Rattle.model.proofs.TableLaws.{found}
use Rattle.agreement_tables.specs.Tables.{Holds, Keyed, below}
use Rattle.agreement_tables.proofs.Lists.{nth-some, below-le, below_more, below_less, find_at, find-in, find-not}

-- a part of fewer records than this is searched in `k` steps
abbrev halves : ℕ → ℕ
halves zero = 1
halves (suc k) = halves k + halves k

pub key-is : (w : List ℕ) (base i : ℕ) → base ≤ 1000000 → i ≤ 8192 → key_at w base i ≡ get_or w (base + 32 * i) 0
unfolding key_at
key-is w base i h k = ap (λ (j : ℕ). get_or w j 0) (entry-is base i h k)

module _ {A : Type 0} (key : A → ℕ) (w : List ℕ) (base : ℕ) (xs : List A) (low : base ≤ 1000000) (few : length xs ≤ 8191)
    (rising : Rising key xs) (keys : Holds (Keyed key) w base xs) where
  searched-is : (f k : ℕ) (p : Part) → p.size < halves f → p.from ≤ below key k xs → below key k xs ≤ p.from + p.size → p.from + p.size ≤ length xs
      → searched_in f w base k p ≡ below key k xs
  unfolding searched_in narrowed
  searched-is zero k p small lo hi in_List = omega arith
  searched-is (suc f) k p small lo hi in_List = go (ℕ_discrete p.size 0) (searched-is f k)
    where
      mid : ℕ
      mid = p.from + p.size / 2

      upper : Part
      upper = record { from = p.from + p.size / 2 + 1; size = p.size - (p.size / 2 + 1) }

      lower : Part
      lower = record { from = p.from; size = p.size / 2 }

      step : (b : Bool) → ltb (key_at w base (p.from + p.size / 2)) k ≡ b → (p.size ≡ 0 → ⊥)
          → ((q : Part) → q.size < halves f → q.from ≤ below key k xs → below key k xs ≤ q.from + q.size → q.from + q.size ≤ length xs → searched_in f w base k q ≡ below key k xs)
          → searched_in f w base k (cond b upper lower) ≡ below key k xs
      step true e n ih =
          let s = nth-some xs (p.from + p.size / 2) (omega (arith, n)) in
          let q = key-is w base (p.from + p.size / 2) low (omega (arith, n)) ∙ keys (p.from + p.size / 2) s.0 s.1 in
          let l = ltb-true (key_at w base (p.from + p.size / 2)) k e in
          let m = below_more key k xs rising (p.from + p.size / 2) s.0 s.1 (omega (arith, q, l)) in
          ih upper (omega (arith, n)) (omega (arith, m)) (omega (arith, n)) (omega (arith, n))
      step false e n ih =
          let s = nth-some xs (p.from + p.size / 2) (omega (arith, n)) in
          let q = key-is w base (p.from + p.size / 2) low (omega (arith, n)) ∙ keys (p.from + p.size / 2) s.0 s.1 in
          let l = ltb-false (key_at w base (p.from + p.size / 2)) k e in
          let m = below_less key k xs (p.from + p.size / 2) s.0 s.1 (omega (arith, q, l)) in
          ih lower (omega (arith, n)) lo (omega (arith, m)) (omega (arith, n))

      go : Dec (p.size ≡ 0)
          → ((q : Part) → q.size < halves f → q.from ≤ below key k xs → below key k xs ≤ q.from + q.size → q.from + q.size ≤ length xs → searched_in f w base k q ≡ below key k xs)
          → searched_in (suc f) w base k p ≡ below key k xs
      go (yes e) ih = search-found (suc f) w base k p e ∙ (let z : p.from ≡ below key k xs = omega (arith, e) in z)
      go (no n) ih =
          ap (λ (b : Bool). cond b p.from (searched_in f w base k (narrowed w base k p))) (ne_eqb p.size 0 n)
          ∙ step (ltb (key_at w base (p.from + p.size / 2)) k) refl n ih

  -- the position is how many keys are below
  pub position-is : (n k : ℕ) → n ≡ length xs → position w base n k ≡ below key k xs
  unfolding position
  position-is n k e =
      ap (λ (b : Bool). cond b n (searched_in 13 w base k (record { from = 0; size = n }))) (le-ltb 8191 n (omega (arith, e)))
      ∙ searched-is 13 k (record { from = 0; size = n }) (omega (arith, e)) (omega arith) (omega (arith, e, below-le key k xs)) (omega (arith, e))

  -- ---- what is found

  pub found-is : (n k : ℕ) → n ≡ length xs → (x : A) → find key xs k ≡ some x → found_at w base n k ≡ base + 32 * below key k xs
  unfolding found_at
  found-is n k e x h =
      let i = below key k xs in
      let l = find-in key xs rising k x h in
      let q : key_at w base (below key k xs) ≡ k = key-is w base (below key k xs) low (omega (arith, l)) ∙ keys (below key k xs) x (find_at key xs rising k x h) ∙ (found key xs k x h).1 in
      ap (λ (i : ℕ). cond (leb n i) 0 (cond (eqb (key_at w base i) k) (entry_at base i) 0)) (position-is n k e)
      ∙ ap (λ (b : Bool). cond b 0 (cond (eqb (key_at w base i) k) (entry_at base i) 0)) (lt-leb n (below key k xs) (omega (arith, e, l)))
      ∙ ap (λ (b : Bool). cond b (entry_at base i) 0) (eq-eqb (key_at w base (below key k xs)) k q)
      ∙ entry-is base (below key k xs) low (omega (arith, l))

  pub missing-is : (n k : ℕ) → n ≡ length xs → find key xs k ≡ none → found_at w base n k ≡ 0
  unfolding found_at
  missing-is n k e h = ap (λ (i : ℕ). cond (leb n i) 0 (cond (eqb (key_at w base i) k) (entry_at base i) 0)) (position-is n k e) ∙ go (dec_lt (below key k xs) (length xs))
    where
      go : Dec (below key k xs < length xs) → cond (leb n (below key k xs)) 0 (cond (eqb (key_at w base (below key k xs)) k) (entry_at base (below key k xs)) 0) ≡ 0
      go (yes l) =
          let s = nth-some xs (below key k xs) l in
          let q = key-is w base (below key k xs) low (omega (arith, l)) ∙ keys (below key k xs) s.0 s.1 in
          let d : key_at w base (below key k xs) ≡ k → ⊥ = λ z. find-not key xs rising k h (below key k xs) s.0 s.1 (sym q ∙ z) in
          ap₂ (λ (a b : Bool). cond a 0 (cond b (entry_at base (below key k xs)) 0)) (lt-leb n (below key k xs) (omega (arith, e, l))) (ne_eqb (key_at w base (below key k xs)) k d)
      go (no l) = ap (λ (b : Bool). cond b 0 (cond (eqb (key_at w base (below key k xs)) k) (entry_at base (below key k xs)) 0)) (le-leb n (below key k xs) (omega (arith, e, l)))

  -- the test of the code is the log's
  pub known_is : (n k : ℕ) → n ≡ length xs → 1 ≤ base → eqb (found_at w base n k) 0 ≡ not (present (find key xs k))
  known_is n k e h = go (find key xs k) refl
    where
      go : (o : Option A) → find key xs k ≡ o → eqb (found_at w base n k) 0 ≡ not (present o)
      go none q = eq-eqb (found_at w base n k) 0 (missing-is n k e q)
      go (some x) q = ne_eqb (found_at w base n k) 0 (λ z. omega (arith, found-is n k e x q))

-- ---- the search depends on the keys alone

narrowed-depends : (w w' : List ℕ) (base n k : ℕ) (p : Part) → base ≤ 1000000 → n ≤ 8191 → ((i : ℕ) → i < n → get_or w' (base + 32 * i) 0 ≡ get_or w (base + 32 * i) 0)
    → p.from + p.size ≤ n → 0 < p.size → narrowed w' base k p ≡ narrowed w base k p
unfolding narrowed
narrowed-depends w w' base n k p low few same h s = ap (λ (x : ℕ). cond (ltb x k) upper lower)
    (key-is w' base mid low (omega arith) ∙ same mid (omega arith) ∙ sym (key-is w base mid low (omega arith)))
  where
    mid : ℕ
    mid = p.from + p.size / 2

    upper : Part
    upper = record { from = p.from + p.size / 2 + 1; size = p.size - (p.size / 2 + 1) }

    lower : Part
    lower = record { from = p.from; size = p.size / 2 }

searched-depends : (f : ℕ) (w w' : List ℕ) (base n k : ℕ) (p : Part) → base ≤ 1000000 → n ≤ 8191 → ((i : ℕ) → i < n → get_or w' (base + 32 * i) 0 ≡ get_or w (base + 32 * i) 0)
    → p.from + p.size ≤ n → searched_in f w' base k p ≡ searched_in f w base k p
unfolding searched_in
searched-depends zero w w' base n k p low few same h = refl
searched-depends (suc f) w w' base n k p low few same h = go (ℕ_discrete p.size 0) (λ l. searched-depends f w w' base n k (narrowed w base k p) low few same l)
  where
    go : Dec (p.size ≡ 0) → (ends (narrowed w base k p) ≤ n → searched_in f w' base k (narrowed w base k p) ≡ searched_in f w base k (narrowed w base k p))
        → searched_in (suc f) w' base k p ≡ searched_in (suc f) w base k p
    go (yes e) ih = search-found (suc f) w' base k p e ∙ sym (search-found (suc f) w base k p e)
    go (no m) ih =
        let some : 0 < p.size = omega (arith, m) in
        ap (λ (x : ℕ). cond (eqb p.size 0) p.from x)
        (ap (λ (q : Part). searched_in f w' base k q) (narrowed-depends w w' base n k p low few same h some) ∙ ih (omega (arith, narrowed-within w base k p some)))

pub position-depends : (w w' : List ℕ) (base n k : ℕ) → base ≤ 1000000 → ((i : ℕ) → i < n → get_or w' (base + 32 * i) 0 ≡ get_or w (base + 32 * i) 0) → position w' base n k ≡ position w base n k
unfolding position
position-depends w w' base n k low same = go (ltb 8191 n) refl
  where
    go : (b : Bool) → ltb 8191 n ≡ b → cond b n (searched_in 13 w' base k (record { from = 0; size = n })) ≡ cond b n (searched_in 13 w base k (record { from = 0; size = n }))
    go true e = refl
    go false e = searched-depends 13 w w' base n k (record { from = 0; size = n }) low (ltb-false 8191 n e) same (omega arith)

pub found-depends : (w w' : List ℕ) (base n k : ℕ) → base ≤ 1000000 → ((i : ℕ) → i < n → get_or w' (base + 32 * i) 0 ≡ get_or w (base + 32 * i) 0) → n ≤ 8192 → found_at w' base n k ≡ found_at w base n k
unfolding found_at
found-depends w w' base n k low same few =
    ap (λ (i : ℕ). cond (leb n i) 0 (cond (eqb (key_at w' base i) k) (entry_at base i) 0)) (position-depends w w' base n k low same) ∙ go (leb n (position w base n k)) refl
  where
    go : (b : Bool) → leb n (position w base n k) ≡ b
        → cond b 0 (cond (eqb (key_at w' base (position w base n k)) k) (entry_at base (position w base n k)) 0) ≡ cond b 0 (cond (eqb (key_at w base (position w base n k)) k) (entry_at base (position w base n k)) 0)
    go true e = refl
    go false e =
        let i = position w base n k in
        let l : position w base n k < n = leb-false n (position w base n k) e in
        ap (λ (x : ℕ). cond (eqb x k) (entry_at base i) 0)
        (key-is w' base (position w base n k) low (omega arith) ∙ same (position w base n k) l ∙ sym (key-is w base (position w base n k) low (omega arith)))
