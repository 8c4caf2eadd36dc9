-- The position of a key in a rising list: where it is found, and where a new record is put.
use Prim.Native.Nat.{ℕ, zero, suc, ◌≤◌, ◌<◌}
use mathlib.Core.List.{List, [], ◌∷◌, ◌++◌}
use mathlib.Core.Bool.{Bool, true, false, cond}
use mathlib.Core.Path.{◌≡◌, refl, sym, ap, ◌∙◌, subst}
use mathlib.Core.Logic.{◌⊎◌, inl, inr, ⊎_elim}
use mathlib.Core.Option.{none, some}
use native.Mathlib.Omega.{arith}
use borrow.Author.Tests.{lt-ltb, le-ltb, eqb-true, eqb-false, ltb-true, ltb-false}
use lib.Dec.{eqb, ltb}
use lib.ListN.{length}
use Rattle.model.specs.Lists.{nth, Mem}
use Rattle.model.specs.Table.{find, put, Above, Rising}
use Rattle.model.proofs.TableLaws.{some_same, none-some, mem-found, found}
use Rattle.agreement_tables.specs.Tables.{below}

-- ---- `nth`

module _ {A : Type 0} where
  pub nth_in : (xs : List A) (i : ℕ) (x : A) → nth xs i ≡ some x → i < length xs
  nth_in [] i x e = absurd (none-some x e)
  nth_in (y ∷ ys) zero x e = omega arith
  nth_in (y ∷ ys) (suc i) x e = let h = nth_in ys i x e in omega arith

  pub nth-some : (xs : List A) (i : ℕ) → i < length xs → (x : A) × (nth xs i ≡ some x)
  nth-some [] i h = absurd (omega arith)
  nth-some (y ∷ ys) zero h = (y, refl)
  nth-some (y ∷ ys) (suc i) h = nth-some ys i (omega arith)

  pub nth-none : (xs : List A) (i : ℕ) → length xs ≤ i → nth xs i ≡ none
  nth-none [] i h = refl
  nth-none (y ∷ ys) zero h = absurd (omega arith)
  nth-none (y ∷ ys) (suc i) h = nth-none ys i (omega arith)

  pub nth-mem : (xs : List A) (i : ℕ) (x : A) → nth xs i ≡ some x → Mem x xs
  nth-mem [] i x e = absurd (none-some x e)
  nth-mem (y ∷ ys) zero x e = inl (sym (some_same y x e))
  nth-mem (y ∷ ys) (suc i) x e = inr (nth-mem ys i x e)

  -- the last of a list, or one before it
  pub nth_last : (xs : List A) (y : A) (i : ℕ) (x : A) → nth (xs ++ (y ∷ [])) i ≡ some x → (nth xs i ≡ some x) ⊎ ((i ≡ length xs) × (x ≡ y))
  nth_last [] y zero x e = inr (refl, sym (some_same y x e))
  nth_last [] y (suc i) x e = absurd (none-some x e)
  nth_last (z ∷ zs) y zero x e = inl e
  nth_last (z ∷ zs) y (suc i) x e = ⊎_elim (λ (a : nth zs i ≡ some x). inl a) (λ (b : (i ≡ length zs) × (x ≡ y)). inr (ap suc b.0, b.1)) (nth_last zs y i x e)

-- ---- `below`

module _ {A : Type 0} (key : A → ℕ) where
  pub below-yes : (k : ℕ) (x : A) (xs : List A) → key x < k → below key k (x ∷ xs) ≡ suc (below key k xs)
  below-yes k x xs h = ap {B = ℕ} (λ (b : Bool). cond b (suc (below key k xs)) 0) (lt-ltb (key x) k h)

  pub below-no : (k : ℕ) (x : A) (xs : List A) → k ≤ key x → below key k (x ∷ xs) ≡ 0
  below-no k x xs h = ap {B = ℕ} (λ (b : Bool). cond b (suc (below key k xs)) 0) (le-ltb (key x) k h)

  pub below-le : (k : ℕ) (xs : List A) → below key k xs ≤ length xs
  below-le k [] = omega arith
  below-le k (x ∷ xs) = go (ltb (key x) k) (below-le k xs)
    where
      go : (b : Bool) → below key k xs ≤ length xs → cond b (suc (below key k xs)) 0 ≤ suc (length xs)
      go true h = omega arith
      go false h = omega arith

  pub above-nth : (k : ℕ) (xs : List A) → Above key k xs → (i : ℕ) (x : A) → nth xs i ≡ some x → k < key x
  above-nth k [] a i x e = absurd (none-some x e)
  above-nth k (y ∷ ys) a zero x e = subst (λ (z : A). k < key z) (some_same y x e) a.0
  above-nth k (y ∷ ys) a (suc i) x e = above-nth k ys a.1 i x e

  -- a record with a lower key stands before the position
  pub below_more : (k : ℕ) (xs : List A) → Rising key xs → (i : ℕ) (x : A) → nth xs i ≡ some x → key x < k → i < below key k xs
  below_more k [] r i x e h = absurd (none-some x e)
  below_more k (y ∷ ys) r zero x e h =
      let q = below-yes k y ys (subst (λ (z : A). key z < k) (sym (some_same y x e)) h) in omega (arith, q)
  below_more k (y ∷ ys) r (suc i) x e h =
      let q = below-yes k y ys (omega (arith, above-nth (key y) ys r.0 i x e)) in
      omega (arith, q, below_more k ys r.1 i x e h)

  -- one with no lower key does not
  pub below_less : (k : ℕ) (xs : List A) (i : ℕ) (x : A) → nth xs i ≡ some x → k ≤ key x → below key k xs ≤ i
  below_less k [] i x e h = omega arith
  below_less k (y ∷ ys) zero x e h = let q = below-no k y ys (subst (λ (z : A). k ≤ key z) (sym (some_same y x e)) h) in omega (arith, q)
  below_less k (y ∷ ys) (suc i) x e h = go (ltb (key y) k) (below_less k ys i x e h)
    where
      go : (b : Bool) → below key k ys ≤ i → cond b (suc (below key k ys)) 0 ≤ suc i
      go true h = omega arith
      go false h = omega arith

  -- ---- `find`

  pub find-nth : (xs : List A) → Rising key xs → (i : ℕ) (x : A) → nth xs i ≡ some x → find key xs (key x) ≡ some x
  find-nth xs r i x e = mem-found key xs r x (nth-mem xs i x e)

  -- what is found stands at the position of its key
  pub find_at : (xs : List A) → Rising key xs → (k : ℕ) (x : A) → find key xs k ≡ some x → nth xs (below key k xs) ≡ some x
  find_at [] r k x e = absurd (none-some x e)
  find_at (y ∷ ys) r k x e = go (eqb (key y) k) refl e (find_at ys r.1 k x)
    where
      go : (b : Bool) → eqb (key y) k ≡ b → cond b (some y) (find key ys k) ≡ some x → (find key ys k ≡ some x → nth ys (below key k ys) ≡ some x)
          → nth (y ∷ ys) (below key k (y ∷ ys)) ≡ some x
      go true q h ih = ap (nth (y ∷ ys)) (below-no k y ys (omega (arith, eqb-true (key y) k q))) ∙ h
      go false q h ih =
          let m = ih h in
          let a = above-nth (key y) ys r.0 (below key k ys) x m in
          ap (nth (y ∷ ys)) (below-yes k y ys (omega (arith, a, (found key ys k x h).1))) ∙ m

  pub find-in : (xs : List A) → Rising key xs → (k : ℕ) (x : A) → find key xs k ≡ some x → below key k xs < length xs
  find-in xs r k x e = nth_in xs (below key k xs) x (find_at xs r k x e)

  -- where none is found, the one at the position has another key
  pub find-not : (xs : List A) → Rising key xs → (k : ℕ) → find key xs k ≡ none → (i : ℕ) (x : A) → nth xs i ≡ some x → key x ≡ k → ⊥
  find-not xs r k e i x h q = none-some x (sym e ∙ ap (find key xs) (sym q) ∙ find-nth xs r i x h)

  -- ---- `put`

  -- a new record: those before its position, its own, and those behind it
  pub record New (x : A) (xs : List A) (b : ℕ) (ys : List A) : Type 0 where
    pub before : (j : ℕ) → j < b → nth ys j ≡ nth xs j
    pub own : nth ys b ≡ some x
    pub behind : (j : ℕ) → b ≤ j → nth ys (suc j) ≡ nth xs j
    pub size : length ys ≡ suc (length xs)

  pub put-new : (x : A) (xs : List A) → find key xs (key x) ≡ none → New x xs (below key (key x) xs) (put key x xs)
  put-new x [] e = record { before = λ j h. absurd (omega arith); own = refl; behind = λ j h. refl; size = refl }
  put-new x (y ∷ ys) e = go (ltb (key x) (key y)) (eqb (key y) (key x)) (ltb (key y) (key x)) refl refl refl e (put-new x ys)
    where
      go : (a b c : Bool) → ltb (key x) (key y) ≡ a → eqb (key y) (key x) ≡ b → ltb (key y) (key x) ≡ c → cond b (some y) (find key ys (key x)) ≡ none
          → (find key ys (key x) ≡ none → New x ys (below key (key x) ys) (put key x ys))
          → New x (y ∷ ys) (cond c (suc (below key (key x) ys)) 0) (cond a (x ∷ y ∷ ys) (cond b (x ∷ ys) (y ∷ put key x ys)))
      go a true c p q r h ih = absurd (none-some y (sym h))
      go true false true p q r h ih = absurd (omega (arith, ltb-true (key x) (key y) p, ltb-true (key y) (key x) r))
      go true false false p q r h ih = record { before = λ j l. absurd (omega arith); own = refl; behind = λ j l. refl; size = refl }
      go false false true p q r h ih = let n = ih h in record { before = early n; own = n.own; behind = late n; size = ap suc n.size }
        where
          early : New x ys (below key (key x) ys) (put key x ys) → (j : ℕ) → j < suc (below key (key x) ys) → nth (y ∷ put key x ys) j ≡ nth (y ∷ ys) j
          early n zero l = refl
          early n (suc j) l = n.before j (omega arith)

          late : New x ys (below key (key x) ys) (put key x ys) → (j : ℕ) → suc (below key (key x) ys) ≤ j → nth (y ∷ put key x ys) (suc j) ≡ nth (y ∷ ys) j
          late n zero l = absurd (omega arith)
          late n (suc j) l = n.behind j (omega arith)
      go false false false p q r h ih =
          absurd (omega (arith, ltb-false (key x) (key y) p, ltb-false (key y) (key x) r, eqb-false (key y) (key x) q))

  -- a known key: its own record, and the others as before
  pub record Replaced (x : A) (xs : List A) (b : ℕ) (ys : List A) : Type 0 where
    pub own : nth ys b ≡ some x
    pub others : (j : ℕ) → (j ≡ b → ⊥) → nth ys j ≡ nth xs j

  pub put-known : (x : A) (xs : List A) → Rising key xs → (z : A) → find key xs (key x) ≡ some z → Replaced x xs (below key (key x) xs) (put key x xs)
  put-known x [] r z e = absurd (none-some z e)
  put-known x (y ∷ ys) r z e = go (ltb (key x) (key y)) (eqb (key y) (key x)) (ltb (key y) (key x)) refl refl refl e (put-known x ys r.1 z)
    where
      over : find key ys (key x) ≡ some z → key y < key x
      over h =
          let m = found key ys (key x) z h in
          let a = above-nth (key y) ys r.0 (below key (key x) ys) z (find_at ys r.1 (key x) z h) in omega (arith, m.1)

      go : (a b c : Bool) → ltb (key x) (key y) ≡ a → eqb (key y) (key x) ≡ b → ltb (key y) (key x) ≡ c → cond b (some y) (find key ys (key x)) ≡ some z
          → (find key ys (key x) ≡ some z → Replaced x ys (below key (key x) ys) (put key x ys))
          → Replaced x (y ∷ ys) (cond c (suc (below key (key x) ys)) 0) (cond a (x ∷ y ∷ ys) (cond b (x ∷ ys) (y ∷ put key x ys)))
      go true true c p q s h ih = absurd (omega (arith, ltb-true (key x) (key y) p, eqb-true (key y) (key x) q))
      go true false c p q s h ih = absurd (omega (arith, ltb-true (key x) (key y) p, over h))
      go false true true p q s h ih = absurd (omega (arith, ltb-true (key y) (key x) s, eqb-true (key y) (key x) q))
      go false true false p q s h ih = record { own = refl; others = rest }
        where
          rest : (j : ℕ) → (j ≡ 0 → ⊥) → nth (x ∷ ys) j ≡ nth (y ∷ ys) j
          rest zero n = absurd (n refl)
          rest (suc j) n = refl
      go false false true p q s h ih = let n = ih h in record { own = n.own; others = rest n }
        where
          rest : Replaced x ys (below key (key x) ys) (put key x ys) → (j : ℕ) → (j ≡ suc (below key (key x) ys) → ⊥) → nth (y ∷ put key x ys) j ≡ nth (y ∷ ys) j
          rest n zero m = refl
          rest n (suc j) m = n.others j (λ e. m (ap suc e))
      go false false false p q s h ih = absurd (omega (arith, ltb-false (key y) (key x) s, over h))
