-- Positions, and with them the numbers of DPCs, after a record is put in, replaced, or records are taken out.
use Prim.Native.Nat.{ℕ, zero, suc, ◌+◌, ◌≤◌, ◌<◌}
use mathlib.Core.List.{List, [], ◌∷◌}
use mathlib.Core.Bool.{Bool, true, false, cond}
use mathlib.Core.Path.{◌≡◌, sym, ap, ap₂, ◌∙◌, subst}
use mathlib.Core.Option.{none, some}
use native.Mathlib.Omega.{arith}
use native.Mathlib.Decide.{ℕ_discrete, dec_lt}
use borrow.Author.Tests.{le-leb, lt-leb}
use lib.Dec.{leb}
use lib.ListN.{length}
use Rattle.dpc_table.specs.Table.{raised_number}
use Rattle.model.specs.Lists.{nth, keep}
use Rattle.model.specs.Table.{find, put, Rising}
use Rattle.model.proofs.ListLaws.{keep-yes}
use Rattle.model.proofs.TableLaws.{some_same, none-some, found, rising-put, rising-keep}
use Rattle.agreement_tables.specs.Tables.{below, kept_before, new_number_of}
use Rattle.agreement_tables.proofs.Lists.{below-yes, below-no, above-nth, find_at, find-in, put-new, put-known}

-- ---- a number, where a record is put in at a position

pub raised-zero : (b : ℕ) → raised_number 0 b ≡ 0
unfolding raised_number
raised-zero b = ap (λ (c : Bool). cond c 0 (cond (leb 4096 0) 0 (0 + 1))) (le-leb 0 b (omega arith))

pub raised-before : (j b : ℕ) → j < b → raised_number (suc j) b ≡ suc j
unfolding raised_number
raised-before j b h = ap (λ (c : Bool). cond c (suc j) (cond (leb 4096 (suc j)) (suc j) (suc j + 1))) (le-leb (suc j) b h)

pub raised-behind : (j b : ℕ) → b ≤ j → suc j < 4096 → raised_number (suc j) b ≡ suc (suc j)
unfolding raised_number
raised-behind j b h l =
    ap₂ (λ (c e : Bool). cond c (suc j) (cond e (suc j) (suc j + 1))) (lt-leb (suc j) b (omega arith)) (lt-leb 4096 (suc j) l) ∙ (let z : suc j + 1 ≡ suc (suc j) = omega arith in z)

-- ---- the position of a key

module _ {A : Type 0} (key : A → ℕ) where
  -- a record stands at the position of its key
  pub below-nth : (xs : List A) → Rising key xs → (i : ℕ) (x : A) → nth xs i ≡ some x → below key (key x) xs ≡ i
  below-nth [] r i x e = absurd (none-some x e)
  below-nth (y ∷ ys) r zero x e = below-no key (key x) y ys (subst (λ (z : A). key x ≤ key z) (sym (some_same y x e)) (omega arith))
  below-nth (y ∷ ys) r (suc i) x e = below-yes key (key x) y ys (above-nth key (key y) ys r.0 i x e) ∙ ap suc (below-nth ys r.1 i x e)

  below_at : (xs : List A) → Rising key xs → (a i : ℕ) (x : A) → key x ≡ a → nth xs i ≡ some x → below key a xs ≡ i
  below_at xs r a i x q e = ap (λ (k : ℕ). below key k xs) (sym q) ∙ below-nth xs r i x e

  -- ---- put in

  module _ (x : A) (xs : List A) (rising : Rising key xs) (new : find key xs (key x) ≡ none) (a : ℕ) (y : A) (known : find key xs a ≡ some y) where
    pub below-put-before : below key a xs < below key (key x) xs → below key a (put key x xs) ≡ below key a xs
    below-put-before h =
        below_at (put key x xs) (rising-put key x xs rising) a (below key a xs) y (found key xs a y known).1
        ((put-new key x xs new).before (below key a xs) h ∙ find_at key xs rising a y known)

    pub below-put-behind : below key (key x) xs ≤ below key a xs → below key a (put key x xs) ≡ suc (below key a xs)
    below-put-behind h =
        below_at (put key x xs) (rising-put key x xs rising) a (suc (below key a xs)) y (found key xs a y known).1
        ((put-new key x xs new).behind (below key a xs) h ∙ find_at key xs rising a y known)

    -- the number of a record, its position and one more, is raised
    pub number_put : length xs < 4096 → suc (below key a (put key x xs)) ≡ raised_number (suc (below key a xs)) (below key (key x) xs)
    number_put few = go (dec_lt (below key a xs) (below key (key x) xs))
      where
        go : Dec (below key a xs < below key (key x) xs) → suc (below key a (put key x xs)) ≡ raised_number (suc (below key a xs)) (below key (key x) xs)
        go (yes h) = ap suc (below-put-before h) ∙ sym (raised-before (below key a xs) (below key (key x) xs) h)
        go (no h) =
            let l = find-in key xs rising a y known in
            ap suc (below-put-behind (omega (arith, h))) ∙ sym (raised-behind (below key a xs) (below key (key x) xs) (omega (arith, h)) (omega (arith, l)))

  -- ---- replaced: the positions stay

  pub below-put-known : (x : A) (xs : List A) → Rising key xs → (z : A) → find key xs (key x) ≡ some z → (a : ℕ) (y : A) → find key xs a ≡ some y → below key a (put key x xs) ≡ below key a xs
  below-put-known x xs r z e a y known = go (ℕ_discrete (below key a xs) (below key (key x) xs))
    where
      go : Dec (below key a xs ≡ below key (key x) xs) → below key a (put key x xs) ≡ below key a xs
      go (yes q) =
          let s : y ≡ z = some_same y z (sym (find_at key xs r a y known) ∙ ap (nth xs) q ∙ find_at key xs r (key x) z e) in
          let k : key x ≡ a = sym (found key xs (key x) z e).1 ∙ ap key (sym s) ∙ (found key xs a y known).1 in
          below_at (put key x xs) (rising-put key x xs r) a (below key a xs) x k (ap (nth (put key x xs)) q ∙ (put-known key x xs r z e).own)
      go (no n) =
          below_at (put key x xs) (rising-put key x xs r) a (below key a xs) y (found key xs a y known).1
          ((put-known key x xs r z e).others (below key a xs) n ∙ find_at key xs r a y known)

-- ---- taken out

module _ {A : Type 0} (f : A → Bool) where
  -- one that stays stands behind those before it that stay
  pub nth-keep : (xs : List A) (i : ℕ) (x : A) → nth xs i ≡ some x → f x ≡ true → nth (keep f xs) (kept_before f xs i) ≡ some x
  nth-keep [] i x e t = absurd (none-some x e)
  nth-keep (y ∷ ys) zero x e t = ap (λ (l : List A). nth l 0) (keep-yes f y ys (ap f (some_same y x e) ∙ t)) ∙ e
  nth-keep (y ∷ ys) (suc i) x e t = go (f y) (nth-keep ys i x e t)
    where
      go : (b : Bool) → nth (keep f ys) (kept_before f ys i) ≡ some x → nth (cond b (y ∷ keep f ys) (keep f ys)) (cond b 1 0 + kept_before f ys i) ≡ some x
      go true h = ap (λ (j : ℕ). nth (y ∷ keep f ys) j) (let z : 1 + kept_before f ys i ≡ suc (kept_before f ys i) = omega arith in z) ∙ h
      go false h = ap (λ (j : ℕ). nth (keep f ys) j) (let z : 0 + kept_before f ys i ≡ kept_before f ys i = omega arith in z) ∙ h

  pub kept-before-le : (xs : List A) (i : ℕ) → kept_before f xs i ≤ i
  kept-before-le [] i = omega arith
  kept-before-le (y ∷ ys) zero = omega arith
  kept-before-le (y ∷ ys) (suc i) = go (f y) (kept-before-le ys i)
    where
      go : (b : Bool) → kept_before f ys i ≤ i → cond b 1 0 + kept_before f ys i ≤ suc i
      go true h = omega arith
      go false h = omega arith

  module _ (key : A → ℕ) where
    pub below-keep : (xs : List A) → Rising key xs → (a : ℕ) (y : A) → find key xs a ≡ some y → f y ≡ true → below key a (keep f xs) ≡ kept_before f xs (below key a xs)
    below-keep xs r a y known t =
        below_at key (keep f xs) (rising-keep key f xs r) a (kept_before f xs (below key a xs)) y (found key xs a y known).1 (nth-keep xs (below key a xs) y (find_at key xs r a y known) t)

    -- so the number of a record that stays is the new number
    pub number-keep : (xs : List A) → Rising key xs → (a : ℕ) (y : A) → find key xs a ≡ some y → f y ≡ true → suc (below key a (keep f xs)) ≡ new_number_of f xs (suc (below key a xs))
    number-keep xs r a y known t = ap suc (below-keep xs r a y known t)
