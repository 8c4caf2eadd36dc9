-- Laws of tables: lists that rise by a key.
use Prim.Native.Nat.{ℕ, suc, ◌+◌, ◌≤◌, ◌<◌}
use mathlib.Core.List.{List, [], ◌∷◌}
use mathlib.Core.Bool.{Bool, true, false, cond}
use mathlib.Core.Path.{◌≡◌, refl, sym, ap, ◌∙◌, subst}
use mathlib.Core.Logic.{◌⊎◌, inl, inr, ⊎_elim}
use mathlib.Core.Option.{Option, none, some}
use native.Mathlib.Omega.{arith}
use native.Mathlib.Decide.{ℕ_discrete}
use borrow.Author.Tests.{eq-eqb, ne_eqb, eqb-true, eqb-false, ltb-true, ltb-false}
use lib.Dec.{eqb, ltb}
use lib.ListN.{length}
use Rattle.model.specs.Lists.{keep, count_of, Mem}
use Rattle.model.specs.Table.{find, put, Above, Rising}
use Rattle.model.specs.Valid.{Each}
use Rattle.model.proofs.ListLaws.{not-both, mem-keep}

module _ {A : Type 0} where
  pub some_same : (x y : A) → some x ≡ some y → x ≡ y
  some_same x y e = cc

  pub none-some : (x : A) → none ≡ some x → ⊥
  none-some x e = let z : true ≡ false = ap not_there e in not-both z
    where
      not_there : Option A → Bool
      not_there none = true
      not_there (some y) = false

module _ {A : Type 0} (key : A → ℕ) where
  find-here : (x : A) (xs : List A) (k : ℕ) → key x ≡ k → find key (x ∷ xs) k ≡ some x
  find-here x xs k e = ap (λ (b : Bool). cond b (some x) (find key xs k)) (eq-eqb (key x) k e)

  find-skip : (x : A) (xs : List A) (k : ℕ) → (key x ≡ k → ⊥) → find key (x ∷ xs) k ≡ find key xs k
  find-skip x xs k n = ap (λ (b : Bool). cond b (some x) (find key xs k)) (ne_eqb (key x) k n)

  -- what is found stands in the list, and has the key
  pub found : (l : List A) (k : ℕ) (x : A) → find key l k ≡ some x → (Mem x l) × (key x ≡ k)
  found [] k x e = absurd (none-some x e)
  found (y ∷ ys) k x e = go (eqb (key y) k) refl e (found ys k x)
    where
      go : (b : Bool) → eqb (key y) k ≡ b → cond b (some y) (find key ys k) ≡ some x → (find key ys k ≡ some x → (Mem x ys) × (key x ≡ k)) → (Mem x (y ∷ ys)) × (key x ≡ k)
      go true q h ih = let z : y ≡ x = some_same y x h in (inl (sym z), ap key (sym z) ∙ eqb-true (key y) k q)
      go false q h ih = let r = ih h in (inr r.0, r.1)

  above-mem : (k : ℕ) (l : List A) → Above key k l → (x : A) → Mem x l → k < key x
  above-mem k [] a x m = absurd m
  above-mem k (y ∷ ys) a x (inl e) = subst (λ (z : A). k < key z) (sym e) a.0
  above-mem k (y ∷ ys) a x (inr m) = above-mem k ys a.1 x m

  mem-above : (k : ℕ) (l : List A) → ((x : A) → Mem x l → k < key x) → Above key k l
  mem-above k [] h = tt
  mem-above k (y ∷ ys) h = (h y (inl refl), mem-above k ys (λ x m. h x (inr m)))

  -- in a rising list each is found by its key
  pub mem-found : (l : List A) → Rising key l → (x : A) → Mem x l → find key l (key x) ≡ some x
  mem-found [] r x m = absurd m
  mem-found (y ∷ ys) r x (inl e) = find-here y ys (key x) (ap key (sym e)) ∙ ap some (sym e)
  mem-found (y ∷ ys) r x (inr m) =
      find-skip y ys (key x) (λ e. omega (arith, e, above-mem (key y) ys r.0 x m)) ∙ mem-found ys r.1 x m

  pub absent : (l : List A) (k : ℕ) → ((x : A) → Mem x l → key x ≡ k → ⊥) → find key l k ≡ none
  absent [] k h = refl
  absent (y ∷ ys) k h = find-skip y ys k (h y (inl refl)) ∙ absent ys k (λ x m. h x (inr m))

  -- ---- `put`

  pub find-put-own : (x : A) (l : List A) → find key (put key x l) (key x) ≡ some x
  find-put-own x [] = find-here x [] (key x) refl
  find-put-own x (y ∷ ys) = go (ltb (key x) (key y)) (eqb (key y) (key x)) refl (find-put-own x ys)
    where
      go : (a b : Bool) → eqb (key y) (key x) ≡ b → find key (put key x ys) (key x) ≡ some x
          → find key (cond a (x ∷ y ∷ ys) (cond b (x ∷ ys) (y ∷ put key x ys))) (key x) ≡ some x
      go true b e ih = find-here x (y ∷ ys) (key x) refl
      go false true e ih = find-here x ys (key x) refl
      go false false e ih = find-skip y (put key x ys) (key x) (eqb-false (key y) (key x) e) ∙ ih

  pub find-put-other : (x : A) (l : List A) (k : ℕ) → (k ≡ key x → ⊥) → find key (put key x l) k ≡ find key l k
  find-put-other x [] k n = find-skip x [] k (λ e. n (sym e))
  find-put-other x (y ∷ ys) k n = go (ltb (key x) (key y)) (eqb (key y) (key x)) refl (find-put-other x ys k n)
    where
      go : (a b : Bool) → eqb (key y) (key x) ≡ b → find key (put key x ys) k ≡ find key ys k
          → find key (cond a (x ∷ y ∷ ys) (cond b (x ∷ ys) (y ∷ put key x ys))) k ≡ find key (y ∷ ys) k
      go true b e ih = find-skip x (y ∷ ys) k (λ q. n (sym q))
      go false true e ih = find-skip x ys k (λ q. n (sym q)) ∙ sym (find-skip y ys k (λ q. n (sym q ∙ eqb-true (key y) (key x) e)))
      go false false e ih = ap (λ (o : Option A). cond (eqb (key y) k) (some y) o) ih

  pub mem-put : (x : A) (l : List A) (z : A) → Mem z (put key x l) → (z ≡ x) ⊎ Mem z l
  mem-put x [] z m = m
  mem-put x (y ∷ ys) z m = go (ltb (key x) (key y)) (eqb (key y) (key x)) m (mem-put x ys z)
    where
      go : (a b : Bool) → Mem z (cond a (x ∷ y ∷ ys) (cond b (x ∷ ys) (y ∷ put key x ys))) → (Mem z (put key x ys) → (z ≡ x) ⊎ Mem z ys) → (z ≡ x) ⊎ Mem z (y ∷ ys)
      go true b h ih = h
      go false true (inl e) ih = inl e
      go false true (inr h) ih = inr (inr h)
      go false false (inl e) ih = inr (inl e)
      go false false (inr h) ih = ⊎_elim (λ (e : z ≡ x). inl e) (λ (q : Mem z ys). inr (inr q)) (ih h)

  pub rising-put : (x : A) (l : List A) → Rising key l → Rising key (put key x l)
  rising-put x [] r = (tt, tt)
  rising-put x (y ∷ ys) r = go (ltb (key x) (key y)) (eqb (key y) (key x)) refl refl (rising-put x ys r.1)
    where
      go : (a b : Bool) → ltb (key x) (key y) ≡ a → eqb (key y) (key x) ≡ b → Rising key (put key x ys)
          → Rising key (cond a (x ∷ y ∷ ys) (cond b (x ∷ ys) (y ∷ put key x ys)))
      go true b p q ih =
          let h : key x < key y = ltb-true (key x) (key y) p in
          (mem-above (key x) (y ∷ ys) (λ z m. over z m h), r)
        where
          over : (z : A) → Mem z (y ∷ ys) → key x < key y → key x < key z
          over z (inl e) h = subst (λ (u : A). key x < key u) (sym e) h
          over z (inr m) h = omega (arith, h, above-mem (key y) ys r.0 z m)
      go false true p q ih =
          let e : key y ≡ key x = eqb-true (key y) (key x) q in
          (mem-above (key x) ys (λ z m. omega (arith, e, above-mem (key y) ys r.0 z m)), r.1)
      go false false p q ih =
          let h : key y ≤ key x = ltb-false (key x) (key y) p in
          let n : key y ≡ key x → ⊥ = eqb-false (key y) (key x) q in (
            mem-above (key y) (put key x ys) (λ z m. ⊎_elim (λ (e : z ≡ x). subst (λ (u : A). key y < key u) (sym e) (omega (arith, h, n)))
                (λ (w : Mem z ys). above-mem (key y) ys r.0 z w) (mem-put x ys z m)),
            ih,
          )

  -- ---- `keep`

  pub rising-keep : (f : A → Bool) (l : List A) → Rising key l → Rising key (keep f l)
  rising-keep f [] r = tt
  rising-keep f (y ∷ ys) r = go (f y) (rising-keep f ys r.1)
    where
      go : (b : Bool) → Rising key (keep f ys) → Rising key (cond b (y ∷ keep f ys) (keep f ys))
      go true h = (mem-above (key y) (keep f ys) (λ x m. above-mem (key y) ys r.0 x (mem-keep f x ys m).0), h)
      go false h = h

  pub find-kept : (f : A → Bool) (l : List A) (k : ℕ) (x : A) → find key l k ≡ some x → f x ≡ true → find key (keep f l) k ≡ some x
  find-kept f [] k x e t = e
  find-kept f (y ∷ ys) k x e t = go (f y) (eqb (key y) k) refl refl e (λ h. find-kept f ys k x h t)
    where
      go : (a b : Bool) → f y ≡ a → eqb (key y) k ≡ b → cond b (some y) (find key ys k) ≡ some x → (find key ys k ≡ some x → find key (keep f ys) k ≡ some x)
          → find key (cond a (y ∷ keep f ys) (keep f ys)) k ≡ some x
      go true true p q h ih = find-here y (keep f ys) k (eqb-true (key y) k q) ∙ h
      go true false p q h ih = find-skip y (keep f ys) k (eqb-false (key y) k q) ∙ ih h
      go false true p q h ih = absurd (not-both (sym t ∙ ap f (sym (some_same y x h)) ∙ p))
      go false false p q h ih = ih h

  -- what is found among those kept was found before, and passes the test
  pub kept-found : (f : A → Bool) (l : List A) → Rising key l → (k : ℕ) (x : A) → find key (keep f l) k ≡ some x → (find key l k ≡ some x) × (f x ≡ true)
  kept-found f l r k x e =
      let h = found (keep f l) k x e in
      let m = mem-keep f x l h.0 in
      (ap (find key l) (sym h.1) ∙ mem-found l r x m.0, m.1)

  -- ---- every record

  module _ (P : A → Type 0) where
    pub each-put : (x : A) (l : List A) → P x → Each key l P → Each key (put key x l) P
    each-put x l px h k z e = elim (ℕ_discrete k (key x)) [
      | yes q ↦ subst P (some_same x z (sym (find-put-own x l) ∙ ap (find key (put key x l)) (sym q) ∙ e)) px
      | no n ↦ h k z (sym (find-put-other x l k n) ∙ e)
    ]

    pub each_keep : (f : A → Bool) (l : List A) → Rising key l → Each key l P → Each key (keep f l) P
    each_keep f l r h k z e = h k z (kept-found f l r k z e).0

    pub each-mem : (l : List A) → Rising key l → Each key l P → (x : A) → Mem x l → P x
    each-mem l r h x m = h (key x) x (mem-found l r x m)

  -- ---- how many

  pub length-put : (x : A) (l : List A) → length (put key x l) ≤ suc (length l)
  length-put x [] = omega arith
  length-put x (y ∷ ys) = go (ltb (key x) (key y)) (eqb (key y) (key x)) (length-put x ys)
    where
      go : (a b : Bool) → length (put key x ys) ≤ suc (length ys) → length (cond a (x ∷ y ∷ ys) (cond b (x ∷ ys) (y ∷ put key x ys))) ≤ suc (suc (length ys))
      go true b h = omega arith
      go false true h = omega arith
      go false false h = omega arith

  pub length-put-known : (x : A) (l : List A) → Rising key l → (z : A) → find key l (key x) ≡ some z → length (put key x l) ≡ length l
  length-put-known x [] r z e = absurd (none-some z e)
  length-put-known x (y ∷ ys) r z e = go (ltb (key x) (key y)) (eqb (key y) (key x)) refl refl e (λ h. length-put-known x ys r.1 z h)
    where
      go : (a b : Bool) → ltb (key x) (key y) ≡ a → eqb (key y) (key x) ≡ b → cond b (some y) (find key ys (key x)) ≡ some z → (find key ys (key x) ≡ some z → length (put key x ys) ≡ length ys)
          → length (cond a (x ∷ y ∷ ys) (cond b (x ∷ ys) (y ∷ put key x ys))) ≡ suc (length ys)
      go true true p q h ih = absurd (omega (arith, ltb-true (key x) (key y) p, eqb-true (key y) (key x) q))
      go true false p q h ih = let m = found ys (key x) z h in absurd (omega (arith, ltb-true (key x) (key y) p, above-mem (key y) ys r.0 z m.0, m.1))
      go false true p q h ih = refl
      go false false p q h ih = ap suc (ih h)

  pub count-put-known : (f : A → Bool) (x : A) (l : List A) → Rising key l → (z : A) → find key l (key x) ≡ some z
      → count_of f (put key x l) + cond (f z) 1 0 ≡ count_of f l + cond (f x) 1 0
  count-put-known f x [] r z e = absurd (none-some z e)
  count-put-known f x (y ∷ ys) r z e = go (ltb (key x) (key y)) (eqb (key y) (key x)) refl refl e (λ h. count-put-known f x ys r.1 z h)
    where
      go : (a b : Bool) → ltb (key x) (key y) ≡ a → eqb (key y) (key x) ≡ b → cond b (some y) (find key ys (key x)) ≡ some z
          → (find key ys (key x) ≡ some z → count_of f (put key x ys) + cond (f z) 1 0 ≡ count_of f ys + cond (f x) 1 0)
          → count_of f (cond a (x ∷ y ∷ ys) (cond b (x ∷ ys) (y ∷ put key x ys))) + cond (f z) 1 0 ≡ cond (f y) 1 0 + count_of f ys + cond (f x) 1 0
      go true true p q h ih = absurd (omega (arith, ltb-true (key x) (key y) p, eqb-true (key y) (key x) q))
      go true false p q h ih = let m = found ys (key x) z h in absurd (omega (arith, ltb-true (key x) (key y) p, above-mem (key y) ys r.0 z m.0, m.1))
      go false true p q h ih =
          let w : ◌≡◌ {A = ℕ} (cond (f y) 1 0) (cond (f z) 1 0) = ap {B = ℕ} (λ (u : A). cond (f u) 1 0) (some_same y z h) in
          omega (arith, w)
      go false false p q h ih = omega (arith, ih h)

  pub count-put-new : (f : A → Bool) (x : A) (l : List A) → find key l (key x) ≡ none → count_of f (put key x l) ≡ count_of f l + cond (f x) 1 0
  count-put-new f x [] e = omega arith
  count-put-new f x (y ∷ ys) e = go (ltb (key x) (key y)) (eqb (key y) (key x)) e (count-put-new f x ys)
    where
      go : (a b : Bool) → cond b (some y) (find key ys (key x)) ≡ none → (find key ys (key x) ≡ none → count_of f (put key x ys) ≡ count_of f ys + cond (f x) 1 0)
          → count_of f (cond a (x ∷ y ∷ ys) (cond b (x ∷ ys) (y ∷ put key x ys))) ≡ cond (f y) 1 0 + count_of f ys + cond (f x) 1 0
      go true true h ih = absurd (none-some y (sym h))
      go true false h ih = omega arith
      go false true h ih = absurd (none-some y (sym h))
      go false false h ih = omega (arith, ih h)

  -- who does not stay does not count
  pub count-keep : (f g : A → Bool) (l : List A) → ((x : A) → Mem x l → g x ≡ false → f x ≡ false) → count_of f (keep g l) ≡ count_of f l
  count-keep f g [] h = refl
  count-keep f g (y ∷ ys) h = go (g y) refl (count-keep f g ys (λ x m. h x (inr m)))
    where
      go : (b : Bool) → g y ≡ b → count_of f (keep g ys) ≡ count_of f ys → count_of f (cond b (y ∷ keep g ys) (keep g ys)) ≡ cond (f y) 1 0 + count_of f ys
      go true p ih = omega (arith, ih)
      go false p ih = let w : ◌≡◌ {A = ℕ} (cond (f y) 1 0) 0 = ap {B = ℕ} (λ (b : Bool). cond b 1 0) (h y (inl refl) p) in omega (arith, ih, w)
