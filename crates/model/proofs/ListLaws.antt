-- Laws of lists.
use Prim.Native.Nat.{ℕ, zero, suc, ◌≤◌, ◌<◌, max}
use mathlib.Core.List.{List, [], ◌∷◌, ◌++◌}
use mathlib.Core.Bool.{Bool, true, false, cond, not}
use mathlib.Core.Path.{◌≡◌, refl, sym, ap, ◌∙◌, subst}
use mathlib.Core.Logic.{◌⊎◌, inl, inr, ⊎_elim}
use mathlib.Core.Option.{Option, some}
use native.Mathlib.Omega.{arith}
use native.Mathlib.Decide.{ℕ_discrete}
use borrow.Author.Tests.{eq-eqb, ne_eqb, eqb-true}
use lib.Dec.{eqb}
use lib.ListN.{length}
use Rattle.model.specs.Lists.{keep, any, every, nth, without, Mem, Distinct, largest, member, first}
use Rattle.model.specs.Valid.{RisingBy}

pub not-both : true ≡ false → ⊥
not-both e = let z : ◌≡◌ {A = ℕ} 0 1 = cc in omega arith

pub neither : (a b : Bool) → cond a true b ≡ false → (a ≡ false) × (b ≡ false)
neither true b e = (e, absurd (not-both e))
neither false b e = (refl, e)

-- ---- `keep`

module _ {A : Type 0} where
  pub keep-yes : (f : A → Bool) (x : A) (xs : List A) → f x ≡ true → keep f (x ∷ xs) ≡ x ∷ keep f xs
  keep-yes f x xs e = ap (λ (b : Bool). cond b (x ∷ keep f xs) (keep f xs)) e

  pub keep-no : (f : A → Bool) (x : A) (xs : List A) → f x ≡ false → keep f (x ∷ xs) ≡ keep f xs
  keep-no f x xs e = ap (λ (b : Bool). cond b (x ∷ keep f xs) (keep f xs)) e

  pub mem-keep : (f : A → Bool) (y : A) (l : List A) → Mem y (keep f l) → (Mem y l) × (f y ≡ true)
  mem-keep f y [] m = absurd m
  mem-keep f y (x ∷ xs) m = go (f x) refl (mem-keep f y xs) m
    where
      go : (b : Bool) → f x ≡ b → (Mem y (keep f xs) → (Mem y xs) × (f y ≡ true))
          → Mem y (cond b (x ∷ keep f xs) (keep f xs)) → (Mem y (x ∷ xs)) × (f y ≡ true)
      go true e ih (inl q) = (inl q, ap f q ∙ e)
      go true e ih (inr m') = (inr (ih m').0, (ih m').1)
      go false e ih m' = (inr (ih m').0, (ih m').1)

  pub keep-mem : (f : A → Bool) (y : A) (l : List A) → Mem y l → f y ≡ true → Mem y (keep f l)
  keep-mem f y [] m t = absurd m
  keep-mem f y (x ∷ xs) m t = go (f x) refl (λ m'. keep-mem f y xs m' t) m
    where
      go : (b : Bool) → f x ≡ b → (Mem y xs → Mem y (keep f xs)) → (y ≡ x) ⊎ Mem y xs → Mem y (cond b (x ∷ keep f xs) (keep f xs))
      go true e ih (inl q) = inl q
      go true e ih (inr m') = inr (ih m')
      go false e ih (inl q) = absurd (not-both (sym t ∙ ap f q ∙ e))
      go false e ih (inr m') = ih m'

  pub length-keep : (f : A → Bool) (l : List A) → length (keep f l) ≤ length l
  length-keep f [] = omega arith
  length-keep f (x ∷ xs) = go (f x) (length-keep f xs)
    where
      go : (b : Bool) → length (keep f xs) ≤ length xs → length (cond b (x ∷ keep f xs) (keep f xs)) ≤ suc (length xs)
      go true h = omega arith
      go false h = omega arith

  -- ---- `any`

  pub any_false : (f : A → Bool) (l : List A) → any f l ≡ false → (x : A) → Mem x l → f x ≡ false
  any_false f [] e x m = absurd m
  any_false f (y ∷ ys) e x m = let n = neither (f y) (any f ys) e in go n.0 (any_false f ys n.1 x) m
    where
      go : f y ≡ false → (Mem x ys → f x ≡ false) → (x ≡ y) ⊎ Mem x ys → f x ≡ false
      go q ih (inl p) = ap f p ∙ q
      go q ih (inr m') = ih m'

  pub any_none : (f : A → Bool) (l : List A) → ((x : A) → Mem x l → f x ≡ false) → any f l ≡ false
  any_none f [] h = refl
  any_none f (y ∷ ys) h = ap (λ (b : Bool). cond b true (any f ys)) (h y (inl refl)) ∙ any_none f ys (λ x m. h x (inr m))

  pub any_at : (f : A → Bool) (x : A) (l : List A) → Mem x l → f x ≡ true → any f l ≡ true
  any_at f x [] m t = absurd m
  any_at f x (y ∷ ys) (inl e) t = ap (λ (b : Bool). cond b true (any f ys)) (ap f (sym e) ∙ t)
  any_at f x (y ∷ ys) (inr m) t = go (f y) (any_at f x ys m t)
    where
      go : (b : Bool) → any f ys ≡ true → cond b true (any f ys) ≡ true
      go true e = refl
      go false e = e

  -- a test that passes less often
  pub any-falls : (f g : A → Bool) (l : List A) → ((x : A) → Mem x l → f x ≡ true → g x ≡ true) → any f l ≡ true → any g l ≡ true
  any-falls f g [] h t = t
  any-falls f g (y ∷ ys) h t = go (f y) refl t (any-falls f g ys (λ x m. h x (inr m)))
    where
      go : (b : Bool) → f y ≡ b → cond b true (any f ys) ≡ true → (any f ys ≡ true → any g ys ≡ true) → any g (y ∷ ys) ≡ true
      go true q t' ih = any_at g y (y ∷ ys) (inl refl) (h y (inl refl) q)
      go false q t' ih = later (g y) (ih t')
        where
          later : (b : Bool) → any g ys ≡ true → cond b true (any g ys) ≡ true
          later true e = refl
          later false e = e

  -- ---- `every`

  pub every-at : (f : A → Bool) (l : List A) → every f l ≡ true → (x : A) → Mem x l → f x ≡ true
  every-at f [] e x m = absurd m
  every-at f (y ∷ ys) e x m = go (f y) refl e (λ z. every-at f ys z x) m
    where
      go : (b : Bool) → f y ≡ b → cond b (every f ys) false ≡ true → (every f ys ≡ true → Mem x ys → f x ≡ true) → (x ≡ y) ⊎ Mem x ys → f x ≡ true
      go true q z ih (inl p) = ap f p ∙ q
      go true q z ih (inr n) = ih z n
      go false q z ih n = absurd (not-both (sym z))

  -- ---- in a list

  pub mem-append : (y : A) (xs ys : List A) → Mem y (xs ++ ys) → Mem y xs ⊎ Mem y ys
  mem-append y [] ys m = inr m
  mem-append y (x ∷ xs) ys (inl e) = inl (inl e)
  mem-append y (x ∷ xs) ys (inr m) = ⊎_elim (λ (a : Mem y xs). inl (inr a)) (λ (b : Mem y ys). inr b) (mem-append y xs ys m)

  pub append-mem-left : (y : A) (xs ys : List A) → Mem y xs → Mem y (xs ++ ys)
  append-mem-left y [] ys m = absurd m
  append-mem-left y (x ∷ xs) ys (inl e) = inl e
  append-mem-left y (x ∷ xs) ys (inr m) = inr (append-mem-left y xs ys m)

  pub append-mem-right : (y : A) (xs ys : List A) → Mem y ys → Mem y (xs ++ ys)
  append-mem-right y [] ys m = m
  append-mem-right y (x ∷ xs) ys m = inr (append-mem-right y xs ys m)

  pub mem-last : (y : A) (xs : List A) (id : A) → Mem y (xs ++ (id ∷ [])) → Mem y xs ⊎ (y ≡ id)
  mem-last y xs id m = ⊎_elim (λ (a : Mem y xs). inl a) (λ (b : Mem y (id ∷ [])). inr (only b)) (mem-append y xs (id ∷ []) m)
    where
      only : Mem y (id ∷ []) → y ≡ id
      only (inl e) = e
      only (inr b) = absurd b

  -- ---- at a position

  pub nth-mem : (l : List A) (n : ℕ) (x : A) → nth l n ≡ some x → Mem x l
  nth-mem [] n x e = let z : ◌≡◌ {A = ℕ} 0 1 = cc in absurd (omega arith)
  nth-mem (y ∷ l) zero x e = inl cc
  nth-mem (y ∷ l) (suc n) x e = inr (nth-mem l n x e)

  pub mem-nth : (l : List A) (x : A) → Mem x l → (n : ℕ) × (nth l n ≡ some x)
  mem-nth [] x m = absurd m
  mem-nth (y ∷ l) x (inl e) = (0, ap {B = Option A} some (sym e))
  mem-nth (y ∷ l) x (inr m) = let r = mem-nth l x m in (suc r.0, r.1)

-- ---- `without`

pub differs : (x id : ℕ) → (x ≡ id → ⊥) → not (eqb x id) ≡ true
differs x id n = ap not (ne_eqb x id n)

pub equals : (x id : ℕ) → x ≡ id → not (eqb x id) ≡ false
equals x id e = ap not (eq-eqb x id e)

pub mem-without : (y id : ℕ) (l : List ℕ) → Mem y (without id l) → (Mem y l) × (y ≡ id → ⊥)
mem-without y id l m = let h = mem-keep (λ x. not (eqb x id)) y l m in (h.0, λ e. not-both (sym h.1 ∙ equals y id e))

pub without-mem : (y id : ℕ) (l : List ℕ) → Mem y l → (y ≡ id → ⊥) → Mem y (without id l)
without-mem y id l m n = keep-mem (λ x. not (eqb x id)) y l m (differs y id n)

-- ---- `Distinct`

pub distinct-keep : (f : ℕ → Bool) (l : List ℕ) → Distinct l → Distinct (keep f l)
distinct-keep f [] d = tt
distinct-keep f (x ∷ xs) d = go (f x) (distinct-keep f xs d.1)
  where
    go : (b : Bool) → Distinct (keep f xs) → Distinct (cond b (x ∷ keep f xs) (keep f xs))
    go true r = (λ m. d.0 (mem-keep f x xs m).0, r)
    go false r = r

pub distinct-last : (l : List ℕ) (id : ℕ) → Distinct l → (Mem id l → ⊥) → Distinct (l ++ (id ∷ []))
distinct-last [] id d n = (λ m. m, tt)
distinct-last (x ∷ xs) id d n =
    (λ m. ⊎_elim (λ (a : Mem x xs). d.0 a) (λ (e : x ≡ id). n (inl (sym e))) (mem-last x xs id m), distinct-last xs id d.1 (λ m. n (inr m)))

-- one taken out of a list in which it stands once
pub without-absent : (id : ℕ) (l : List ℕ) → (Mem id l → ⊥) → without id l ≡ l
without-absent id [] n = refl
without-absent id (x ∷ xs) n =
    keep-yes (λ y. not (eqb y id)) x xs (differs x id (λ e. n (inl (sym e)))) ∙ ap (λ (l : List ℕ). x ∷ l) (without-absent id xs (λ m. n (inr m)))

pub length_without : (id : ℕ) (l : List ℕ) → Distinct l → Mem id l → suc (length (without id l)) ≡ length l
length_without id [] d m = absurd m
length_without id (x ∷ xs) d (inl e) =
    let q : without id (x ∷ xs) ≡ xs = keep-no (λ y. not (eqb y id)) x xs (equals x id (sym e)) ∙ without-absent id xs (λ m. d.0 (subst (λ (z : ℕ). Mem z xs) e m)) in
    ap (λ (l : List ℕ). suc (length l)) q
length_without id (x ∷ xs) d (inr m) =
    let n : x ≡ id → ⊥ = λ e. d.0 (subst (λ (z : ℕ). Mem z xs) (sym e) m) in
    let q : without id (x ∷ xs) ≡ x ∷ without id xs = keep-yes (λ y. not (eqb y id)) x xs (differs x id n) in
    ap (λ (l : List ℕ). suc (length l)) q ∙ ap suc (length_without id xs d.1 m)

-- ---- `RisingBy`

pub rising-distinct : (f : ℕ → ℕ) (l : List ℕ) → RisingBy f l → Distinct l
rising-distinct f [] r = tt
rising-distinct f (x ∷ xs) r = (λ m. omega (arith, r.0 x m), rising-distinct f xs r.1)

pub rising-keep : (f : ℕ → ℕ) (g : ℕ → Bool) (l : List ℕ) → RisingBy f l → RisingBy f (keep g l)
rising-keep f g [] r = tt
rising-keep f g (x ∷ xs) r = go (g x) (rising-keep f g xs r.1)
  where
    go : (b : Bool) → RisingBy f (keep g xs) → RisingBy f (cond b (x ∷ keep g xs) (keep g xs))
    go true h = (λ y m. r.0 y (mem-keep g y xs m).0, h)
    go false h = h

pub rising-last : (f : ℕ → ℕ) (l : List ℕ) (id : ℕ) → RisingBy f l → ((y : ℕ) → Mem y l → f y < f id) → RisingBy f (l ++ (id ∷ []))
rising-last f [] id r h = (λ y m. absurd m, tt)
rising-last f (x ∷ xs) id r h = (
  λ y m. ⊎_elim (λ (a : Mem y xs). r.0 y a) (λ (e : y ≡ id). subst (λ (z : ℕ). f x < f z) (sym e) (h x (inl refl))) (mem-last y xs id m),
  rising-last f xs id r.1 (λ y m. h y (inr m)),
)

-- the same on every member
pub rising-same : (f g : ℕ → ℕ) (l : List ℕ) → ((y : ℕ) → Mem y l → f y ≡ g y) → RisingBy f l → RisingBy g l
rising-same f g [] h r = tt
rising-same f g (x ∷ xs) h r =
    (λ y m. omega (arith, h x (inl refl), h y (inr m), r.0 y m), rising-same f g xs (λ y m. h y (inr m)) r.1)

-- ---- `largest`, `first`

pub largest-above : (f : ℕ → ℕ) (y : ℕ) (l : List ℕ) → Mem y l → f y ≤ largest f l
largest-above f y [] m = absurd m
largest-above f y (x ∷ xs) (inl e) = omega (arith, ap f e)
largest-above f y (x ∷ xs) (inr m) = omega (arith, largest-above f y xs m)

pub largest-reached : (f : ℕ → ℕ) (x : ℕ) (xs : List ℕ) → (y : ℕ) × (Mem y (x ∷ xs)) × (f y ≡ largest f (x ∷ xs))
largest-reached f x [] = (x, inl refl, omega arith)
largest-reached f x (z ∷ zs) = go (largest-reached f z zs) (max-is (f x) (largest f (z ∷ zs)))
  where
    max-is : (a b : ℕ) → (max a b ≡ a) ⊎ (max a b ≡ b)
    max-is a b = elim (ℕ_discrete (max a b) a) [ yes e ↦ inl e | no n ↦ inr (omega (arith, n)) ]

    go : (y : ℕ) × (Mem y (z ∷ zs)) × (f y ≡ largest f (z ∷ zs)) → (max (f x) (largest f (z ∷ zs)) ≡ f x) ⊎ (max (f x) (largest f (z ∷ zs)) ≡ largest f (z ∷ zs))
        → (y : ℕ) × (Mem y (x ∷ z ∷ zs)) × (f y ≡ largest f (x ∷ z ∷ zs))
    go r (inl e) = (x, inl refl, sym e)
    go r (inr e) = (r.0, inr r.1, r.2 ∙ sym e)

pub first-mem : (l : List ℕ) (y : ℕ) → Mem y l → Mem (first l) l
first-mem [] y m = absurd m
first-mem (x ∷ xs) y m = inl refl

-- ---- `member`

pub member-mem : (y : ℕ) (l : List ℕ) → member y l ≡ true → Mem y l
member-mem y [] e = absurd (not-both (sym e))
member-mem y (x ∷ xs) e = go (eqb x y) refl (member-mem y xs) e
  where
    go : (b : Bool) → eqb x y ≡ b → (member y xs ≡ true → Mem y xs) → cond b true (member y xs) ≡ true → (y ≡ x) ⊎ Mem y xs
    go true q ih t = inl (sym (eqb-true x y q))
    go false q ih t = inr (ih t)

pub mem-member : (y : ℕ) (l : List ℕ) → Mem y l → member y l ≡ true
mem-member y [] m = absurd m
mem-member y (x ∷ xs) (inl e) = ap (λ (b : Bool). cond b true (member y xs)) (eq-eqb x y (sym e))
mem-member y (x ∷ xs) (inr m) = go (eqb x y) (mem-member y xs m)
  where
    go : (b : Bool) → member y xs ≡ true → cond b true (member y xs) ≡ true
    go true e = refl
    go false e = e

pub not-member : (y : ℕ) (l : List ℕ) → (Mem y l → ⊥) → member y l ≡ false
not-member y l n = go (member y l) refl
  where
    go : (b : Bool) → member y l ≡ b → member y l ≡ false
    go true e = absurd (n (member-mem y l e))
    go false e = e

pub member-not : (y : ℕ) (l : List ℕ) → member y l ≡ false → Mem y l → ⊥
member-not y l e m = not-both (sym (mem-member y l m) ∙ e)

pub member-same : (y : ℕ) (a b : List ℕ) → (Mem y a → Mem y b) → (Mem y b → Mem y a) → member y a ≡ member y b
member-same y a b f g = go (member y b) refl
  where
    go : (t : Bool) → member y b ≡ t → member y a ≡ member y b
    go true e = mem-member y a (g (member-mem y b e)) ∙ sym e
    go false e = not-member y a (λ m. member-not y b e (f m)) ∙ sym e

pub last-own : (y : ℕ) (l : List ℕ) → member y (l ++ (y ∷ [])) ≡ true
last-own y l = mem-member y (l ++ (y ∷ [])) (append-mem-right y l (y ∷ []) (inl refl))

pub last-other : (y x : ℕ) (l : List ℕ) → (y ≡ x → ⊥) → member y (l ++ (x ∷ [])) ≡ member y l
last-other y x l n = member-same y (l ++ (x ∷ [])) l
    (λ m. ⊎_elim (λ (a : Mem y l). a) (λ (e : y ≡ x). absurd (n e)) (mem-last y l x m)) (λ m. append-mem-left y l (x ∷ []) m)

pub out-own : (y : ℕ) (l : List ℕ) → member y (without y l) ≡ false
out-own y l = not-member y (without y l) (λ m. (mem-without y y l m).1 refl)

pub out-other : (y x : ℕ) (l : List ℕ) → (y ≡ x → ⊥) → member y (without x l) ≡ member y l
out-other y x l n = member-same y (without x l) l (λ m. (mem-without y x l m).0) (λ m. without-mem y x l m n)
