-- Chains by their links alone: one record more at the end, one taken out, the one before, the one after. The lemmas speak of words before and after.
use Prim.Native.Nat.{ℕ, zero, suc, ◌-◌, ◌≤◌}
use mathlib.Core.List.{List, [], ◌∷◌, ◌++◌}
use mathlib.Core.Bool.{Bool, cond, not}
use mathlib.Core.Path.{◌≡◌, refl, sym, ap, ◌∙◌, subst}
use mathlib.Core.Logic.{inl, inr}
use native.Mathlib.Omega.{arith}
use native.Mathlib.Decide.{ℕ_discrete}
use borrow.Author.Tests.{eq-eqb, ne_eqb}
use lib.Dec.{eqb}
use lib.ListN.{get_or, length}
use Rattle.chains.specs.declared.Chain.{Chain}
use Rattle.chains.specs.Chain.{link_at, next_of, before_in}
use Rattle.chains.proofs.ChainLaws.{before-found, before_more}
use Rattle.model.specs.Lists.{Mem, Distinct, without, first}
use Rattle.model.proofs.ListLaws.{keep-yes, keep-no, differs, equals, without-absent, distinct-keep, mem-without, append-mem-right}
use Rattle.agreement_chains.specs.Chains.{Linked, last_from}

-- the same list, from another link on or in other words, where the links hold the same
pub relink : (w w' : List ℕ) (c : Chain) (b b' : ℕ) (xs : List ℕ) → get_or w' (link_at c b') 0 ≡ get_or w (link_at c b) 0
    → ((y : ℕ) → Mem y xs → get_or w' (link_at c y) 0 ≡ get_or w (link_at c y) 0) → Linked w c b xs → Linked w' c b' xs
relink w w' c b b' [] e h l = e ∙ l
relink w w' c b b' (x ∷ xs) e h l = (e ∙ l.0, relink w w' c x x xs (h x (inl refl)) (λ y m. h y (inr m)) l.1)

pub last_mem : (x : ℕ) (xs : List ℕ) → Mem (last_from x xs) (x ∷ xs)
last_mem x [] = inl refl
last_mem x (z ∷ zs) = inr (last_mem z zs)

pub last_snoc : (b : ℕ) (xs : List ℕ) (id : ℕ) → last_from b (xs ++ (id ∷ [])) ≡ id
last_snoc b [] id = refl
last_snoc b (x ∷ xs) id = last_snoc x xs id

apart_from : (b c : ℕ) (l : List ℕ) → (Mem b l → ⊥) → Mem c l → b ≡ c → ⊥
apart_from b c l n m e = n (subst (λ (z : ℕ). Mem z l) (sym e) m)

-- one record more
pub linked-snoc : (w w' : List ℕ) (c : Chain) (b : ℕ) (xs : List ℕ) (id : ℕ)
    → ((y : ℕ) → Mem y (b ∷ xs) → (y ≡ last_from b xs → ⊥) → get_or w' (link_at c y) 0 ≡ get_or w (link_at c y) 0)
    → get_or w' (link_at c (last_from b xs)) 0 ≡ id → get_or w' (link_at c id) 0 ≡ 0
    → Distinct (b ∷ xs) → Linked w c b xs → Linked w' c b (xs ++ (id ∷ []))
linked-snoc w w' c b [] id same at end d l = (at, end)
linked-snoc w w' c b (x ∷ xs) id same at end d l = (
  same b (inl refl) (apart_from b (last_from x xs) (x ∷ xs) d.0 (last_mem x xs)) ∙ l.0,
  linked-snoc w w' c x xs id (λ y m. same y (inr m)) at end d.1 l.1,
)

-- ---- the record before a record

abbrev pub prior_to : ℕ → List ℕ → ℕ → ℕ
prior_to b [] id = b
prior_to b (x ∷ xs) id = cond (eqb x id) b (prior_to x xs id)

pub prior-here : (b x : ℕ) (xs : List ℕ) (id : ℕ) → x ≡ id → prior_to b (x ∷ xs) id ≡ b
prior-here b x xs id e = ap (λ (t : Bool). cond t b (prior_to x xs id)) (eq-eqb x id e)

pub prior-there : (b x : ℕ) (xs : List ℕ) (id : ℕ) → (x ≡ id → ⊥) → prior_to b (x ∷ xs) id ≡ prior_to x xs id
prior-there b x xs id n = ap (λ (t : Bool). cond t b (prior_to x xs id)) (ne_eqb x id n)

pub prior-mem : (b : ℕ) (xs : List ℕ) (id : ℕ) → Mem (prior_to b xs id) (b ∷ xs)
prior-mem b [] id = inl refl
prior-mem b (x ∷ xs) id = go (ℕ_discrete x id) (prior-mem x xs id)
  where
    go : Dec (x ≡ id) → Mem (prior_to x xs id) (x ∷ xs) → Mem (prior_to b (x ∷ xs) id) (b ∷ x ∷ xs)
    go (yes e) r = inl (prior-here b x xs id e)
    go (no n) r = inr (subst (λ (z : ℕ). Mem z (x ∷ xs)) (sym (prior-there b x xs id n)) r)

later : (x id : ℕ) (xs : List ℕ) → (x ≡ id → ⊥) → Mem id (x ∷ xs) → Mem id xs
later x id xs n (inl e) = absurd (n (sym e))
later x id xs n (inr m) = m

-- before the one behind `ys` comes the last of these
pub prior-split : (b : ℕ) (ys : List ℕ) (id : ℕ) (zs : List ℕ) → (Mem id ys → ⊥) → prior_to b (ys ++ (id ∷ zs)) id ≡ last_from b ys
prior-split b [] id zs n = prior-here b id zs id refl
prior-split b (y ∷ ys) id zs n =
    prior-there b y (ys ++ (id ∷ zs)) id (λ e. n (inl (sym e))) ∙ prior-split y ys id zs (λ m. n (inr m))

-- the search finds it
pub found_before : (k : ℕ) (w : List ℕ) (c : Chain) (b : ℕ) (xs : List ℕ) (id : ℕ) → Linked w c b xs → Mem id xs → length xs ≤ k
    → before_in k w c b (get_or w (link_at c b) 0) id ≡ prior_to b xs id
unfolding next_of
found_before k w c b [] id l m h = absurd m
found_before k w c b (x ∷ xs) id l m h =
    ap (λ (a : ℕ). before_in k w c b a id) l.0
    ∙ go (ℕ_discrete x id) (λ n. found_before (k - 1) w c x xs id l.1 (later x id xs n m) (omega arith))
  where
    go : Dec (x ≡ id) → ((x ≡ id → ⊥) → before_in (k - 1) w c x (get_or w (link_at c x) 0) id ≡ prior_to x xs id) → before_in k w c b x id ≡ prior_to b (x ∷ xs) id
    go (yes e) ih = before-found k w c b x id e ∙ sym (prior-here b x xs id e)
    go (no n) ih = before_more k w c b x id (omega arith) n ∙ ih n ∙ sym (prior-there b x xs id n)

-- ---- one record taken out

pub without-here : (x : ℕ) (xs : List ℕ) (id : ℕ) → (Mem x xs → ⊥) → x ≡ id → without id (x ∷ xs) ≡ xs
without-here x xs id n e =
    keep-no (λ z. not (eqb z id)) x xs (equals x id e) ∙ without-absent id xs (λ m. n (subst (λ (z : ℕ). Mem z xs) (sym e) m))

pub without-there : (x : ℕ) (xs : List ℕ) (id : ℕ) → (x ≡ id → ⊥) → without id (x ∷ xs) ≡ x ∷ without id xs
without-there x xs id n = keep-yes (λ z. not (eqb z id)) x xs (differs x id n)

pub without-split : (ys : List ℕ) (id : ℕ) (zs : List ℕ) → Distinct (ys ++ (id ∷ zs)) → without id (ys ++ (id ∷ zs)) ≡ ys ++ zs
without-split [] id zs d = without-here id zs id d.0 refl
without-split (y ∷ ys) id zs d =
    without-there y (ys ++ (id ∷ zs)) id (λ e. d.0 (subst (λ (z : ℕ). Mem z (ys ++ (id ∷ zs))) (sym e) (append-mem-right id ys (id ∷ zs) (inl refl))))
    ∙ ap (λ (l : List ℕ). y ∷ l) (without-split ys id zs d.1)

-- one that stands behind `ys` does not stand among them
pub not-before : (ys : List ℕ) (id : ℕ) (zs : List ℕ) → Distinct (ys ++ (id ∷ zs)) → Mem id ys → ⊥
not-before [] id zs d m = m
not-before (y ∷ ys) id zs d (inl e) = d.0 (subst (λ (z : ℕ). Mem z (ys ++ (id ∷ zs))) e (append-mem-right id ys (id ∷ zs) (inl refl)))
not-before (y ∷ ys) id zs d (inr m) = not-before ys id zs d.1 m

pub linked-removed : (w w' : List ℕ) (c : Chain) (b : ℕ) (xs : List ℕ) (id : ℕ) → Linked w c b xs → Distinct (b ∷ xs) → Mem id xs
    → ((y : ℕ) → Mem y (b ∷ xs) → (y ≡ prior_to b xs id → ⊥) → get_or w' (link_at c y) 0 ≡ get_or w (link_at c y) 0)
    → get_or w' (link_at c (prior_to b xs id)) 0 ≡ get_or w (link_at c id) 0 → Linked w' c b (without id xs)
linked-removed w w' c b [] id l d m same at = absurd m
linked-removed w w' c b (x ∷ xs) id l d m same at = go (ℕ_discrete x id)
    (λ n. linked-removed w w' c x xs id l.1 d.1 (later x id xs n m)
    (λ y a ne. same y (inr a) (λ e. ne (e ∙ prior-there b x xs id n)))
    (ap (λ (z : ℕ). get_or w' (link_at c z) 0) (sym (prior-there b x xs id n)) ∙ at))
  where
    go : Dec (x ≡ id) → ((x ≡ id → ⊥) → Linked w' c x (without id xs)) → Linked w' c b (without id (x ∷ xs))
    go (yes e) ih =
        let here = prior-here b x xs id e in
        subst (Linked w' c b) (sym (without-here x xs id d.1.0 e))
        (relink w w' c x b xs
        (ap (λ (z : ℕ). get_or w' (link_at c z) 0) (sym here) ∙ at ∙ ap (λ (z : ℕ). get_or w (link_at c z) 0) (sym e))
        (λ y a. same y (inr (inr a)) (λ q. apart_from b y (x ∷ xs) d.0 (inr a) (sym (q ∙ here))))
        l.1)
    go (no n) ih =
        subst (Linked w' c b) (sym (without-there x xs id n))
        (same b (inl refl) (λ q. apart_from b (prior_to x xs id) (x ∷ xs) d.0 (prior-mem x xs id) (q ∙ prior-there b x xs id n)) ∙ l.0, ih n)

-- the last record afterwards: the one before, where none came after the one taken out; else as it was
pub last_end : (w : List ℕ) (c : Chain) (b : ℕ) (xs : List ℕ) (id : ℕ) → Linked w c b xs → Distinct xs → ((y : ℕ) → Mem y xs → 1 ≤ y) → Mem id xs
    → get_or w (link_at c id) 0 ≡ 0 → last_from b (without id xs) ≡ prior_to b xs id
last_end w c b [] id l d pos m z = absurd m
last_end w c b (x ∷ xs) id l d pos m z = go (ℕ_discrete x id)
    (λ n. last_end w c x xs id l.1 d.1 (λ y a. pos y (inr a)) (later x id xs n m) z)
  where
    none : (ys : List ℕ) → Linked w c x ys → x ≡ id → ((y : ℕ) → Mem y ys → 1 ≤ y) → last_from b ys ≡ b
    none [] l' e pos' = refl
    none (y ∷ ys) l' e pos' =
        let one : 1 ≤ y = pos' y (inl refl) in
        let nil : y ≡ 0 = sym l'.0 ∙ ap (λ (a : ℕ). get_or w (link_at c a) 0) e ∙ z in absurd (omega arith)

    go : Dec (x ≡ id) → ((x ≡ id → ⊥) → last_from x (without id xs) ≡ prior_to x xs id) → last_from b (without id (x ∷ xs)) ≡ prior_to b (x ∷ xs) id
    go (yes e) ih = ap (last_from b) (without-here x xs id d.0 e) ∙ none xs l.1 e (λ y a. pos y (inr a)) ∙ sym (prior-here b x xs id e)
    go (no n) ih = ap (last_from b) (without-there x xs id n) ∙ ih n ∙ sym (prior-there b x xs id n)

pub last-kept : (w : List ℕ) (c : Chain) (b : ℕ) (xs : List ℕ) (id : ℕ) → Linked w c b xs → Distinct xs → Mem id xs
    → (get_or w (link_at c id) 0 ≡ 0 → ⊥) → last_from b (without id xs) ≡ last_from b xs
last-kept w c b [] id l d m z = absurd m
last-kept w c b (x ∷ xs) id l d m z = go (ℕ_discrete x id) (λ n. last-kept w c x xs id l.1 d.1 (later x id xs n m) z)
  where
    more : (ys : List ℕ) → Linked w c x ys → x ≡ id → last_from b ys ≡ last_from x ys
    more [] l' e = absurd (z (ap (λ (a : ℕ). get_or w (link_at c a) 0) (sym e) ∙ l'))
    more (y ∷ ys) l' e = refl

    go : Dec (x ≡ id) → ((x ≡ id → ⊥) → last_from x (without id xs) ≡ last_from x xs) → last_from b (without id (x ∷ xs)) ≡ last_from b (x ∷ xs)
    go (yes e) ih = ap (last_from b) (without-here x xs id d.0 e) ∙ more xs l.1 e
    go (no n) ih = ap (last_from b) (without-there x xs id n) ∙ ih n

-- ---- a list of distinct records of 1 to `n` has at most `n`

shorter : (id : ℕ) (l : List ℕ) → Distinct l → length l ≤ suc (length (without id l))
shorter id [] d = omega arith
shorter id (x ∷ xs) d = go (ℕ_discrete x id) (shorter id xs d.1)
  where
    go : Dec (x ≡ id) → length xs ≤ suc (length (without id xs)) → suc (length xs) ≤ suc (length (without id (x ∷ xs)))
    go (yes e) r = omega (arith, ap length (without-here x xs id d.0 e))
    go (no n) r = omega (arith, ap length (without-there x xs id n))

pub length-bound : (n : ℕ) (l : List ℕ) → Distinct l → ((y : ℕ) → Mem y l → (1 ≤ y) × (y ≤ n)) → length l ≤ n
length-bound zero [] d h = omega arith
length-bound zero (x ∷ xs) d h = omega (arith, h x (inl refl))
length-bound (suc n) l d h =
    let l' = without (suc n) l in
    let r : length l' ≤ n = length-bound n l' (distinct-keep (λ x. not (eqb x (suc n))) l d)
    (λ y m. let a = mem-without y (suc n) l m in let b = h y a.0 in (b.0, omega (arith, a.1))) in
    omega (arith, shorter (suc n) l d)

-- ---- the record after a record

pub linked-first : (w : List ℕ) (c : Chain) (b : ℕ) (xs : List ℕ) → Linked w c b xs → get_or w (link_at c b) 0 ≡ first xs
linked-first w c b [] l = l
linked-first w c b (x ∷ xs) l = l.0

-- what comes behind the first few
pub linked-rest : (w : List ℕ) (c : Chain) (b : ℕ) (ys xs : List ℕ) → Linked w c b (ys ++ xs) → Linked w c (last_from b ys) xs
linked-rest w c b [] xs l = l
linked-rest w c b (y ∷ ys) xs l = linked-rest w c y ys xs l.1

pub linked-next : (w : List ℕ) (c : Chain) (b : ℕ) (ys : List ℕ) (x : ℕ) (xs : List ℕ) → Linked w c b (ys ++ (x ∷ xs)) → get_or w (link_at c x) 0 ≡ first xs
linked-next w c b ys x xs l = linked-first w c x xs (linked-rest w c b ys (x ∷ xs) l).1
