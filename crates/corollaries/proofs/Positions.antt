-- Positions in lists: where one stands, how often, and in what order.
use Prim.Native.Nat.{ℕ, zero, suc, ◌+◌, ◌<◌, ◌≤◌}
use mathlib.Core.List.{List, [], ◌∷◌}
use mathlib.Core.Bool.{Bool, true, false, cond}
use mathlib.Core.Option.{none, some}
use mathlib.Core.Logic.{inl, inr}
use mathlib.Core.Path.{◌≡◌, refl, sym, ap, ◌∙◌, subst}
use native.Mathlib.Omega.{arith}
use Rattle.model.specs.Lists.{Mem, Distinct, count_of, first_of, nth}
use Rattle.model.specs.Valid.{RisingBy}
use Rattle.model.proofs.TableLaws.{some_same, none-some}
use Rattle.agreement_tables.proofs.Lists.{nth-mem}

pub distinct-nth : (l : List ℕ) → Distinct l → (x m n : ℕ) → nth l m ≡ some x → nth l n ≡ some x → m ≡ n
distinct-nth [] h x m n p q = absurd (none-some x p)
distinct-nth (y ∷ l) h x zero zero p q = refl
distinct-nth (y ∷ l) h x zero (suc n) p q = absurd (h.0 (subst (λ (k : ℕ). Mem k l) (sym (some_same y x p)) (nth-mem l n x q)))
distinct-nth (y ∷ l) h x (suc m) zero p q = absurd (h.0 (subst (λ (k : ℕ). Mem k l) (sym (some_same y x q)) (nth-mem l m x p)))
distinct-nth (y ∷ l) h x (suc m) (suc n) p q = ap suc (distinct-nth l h.1 x m n p q)

pub rising-nth : (f : ℕ → ℕ) (l : List ℕ) → RisingBy f l → (x y m n : ℕ) → nth l m ≡ some x → nth l n ≡ some y → m < n → f x < f y
rising-nth f [] h x y m n p q k = absurd (none-some x p)
rising-nth f (z ∷ l) h x y m zero p q k = absurd (omega arith)
rising-nth f (z ∷ l) h x y zero (suc n) p q k = subst (λ (i : ℕ). f i < f y) (some_same z x p) (h.0 y (nth-mem l n y q))
rising-nth f (z ∷ l) h x y (suc m) (suc n) p q k = rising-nth f l h.1 x y m n p q (omega arith)

module _ {A : Type 0} (f : A → Bool) where
  -- one that passes the test is counted
  some-counted : (l : List A) (x : A) → Mem x l → f x ≡ true → 1 ≤ count_of f l
  some-counted [] x m e = absurd m
  some-counted (z ∷ l) x (inl q) e =
      let c : ◌≡◌ {A = ℕ} (cond (f z) 1 0) 1 = ap (λ (b : Bool). cond b 1 0) (ap f (sym q) ∙ e) in
      omega (arith, c)
  some-counted (z ∷ l) x (inr m) e = omega (arith, some-counted l x m e)

  -- of those that pass the test there is one at most
  pub counted-once : (l : List A) → count_of f l ≤ 1 → (x y : A) → Mem x l → Mem y l → f x ≡ true → f y ≡ true → x ≡ y
  counted-once [] h x y m n p q = absurd m
  counted-once (z ∷ l) h x y (inl a) (inl b) p q = a ∙ sym b
  counted-once (z ∷ l) h x y (inl a) (inr n) p q =
      let c : ◌≡◌ {A = ℕ} (cond (f z) 1 0) 1 = ap (λ (b : Bool). cond b 1 0) (ap f (sym a) ∙ p) in
      absurd (omega (arith, c, some-counted l y n q))
  counted-once (z ∷ l) h x y (inr m) (inl b) p q =
      let c : ◌≡◌ {A = ℕ} (cond (f z) 1 0) 1 = ap (λ (k : Bool). cond k 1 0) (ap f (sym b) ∙ q) in
      absurd (omega (arith, c, some-counted l x m p))
  counted-once (z ∷ l) h x y (inr m) (inr n) p q = counted-once l (omega arith) x y m n p q

-- of two tests, where the second passes only if the first does, and the first passes once at most
module _ {A : Type 0} (f g : A → Bool) (less : (x : A) → f x ≡ false → g x ≡ false) where
  pub none-counted : (l : List A) → first_of f l ≡ none → (count_of f l ≡ 0) × (count_of g l ≡ 0)
  none-counted [] e = (refl, refl)
  none-counted (y ∷ l) e = go (f y) refl e (none-counted l)
    where
      go : (b : Bool) → f y ≡ b → cond b (some y) (first_of f l) ≡ none → (first_of f l ≡ none → (count_of f l ≡ 0) × (count_of g l ≡ 0))
          → (cond b 1 0 + count_of f l ≡ 0) × (cond (g y) 1 0 + count_of g l ≡ 0)
      go true q z ih = absurd (none-some y (sym z))
      go false q z ih =
          let c : ◌≡◌ {A = ℕ} (cond (g y) 1 0) 0 = ap (λ (b : Bool). cond b 1 0) (less y q) in
          let r = ih z in
          (omega (arith, r.0), omega (arith, c, r.1))

  zero-counted : (l : List A) → count_of f l ≡ 0 → count_of g l ≡ 0
  zero-counted [] e = refl
  zero-counted (y ∷ l) e = go (f y) refl e (zero-counted l)
    where
      go : (b : Bool) → f y ≡ b → cond b 1 0 + count_of f l ≡ 0 → (count_of f l ≡ 0 → count_of g l ≡ 0) → cond (g y) 1 0 + count_of g l ≡ 0
      go true q z ih = absurd (omega arith)
      go false q z ih =
          let c : ◌≡◌ {A = ℕ} (cond (g y) 1 0) 0 = ap (λ (b : Bool). cond b 1 0) (less y q) in
          omega (arith, c, ih (omega arith))

  pub first_counted : (l : List A) (x : A) → first_of f l ≡ some x → count_of f l ≤ 1 → (count_of f l ≡ 1) × (count_of g l ≡ cond (g x) 1 0)
  first_counted [] x e h = absurd (none-some x e)
  first_counted (y ∷ l) x e h = go (f y) refl e h (first_counted l x)
    where
      go : (b : Bool) → f y ≡ b → cond b (some y) (first_of f l) ≡ some x → cond b 1 0 + count_of f l ≤ 1
          → (first_of f l ≡ some x → count_of f l ≤ 1 → (count_of f l ≡ 1) × (count_of g l ≡ cond (g x) 1 0))
          → (cond b 1 0 + count_of f l ≡ 1) × (cond (g y) 1 0 + count_of g l ≡ cond (g x) 1 0)
      go true q z k ih =
          let c : ◌≡◌ {A = ℕ} (cond (g y) 1 0) (cond (g x) 1 0) = ap (λ (v : A). cond (g v) 1 0) (some_same y x z) in
          (omega arith, omega (arith, c, zero-counted l (omega arith)))
      go false q z k ih =
          let c : ◌≡◌ {A = ℕ} (cond (g y) 1 0) 0 = ap (λ (b : Bool). cond b 1 0) (less y q) in
          let r = ih z (omega arith) in
          (omega (arith, r.0), omega (arith, c, r.1))
