-- The numbers of the threads that pass a test: those threads exactly, rising; and order in a list that rises.
use Prim.Native.Nat.{ℕ, zero, suc, ◌+◌, ◌≤◌, ◌<◌}
use mathlib.Core.List.{List, [], ◌∷◌}
use mathlib.Core.Bool.{Bool, true, false, cond}
use mathlib.Core.Path.{◌≡◌, refl, sym, ap, ◌∙◌, subst}
use mathlib.Core.Logic.{inl, inr}
use native.Mathlib.Omega.{arith}
use lib.ListN.{length}
use Rattle.model.specs.Lists.{Mem, Before}
use Rattle.model.specs.State.{Thread}
use Rattle.model.specs.Threads.{thread_at, numbers_of}
use Rattle.model.specs.Valid.{RisingBy}
use Rattle.model.proofs.WakeLaws.{numbers-all}

module _ (f : Thread → Bool) where
  numbers-from : (n : ℕ) (l : List Thread) (i : ℕ) → Mem i (numbers_of f n l) → (k : ℕ) × (i ≡ n + k) × (suc k ≤ length l) × (f (thread_at l (suc k)) ≡ true)
  numbers-from n [] i m = absurd m
  numbers-from n (x ∷ xs) i m = go (f x) refl m (numbers-from (suc n) xs i)
    where
      on : (k : ℕ) × (i ≡ suc n + k) × (suc k ≤ length xs) × (f (thread_at xs (suc k)) ≡ true) → (k : ℕ) × (i ≡ n + k) × (suc k ≤ suc (length xs)) × (f (thread_at (x ∷ xs) (suc k)) ≡ true)
      on r = (suc r.0, r.1 ∙ (let e : suc n + r.0 ≡ n + suc r.0 = omega arith in e), omega (arith, r.2), r.3)

      go : (b : Bool) → f x ≡ b → Mem i (cond b (n ∷ numbers_of f (suc n) xs) (numbers_of f (suc n) xs))
          → (Mem i (numbers_of f (suc n) xs) → (k : ℕ) × (i ≡ suc n + k) × (suc k ≤ length xs) × (f (thread_at xs (suc k)) ≡ true))
          → (k : ℕ) × (i ≡ n + k) × (suc k ≤ suc (length xs)) × (f (thread_at (x ∷ xs) (suc k)) ≡ true)
      go true e (inl q) ih = (0, q ∙ (let z : n ≡ n + 0 = omega arith in z), omega arith, e)
      go true e (inr a) ih = on (ih a)
      go false e a ih = on (ih a)

  rising-from : (n : ℕ) (l : List Thread) → RisingBy (λ x. x) (numbers_of f n l)
  rising-from n [] = tt
  rising-from n (x ∷ xs) = go (f x) (rising-from (suc n) xs)
    where
      go : (b : Bool) → RisingBy (λ y. y) (numbers_of f (suc n) xs) → RisingBy (λ y. y) (cond b (n ∷ numbers_of f (suc n) xs) (numbers_of f (suc n) xs))
      go true r = (λ y m. let q = numbers-from (suc n) xs y m in omega (arith, q.1), r)
      go false r = r

  -- who stands among them is a thread that passes
  pub number-passes : (l : List Thread) (i : ℕ) → Mem i (numbers_of f 1 l) → (1 ≤ i) × (i ≤ length l) × (f (thread_at l i) ≡ true)
  number-passes l i m =
      let r = numbers-from 1 l i m in
      let e : i ≡ suc r.0 = r.1 ∙ (let z : 1 + r.0 ≡ suc r.0 = omega arith in z) in
      (omega (arith, e), omega (arith, e, r.2), subst (λ (j : ℕ). f (thread_at l j) ≡ true) (sym e) r.3)

  -- and every thread that passes stands there
  pub passes-number : (l : List Thread) (i : ℕ) → 1 ≤ i → i ≤ length l → f (thread_at l i) ≡ true → Mem i (numbers_of f 1 l)
  passes-number l zero h k t = absurd (omega arith)
  passes-number l (suc i) h k t = subst (λ (j : ℕ). Mem j (numbers_of f 1 l)) (let z : 1 + i ≡ suc i = omega arith in z) (numbers-all f 1 l i t k)

  pub numbers-rise : (l : List Thread) → RisingBy (λ x. x) (numbers_of f 1 l)
  numbers-rise l = rising-from 1 l

-- of two in a list that rises the lesser stands first
pub lesser-first : (g : ℕ → ℕ) (l : List ℕ) → RisingBy g l → (i j : ℕ) → Mem i l → Mem j l → g i < g j → Before i j l
lesser-first g [] r i j m n h = absurd m
lesser-first g (x ∷ xs) r i j (inl p) (inl q) h = absurd (omega (arith, ap g p, ap g q))
lesser-first g (x ∷ xs) r i j (inl p) (inr n) h = inl (p, n)
lesser-first g (x ∷ xs) r i j (inr m) (inl q) h = absurd (omega (arith, r.0 i m, ap g q))
lesser-first g (x ∷ xs) r i j (inr m) (inr n) h = inr (lesser-first g xs r.1 i j m n h)

-- and who stands first is the lesser
pub rising-before : (f : ℕ → ℕ) (l : List ℕ) → RisingBy f l → (x y : ℕ) → Before x y l → f x < f y
rising-before f [] h x y b = absurd b
rising-before f (z ∷ l) h x y (inl b) = subst (λ (i : ℕ). f i < f y) (sym b.0) (h.0 y b.1)
rising-before f (z ∷ l) h x y (inr b) = rising-before f l h.1 x y b

-- two with the same value are one
pub same_once : (g : ℕ → ℕ) (l : List ℕ) → RisingBy g l → (i j : ℕ) → Mem i l → Mem j l → g i ≡ g j → i ≡ j
same_once g [] r i j m n h = absurd m
same_once g (x ∷ xs) r i j (inl p) (inl q) h = p ∙ sym q
same_once g (x ∷ xs) r i j (inl p) (inr n) h = absurd (omega (arith, r.0 j n, ap g p))
same_once g (x ∷ xs) r i j (inr m) (inl q) h = absurd (omega (arith, r.0 i m, ap g q))
same_once g (x ∷ xs) r i j (inr m) (inr n) h = same_once g xs r.1 i j m n h
