-- Counting by numbers: a list of the numbers of all threads that may pass a test counts as many as the threads themselves do.
use Prim.Native.Nat.{ℕ, zero, suc, ◌+◌, ◌≤◌, ◌<◌}
use mathlib.Core.List.{List, [], ◌∷◌}
use mathlib.Core.Bool.{Bool, true, false, cond, not}
use mathlib.Core.Path.{◌≡◌, refl, sym, ap, ◌∙◌}
use mathlib.Core.Logic.{inl, inr}
use native.Mathlib.Omega.{arith}
use native.Mathlib.Decide.{ℕ_discrete}
use borrow.Author.Tests.{ne_eqb}
use lib.ListN.{get_or, length}
use lib.Dec.{eqb}
use Rattle.model.specs.Lists.{any, count_of, Mem, Distinct, member, without}
use Rattle.model.specs.State.{Thread}
use Rattle.model.specs.Threads.{thread_at, is_waiting, no_one}
use Rattle.model.proofs.ListLaws.{distinct-keep, mem-without, without-mem, member-mem}
use Rattle.agreement_chains.specs.Chains.{Standing}
use Rattle.agreement_chains.proofs.Links.{without-here, without-there}

-- how many of the `n` numbers from `k` on pass the test
abbrev tally : (ℕ → Bool) → ℕ → ℕ → ℕ
tally g k zero = 0
tally g k (suc n) = cond (g k) 1 0 + tally g (suc k) n

module _ {A : Type 0} where
  -- one passes where the count is not 0
  pub any-count : (f : A → Bool) (l : List A) → any f l ≡ not (eqb (count_of f l) 0)
  any-count f [] = refl
  any-count f (x ∷ xs) = go (f x) (any-count f xs)
    where
      go : (b : Bool) → any f xs ≡ not (eqb (count_of f xs) 0) → cond b true (any f xs) ≡ not (eqb (cond b 1 0 + count_of f xs) 0)
      go true e = ap not (sym (ne_eqb (1 + count_of f xs) 0 (λ e. omega arith)))
      go false e = e ∙ ap (λ (n : ℕ). not (eqb n 0)) (let z : count_of f xs ≡ 0 + count_of f xs = omega arith in z)

  -- a test that has the same outcome on the list
  pub count_same : (f g : A → Bool) (l : List A) → ((x : A) → Mem x l → f x ≡ g x) → count_of f l ≡ count_of g l
  count_same f g [] e = refl
  count_same f g (x ∷ xs) e =
      ap (λ (b : Bool). cond b 1 0 + count_of f xs) (e x (inl refl)) ∙ ap (λ (n : ℕ). cond (g x) 1 0 + n) (count_same f g xs (λ y m. e y (inr m)))

  pub any_same : (f g : A → Bool) (l : List A) → ((x : A) → Mem x l → f x ≡ g x) → any f l ≡ any g l
  any_same f g l e = any-count f l ∙ ap (λ (n : ℕ). not (eqb n 0)) (count_same f g l e) ∙ sym (any-count g l)

-- ---- the numbers of a list counted

count-without : (g : ℕ → Bool) (k : ℕ) (xs : List ℕ) → Distinct xs → (g k ≡ true → Mem k xs) → count_of g xs ≡ cond (g k) 1 0 + count_of g (without k xs)
count-without g k [] d h = go (g k) refl
  where
    go : (b : Bool) → g k ≡ b → 0 ≡ cond b 1 0 + 0
    go true q = absurd (h q)
    go false q = refl
count-without g k (x ∷ xs) d h = go (ℕ_discrete x k) (λ n. count-without g k xs d.1 (λ q. later n (h q)))
  where
    later : (x ≡ k → ⊥) → Mem k (x ∷ xs) → Mem k xs
    later n (inl e) = absurd (n (sym e))
    later n (inr m) = m

    go : Dec (x ≡ k) → ((x ≡ k → ⊥) → count_of g xs ≡ cond (g k) 1 0 + count_of g (without k xs)) → count_of g (x ∷ xs) ≡ cond (g k) 1 0 + count_of g (without k (x ∷ xs))
    go (yes e) ih =
        ap (λ (z : ℕ). cond (g z) 1 0 + count_of g xs) e ∙ ap (λ (l : List ℕ). cond (g k) 1 0 + count_of g l) (sym (without-here x xs k d.0 e))
    go (no n) ih =
        let r = ih n in
        let t = ap (count_of g) (without-there x xs k n) in omega (arith, r, t)

count-tally : (g : ℕ → Bool) (n k : ℕ) (xs : List ℕ) → Distinct xs → ((y : ℕ) → Mem y xs → (k ≤ y) × (y < k + n)) → ((y : ℕ) → k ≤ y → y < k + n → g y ≡ true → Mem y xs)
    → count_of g xs ≡ tally g k n
count-tally g zero k [] d within all = refl
count-tally g zero k (x ∷ xs) d within all = absurd (omega (arith, within x (inl refl)))
count-tally g (suc n) k xs d within all =
    count-without g k xs d (all k (omega arith) (omega arith))
    ∙ ap (λ (m : ℕ). cond (g k) 1 0 + m)
    (count-tally g n (suc k) (without k xs) (distinct-keep (λ x. not (eqb x k)) xs d)
    (λ y m. let a = mem-without y k xs m in let b = within y a.0 in let ne : y ≡ k → ⊥ = a.1 in (more y b.0 ne, omega (arith, b.1)))
    (λ y l h q. without-mem y k xs (all y (omega arith) (omega arith) q) (λ e. omega arith)))
  where
    more : (y : ℕ) → k ≤ y → (y ≡ k → ⊥) → suc k ≤ y
    more y h ne = omega arith

-- ---- the threads counted

tally-threads : (f : Thread → Bool) (g : ℕ → Bool) (k : ℕ) (l : List Thread) → ((i : ℕ) → i < length l → g (k + i) ≡ f (get_or l i no_one)) → tally g k (length l) ≡ count_of f l
tally-threads f g k [] e = refl
tally-threads f g k (t ∷ ts) e =
    ap (λ (b : Bool). cond b 1 0 + tally g (suc k) (length ts)) (ap g (let z : k ≡ k + 0 = omega arith in z) ∙ e 0 (omega arith))
    ∙ ap (λ (n : ℕ). cond (f t) 1 0 + n)
    (tally-threads f g (suc k) ts (λ i h. ap g (let z : suc k + i ≡ k + suc i = omega arith in z) ∙ e (suc i) (omega arith)))

module _ (threads : List Thread) (waiters : List ℕ) (st : Standing (length threads) waiters)
    (exact : (i : ℕ) → member i waiters ≡ is_waiting (thread_at threads i).status) where
  -- the waiters count as many as all threads do, by a test that waiting threads alone pass
  pub waiters-count : (f : Thread → Bool) → ((t : Thread) → f t ≡ true → is_waiting t.status ≡ true)
      → count_of (λ y. f (thread_at threads y)) waiters ≡ count_of f threads
  waiters-count f h =
      count-tally (λ y. f (thread_at threads y)) (length threads) 1 waiters st.once
      (λ y m. let p = st.within y m in (p.0, omega (arith, p.1)))
      (λ y l u q. member-mem y waiters (exact y ∙ h (thread_at threads y) q))
      ∙ tally-threads f (λ y. f (thread_at threads y)) 1 threads (λ i l. ap (λ (k : ℕ). f (thread_at threads k)) (let z : 1 + i ≡ suc i = omega arith in z))

  pub waiters-any : (f : Thread → Bool) → ((t : Thread) → f t ≡ true → is_waiting t.status ≡ true)
      → any (λ y. f (thread_at threads y)) waiters ≡ any f threads
  waiters-any f h = any-count (λ y. f (thread_at threads y)) waiters ∙ ap (λ (n : ℕ). not (eqb n 0)) (waiters-count f h) ∙ sym (any-count f threads)
