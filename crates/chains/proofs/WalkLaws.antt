-- What a walk along a chain is, said of the list of its records.
use Prim.Native.Nat.{ℕ, zero, suc, ◌+◌, ◌≤◌, ◌<◌}
use native.Mathlib.Omega.{arith}
use mathlib.Core.List.{List, [], ◌∷◌}
use mathlib.Core.Bool.{Bool, cond, true, false}
use mathlib.Core.Path.{◌≡◌, ◌∙◌, refl}
use lib.Dec.{eqb}
use lib.ListN.{get_or, length}
use borrow.Author.Tests.{eqb-true}
use Rattle.std.specs.List.{list_any, fold, sum_by}
use Rattle.chains.specs.declared.Chain.{Chain}
use Rattle.chains.specs.Chain.{next_of, members_in}

pub members-most : (k : ℕ) (w : List ℕ) (c : Chain) (at : ℕ) → length (members_in k w c at) ≤ k
unfolding members_in
members-most zero w c at = omega arith
members-most (suc k) w c at = go (eqb at 0) (members-most k w c (next_of w c at))
  where
    go : (b : Bool) → length (members_in k w c (next_of w c at)) ≤ k → length (cond b [] (at ∷ members_in k w c (next_of w c at))) ≤ suc k
    go true h = omega arith
    go false h = omega arith

module _ (w : List ℕ) (c : Chain) where
  -- a walk that ends at the first record that passes a test
  pub any-members : (test : ℕ → Bool) (f : ℕ → ℕ → Bool) → ((at : ℕ) → f 0 at ≡ false)
      → ((k at : ℕ) → f (suc k) at ≡ cond (eqb at 0) false (cond (test at) true (f k (next_of w c at))))
      → (k at : ℕ) → f k at ≡ list_any test (members_in k w c at)
  unfolding members_in
  any-members test f none more zero at = none at
  any-members test f none more (suc k) at = more k at ∙ go (eqb at 0) (test at) refl (any-members test f none more k (next_of w c at))
    where
      go : (b t : Bool) → test at ≡ t → f k (next_of w c at) ≡ list_any test (members_in k w c (next_of w c at)) → cond b false (cond t true (f k (next_of w c at))) ≡ list_any test (cond b [] (at ∷ members_in k w c (next_of w c at)))
      go true t e h = refl
      go false true e h = simp e
      go false false e h = simp e h

  -- a walk that carries a state along
  pub fold-members : {S : Type 0} (step : S → ℕ → S) (f : ℕ → ℕ → S → S) → ((at : ℕ) (s : S) → f 0 at s ≡ s)
      → ((k at : ℕ) (s : S) → f (suc k) at s ≡ cond (eqb at 0) s (f k (next_of w c at) (step s at)))
      → (k at : ℕ) (s : S) → f k at s ≡ fold step s (members_in k w c at)
  unfolding members_in
  fold-members step f none more zero at s = none at s
  fold-members step f none more (suc k) at s = more k at s ∙ go (eqb at 0) (fold-members step f none more k (next_of w c at) (step s at))
    where
      go : (b : Bool) → f k (next_of w c at) (step s at) ≡ fold step (step s at) (members_in k w c (next_of w c at)) → cond b s (f k (next_of w c at) (step s at)) ≡ fold step s (cond b [] (at ∷ members_in k w c (next_of w c at)))
      go true h = refl
      go false h = h

  -- a walk that adds up
  pub sum-members : (h : ℕ → ℕ) (f : ℕ → ℕ → ℕ) → ((at : ℕ) → f 0 at ≡ 0)
      → ((k at : ℕ) → f (suc k) at ≡ cond (eqb at 0) 0 (h at + f k (next_of w c at)))
      → (k at : ℕ) → f k at ≡ sum_by h (members_in k w c at)
  unfolding members_in
  sum-members h f none more k at = let z : f k at ≡ 0 + f k at = omega arith in z ∙ from k at 0
    where
      from : (k at n : ℕ) → n + f k at ≡ fold (λ a x. a + h x) n (members_in k w c at)
      from zero at n = omega (arith, none at)
      from (suc k) at n = go (eqb at 0) (more k at) (from k (next_of w c at) (n + h at))
        where
          go : (b : Bool) → f (suc k) at ≡ cond b 0 (h at + f k (next_of w c at))
              → n + h at + f k (next_of w c at) ≡ fold (λ a x. a + h x) (n + h at) (members_in k w c (next_of w c at))
              → n + f (suc k) at ≡ fold (λ a x. a + h x) n (cond b [] (at ∷ members_in k w c (next_of w c at)))
          go true e r = omega arith
          go false e r = let t : n + f (suc k) at ≡ n + h at + f k (next_of w c at) = omega arith in t ∙ r

  -- a walk to the record at a place, 0 where the chain ends before it
  pub nth-members : (f : ℕ → ℕ → ℕ) → ((at : ℕ) → f 0 at ≡ at) → ((i at : ℕ) → f (suc i) at ≡ cond (eqb at 0) 0 (f i (next_of w c at)))
      → (i k at : ℕ) → i < k → f i at ≡ get_or (members_in k w c at) i 0
  unfolding members_in
  nth-members f none more i zero at h = absurd (omega arith)
  nth-members f none more zero (suc k) at h = none at ∙ go (eqb at 0) refl
    where
      go : (b : Bool) → eqb at 0 ≡ b → at ≡ get_or (cond b [] (at ∷ members_in k w c (next_of w c at))) 0 0
      go true e = eqb-true _ _ e
      go false e = refl
  nth-members f none more (suc i) (suc k) at h = more i at ∙ go (eqb at 0) (nth-members f none more i k (next_of w c at) (omega arith))
    where
      go : (b : Bool) → f i (next_of w c at) ≡ get_or (members_in k w c (next_of w c at)) i 0 → cond b 0 (f i (next_of w c at)) ≡ get_or (cond b [] (at ∷ members_in k w c (next_of w c at))) (suc i) 0
      go true e = refl
      go false e = e
