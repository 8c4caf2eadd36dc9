-- The laws of taking marked records out of a table, as the code counts.
use Prim.Native.Nat.{ℕ, zero, suc, ◌+◌, ◌-◌, ◌≤◌, ◌<◌}
use native.Mathlib.Omega.{arith}
use mathlib.Core.List.{List}
use mathlib.Core.Bool.{Bool, cond, true, false}
use mathlib.Core.Path.{◌≡◌, refl, ap}
use lib.Dec.{ltb}
use lib.ListN.{get_or, set}
use borrow.Author.Tests.{le-ltb}
use Rattle.words.specs.Layout.{entry_at}
use Rattle.tables.specs.Compact.{is_marked, copied_in, moved, kept, kept_to, retained_in, retained_to_in, retained, retained_to, compacted_in, compacted_to_in, compacted, compacted_to}

less_one : (k : ℕ) → suc k - 1 ≡ k
less_one k = omega arith

pub copied_none : (m : ℕ) (w : List ℕ) (from to k : ℕ) → m ≤ 0 → copied_in m w from to k ≡ w
unfolding copied_in
copied_none zero w from to k h = refl
copied_none (suc m) w from to k h = absurd (omega arith)

pub copied_more : (m : ℕ) (w : List ℕ) (from to k : ℕ) → 0 < m
    → copied_in m w from to k ≡ copied_in (m - 1) (set w (to + k) (get_or w (from + k) 0)) from to (k + 1)
unfolding copied_in
copied_more zero w from to k h = absurd (omega arith)
copied_more (suc m) w from to k h = simp (less_one m)

module _ (test : List ℕ → ℕ → Bool) where
  pub retained-none : (m : ℕ) (w : List ℕ) (base i j : ℕ) → m ≤ 0 → (retained_to_in test m w base i j ≡ j) × (retained_in test m w base i j ≡ w)
  unfolding retained_in retained_to_in
  retained-none zero w base i j h = (refl, refl)
  retained-none (suc m) w base i j h = absurd (omega arith)

  pub retained-all : (w : List ℕ) (base n : ℕ) → n ≤ 8191
      → (retained_to_in test (n - 0) w base 0 0 ≡ retained_to test w base n) × (retained_in test (n - 0) w base 0 0 ≡ retained test w base n)
  unfolding retained retained_to
  retained-all w base n h = let z : n - 0 ≡ n = omega arith in (rw z (simp (le-ltb _ _ h)), rw z (simp (le-ltb _ _ h)))

  -- a record that goes, and one that stays, in a walk that counts up
  pub retained-goes : (n i : ℕ) (w v : List ℕ) (base j k : ℕ) → i < n → test w (entry_at base i) ≡ true → v ≡ w → k ≡ j
      → (retained_to_in test (n - (i + 1)) v base (i + 1) k ≡ retained_to_in test (n - i) w base i j)
      × (retained_in test (n - (i + 1)) v base (i + 1) k ≡ retained_in test (n - i) w base i j)
  unfolding retained_in retained_to_in
  retained-goes n i w v base j k h e p q = let m : n - i ≡ suc (n - (i + 1)) = omega arith in (rw (m, p, q) (simp e), rw (m, p, q) (simp e))

  pub retained-stays : (n i : ℕ) (w v : List ℕ) (base j k : ℕ) → i < n → test w (entry_at base i) ≡ false → v ≡ moved w base i j → k ≡ j + 1
      → (retained_to_in test (n - (i + 1)) v base (i + 1) k ≡ retained_to_in test (n - i) w base i j)
      × (retained_in test (n - (i + 1)) v base (i + 1) k ≡ retained_in test (n - i) w base i j)
  unfolding retained_in retained_to_in
  retained-stays n i w v base j k h e p q = let m : n - i ≡ suc (n - (i + 1)) = omega arith in (rw (m, p, q) (simp e), rw (m, p, q) (simp e))

-- records with a mark are taken out by a test for the mark
module _ (word mark : ℕ) where
  compacts : (m : ℕ) (w : List ℕ) (base i j : ℕ)
      → (retained_to_in (λ v at. is_marked v at word mark) m w base i j ≡ compacted_to_in m w base i j word mark)
      × (retained_in (λ v at. is_marked v at word mark) m w base i j ≡ compacted_in m w base i j word mark)
  unfolding retained_in retained_to_in compacted_in compacted_to_in kept kept_to
  compacts zero w base i j = (refl, refl)
  compacts (suc m) w base i j = go (is_marked w (entry_at base i) word mark) (compacts m w base (i + 1) j) (compacts m (moved w base i j) base (i + 1) (j + 1))
    where
      go : (b : Bool)
          → (retained_to_in (λ v at. is_marked v at word mark) m w base (i + 1) j ≡ compacted_to_in m w base (i + 1) j word mark)
          × (retained_in (λ v at. is_marked v at word mark) m w base (i + 1) j ≡ compacted_in m w base (i + 1) j word mark)
          → (retained_to_in (λ v at. is_marked v at word mark) m (moved w base i j) base (i + 1) (j + 1) ≡ compacted_to_in m (moved w base i j) base (i + 1) (j + 1) word mark)
          × (retained_in (λ v at. is_marked v at word mark) m (moved w base i j) base (i + 1) (j + 1) ≡ compacted_in m (moved w base i j) base (i + 1) (j + 1) word mark)
          → (cond b (retained_to_in (λ v at. is_marked v at word mark) m w base (i + 1) j) (retained_to_in (λ v at. is_marked v at word mark) m (moved w base i j) base (i + 1) (j + 1))
          ≡ compacted_to_in m (cond b w (moved w base i j)) base (i + 1) (cond b j (j + 1)) word mark)
          × (cond b (retained_in (λ v at. is_marked v at word mark) m w base (i + 1) j) (retained_in (λ v at. is_marked v at word mark) m (moved w base i j) base (i + 1) (j + 1))
          ≡ compacted_in m (cond b w (moved w base i j)) base (i + 1) (cond b j (j + 1)) word mark)
      go true a b = a
      go false a b = b

  pub compacted-retained : (w : List ℕ) (base n : ℕ)
      → (retained_to (λ v at. is_marked v at word mark) w base n ≡ compacted_to w base n word mark)
      × (retained (λ v at. is_marked v at word mark) w base n ≡ compacted w base n word mark)
  unfolding retained retained_to compacted compacted_to
  compacted-retained w base n =
      (ap (λ (x : ℕ). cond (ltb 8191 n) n x) (compacts n w base 0 0).0, ap (λ (x : List ℕ). cond (ltb 8191 n) w x) (compacts n w base 0 0).1)
