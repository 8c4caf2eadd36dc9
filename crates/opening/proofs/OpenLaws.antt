-- The laws of the clearing, and what good limits are.
use Rattle.std.proofs.Common.{ℕ, zero, suc, ◌+◌, ◌<◌, ◌≤◌, List, [], ◌∷◌, ◌++◌, length, drop, set, replicate, ◌≡◌, refl, ap, ◌∙◌, arith}
use mathlib.Core.Bool.{Bool, cond, true, false, true≢false}
use lib.Dec.{ltb}
use borrow.Author.Tests.{ltb-false}
use Rattle.words.specs.Layout as at
use Rattle.opening.specs.Open.{bad_limits, cleared}

cleared-empty : (k : ℕ) → cleared k [] ≡ []
unfolding cleared
cleared-empty zero = refl
cleared-empty (suc k) = ap (λ (l : List ℕ). set l k 0) (cleared-empty k)

cleared-cons : (k x : ℕ) (w : List ℕ) → cleared (suc k) (x ∷ w) ≡ 0 ∷ cleared k w
unfolding cleared
cleared-cons zero x w = refl
cleared-cons (suc k) x w = ap (λ (l : List ℕ). set l (suc k) 0) (cleared-cons k x w)

-- the first `k` words 0, where `n` of them are there
pub cleared-start : (n k : ℕ) (w : List ℕ) → n ≤ k → n ≤ length w → (n < k → length w ≤ n) → cleared k w ≡ replicate {A = ℕ} n 0 ++ drop n w
unfolding cleared
cleared-start zero zero w a b h = refl
cleared-start zero (suc k) [] a b h = cleared-empty (suc k)
cleared-start zero (suc k) (x ∷ w) a b h = absurd (let j = h (omega arith) in omega arith)
cleared-start (suc n) zero w a b h = absurd (omega arith)
cleared-start (suc n) (suc k) [] a b h = absurd (omega arith)
cleared-start (suc n) (suc k) (x ∷ w) a b h =
    cleared-cons k x w ∙ ap (λ (l : List ℕ). 0 ∷ l) (cleared-start n k w (omega arith) (omega arith) (λ l. let j = h (omega (arith, l)) in omega arith))

-- good limits are small
pub record Limits (t o d : ℕ) : Type 0 where
  pub threads : t ≤ at.most_threads
  pub objects : o ≤ 4096
  pub dpcs : d ≤ 4096

pub limits : (t o d : ℕ) → bad_limits t o d ≡ false → Limits t o d
unfolding bad_limits
limits t o d = go (ltb t 1) (ltb at.most_threads t) (ltb 4096 o) (ltb 4096 d) refl refl refl refl
  where
    go : (a b c e : Bool) → ltb t 1 ≡ a → ltb at.most_threads t ≡ b → ltb 4096 o ≡ c → ltb 4096 d ≡ e → cond a true (cond b true (cond c true e)) ≡ false → Limits t o d
    go true b c e p q r s h = absurd (true≢false h)
    go false true c e p q r s h = absurd (true≢false h)
    go false false true e p q r s h = absurd (true≢false h)
    go false false false true p q r s h = absurd (true≢false h)
    go false false false false p q r s h = record { threads = ltb-false _ _ q; objects = ltb-false _ _ r; dpcs = ltb-false _ _ s }
