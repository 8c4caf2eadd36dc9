-- How many words `open` asks for: as many as the sizing call answers, and no fewer.
use Prim.Native.Nat.{ℕ, ◌≤◌}
use mathlib.Core.Bool.{Bool, true, false, cond}
use mathlib.Core.Path.{◌≡◌, refl}
use native.Mathlib.Omega.{arith}
use lib.Dec.{ltb}
use borrow.Author.Tests.{ltb-false, lt-ltb, le-ltb}
use Rattle.model.specs.Refusal.{not_priority, bad_limits, words_needed, open_refusal}
use Rattle.model.specs.Sizing.{InRange, Least}

-- the limits are bad exactly if they are out of range
pub in-range-good : (t o d : ℕ) → InRange t o d → bad_limits t o d ≡ false
unfolding bad_limits
in-range-good t o d r = simp (le-ltb t 1 r.some_thread, le-ltb 256 t r.threads, le-ltb 4096 o r.objects, le-ltb 4096 d r.dpcs)

pub good-in-range : (t o d : ℕ) → bad_limits t o d ≡ false → InRange t o d
unfolding bad_limits
good-in-range t o d = go (ltb t 1) (ltb 256 t) (ltb 4096 o) (ltb 4096 d) refl refl refl refl
  where
    go : (a b c e : Bool) → ltb t 1 ≡ a → ltb 256 t ≡ b → ltb 4096 o ≡ c → ltb 4096 d ≡ e → cond a true (cond b true (cond c true e)) ≡ false → InRange t o d
    go false false false false p q r s h = record { some_thread = ltb-false _ _ p; threads = ltb-false _ _ q; objects = ltb-false _ _ r; dpcs = ltb-false _ _ s }
    go true b c e p q r s h = absurd (let z : ◌≡◌ {A = ℕ} 0 1 = cc in omega arith)
    go false true c e p q r s h = absurd (let z : ◌≡◌ {A = ℕ} 0 1 = cc in omega arith)
    go false false true e p q r s h = absurd (let z : ◌≡◌ {A = ℕ} 0 1 = cc in omega arith)
    go false false false true p q r s h = absurd (let z : ◌≡◌ {A = ℕ} 0 1 = cc in omega arith)

module _ (p t o d : ℕ) (least : 1 ≤ p) (most : p ≤ 31) where
  -- with limits in range, `open` accepts the words that the sizing call answers, and refuses fewer
  pub least-words : InRange t o d → Least p t o d (words_needed t o d)
  unfolding open_refusal not_priority
  least-words r =
      record {
        enough = λ m h. simp (le-ltb p 1 least, le-ltb 31 p most, in-range-good t o d r, le-ltb m (words_needed t o d) h);
        fewer = λ m h. simp (le-ltb p 1 least, le-ltb 31 p most, in-range-good t o d r, lt-ltb m (words_needed t o d) h);
      }

  -- with limits out of range it refuses any number of words
  pub no_words : (InRange t o d → ⊥) → (m : ℕ) → open_refusal m p t o d ≡ 27
  unfolding open_refusal not_priority
  no_words out m = simp (le-ltb p 1 least, le-ltb 31 p most, bad (bad_limits t o d) refl)
    where
      bad : (b : Bool) → bad_limits t o d ≡ b → bad_limits t o d ≡ true
      bad true e = e
      bad false e = absurd (out (good-in-range t o d e))
