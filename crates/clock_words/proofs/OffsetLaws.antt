-- The offset and its word: minutes from -840 to 840 are the words from 0 to 1680.
use Rattle.std.proofs.Common.{◌≡◌, ℕ, suc, ◌+◌, ◌-◌, ◌^◌, ◌<◌, ◌≤◌, Bool, true, false, cond, T, ltb, leb, ℤ, pos, negsuc, ◌+ℤ◌, ◌-ℤ◌, nat_abs}
use mathlib.Core.Path.{refl, sym, ap, ◌∙◌}
use mathlib.Core.Bool.{false≢true}
use native.Mathlib.Omega.{arith}
use borrow.Author.Tests.{ltb-true, ltb-false, lt-ltb, le-ltb, leb-true, le-leb}
use lib.Dec.{lit<}
use lib.Signed.{non_neg}
use mir.Syntax.{w32, w64}
use mir.Val.{Fits, SFits, to_z, of_z}
use mir.Facts.{to_z-of_z}
use Rattle.clock.specs.Clock.{offset_in_range}
use Rattle.clock.proofs.FormLaws.{both}
use Rattle.clock_words.specs.ClockWords.{offset_at, biased, offset_word}

minutes-fit : (n : ℕ) → n < 2 ^ 31 → SFits w32 (pos n -ℤ pos 840)
minutes-fit n h = go (ltb n 840)
  where
    go : (b : Bool) → SFits w32 (cond b (negsuc (840 - suc n)) (pos (n - 840)))
    go true = record { sfits = omega arith }
    go false = record { sfits = omega arith }

pub offset-fits : (n : ℕ) → SFits w32 (offset_at n)
unfolding offset_at
offset-fits n = go (leb n 1680) refl
  where
    go : (b : Bool) → leb n 1680 ≡ b → SFits w32 (cond b (pos n -ℤ pos 840) (pos 841))
    go true e = minutes-fit n (omega (arith, leb-true n 1680 e))
    go false e = record { sfits = lit< tt }

-- the code's difference: the word as a signed number, less 840
module _ (n : ℕ) (h : n < 2 ^ 31) where
  same_sign : to_z w32 n ≡ pos n
  same_sign = to_z-of_z {w = w32} {z = pos n} (record { sfits = h })

  pub difference-fits : SFits w32 (to_z w32 n -ℤ pos 840)
  difference-fits = rw same_sign (minutes-fit n h)

  pub difference-is : n ≤ 1680 → to_z w32 (of_z w32 (to_z w32 n -ℤ pos 840)) ≡ offset_at n
  unfolding offset_at
  difference-is l = to_z-of_z difference-fits ∙ simp (same_sign, le-leb _ _ l)

least : (n : ℕ) → offset_in_range (negsuc n) ≡ true → n ≤ 839
unfolding offset_in_range
least n e = leb-true n 839 (both _ _ e).0

-- in range the sum is no negative number
sum_is : (z : ℤ) → offset_in_range z ≡ true → (z +ℤ pos 840 ≡ pos (biased z)) × (biased z ≤ 1680)
unfolding offset_in_range
sum_is (pos n) e = (refl, omega (arith, leb-true n 840 e))
sum_is (negsuc n) e =
    let h : n ≤ 839 = least n e in
    (simp (le-ltb 840 (suc n) (let z : suc n ≤ 840 = omega arith in z)) (ap pos (let z : 840 - suc n ≡ 839 - n = omega arith in z)), omega arith)

-- the code's test and its sum: `r` is what the test of the minutes answered
module _ (z : ℤ) (h : SFits w32 z) {r : Bool} (tested : r ≡ offset_in_range (to_z w32 (of_z w32 z))) where
  same : to_z w32 (of_z w32 z) ≡ z
  same = to_z-of_z h

  pub out_of_range : r ≡ false → 0 ≡ offset_word z
  unfolding offset_word
  out_of_range t = simp (simp same at (sym tested ∙ t))

  within : r ≡ true → offset_in_range z ≡ true
  within t = simp same at (sym tested ∙ t)

  pub sum_fits : r ≡ true → SFits w32 (to_z w32 (of_z w32 z) +ℤ pos 840)
  sum_fits t = simp (same, (sum_is z (within t)).0) (record { sfits = omega (arith, (sum_is z (within t)).1) })

  sum-word : r ≡ true → to_z w32 (of_z w32 (to_z w32 (of_z w32 z) +ℤ pos 840)) ≡ pos (biased z)
  sum-word t = to_z-of_z (sum_fits t) ∙ simp same (sum_is z (within t)).0

  pub sum-casts : r ≡ true → T (non_neg (to_z w32 (of_z w32 (to_z w32 (of_z w32 z) +ℤ pos 840)))) × Fits w64 (nat_abs (to_z w32 (of_z w32 (to_z w32 (of_z w32 z) +ℤ pos 840))))
  sum-casts t = rw (sum-word t) (tt, record { fits = omega (arith, (sum_is z (within t)).1) })

  pub cast_is : r ≡ true → nat_abs (to_z w32 (of_z w32 (to_z w32 (of_z w32 z) +ℤ pos 840))) ≡ offset_word z
  unfolding offset_word
  cast_is t = simp (sum-word t, within t)

-- a word whose offset is in range is that offset's word
pub word-of-offset : (word : ℕ) → offset_in_range (offset_at word) ≡ true → offset_word (offset_at word) ≡ word
unfolding offset_word offset_at offset_in_range
word-of-offset word e = simp e (go (leb word 1680) (ltb word 840) refl e)
  where
    go : (b d : Bool) → ltb word 840 ≡ d → offset_in_range (cond b (cond d (negsuc (840 - suc word)) (pos (word - 840))) (pos 841)) ≡ true → biased (cond b (cond d (negsuc (840 - suc word)) (pos (word - 840))) (pos 841)) ≡ word
    go true true t e = omega (arith, ltb-true word 840 t)
    go true false t e = omega (arith, ltb-false word 840 t)
    go false d t e = absurd (false≢true e)

pub offset-of-word : (z : ℤ) → offset_in_range z ≡ true → offset_at (offset_word z) ≡ z
unfolding offset_word offset_at
offset-of-word z e = simp (e, le-leb _ _ (sum_is z e).1) (back z e)
  where
    back : (z : ℤ) → offset_in_range z ≡ true → pos (biased z) -ℤ pos 840 ≡ z
    back (pos n) e = simp (le-ltb (n + 840) 840 (let z : 840 ≤ n + 840 = omega arith in z)) (ap pos (let z : n + 840 - 840 ≡ n = omega arith in z))
    back (negsuc n) e =
        let h : n ≤ 839 = least n e in
        simp (lt-ltb (839 - n) 840 (let z : 839 - n < 840 = omega arith in z)) (ap negsuc (let z : 840 - suc (839 - n) ≡ n = omega arith in z))
