-- A number at each of its digits.
use mathlib.Core.Path.{◌≡◌, refl, sym, ap, ◌∙◌}
use mathlib.Core.Bool.{Bool, true, false, false≢true, ◌&&◌}
use mathlib.Core.List.{List, [], ◌∷◌}
use Rattle.std.specs.Prelude.{Option, Some, None}
use Prim.Native.Nat.{ℕ, suc, ◌+◌, ◌-◌, ◌*◌, ◌≤◌, ◌<◌}
use native.Mathlib.Omega.{arith}
use borrow.Author.Tests.{leb-true, leb-false, le-leb, lt-leb, eq-eqb, ne_eqb}
use lib.Dec.{eqb, leb}
use lib.ListN.{length, get_or, drop, drop_of_length-le}
use lib.Seq.{drop-cons}
use native.Mathlib.Numerals.{add-one}
use Rattle.script_lex.specs.Words.{first, others, none}
use Rattle.script_lex.specs.Arguments.{one_of, two_of, join_two}
use Rattle.script_lex.specs.Numbers.{is_digit, with_digit, takes, all_digits, value, number_from, number_of, plus, minus, signed_of}
use Rattle.script_lex.proofs.Cases.{either}

-- ---- whether a digit is taken

pub record Taken (limit n b : ℕ) : Type 0 where
  pub least : 48 ≤ b
  pub most : b ≤ 57
  pub digit : is_digit b ≡ true
  pub within : with_digit n b ≤ limit

pub taken : (limit n b : ℕ) → takes limit n b ≡ true → Taken limit n b
unfolding takes
taken limit n b = go (leb 48 b) (leb b 57) (leb (with_digit n b) limit) refl refl refl
  where
    go : (x y z : Bool) → leb 48 b ≡ x → leb b 57 ≡ y → leb (with_digit n b) limit ≡ z → ((x && y) && z) ≡ true → Taken limit n b
    go true true true d e f t = record { least = leb-true 48 b d; most = leb-true b 57 e; digit = simp (d, e); within = leb-true (with_digit n b) limit f }
    go true true false d e f t = absurd (false≢true t)
    go true false z d e f t = absurd (false≢true t)
    go false y z d e f t = absurd (false≢true t)

pub taking : (limit n b : ℕ) → 48 ≤ b → b ≤ 57 → with_digit n b ≤ limit → takes limit n b ≡ true
unfolding takes
taking limit n b least most h = simp (le-leb 48 b least, le-leb b 57 most, le-leb (with_digit n b) limit h)

-- a test that does not hold
pub refused : (limit n b : ℕ) → (takes limit n b ≡ true → ⊥) → takes limit n b ≡ false
refused limit n b h = either (takes limit n b) (λ t. absurd (h t)) (λ t. t)

-- ---- a number at its next digit

value_grows : (n : ℕ) (w : List ℕ) → n ≤ value n w
unfolding value
value_grows n [] = omega arith
value_grows n (b ∷ w) = let h = value_grows (n * 10 + (b - 48)) w in omega arith

and-false : (t : Bool) → (t && false) ≡ false
and-false true = refl
and-false false = refl

module _ (limit n b : ℕ) (w : List ℕ) where
  more : takes limit n b ≡ true → number_from limit n (b ∷ w) ≡ number_from limit (with_digit n b) w
  unfolding number_from all_digits value
  more e = simp (taken limit n b e).digit

  stop : takes limit n b ≡ false → number_from limit n (b ∷ w) ≡ None
  unfolding number_from all_digits value takes
  stop e =
      either (is_digit b)
      (λ d. let l = leb-false (n * 10 + (b - 48)) limit (simp d at e) in
      let h = value_grows (n * 10 + (b - 48)) w in
      simp (d, lt-leb (value (n * 10 + (b - 48)) w) limit (omega arith), and-false (all_digits w)))
      (λ d. simp d)

module _ (limit n i : ℕ) (w : List ℕ) where
  pub number-end : length w ≤ i → n ≤ limit → number_from limit n (drop i w) ≡ Some n
  unfolding number_from all_digits value
  number-end h l = simp (drop_of_length-le w h, le-leb _ _ l)

  pub number-stop : i < length w → takes limit n (get_or w i 0) ≡ false → number_from limit n (drop i w) ≡ None
  number-stop h e = simp (drop-cons w i 0 h) (stop limit n (get_or w i 0) (drop (suc i) w) e)

  pub number_more : i < length w → takes limit n (get_or w i 0) ≡ true → number_from limit n (drop i w) ≡ number_from limit (with_digit n (get_or w i 0)) (drop (i + 1) w)
  number_more h e = simp (drop-cons w i 0 h, add-one i) (more limit n (get_or w i 0) (drop (suc i) w) e)

pub number-none : (limit : ℕ) (w : List ℕ) → eqb (length w) 0 ≡ true → number_of limit w ≡ None
unfolding number_of
number-none limit [] e = refl
number-none limit (b ∷ w) e = absurd (false≢true (sym (ne_eqb (suc (length w)) 0 (λ z. omega arith)) ∙ e))

pub number-some : (limit : ℕ) (w : List ℕ) → eqb (length w) 0 ≡ false → number_of limit w ≡ number_from limit 0 w
unfolding number_of
number-some limit [] e = absurd (false≢true (sym e))
number-some limit (b ∷ w) e = refl

and_right : (x y : Bool) → (x && y) ≡ true → y ≡ true
and_right true y e = e
and_right false y e = absurd (false≢true e)

-- a number that is read is within its limit
pub within : (limit n : ℕ) (w : List ℕ) → Some n ≡ number_of limit w → n ≤ limit
unfolding number_of number_from
within limit n [] e = absurd (let z : ◌≡◌ {A = ℕ} 0 1 = cc in omega arith)
within limit n (b ∷ w) e =
    either (all_digits (b ∷ w) && leb (value 0 (b ∷ w)) limit)
    (λ t. let q = simp t at e in let z : n ≡ value 0 (b ∷ w) = cc in omega (arith, leb-true (value 0 (b ∷ w)) limit (and_right (all_digits (b ∷ w)) (leb (value 0 (b ∷ w)) limit) t)))
    (λ t. absurd (let q = simp t at e in let z : ◌≡◌ {A = ℕ} 0 1 = cc in omega arith))

-- ---- a signed number, by its first byte

pub signed-minus : (w : List ℕ) → get_or w 0 0 ≡ 45 → signed_of w ≡ minus (number_of 2147483648 (drop 1 w))
unfolding signed_of
signed-minus w e = simp (eq-eqb _ _ e)

pub signed-plus : (w : List ℕ) → (get_or w 0 0 ≡ 45 → ⊥) → signed_of w ≡ plus (number_of 2147483647 w)
unfolding signed_of
signed-plus w n = simp (ne_eqb _ _ n)

pub signed-none : (w : List ℕ) → eqb (length w) 0 ≡ true → signed_of w ≡ None
unfolding signed_of number_of plus
signed-none [] e = refl
signed-none (b ∷ w) e = absurd (false≢true (sym (ne_eqb (suc (length w)) 0 (λ z. omega arith)) ∙ e))

-- ---- the same of arguments

pub one-within : (limit n : ℕ) (ws : List (List ℕ)) → Some n ≡ one_of limit ws → n ≤ limit
unfolding one_of
one-within limit n ws e =
    either (none (others ws))
    (λ t. within limit n (first ws) (simp t at e))
    (λ t. absurd (let q = simp t at e in let z : ◌≡◌ {A = ℕ} 0 1 = cc in omega arith))

pub last_within : (limit last a b : ℕ) (ws : List (List ℕ)) → Some (a, b) ≡ two_of limit last ws → b ≤ last
unfolding two_of join_two
last_within limit last a b ws e = go (number_of limit (first ws)) (one_of last (others ws)) refl e
  where
    go : (x y : Option ℕ) → one_of last (others ws) ≡ y → Some (a, b) ≡ join_two x y → b ≤ last
    go (Some m) (Some n) f e = let p : ◌≡◌ {A = ℕ × ℕ} (a, b) (m, n) = cc in let z : b ≡ n = ap (λ (q : ℕ × ℕ). q.1) p in one-within last b (others ws) (cc)
    go (Some m) None f e = absurd (let z : ◌≡◌ {A = ℕ} 0 1 = cc in omega arith)
    go None y f e = absurd (let z : ◌≡◌ {A = ℕ} 0 1 = cc in omega arith)
