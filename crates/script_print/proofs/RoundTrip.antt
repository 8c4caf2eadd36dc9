-- A number that is written is read again.
use mathlib.Core.Path.{◌≡◌, refl, ◌∙◌}
use mathlib.Core.Bool.{true, false≢true}
use mathlib.Core.List.{List, [], ◌∷◌, ◌++◌}
use Prim.Native.Nat.{ℕ, zero, suc, ◌+◌, ◌*◌, ◌/◌, ◌%◌, ◌^◌, ◌≤◌, ◌<◌}
use native.Mathlib.Nat.{mod-lt, mod-eq_of_lt, div-add-mod', div-lt_iff_lt-mul, pow-suc}
use native.Mathlib.Omega.{arith}
use borrow.Author.Tests.{le-leb, ltb-true}
use lib.Dec.{ltb, lit<}
use Rattle.std.specs.Prelude.{Some}
use Rattle.script_lex.specs.Numbers.{is_digit, with_digit, all_digits, value, number_from, number_of}
use Rattle.script_print.specs.Print.{digit_of, decimal_in, decimal}
use Rattle.script_lex.proofs.Cases.{either}

value-append : (n : ℕ) (w : List ℕ) (b : ℕ) → value n (w ++ (b ∷ [])) ≡ with_digit (value n w) b
unfolding value
value-append n [] b = refl
value-append n (a ∷ w) b = value-append (with_digit n a) w b

digits_append : (w : List ℕ) (b : ℕ) → all_digits w ≡ true → is_digit b ≡ true → all_digits (w ++ (b ∷ [])) ≡ true
unfolding all_digits
digits_append [] b e d = simp d
digits_append (a ∷ w) b e d = either (is_digit a) (λ x. simp x (digits_append w b (simp x at e) d)) (λ x. absurd (false≢true (simp x at e)))

digit-is : (n : ℕ) → is_digit (digit_of n) ≡ true
digit-is n = let l : n % 10 < 10 = mod-lt n (lit< tt) in simp (le-leb 48 (48 + n % 10) (omega arith), le-leb (48 + n % 10) 57 (omega arith))

with-digit : (m n : ℕ) → with_digit m (digit_of n) ≡ m * 10 + n % 10
with-digit m n = omega arith

-- ---- the digits of a number

all_digits_lem : (m n : ℕ) → all_digits (decimal_in m n) ≡ true
unfolding all_digits decimal_in
all_digits_lem zero n = refl
all_digits_lem (suc m) n = either (ltb n 10) (λ e. simp (e, digit-is n)) (λ e. simp e (digits_append (decimal_in m (n / 10)) (digit_of n) (all_digits_lem m (n / 10)) (digit-is n)))

value-is : (m n : ℕ) → n < 10 ^ m → value 0 (decimal_in m n) ≡ n
unfolding value decimal_in
value-is zero n h = omega arith
value-is (suc m) n h =
    either (ltb n 10)
    (λ e. let q = mod-eq_of_lt (ltb-true n 10 e) in simp e (omega arith))
    (λ e. let l : n / 10 < 10 ^ m = (div-lt_iff_lt-mul (lit< tt)).1 (simp (pow-suc 10 m) at h) in
    simp (e, value-append 0 (decimal_in m (n / 10)) (digit_of n), value-is m (n / 10) l) (with-digit (n / 10) n ∙ div-add-mod' n 10))

number-of : (limit : ℕ) (w : List ℕ) (b : ℕ) → number_of limit (w ++ (b ∷ [])) ≡ number_from limit 0 (w ++ (b ∷ []))
unfolding number_of
number-of limit [] b = refl
number-of limit (a ∷ w) b = refl

some-digit : (limit m n : ℕ) → number_of limit (decimal_in (suc m) n) ≡ number_from limit 0 (decimal_in (suc m) n)
unfolding decimal_in
some-digit limit m n = either (ltb n 10) (λ e. simp e (number-of limit [] (digit_of n))) (λ e. simp e (number-of limit (decimal_in m (n / 10)) (digit_of n)))

pub round_trip : (limit n : ℕ) → n ≤ limit → n < 2 ^ 64 → number_of limit (decimal n) ≡ Some n
unfolding number_from
round_trip limit n h l =
    let k : n < 10 ^ 20 = omega arith in
    some-digit limit 19 n ∙ simp (all_digits_lem 20 n, value-is 20 n k, le-leb n limit h)
