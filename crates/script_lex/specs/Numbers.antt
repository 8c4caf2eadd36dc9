-- The numbers that words tell.
use Rattle.std.specs.Prelude.{Bool, cond, true, ◌&&◌, List, [], ◌∷◌, ℕ, ◌+◌, ◌-◌, ◌*◌, eqb, leb, get_or, drop, ℤ, pos, neg_ℤ, Option, Some, None}

abbrev pub is_digit : ℕ → Bool
is_digit b = leb 48 b && leb b 57

-- `n` with the digit `b` behind it
abbrev pub with_digit : ℕ → ℕ → ℕ
with_digit n b = n * 10 + (b - 48)

-- `b` is a digit, and the number with it is within the limit
unfoldable pub takes : ℕ → ℕ → ℕ → Bool
takes limit n b = is_digit b && leb (with_digit n b) limit

unfoldable pub all_digits : List ℕ → Bool
all_digits [] = true
all_digits (b ∷ w) = is_digit b && all_digits w

-- the number that `n` and the digits of a word behind it tell
unfoldable pub value : ℕ → List ℕ → ℕ
value n [] = n
value n (b ∷ w) = value (with_digit n b) w

unfoldable pub number_from : ℕ → ℕ → List ℕ → Option ℕ
number_from limit n w = cond (all_digits w && leb (value n w) limit) (Some (value n w)) None

-- the number of a word: one digit or more, nothing else, and a value within the limit
unfoldable pub number_of : ℕ → List ℕ → Option ℕ
number_of limit [] = None
number_of limit (b ∷ w) = number_from limit 0 (b ∷ w)

unfoldable pub plus : Option ℕ → Option ℤ
plus None = None
plus (Some n) = Some (pos n)

unfoldable pub minus : Option ℕ → Option ℤ
minus None = None
minus (Some n) = Some (neg_ℤ (pos n))

-- a signed number of 32 bits: 45 is its minus
unfoldable pub signed_of : List ℕ → Option ℤ
signed_of w = cond (eqb (get_or w 0 0) 45) (minus (number_of 2147483648 (drop 1 w))) (plus (number_of 2147483647 w))
