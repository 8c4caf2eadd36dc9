-- A text at each byte that is written to it, and the digits of a number.
use mathlib.Core.Path.{◌≡◌, refl, sym, ap, ap₂, ◌∙◌}
use mathlib.Core.List.{List, [], ◌∷◌, ◌++◌, append_assoc}
use Prim.Native.Nat.{ℕ, zero, suc, ◌+◌, ◌-◌, ◌/◌, ◌≤◌, ◌<◌}
use native.Mathlib.Numerals.{add-one}
use native.Mathlib.Omega.{arith}
use borrow.Author.Tests.{lt-ltb, le-ltb, ltb-true, ltb-false}
use lib.Dec.{ltb}
use lib.ListN.{length, get_or, set, drop, drop_of_length-le, length-set}
use lib.Seq.{drop-cons, get_or-set_same, drop-set-lt}
use Rattle.script_print.specs.Print.{digit_of, decimal_in, decimal, spaced, Written, written, printed}
use Rattle.script_lex.proofs.Cases.{either}

-- ---- bytes

pub full-stop : (t : List ℕ) (at : ℕ) (bs : List ℕ) → length t ≤ at → printed t at bs ≡ written t at
unfolding printed
full-stop t at [] h = refl
full-stop t at (b ∷ bs) h = simp (le-ltb _ _ h)

pub bytes-end : (t : List ℕ) (at : ℕ) (bs : List ℕ) (i : ℕ) → length bs ≤ i → printed t at (drop i bs) ≡ written t at
unfolding printed
bytes-end t at bs i h = simp (drop_of_length-le bs h)

-- what is written goes on where it ended
printed-append : (t : List ℕ) (at : ℕ) (a b : List ℕ) → printed t at (a ++ b) ≡ printed (printed t at a).text (printed t at a).at b
unfolding printed
printed-append t at [] b = refl
printed-append t at (x ∷ a) b =
    either (ltb at (length t)) (λ e. simp e (printed-append (set t at x) (at + 1) a b)) (λ e. simp e (sym (full-stop t at b (ltb-false at (length t) e))))

pub join : (t : List ℕ) (at : ℕ) (a b : List ℕ) {t' u : List ℕ} {at' end : ℕ} → written t' at' ≡ printed t at a → written u end ≡ printed t' at' b → written u end ≡ printed t at (a ++ b)
join t at a b e f =
    f ∙ ap₂ (λ (x : List ℕ) (n : ℕ). printed x n b) (ap (λ (w : Written). w.text) e) (ap (λ (w : Written). w.at) e) ∙ sym (printed-append t at a b)

pub printed-length : (t : List ℕ) (at : ℕ) (bs : List ℕ) → length (printed t at bs).text ≡ length t
unfolding printed
printed-length t at [] = refl
printed-length t at (b ∷ bs) = either (ltb at (length t)) (λ e. simp e (printed-length (set t at b) (at + 1) bs ∙ length-set t at b)) (λ e. simp e)

printed-within : (t : List ℕ) (at : ℕ) (bs : List ℕ) → at ≤ length t → (printed t at bs).at ≤ length t
unfolding printed
printed-within t at [] h = h
printed-within t at (b ∷ bs) h =
    either (ltb at (length t))
    (λ e. let l = ltb-true at (length t) e in simp e (omega (arith, printed-within (set t at b) (at + 1) bs (omega (arith, length-set t at b)), length-set t at b)))
    (λ e. simp e h)

-- where the writing starts in the text, it ends there
pub ends-within : (t : List ℕ) (at : ℕ) (bs : List ℕ) {u : List ℕ} {end : ℕ} → at ≤ length t → written u end ≡ printed t at bs → end ≤ length u
ends-within t at bs h e =
    let x = ap (λ (w : Written). w.at) e in
    let y = ap (λ (w : Written). length w.text) e in
    omega (arith, x, y, printed-length t at bs, printed-within t at bs h)

-- ---- digits: behind those that are still to come, those that stand in the buffer from place `i` on

put_front : (i : ℕ) (d : List ℕ) (b : ℕ) → i < length d → drop i (set d i b) ≡ b ∷ drop (suc i) d
put_front i d b h =
    drop-cons (set d i b) i 0 (omega (arith, length-set d i b))
    ∙ ap₂ (λ (x : ℕ) (xs : List ℕ). x ∷ xs) (get_or-set_same d i b 0 h) (drop-set-lt (suc i) d i b (omega arith))

less_one : (j : ℕ) → suc j - 1 ≡ j
less_one j = omega arith

pub digits-stop : (i rest : ℕ) (d : List ℕ) → 0 < i → i ≤ length d → rest < 10 → decimal_in i rest ++ drop i d ≡ drop (i - 1) (set d (i - 1) (digit_of rest))
unfolding decimal_in
digits-stop zero rest d h k l = absurd (omega arith)
digits-stop (suc j) rest d h k l = simp (less_one j, lt-ltb _ _ l) (sym (put_front j d (digit_of rest) (omega arith)))

pub digits_more : (i rest : ℕ) (d : List ℕ) → 0 < i → i ≤ length d → 10 ≤ rest → decimal_in i rest ++ drop i d ≡ decimal_in (i - 1) (rest / 10) ++ drop (i - 1) (set d (i - 1) (digit_of rest))
unfolding decimal_in
digits_more zero rest d h k l = absurd (omega arith)
digits_more (suc j) rest d h k l =
    simp (less_one j, le-ltb _ _ l, append_assoc) (ap (λ (x : List ℕ). decimal_in j (rest / 10) ++ x) (sym (put_front j d (digit_of rest) (omega arith))))

pub digits-end : (i rest : ℕ) (d : List ℕ) → i ≤ 0 → decimal_in i rest ++ drop i d ≡ d
unfolding decimal_in
digits-end zero rest d h = refl
digits-end (suc j) rest d h = absurd (omega arith)

-- ---- lists of numbers

pub list-end : (t : List ℕ) (at : ℕ) (ns : List ℕ) (i : ℕ) → length ns ≤ i → printed t at (spaced (drop i ns)) ≡ written t at
unfolding printed spaced
list-end t at ns i h = simp (drop_of_length-le ns h)

pub list-more : (t : List ℕ) (at : ℕ) (ns : List ℕ) (i : ℕ) {t' : List ℕ} {at' : ℕ} → i < length ns
    → written t' at' ≡ printed t at (32 ∷ decimal (get_or ns i 0)) → printed t at (spaced (drop i ns)) ≡ printed t' at' (spaced (drop (i + 1) ns))
unfolding spaced
list-more t at ns i k e =
    simp (drop-cons ns i 0 k, add-one i)
    (printed-append t at (32 ∷ decimal (get_or ns i 0)) (spaced (drop (suc i) ns))
    ∙ sym (ap₂ (λ (x : List ℕ) (n : ℕ). printed x n (spaced (drop (suc i) ns))) (ap (λ (w : Written). w.text) e) (ap (λ (w : Written). w.at) e)))
