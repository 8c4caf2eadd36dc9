-- How much room the line of an answer needs.
use mathlib.Core.Path.{◌≡◌, sym, ap, ap₂, ◌∙◌}
use mathlib.Core.Bool.{true, false}
use mathlib.Core.List.{List, [], ◌∷◌, ◌++◌, append_assoc}
use Prim.Native.Nat.{ℕ, zero, suc, ◌+◌, ◌-◌, ◌*◌, ◌/◌, ◌≤◌, ◌<◌}
use native.Mathlib.Numerals.{add-one}
use native.Mathlib.Omega.{arith}
use borrow.Author.Tests.{lt-ltb, ltb-true, ltb-false}
use lib.Dec.{ltb}
use lib.ListN.{length, take, drop, set, length-append, length-take, length-set}
use lib.Seq.{sets, sets-eq, take_at, length-take-le}
use Rattle.std.specs.Prelude.{min}
use Rattle.std.proofs.Math.Nat.{min-le_left, min-le_right, min-eq_left, min-eq_right}
use Rattle.std.proofs.Math.Seq.{length-sets}
use Rattle.std.proofs.lemmas.List.{drop-drop, take-append-drop}
use borrow.Rule.Slice.PartMut.{put_mid}
use Rattle.script_print.proofs.PrintLaws.{full-stop, bytes-end, join}
use Rattle.answers.specs.declared.Answer.{Answer}
use Rattle.answers.specs.declared.Answer.TheVariants as answer
use Rattle.script_print.specs.Print.{digit_of, decimal_in, decimal, spaced, Written, written, printed, flag_text, answer_text, answer_line}
use Rattle.script_lex.proofs.Cases.{either}

-- ---- a text with room

printed-sets : (t : List ℕ) (at : ℕ) (bs : List ℕ) → at + length bs ≤ length t → printed t at bs ≡ written (sets t at bs) (at + length bs)
unfolding printed
printed-sets t at [] h = ap (written t) (omega arith)
printed-sets t at (b ∷ bs) h =
    let l : at < length t = omega arith in
    simp (lt-ltb _ _ l, add-one at) (printed-sets (set t at b) (suc at) bs (omega (arith, length-set t at b)) ∙ ap (written (sets (set t at b) (suc at) bs)) (omega arith))

-- as many of the bytes as fit, written in one piece
pub printed-fitting : (t : List ℕ) (at n : ℕ) (bs ys : List ℕ) → at < length t → n ≡ min (length bs) (length t - at) → ys ≡ take n bs
    → written (put_mid at (at + n - at) t ys) (at + n) ≡ printed t at bs
printed-fitting t at n bs ys h m e =
    let few : n ≤ length bs = omega (arith, m, min-le_left (length bs) (length t - at)) in
    let fits : at + n ≤ length t = omega (arith, m, h, min-le_right (length bs) (length t - at)) in
    let l = length-take-le n bs few in
    let u = sets t at (take n bs) in
    let room : at + length (take n bs) ≤ length t = omega (arith, l, fits) in
    let piece : put_mid at (at + n - at) t ys ≡ u =
    ap₂ (λ (y d : List ℕ). take at t ++ (y ++ d)) e (drop-drop (at + n - at) at t ∙ ap (λ (k : ℕ). drop k t) (omega (arith, l))) ∙ sym (sets-eq (take n bs) t at room ∙ append_assoc (take at t) (take n bs) _) in
    let first : written u (at + n) ≡ printed t at (take n bs) = sym (printed-sets t at (take n bs) room ∙ ap (λ (k : ℕ). written u (at + k)) l) in
    let rest : written u (at + n) ≡ printed u (at + n) (drop n bs) =
    either (ltb (length bs) (length t - at))
    (λ q. let s = ltb-true (length bs) (length t - at) q in
    let s' : length bs ≤ length t - at = omega (arith, s) in
    sym (bytes-end u (at + n) bs n (omega (arith, m, min-eq_left s'))))
    (λ q. let s = ltb-false (length bs) (length t - at) q in
    sym (full-stop u (at + n) (drop n bs) (omega (arith, m, h, length-sets t at (take n bs), min-eq_right s)))) in
    ap (λ (x : List ℕ). written x (at + n)) piece ∙ join t at (take n bs) (drop n bs) first rest ∙ ap (printed t at) (take-append-drop n bs)

-- the place behind them, and what stands up to it
pub printed-end : (t : List ℕ) (at : ℕ) (bs : List ℕ) → at + length bs ≤ length t → (printed t at bs).at ≡ at + length bs
printed-end t at bs h = ap (λ (w : Written). w.at) (printed-sets t at bs h)

pub printed-up-to : (t : List ℕ) (at : ℕ) (bs : List ℕ) → at + length bs ≤ length t → take (at + length bs) (printed t at bs).text ≡ take at t ++ bs
printed-up-to t at bs h =
    ap (λ (w : Written). take (at + length bs) w.text) (printed-sets t at bs h) ∙ ap (take (at + length bs)) (sets-eq bs t at h)
    ∙ take_at (take at t ++ bs) (drop (at + length bs) t) (at + length bs) (length-append (take at t) bs ∙ ap (λ (n : ℕ). n + length bs) (length-take-le at t (omega arith)))

-- ---- the length of a line

decimal-short : (m n : ℕ) → length (decimal_in m n) ≤ m
unfolding decimal_in
decimal-short zero n = omega arith
decimal-short (suc m) n =
    either (ltb n 10) (λ e. simp e (omega arith))
    (λ e. simp e (omega (arith, length-append (decimal_in m (n / 10)) (digit_of n ∷ []), decimal-short m (n / 10))))

spaced-short : (ns : List ℕ) → length (spaced ns) ≤ 21 * length ns
unfolding spaced
spaced-short [] = omega arith
spaced-short (n ∷ ns) = omega (arith, length-append (decimal n) (spaced ns), decimal-short 20 n, spaced-short ns)

text-short : (a : Answer) (ns : List ℕ) → length (answer_text a ns) ≤ 30 + 21 * length ns
unfolding answer_text flag_text
text-short (answer.Refused n) ns = omega (arith, decimal-short 20 n)
text-short answer.Done ns = omega arith
text-short answer.None ns = omega arith
text-short (answer.Thread n) ns = omega (arith, decimal-short 20 n)
text-short (answer.Flag true) ns = omega arith
text-short (answer.Flag false) ns = omega arith
text-short (answer.Count n) ns = omega (arith, decimal-short 20 n)
text-short (answer.Satisfied n) ns = omega (arith, decimal-short 20 n)
text-short answer.Timeout ns = omega arith
text-short answer.Blocked ns = omega arith
text-short (answer.Run n) ns = omega (arith, decimal-short 20 n)
text-short (answer.AdvanceTo n) ns = omega (arith, decimal-short 20 n)
text-short (answer.Deadlocked n) ns = omega (arith, spaced-short (take n ns), length-take n ns)
text-short answer.Finished ns = omega arith
text-short (answer.Event key manual signaled) ns = omega arith

-- the number's digits, a space, the answer and a newline
pub line-short : (number : ℕ) (a : Answer) (ns : List ℕ) → length (answer_line number a ns) ≤ 52 + 21 * length ns
unfolding answer_line
line-short number a ns = simp length-append (omega (arith, decimal-short 20 number, text-short a ns))
