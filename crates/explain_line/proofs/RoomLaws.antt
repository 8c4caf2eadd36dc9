-- How much room an explained line needs.
use mathlib.Core.Path.{◌≡◌, refl, ap}
use mathlib.Core.Bool.{Bool}
use mathlib.Core.List.{List, [], ◌∷◌, ◌++◌}
use Prim.Native.Nat.{ℕ, ◌+◌, ◌*◌, ◌≤◌}
use native.Mathlib.Omega.{arith}
use native.Mathlib.Nat.{min-le_left}
use lib.Dec.{eqb}
use lib.ListN.{length, take, length-append, length-take}
use Rattle.answers.specs.declared.Answer.{Answer}
use Rattle.answers.specs.declared.Answer.TheVariants as answer
use Rattle.script_lex.specs.Text.{bytes_of}
use Rattle.script_lex.specs.Words.{words_of, first}
use Rattle.script_lex.proofs.Cases.{either}
use Rattle.script.specs.Line.{text_length}
use Rattle.script_print.specs.Print.{answer_text, answer_line}
use Rattle.script_print.proofs.RoomLaws.{line-short}
use Rattle.std.specs.Prelude.{Option, Some, None}
use Rattle.reasons.specs.declared.Reason.{Reason}
use Rattle.reasons.specs.declared.Reason.TheVariants as reason
use Rattle.reason_text.specs.Words.{shown, skipped, quoted}
use Rattle.reason_text.specs.Texts.{choice_text, kind_text, words_text, reason_text}
use Rattle.refusal_text.specs.Sentences.{sentence, sentence8, sentence15, sentence22}
use Rattle.explain_line.specs.Explain.{reason_in, why, beside, explained_line}

-- ---- sentences

sentence22-short : (n : ℕ) → length (sentence22 n) ≤ 120
unfolding sentence22
sentence22-short n =
    either (eqb n 22) (λ e. simp e (omega arith)) (λ e. simp e (
    either (eqb n 23) (λ e. simp e (omega arith)) (λ e. simp e (
    either (eqb n 24) (λ e. simp e (omega arith)) (λ e. simp e (
    either (eqb n 25) (λ e. simp e (omega arith)) (λ e. simp e (
    either (eqb n 26) (λ e. simp e (omega arith)) (λ e. simp e (
    either (eqb n 27) (λ e. simp e (omega arith)) (λ e. simp e (
    either (eqb n 28) (λ e. simp e (omega arith)) (λ e. simp e (
    omega arith))))))))))))))

sentence15-short : (n : ℕ) → length (sentence15 n) ≤ 120
unfolding sentence15
sentence15-short n =
    either (eqb n 15) (λ e. simp e (omega arith)) (λ e. simp e (
    either (eqb n 16) (λ e. simp e (omega arith)) (λ e. simp e (
    either (eqb n 17) (λ e. simp e (omega arith)) (λ e. simp e (
    either (eqb n 18) (λ e. simp e (omega arith)) (λ e. simp e (
    either (eqb n 19) (λ e. simp e (omega arith)) (λ e. simp e (
    either (eqb n 20) (λ e. simp e (omega arith)) (λ e. simp e (
    either (eqb n 21) (λ e. simp e (omega arith)) (λ e. simp e (
    sentence22-short n))))))))))))))

sentence8-short : (n : ℕ) → length (sentence8 n) ≤ 120
unfolding sentence8
sentence8-short n =
    either (eqb n 8) (λ e. simp e (omega arith)) (λ e. simp e (
    either (eqb n 9) (λ e. simp e (omega arith)) (λ e. simp e (
    either (eqb n 10) (λ e. simp e (omega arith)) (λ e. simp e (
    either (eqb n 11) (λ e. simp e (omega arith)) (λ e. simp e (
    either (eqb n 12) (λ e. simp e (omega arith)) (λ e. simp e (
    either (eqb n 13) (λ e. simp e (omega arith)) (λ e. simp e (
    either (eqb n 14) (λ e. simp e (omega arith)) (λ e. simp e (
    sentence15-short n))))))))))))))

sentence-short : (n : ℕ) → length (sentence n) ≤ 120
unfolding sentence
sentence-short n =
    either (eqb n 1) (λ e. simp e (omega arith)) (λ e. simp e (
    either (eqb n 2) (λ e. simp e (omega arith)) (λ e. simp e (
    either (eqb n 3) (λ e. simp e (omega arith)) (λ e. simp e (
    either (eqb n 4) (λ e. simp e (omega arith)) (λ e. simp e (
    either (eqb n 5) (λ e. simp e (omega arith)) (λ e. simp e (
    either (eqb n 6) (λ e. simp e (omega arith)) (λ e. simp e (
    either (eqb n 7) (λ e. simp e (omega arith)) (λ e. simp e (
    sentence8-short n))))))))))))))

-- ---- reasons

shown-length : (w : List ℕ) → length (shown w) ≡ length w
unfolding shown
shown-length [] = refl
shown-length (b ∷ w) = omega (arith, shown-length w)

quoted-short : (p : ℕ) (ws : List (List ℕ)) → length (quoted p ws) ≤ 42
unfolding quoted
quoted-short p ws =
    let w = first (skipped p ws) in
    simp length-append (omega (arith, shown-length (take 40 w), length-take 40 w, min-le_left 40 (length w)))

choice-short : (k : ℕ) → length (choice_text k) ≤ 48
unfolding choice_text
choice-short k =
    either (eqb k 116) (λ e. simp e (omega arith)) (λ e. simp e (
    either (eqb k 111) (λ e. simp e (omega arith)) (λ e. simp e (
    either (eqb k 102) (λ e. simp e (omega arith)) (λ e. simp e (
    either (eqb k 97) (λ e. simp e (omega arith)) (λ e. simp e (
    either (eqb k 109) (λ e. simp e (omega arith)) (λ e. simp e (
    either (eqb k 115) (λ e. simp e (omega arith)) (λ e. simp e (
    either (eqb k 107) (λ e. simp e (omega arith)) (λ e. simp e (
    omega arith))))))))))))))

kind-short : (k : ℕ) → length (kind_text k) ≤ 48
unfolding kind_text
kind-short k =
    either (eqb k 110) (λ e. simp e (omega arith)) (λ e. simp e (
    either (eqb k 118) (λ e. simp e (omega arith)) (λ e. simp e (
    either (eqb k 98) (λ e. simp e (omega arith)) (λ e. simp e (
    either (eqb k 119) (λ e. simp e (omega arith)) (λ e. simp e (
    either (eqb k 105) (λ e. simp e (omega arith)) (λ e. simp e (
    choice-short k))))))))))

words-short : (r : Option Reason) (ws : List (List ℕ)) → length (words_text r ws) ≤ 120
unfolding words_text
words-short None ws = omega arith
words-short (Some reason.TooLong) ws = omega arith
words-short (Some reason.NoWord) ws = omega arith
words-short (Some (reason.UnknownWord p)) ws = simp length-append (omega (arith, quoted-short p ws))
words-short (Some (reason.Missing p k)) ws = simp length-append (omega (arith, kind-short k))
words-short (Some (reason.NotNumber p k)) ws = simp length-append (omega (arith, quoted-short p ws, kind-short k))
words-short (Some (reason.OutOfRange p k)) ws = simp length-append (omega (arith, quoted-short p ws, kind-short k))
words-short (Some (reason.NotListed p k)) ws = simp length-append (omega (arith, quoted-short p ws, kind-short k))
words-short (Some (reason.Extra p)) ws = simp length-append (omega (arith, quoted-short p ws))
words-short (Some reason.BeforeOpen) ws = omega arith
words-short (Some reason.SecondOpen) ws = omega arith
words-short (Some reason.BeforeClock) ws = omega arith

why-short : (line : List ℕ) (opened : Bool) (n : ℕ) → length (why line opened n) ≤ 120
unfolding why reason_text
why-short line opened n =
    either (eqb n 28) (λ e. simp e (words-short (reason_in line opened) (words_of (take (text_length line) line)))) (λ e. simp e (sentence-short n))

-- ---- lines

line-length : (number : ℕ) (a : Answer) (numbers line : List ℕ) (opened : Bool)
    → length (explained_line number a numbers line opened) ≡ length (answer_line number a numbers) + length (beside line opened a)
unfolding explained_line answer_line
line-length number a numbers line opened = simp length-append (omega arith)

-- a refusal's line has no list of numbers
refused-bare : (number n : ℕ) (numbers : List ℕ) → answer_line number (answer.Refused n) numbers ≡ answer_line number (answer.Refused n) []
unfolding answer_line answer_text
refused-bare number n numbers = refl

plain-short : (number : ℕ) (a : Answer) (numbers line : List ℕ) (opened : Bool) → length numbers ≤ 16 → beside line opened a ≡ []
    → length (explained_line number a numbers line opened) ≤ 400
plain-short number a numbers line opened h e = omega (arith, line-length number a numbers line opened, ap length e, line-short number a numbers)

-- no longer than a line of `bench` may be
pub explained-short : (number : ℕ) (a : Answer) (numbers line : List ℕ) (opened : Bool) → length numbers ≤ 16 → length (explained_line number a numbers line opened) ≤ 400
unfolding beside
explained-short number (answer.Refused n) numbers line opened h =
    omega (arith, line-length number (answer.Refused n) numbers line opened, ap length (refused-bare number n numbers), line-short number (answer.Refused n) [], why-short line opened n, length-append (bytes_of ": ") (why line opened n))
explained-short number answer.Done numbers line opened h = plain-short number answer.Done numbers line opened h refl
explained-short number answer.None numbers line opened h = plain-short number answer.None numbers line opened h refl
explained-short number (answer.Thread n) numbers line opened h = plain-short number (answer.Thread n) numbers line opened h refl
explained-short number (answer.Flag f) numbers line opened h = plain-short number (answer.Flag f) numbers line opened h refl
explained-short number (answer.Count n) numbers line opened h = plain-short number (answer.Count n) numbers line opened h refl
explained-short number (answer.Satisfied n) numbers line opened h = plain-short number (answer.Satisfied n) numbers line opened h refl
explained-short number answer.Timeout numbers line opened h = plain-short number answer.Timeout numbers line opened h refl
explained-short number answer.Blocked numbers line opened h = plain-short number answer.Blocked numbers line opened h refl
explained-short number (answer.Run n) numbers line opened h = plain-short number (answer.Run n) numbers line opened h refl
explained-short number (answer.AdvanceTo n) numbers line opened h = plain-short number (answer.AdvanceTo n) numbers line opened h refl
explained-short number (answer.Deadlocked n) numbers line opened h = plain-short number (answer.Deadlocked n) numbers line opened h refl
explained-short number answer.Finished numbers line opened h = plain-short number answer.Finished numbers line opened h refl
explained-short number (answer.Event key manual signaled) numbers line opened h = plain-short number (answer.Event key manual signaled) numbers line opened h refl
