-- The words of a line by its places, as the code scans it.
use mathlib.Core.Path.{◌≡◌, refl, sym, ap, ◌∙◌}
use mathlib.Core.Bool.{true, false, not, false≢true}
use mathlib.Core.List.{List, [], ◌∷◌}
use Prim.Native.Nat.{ℕ, suc, ◌+◌, ◌-◌, ◌*◌, ◌≤◌, ◌<◌}
use native.Mathlib.Numerals.{add-one}
use native.Mathlib.Omega.{arith}
use borrow.Author.Tests.{leb-true, leb-false}
use lib.Dec.{eqb, leb}
use lib.ListN.{length, get_or, take, drop, drop_of_length-le, length-drop}
use lib.Seq.{drop-cons, drop-drop}
use Rattle.std.proofs.Math.Seq.{take-length}
use lib.Pointwise.{pointwise}
use Rattle.std.specs.List.{prefix_len}
use Rattle.script_lex.specs.Words.{blank, grown, pieces, full, words_of, first, others, none, same, blanks, letters, part}
use Rattle.script_lex.proofs.Cases.{either}

-- ---- words, by what stands at the head of a text

first-grown : (b : ℕ) (ws : List (List ℕ)) → first (grown b ws) ≡ b ∷ first ws
unfolding first grown
first-grown b [] = refl
first-grown b (w ∷ ws) = refl

pub others-grown : (b : ℕ) (ws : List (List ℕ)) → others (grown b ws) ≡ others ws
unfolding others grown
others-grown b [] = refl
others-grown b (w ∷ ws) = refl

pub full-grown : (b : ℕ) (ws : List (List ℕ)) → full (grown b ws) ≡ (b ∷ first ws) ∷ full (others ws)
unfolding full grown first others
full-grown b [] = refl
full-grown b (w ∷ ws) = refl

first_piece : (s : List ℕ) → first (pieces s) ≡ take (letters s) s
unfolding pieces letters first
first_piece [] = refl
first_piece (b ∷ s) = either (blank b) (λ e. simp e) (λ e. simp (e, first-grown b (pieces s), first_piece s))

other-pieces : (s : List ℕ) → full (others (pieces s)) ≡ words_of (drop (letters s) s)
unfolding pieces letters others words_of full
other-pieces [] = refl
other-pieces (b ∷ s) = either (blank b) (λ e. simp e) (λ e. simp (e, others-grown b (pieces s)) (other-pieces s))

words-blank : (b : ℕ) (s : List ℕ) → blank b ≡ true → words_of (b ∷ s) ≡ words_of s
unfolding words_of pieces full
words-blank b s e = simp e

words-letter : (b : ℕ) (s : List ℕ) → blank b ≡ false → words_of (b ∷ s) ≡ (b ∷ take (letters s) s) ∷ words_of (drop (letters s) s)
unfolding words_of pieces
words-letter b s e = simp (e, full-grown b (pieces s), first_piece s) (ap (λ (ws : List (List ℕ)). (b ∷ take (letters s) s) ∷ ws) (other-pieces s))

words-none : words_of [] ≡ []
unfolding words_of pieces full
words-none = refl

-- the text from its first word on
abbrev behind_blanks : List ℕ → List ℕ
behind_blanks s = drop (blanks s) s

first_word : (s : List ℕ) → first (words_of s) ≡ take (letters (behind_blanks s)) (behind_blanks s)
unfolding first blanks letters
first_word [] = simp words-none
first_word (b ∷ s) = either (blank b) (λ e. simp (words-blank b s e, e) (first_word s)) (λ e. simp (words-letter b s e, e))

other-words : (s : List ℕ) → others (words_of s) ≡ words_of (drop (letters (behind_blanks s)) (behind_blanks s))
unfolding others blanks letters
other-words [] = simp words-none
other-words (b ∷ s) = either (blank b) (λ e. simp (words-blank b s e, e) (other-words s)) (λ e. simp (words-letter b s e, e))

no_word : (s : List ℕ) → length s ≤ blanks s → none (words_of s) ≡ true
unfolding none blanks
no_word [] h = simp words-none
no_word (b ∷ s) h = either (blank b) (λ e. simp (words-blank b s e) (no_word s (omega (arith, simp e at h)))) (λ e. absurd (omega (arith, simp e at h)))

some_word : (s : List ℕ) → blanks s < length s → none (words_of s) ≡ false
unfolding none blanks
some_word [] h = absurd (omega arith)
some_word (b ∷ s) h = either (blank b) (λ e. simp (words-blank b s e) (some_word s (omega (arith, simp e at h)))) (λ e. simp (words-letter b s e))

pub blanks-small : (s : List ℕ) → blanks s ≤ length s
unfolding blanks
blanks-small [] = omega arith
blanks-small (b ∷ s) = either (blank b) (λ e. simp e (omega (arith, blanks-small s))) (λ e. simp e (omega arith))

pub letters-small : (s : List ℕ) → letters s ≤ length s
unfolding letters
letters-small [] = omega arith
letters-small (b ∷ s) = either (blank b) (λ e. simp e (omega arith)) (λ e. simp e (omega (arith, letters-small s)))

-- ---- what is left of a text is all that stands there

pub rest-is : (s : List ℕ) (at : ℕ) → take (length s - at) (drop at s) ≡ drop at s
rest-is s at = ap (λ (n : ℕ). take n (drop at s)) (sym (length-drop at s)) ∙ take-length (drop at s)

-- ---- where nothing is left there is no word

module _ (s : List ℕ) (at : ℕ) where
  pub start-end : length s ≤ at → at ≡ at + blanks (drop at s)
  unfolding blanks
  start-end h = simp (drop_of_length-le s h) (omega arith)

  pub end-end : length s ≤ at → at ≡ at + letters (drop at s)
  unfolding letters
  end-end h = simp (drop_of_length-le s h) (omega arith)

-- ---- how many bytes at the head pass a test

pub blanks-count : (s : List ℕ) → prefix_len blank s ≡ blanks s
unfolding blanks
blanks-count [] = refl
blanks-count (b ∷ s) = either (blank b) (λ e. simp e (omega (arith, blanks-count s))) (λ e. simp e)

pub letters-count : (s : List ℕ) → prefix_len (λ b. not (blank b)) s ≡ letters s
unfolding letters
letters-count [] = refl
letters-count (b ∷ s) = either (blank b) (λ e. simp e) (λ e. simp e (omega (arith, letters-count s)))

-- ---- the first word stands from `a` to `e`

module _ (s : List ℕ) (at a e : ℕ) (starts : a ≡ at + blanks (drop at s)) (ends : e ≡ a + letters (drop a s)) where
  from_start : drop a s ≡ behind_blanks (drop at s)
  from_start = simp starts (sym (drop-drop (blanks (drop at s)) at s))

  pub behind-is : words_of (drop e s) ≡ others (words_of (drop at s))
  behind-is = simp ends (ap words_of (sym (drop-drop (letters (drop a s)) a s)) ∙ simp from_start (sym (other-words (drop at s))))

  pub first-is : first (words_of (drop at s)) ≡ part a e s
  unfolding part
  first-is =
      let n : e - a ≡ letters (drop a s) = omega arith in
      first_word (drop at s) ∙ simp (n, from_start)

  pub out-is : length s < e → first (words_of (drop at s)) ≡ []
  unfolding first
  out-is h =
      let d = blanks-small (drop at s) in
      let m = letters-small (drop a s) in
      let l = length-drop at s in
      let k = length-drop a s in
      simp (drop_of_length-le s (let z : length s ≤ at = omega arith in z), words-none)

module _ (s : List ℕ) (at a : ℕ) (starts : a ≡ at + blanks (drop at s)) where
  pub is_none : leb (length s) a ≡ none (words_of (drop at s))
  is_none = either (leb (length s) a) (λ t. t ∙ sym (no_word (drop at s) (omega (arith, leb-true (length s) a t, length-drop at s, starts)))) (λ t. t ∙ sym (some_word (drop at s) (omega (arith, leb-false (length s) a t, length-drop at s, starts))))

-- ---- parts of a line

pub part-empty : (i to : ℕ) (s : List ℕ) → to ≤ i → part i to s ≡ []
unfolding part
part-empty i to s h = let e : to - i ≡ 0 = omega arith in simp e

pub part-cons : (i to : ℕ) (s : List ℕ) → i < to → to ≤ length s → part i to s ≡ get_or s i 0 ∷ part (i + 1) to s
unfolding part
part-cons i to s h k =
    let e : to - i ≡ suc (to - suc i) = omega arith in
    let l : i < length s = omega arith in
    simp (add-one i, e, drop-cons s i 0 l)

-- the code's equality of words
pub equal-same : (a b : List ℕ) → pointwise eqb a b ≡ same a b
unfolding same
equal-same [] [] = refl
equal-same [] (y ∷ b) = refl
equal-same (x ∷ a) [] = refl
equal-same (x ∷ a) (y ∷ b) = either (eqb x y) (λ e. simp e (equal-same a b)) (λ e. simp e)

-- ---- a line of 4,096 bytes has at most 2,048 words

few : (s : List ℕ) → (2 * length (full (pieces s)) ≤ length s + 1) × (2 * length (full (others (pieces s))) ≤ length s)
unfolding pieces full others
few [] = (omega arith, omega arith)
few (b ∷ s) =
    let h = few s in
    either (blank b) (λ e. simp e (omega arith, omega arith)) (λ e. simp (e, full-grown b (pieces s), others-grown b (pieces s)) (omega arith, omega arith))

pub words-few : (s : List ℕ) → 2 * length (words_of s) ≤ length s + 1
unfolding words_of
words-few s = (few s).0

-- ---- a list of words by its first and the others

pub none-is : (ws : List (List ℕ)) → none ws ≡ true → ws ≡ []
unfolding none
none-is [] e = refl
none-is (w ∷ ws) e = absurd (false≢true e)

pub first-others : (ws : List (List ℕ)) → none ws ≡ false → ws ≡ first ws ∷ others ws
unfolding none first others
first-others [] e = absurd (false≢true (sym e))
first-others (w ∷ ws) e = refl
