-- Which words fit a form, as the readers have it.
use mathlib.Core.Path.{◌≡◌, refl, ◌∙◌}
use mathlib.Core.Bool.{Bool, cond, true, false, ◌&&◌}
use mathlib.Core.List.{List, [], ◌∷◌}
use Prim.Native.Nat.{ℕ, ◌+◌, ◌-◌}
use lib.IntN.{ℤ}
use Rattle.std.specs.Prelude.{Option, Some, None}
use Rattle.arch.specs.declared.Architecture.{Architecture}
use Rattle.script_lex.specs.Text.{bytes_of}
use Rattle.script_lex.specs.Names as name
use Rattle.script_lex.specs.Words.{first, others, none, same}
use Rattle.script_lex.specs.Numbers.{number_of, plus, signed_of}
use Rattle.script_lex.specs.Arguments.{most, flag_of}
use Rattle.script_lex.specs.Location.{architecture_of}
use Rattle.script_lex.proofs.Cases.{either}
use Rattle.script.specs.Wait.{kind_of, is_read}
use Rattle.reasons.specs.declared.Reason.{Reason}
use Rattle.reasons.specs.Reasons.{is_fine, continued, listed, unread_number, of_number, of_signed, number_reason, signed_reason, or_number, list_reason, choice_reason, word_reason, kind_at, next_of, end_reason, reason_from}

-- ---- what was read

unfoldable pub signed_read : Option ℤ → Bool
signed_read None = false
signed_read (Some n) = true

unfoldable pub flag_read : Option Bool → Bool
flag_read None = false
flag_read (Some f) = true

unfoldable pub arch_read : Option Architecture → Bool
arch_read None = false
arch_read (Some a) = true

-- a word, or a number of 64 bits
abbrev pub or_read : List ℕ → List ℕ → Bool
or_read n w = cond (same w n) true (is_read (number_of most w))

-- ---- one word

fine-and : (a b : Option Reason) → is_fine (continued a b) ≡ (is_fine a && is_fine b)
unfolding continued
fine-and a b = either (is_fine a) (λ e. simp e) (λ e. simp e)

of_number_lem : (n : Option ℕ) (r : Reason) → is_fine (of_number n r) ≡ is_read n
unfolding of_number is_fine is_read
of_number_lem None r = refl
of_number_lem (Some n) r = refl

of-signed : (n : Option ℤ) (r : Reason) → is_fine (of_signed n r) ≡ signed_read n
unfolding of_signed is_fine signed_read
of-signed None r = refl
of-signed (Some n) r = refl

number_fits : (limit p k : ℕ) (w : List ℕ) → is_fine (number_reason limit p k w) ≡ is_read (number_of limit w)
unfolding number_reason
number_fits limit p k w = of_number_lem (number_of limit w) (unread_number p k w)

signed-fits : (p k : ℕ) (w : List ℕ) → is_fine (signed_reason p k w) ≡ signed_read (signed_of w)
unfolding signed_reason
signed-fits p k w = of-signed (signed_of w) (unread_number p k w)

or-fits : (n : List ℕ) (p k : ℕ) (w : List ℕ) → is_fine (or_number n p k w) ≡ or_read n w
unfolding or_number is_fine
or-fits n p k w = either (same w n) (λ e. simp e) (λ e. simp e (number_fits most p k w))

list-fits : (ns : List (List ℕ)) (p k : ℕ) (w : List ℕ) → is_fine (list_reason ns p k w) ≡ listed ns w
unfolding list_reason is_fine
list-fits ns p k w = either (listed ns w) (λ e. simp e) (λ e. simp e)

flag-listed : (w : List ℕ) → listed (bytes_of "0" ∷ bytes_of "1" ∷ []) w ≡ flag_read (flag_of w)
unfolding listed flag_read flag_of
flag-listed w = either (same w (bytes_of "0")) (λ e. simp e) (λ e. either (same w (bytes_of "1")) (λ f. simp (e, f)) (λ f. simp (e, f)))

arch-listed : (w : List ℕ) → listed (name.x64 ∷ name.x86 ∷ []) w ≡ arch_read (architecture_of w)
unfolding listed arch_read architecture_of
arch-listed w = either (same w name.x64) (λ e. simp e) (λ e. either (same w name.x86) (λ f. simp (e, f)) (λ f. simp (e, f)))

kind-listed : (w : List ℕ) → listed (name.mutex ∷ name.event ∷ name.timer ∷ name.thread ∷ []) w ≡ is_read (kind_of w)
unfolding listed is_read kind_of
kind-listed w =
    either (same w name.mutex) (λ a. simp a)
    (λ a. either (same w name.event) (λ b. simp (a, b))
    (λ b. either (same w name.timer) (λ d. simp (a, b, d)) (λ d. either (same w name.thread) (λ e. simp (a, b, d, e)) (λ e. simp (a, b, d, e)))))

-- ---- the words behind a name: one that must stand, one that may, and the end

module _ (k : ℕ) (fit : List ℕ → Bool) (law : (p : ℕ) (w : List ℕ) → is_fine (word_reason k p w) ≡ fit w) where
  more : (form : List ℕ) (i p : ℕ) (w : List ℕ) (ws : List (List ℕ)) → kind_at form i ≡ k
      → is_fine (reason_from form i p (w ∷ ws)) ≡ (fit w && is_fine (reason_from form (next_of k w i) (p + 1) ws))
  unfolding reason_from
  more form i p w ws e = simp (e, fine-and (word_reason k p w) (reason_from form (next_of k w i) (p + 1) ws), law p w)

  must : fit [] ≡ false → ((p : ℕ) → is_fine (end_reason p k) ≡ false) → (form : List ℕ) (i p : ℕ) (ws : List (List ℕ)) → kind_at form i ≡ k
      → is_fine (reason_from form i p ws) ≡ (fit (first ws) && is_fine (reason_from form (next_of k (first ws) i) (p + 1) (others ws)))
  unfolding reason_from first others
  must f m form i p [] e = simp (e, m p, f)
  must f m form i p (w ∷ ws) e = more form i p w ws e

pub ends : (form : List ℕ) (i p : ℕ) (ws : List (List ℕ)) → kind_at form i ≡ 46 → is_fine (reason_from form i p ws) ≡ none ws
unfolding reason_from end_reason word_reason choice_reason continued is_fine none
ends form i p [] e = simp e
ends form i p (w ∷ ws) e = simp e

-- a letter of numbers, and their limit
pub data Numeric : ℕ → ℕ → Type 0 where
  bits64 : Numeric 110 most
  bits8 : Numeric 98 255
  bits32 : Numeric 119 4294967295

module _ (form : List ℕ) (i p : ℕ) (ws : List (List ℕ)) where
  pub number-then : {k limit : ℕ} → Numeric k limit → kind_at form i ≡ k
      → is_fine (reason_from form i p ws) ≡ (is_read (number_of limit (first ws)) && is_fine (reason_from form (i + 1) (p + 1) (others ws)))
  unfolding word_reason next_of end_reason is_fine number_of is_read
  number-then bits64 e = must 110 (λ w. is_read (number_of most w)) (λ p w. number_fits most p 110 w) refl (λ p. refl) form i p ws e
  number-then bits8 e = must 98 (λ w. is_read (number_of 255 w)) (λ p w. number_fits 255 p 98 w) refl (λ p. refl) form i p ws e
  number-then bits32 e = must 119 (λ w. is_read (number_of 4294967295 w)) (λ p w. number_fits 4294967295 p 119 w) refl (λ p. refl) form i p ws e

  pub signed-then : kind_at form i ≡ 105 → is_fine (reason_from form i p ws) ≡ (signed_read (signed_of (first ws)) && is_fine (reason_from form (i + 1) (p + 1) (others ws)))
  unfolding word_reason next_of end_reason is_fine number_of plus signed_of signed_read
  signed-then e = must 105 (λ w. signed_read (signed_of w)) (λ p w. signed-fits p 105 w) refl (λ p. refl) form i p ws e

  pub flag-then : kind_at form i ≡ 102 → is_fine (reason_from form i p ws) ≡ (flag_read (flag_of (first ws)) && is_fine (reason_from form (i + 1) (p + 1) (others ws)))
  unfolding word_reason choice_reason next_of end_reason is_fine same flag_of flag_read
  flag-then e = must 102 (λ w. flag_read (flag_of w)) (λ p w. list-fits (bytes_of "0" ∷ bytes_of "1" ∷ []) p 102 w ∙ flag-listed w) refl (λ p. refl) form i p ws e

  pub arch-then : kind_at form i ≡ 97 → is_fine (reason_from form i p ws) ≡ (arch_read (architecture_of (first ws)) && is_fine (reason_from form (i + 1) (p + 1) (others ws)))
  unfolding word_reason choice_reason next_of end_reason is_fine same architecture_of arch_read
  arch-then e = must 97 (λ w. arch_read (architecture_of w)) (λ p w. list-fits (name.x64 ∷ name.x86 ∷ []) p 97 w ∙ arch-listed w) refl (λ p. refl) form i p ws e

  pub owner-then : kind_at form i ≡ 111 → is_fine (reason_from form i p ws) ≡ (or_read name.none (first ws) && is_fine (reason_from form (i + 1) (p + 1) (others ws)))
  unfolding word_reason choice_reason next_of end_reason is_fine same number_of is_read
  owner-then e = must 111 (or_read name.none) (λ p w. or-fits name.none p 111 w) refl (λ p. refl) form i p ws e

  pub time-then : kind_at form i ≡ 116 → is_fine (reason_from form i p ws) ≡ (or_read name.never (first ws) && is_fine (reason_from form (i + 1) (p + 1) (others ws)))
  unfolding word_reason choice_reason next_of end_reason is_fine same number_of is_read
  time-then e = must 116 (or_read name.never) (λ p w. or-fits name.never p 116 w) refl (λ p. refl) form i p ws e

  pub set_then : kind_at form i ≡ 115 → is_fine (reason_from form i p ws) ≡ (listed (name.any ∷ name.all ∷ []) (first ws) && is_fine (reason_from form (i + 1) (p + 1) (others ws)))
  unfolding word_reason choice_reason next_of end_reason is_fine same listed
  set_then e = must 115 (listed (name.any ∷ name.all ∷ [])) (λ p w. list-fits (name.any ∷ name.all ∷ []) p 115 w) refl (λ p. refl) form i p ws e

  pub backing-then : kind_at form i ≡ 109
      → is_fine (reason_from form i p ws) ≡ (listed (name.image ∷ name.pool ∷ []) (first ws) && is_fine (reason_from form (cond (same (first ws) name.image) (i + 2) (i + 1)) (p + 1) (others ws)))
  unfolding word_reason choice_reason next_of end_reason is_fine same listed
  backing-then e = must 109 (listed (name.image ∷ name.pool ∷ [])) (λ p w. list-fits (name.image ∷ name.pool ∷ []) p 109 w) refl (λ p. refl) form i p ws e

pub kind-then : (form : List ℕ) (i p : ℕ) (w : List ℕ) (ws : List (List ℕ)) → kind_at form i ≡ 107
    → is_fine (reason_from form i p (w ∷ ws)) ≡ (is_read (kind_of w) && is_fine (reason_from form (i + 1) (p + 1) ws))
unfolding word_reason choice_reason next_of
kind-then form i p w ws e =
    more 107 (λ w. is_read (kind_of w)) (λ p w. list-fits (name.mutex ∷ name.event ∷ name.timer ∷ name.thread ∷ []) p 107 w ∙ kind-listed w) form i p w ws e

pub key-then : (form : List ℕ) (i p : ℕ) (w : List ℕ) (ws : List (List ℕ)) → kind_at form i ≡ 118
    → is_fine (reason_from form i p (w ∷ ws)) ≡ (is_read (number_of most w) && is_fine (reason_from form (i - 1) (p + 1) ws))
unfolding word_reason next_of
key-then form i p w ws e = more 118 (λ w. is_read (number_of most w)) (λ p w. number_fits most p 118 w) form i p w ws e
