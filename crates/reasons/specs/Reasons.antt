-- Why a line cannot be read. A reason's place is the number of a word, its kind a letter of a form.
use Rattle.std.specs.Prelude.{Bool, cond, true, false, List, [], ◌∷◌, ℕ, ◌+◌, ◌-◌, eqb, ltb, length, get_or, take, drop, ℤ, Option, Some, None}
use Rattle.script_lex.specs.Text.{bytes_of}
use Rattle.script_lex.specs.Names as name
use Rattle.script_lex.specs.Words.{words_of, first, others, none, same}
use Rattle.script_lex.specs.Numbers.{all_digits, number_of, signed_of}
use Rattle.script_lex.specs.Arguments.{most}
use Rattle.script.specs.Line.{text_length}
use Rattle.reasons.specs.declared.Reason.{Reason}
use Rattle.reasons.specs.declared.Reason.TheVariants as reason
use Rattle.reasons.specs.Grammar.{grammar, clock_grammar}

unfoldable pub is_fine : Option Reason → Bool
is_fine None = true
is_fine (Some r) = false

-- the first reason, or the second where that is fine
unfoldable pub continued : Option Reason → Option Reason → Option Reason
continued a b = cond (is_fine a) b a

-- ---- one word

unfoldable pub listed : List (List ℕ) → List ℕ → Bool
listed [] w = false
listed (n ∷ ns) w = cond (same w n) true (listed ns w)

unfoldable pub digits : List ℕ → Bool
digits [] = false
digits (b ∷ w) = all_digits (b ∷ w)

-- a number however large, with a minus, 45, or without
unfoldable pub is_numeral : List ℕ → Bool
is_numeral w = cond (eqb (get_or w 0 0) 45) (digits (drop 1 w)) (digits w)

-- a word that should tell a number, and does not
unfoldable pub unread_number : ℕ → ℕ → List ℕ → Reason
unread_number p k w = cond (is_numeral w) (reason.OutOfRange p k) (reason.NotNumber p k)

unfoldable pub of_number : Option ℕ → Reason → Option Reason
of_number None r = Some r
of_number (Some n) r = None

unfoldable pub of_signed : Option ℤ → Reason → Option Reason
of_signed None r = Some r
of_signed (Some n) r = None

unfoldable pub number_reason : ℕ → ℕ → ℕ → List ℕ → Option Reason
number_reason limit p k w = of_number (number_of limit w) (unread_number p k w)

unfoldable pub signed_reason : ℕ → ℕ → List ℕ → Option Reason
signed_reason p k w = of_signed (signed_of w) (unread_number p k w)

unfoldable pub or_number : List ℕ → ℕ → ℕ → List ℕ → Option Reason
or_number n p k w = cond (same w n) None (number_reason most p k w)

unfoldable pub list_reason : List (List ℕ) → ℕ → ℕ → List ℕ → Option Reason
list_reason ns p k w = cond (listed ns w) None (Some (reason.NotListed p k))

-- of the kinds t o f a m s k
unfoldable pub choice_reason : ℕ → ℕ → List ℕ → Option Reason
choice_reason k p w =
    cond (eqb k 116) (or_number name.never p k w)
    (cond (eqb k 111) (or_number name.none p k w)
    (cond (eqb k 102) (list_reason (bytes_of "0" ∷ bytes_of "1" ∷ []) p k w)
    (cond (eqb k 97) (list_reason (name.x64 ∷ name.x86 ∷ []) p k w)
    (cond (eqb k 109) (list_reason (name.image ∷ name.pool ∷ []) p k w)
    (cond (eqb k 115) (list_reason (name.any ∷ name.all ∷ []) p k w)
    (cond (eqb k 107) (list_reason (name.mutex ∷ name.event ∷ name.timer ∷ name.thread ∷ []) p k w) (Some (reason.Extra p))))))))

-- of the kinds n v b w i, and those
unfoldable pub word_reason : ℕ → ℕ → List ℕ → Option Reason
word_reason k p w =
    cond (eqb k 110) (number_reason most p k w)
    (cond (eqb k 118) (number_reason most p k w)
    (cond (eqb k 98) (number_reason 255 p k w)
    (cond (eqb k 119) (number_reason 4294967295 p k w)
    (cond (eqb k 105) (signed_reason p k w) (choice_reason k p w)))))

-- ---- the words behind a name

-- behind them all, the end: 46
abbrev pub kind_at : List ℕ → ℕ → ℕ
kind_at form i = get_or form i 46

-- behind v comes k again, and behind m with `image` the next but one
unfoldable pub next_of : ℕ → List ℕ → ℕ → ℕ
next_of k w i = cond (eqb k 118) (i - 1) (cond (eqb k 109) (cond (same w name.image) (i + 2) (i + 1)) (i + 1))

-- of the kinds . k v none need stand
unfoldable pub end_reason : ℕ → ℕ → Option Reason
end_reason p k = cond (eqb k 46) None (cond (eqb k 107) None (cond (eqb k 118) None (Some (reason.Missing p k))))

-- words from number `p` on, by the letters of a form from place `i` on
unfoldable pub reason_from : List ℕ → ℕ → ℕ → List (List ℕ) → Option Reason
reason_from form i p [] = end_reason p (kind_at form i)
reason_from form i p (w ∷ ws) =
    continued (word_reason (kind_at form i) p w) (reason_from form (next_of (kind_at form i) w i) (p + 1) ws)

-- ---- lines

-- the form that a word names, an empty one where it names none
unfoldable pub form_of : List (List ℕ) → List ℕ → List ℕ
form_of [] w = []
form_of (n ∷ []) w = []
form_of (n ∷ f ∷ rows) w = cond (same w n) f (form_of rows w)

unfoldable pub form_reason : List ℕ → ℕ → List (List ℕ) → Option Reason
form_reason [] p ws = Some (reason.UnknownWord p)
form_reason (k ∷ f) p ws = reason_from (k ∷ f) 0 (p + 1) ws

unfoldable pub named_reason : List (List ℕ) → ℕ → List (List ℕ) → Option Reason
named_reason rows p ws = form_reason (form_of rows (first ws)) p (others ws)

-- behind `clock`: its names have the kind c, 99
unfoldable pub clock_reason : List (List ℕ) → Option Reason
clock_reason ws = cond (none ws) (Some (reason.Missing 1 99)) (named_reason clock_grammar 1 ws)

unfoldable pub words_reason : List (List ℕ) → Option Reason
words_reason ws = cond (none ws) (Some reason.NoWord) (cond (same (first ws) name.clock) (clock_reason (others ws)) (named_reason grammar 0 ws))

unfoldable pub reason_of : List ℕ → Option Reason
reason_of s = cond (ltb 4096 (length s)) (Some reason.TooLong) (words_reason (words_of (take (text_length s) s)))
