-- An explained line begins with the line that `bench` prints, and leaves the bench that it leaves; a line refused with 28 has a reason.
use mathlib.Core.Path.{◌≡◌, refl, sym, ap, ◌∙◌}
use mathlib.Core.Bool.{Bool, cond, true, false}
use mathlib.Core.List.{List, [], ◌∷◌, ◌++◌, append-nil, append_assoc}
use Prim.Native.Nat.{ℕ, ◌≤◌}
use lib.ListN.{length, take}
use Rattle.std.specs.Prelude.{Some}
use Rattle.answers.specs.declared.Answer.{Answer}
use Rattle.answers.specs.declared.Answer.TheVariants as answer
use Rattle.script_lex.specs.Text.{bytes_of}
use Rattle.script_lex.specs.Names as name
use Rattle.script_lex.specs.Words.{words_of, first, same}
use Rattle.script_lex.proofs.Cases.{either}
use Rattle.script.specs.Line.{text_length, read_line}
use Rattle.script_print.specs.Print.{decimal, answer_text, answer_line}
use Rattle.reasons.specs.Read.{reads}
use Rattle.reasons.specs.Reasons.{is_fine, continued, reason_of}
use Rattle.reasons.proofs.Law.{law}
use Rattle.runner.specs.declared.session.Session.{Session}
use Rattle.runner.specs.Line.{Answered, answered}
use Rattle.explain_line.proofs.BesideLaws.{no-beside}
use Rattle.explain_line.specs.Explain.{session_reason, reason_in, why, beside, explained_line, explained}

-- ---- the line that `bench` prints

-- without its newline
abbrev told : ℕ → Answer → List ℕ → List ℕ
told number a numbers = decimal number ++ bytes_of " " ++ answer_text a numbers

pub plain : (number : ℕ) (a : Answer) (numbers : List ℕ) → answer_line number a numbers ≡ told number a numbers ++ bytes_of "\n"
unfolding answer_line
plain number a numbers = refl

pub begins-plain : (number : ℕ) (a : Answer) (numbers line : List ℕ) (opened : Bool)
    → explained_line number a numbers line opened ≡ told number a numbers ++ (beside line opened a ++ bytes_of "\n")
unfolding explained_line
begins-plain number a numbers line opened = append_assoc (told number a numbers) (beside line opened a) (bytes_of "\n")

-- beside a refusal stands why
pub refused-line : (number n : ℕ) (numbers line : List ℕ) (opened : Bool)
    → explained_line number (answer.Refused n) numbers line opened ≡ told number (answer.Refused n) numbers ++ (bytes_of ": " ++ why line opened n ++ bytes_of "\n")
unfolding beside
refused-line number n numbers line opened = begins-plain number (answer.Refused n) numbers line opened

-- an answer that is no refusal has the line of `bench`
pub accepted-line : (number : ℕ) (a : Answer) (numbers line : List ℕ) (opened : Bool) → ((n : ℕ) → a ≡ answer.Refused n → ⊥)
    → explained_line number a numbers line opened ≡ answer_line number a numbers
unfolding explained_line answer_line
accepted-line number a numbers line opened q = simp (no-beside line opened a q, append-nil)

-- ---- the bench

pub record SameBench (e a : Answered) : Type 0 where
  pub session : e.session ≡ a.session
  pub words : e.words ≡ a.words
  pub waiting : e.waiting ≡ a.waiting
  pub list : e.list ≡ a.list

-- whatever the two texts are
pub same-bench : (w out list line : List ℕ) (number : ℕ) (s : Session) (text text' : List ℕ) (at at' : ℕ)
    → SameBench (explained w out list line text at number s) (answered w out list line text' at' number s)
unfolding explained answered
same-bench w out list line number s text text' at at' = record { session = refl; words = refl; waiting = refl; list = refl }

-- ---- the reason of a line that is refused with 28

-- it has one
pub never-fine : (line : List ℕ) (opened : Bool) → is_fine (reason_in line opened) ≡ false
unfolding reason_in continued is_fine
never-fine line opened = either (is_fine (reason_of line)) (λ e. simp e) (λ e. simp e)

-- a line that is not read has its own, and one that is read the session's
pub own : (line list : List ℕ) (opened : Bool) → 2048 ≤ length list → reads (read_line line list).command ≡ false → reason_in line opened ≡ reason_of line
unfolding reason_in continued
own line list opened h e = simp (sym (law line list h) ∙ e)

pub of-session : (line list : List ℕ) (opened : Bool) → 2048 ≤ length list → reads (read_line line list).command ≡ true
    → reason_in line opened ≡ Some (session_reason line opened)
unfolding reason_in continued
of-session line list opened h e = simp (sym (law line list h) ∙ e)
