-- Reasons in English. The kinds of arguments are the letters of the forms.
use Rattle.std.specs.Prelude.{cond, List, ◌++◌, ℕ, eqb, take, Option, Some, None}
use Rattle.script_lex.specs.Text.{bytes_of}
use Rattle.script_lex.specs.Words.{words_of}
use Rattle.script.specs.Line.{text_length}
use Rattle.reasons.specs.declared.Reason.{Reason}
use Rattle.reasons.specs.declared.Reason.TheVariants as reason
use Rattle.reason_text.specs.Words.{quoted}

-- t o f a m s k, and c
unfoldable pub choice_text : ℕ → List ℕ
choice_text k =
    cond (eqb k 116) (bytes_of "never or a number from 0 to 18446744073709551615")
    (cond (eqb k 111) (bytes_of "none or a number from 0 to 18446744073709551615")
    (cond (eqb k 102) (bytes_of "0 or 1")
    (cond (eqb k 97) (bytes_of "x64 or x86")
    (cond (eqb k 109) (bytes_of "image or pool")
    (cond (eqb k 115) (bytes_of "any or all")
    (cond (eqb k 107) (bytes_of "mutex, event, timer or thread") (bytes_of "a call of the clock")))))))

-- n v b w i, and those
unfoldable pub kind_text : ℕ → List ℕ
kind_text k =
    cond (eqb k 110) (bytes_of "a number from 0 to 18446744073709551615")
    (cond (eqb k 118) (bytes_of "a number from 0 to 18446744073709551615")
    (cond (eqb k 98) (bytes_of "a number from 0 to 255")
    (cond (eqb k 119) (bytes_of "a number from 0 to 4294967295")
    (cond (eqb k 105) (bytes_of "a number from -2147483648 to 2147483647") (choice_text k)))))

abbrev pub named : List ℕ → ℕ → List (List ℕ) → List ℕ
named name p ws = name ++ quoted p ws

abbrev pub wanted : ℕ → List (List ℕ) → List ℕ → ℕ → List ℕ
wanted p ws name k = quoted p ws ++ name ++ kind_text k

abbrev pub missing : ℕ → List ℕ
missing k = bytes_of "an argument is missing: expected " ++ kind_text k

-- of the words of a line
unfoldable pub words_text : Option Reason → List (List ℕ) → List ℕ
words_text None ws = bytes_of "the line can be read"
words_text (Some reason.TooLong) ws = bytes_of "the line has more than 4096 bytes"
words_text (Some reason.NoWord) ws = bytes_of "the line has no word"
words_text (Some (reason.UnknownWord p)) ws = named (bytes_of "unknown word ") p ws
words_text (Some (reason.Missing p k)) ws = missing k
words_text (Some (reason.NotNumber p k)) ws = wanted p ws (bytes_of " is not a number: expected ") k
words_text (Some (reason.OutOfRange p k)) ws = wanted p ws (bytes_of " is out of range: expected ") k
words_text (Some (reason.NotListed p k)) ws = wanted p ws (bytes_of " is not known here: expected ") k
words_text (Some (reason.Extra p)) ws = named (bytes_of "extra argument ") p ws
words_text (Some reason.BeforeOpen) ws = bytes_of "no open has succeeded yet"
words_text (Some reason.SecondOpen) ws = bytes_of "an open has succeeded already"
words_text (Some reason.BeforeClock) ws = bytes_of "no clock new has succeeded yet"

unfoldable pub reason_text : List ℕ → Option Reason → List ℕ
reason_text s r = words_text r (words_of (take (text_length s) s))
