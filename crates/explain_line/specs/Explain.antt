-- A line of a script to the line of its answer, and beside a refusal why.
use Rattle.std.specs.Prelude.{Bool, cond, List, [], ◌++◌, ℕ, eqb, take, Option, Some}
use Rattle.answers.specs.declared.Answer.{Answer}
use Rattle.answers.specs.declared.Answer.TheVariants as answer
use Rattle.script_lex.specs.Text.{bytes_of}
use Rattle.script_lex.specs.Names as name
use Rattle.script_lex.specs.Words.{words_of, first, same}
use Rattle.script.specs.Line.{text_length, read_line}
use Rattle.script.specs.Wait.{Taken}
use Rattle.script_print.specs.Print.{decimal, answer_text, printed, Written}
use Rattle.reasons.specs.declared.Reason.{Reason}
use Rattle.reasons.specs.declared.Reason.TheVariants as reason
use Rattle.reasons.specs.Reasons.{continued, reason_of}
use Rattle.reason_text.specs.Texts.{reason_text}
use Rattle.refusal_text.specs.Sentences.{sentence}
use Rattle.runner.specs.declared.session.Session.{Session}
use Rattle.runner.specs.Session.{Performed, performed}
use Rattle.runner.specs.Line.{Answered}

-- why a session, by whether something is open, refuses a line that can be read
unfoldable pub session_reason : List ℕ → Bool → Reason
session_reason line opened =
    cond opened (cond (same (first (words_of (take (text_length line) line))) name.opens) reason.SecondOpen reason.BeforeClock) reason.BeforeOpen

-- the line's own reason, or the session's where it can be read
unfoldable pub reason_in : List ℕ → Bool → Option Reason
reason_in line opened = continued (reason_of line) (Some (session_reason line opened))

-- of a refusal's number
unfoldable pub why : List ℕ → Bool → ℕ → List ℕ
why line opened n = cond (eqb n 28) (reason_text line (reason_in line opened)) (sentence n)

-- what stands beside an answer: nothing, unless it is a refusal
unfoldable pub beside : List ℕ → Bool → Answer → List ℕ
beside line opened (answer.Refused n) = bytes_of ": " ++ why line opened n
beside line opened answer.Done = []
beside line opened answer.None = []
beside line opened (answer.Thread n) = []
beside line opened (answer.Flag f) = []
beside line opened (answer.Count n) = []
beside line opened (answer.Satisfied n) = []
beside line opened answer.Timeout = []
beside line opened answer.Blocked = []
beside line opened (answer.Run n) = []
beside line opened (answer.AdvanceTo n) = []
beside line opened (answer.Deadlocked n) = []
beside line opened answer.Finished = []
beside line opened (answer.Event key manual signaled) = []

-- the line's number, a space, the answer, what stands beside it, a newline
unfoldable pub explained_line : ℕ → Answer → List ℕ → List ℕ → Bool → List ℕ
explained_line number a numbers line opened = decimal number ++ bytes_of " " ++ answer_text a numbers ++ beside line opened a ++ bytes_of "\n"

-- the line read, its command performed, and the answer written behind the line's number, as `answered` of a runner's line, with what stands beside it
unfoldable pub explained : List ℕ → List ℕ → List ℕ → List ℕ → List ℕ → ℕ → ℕ → Session → Answered
explained w out list line text at number s =
    let c : Taken = read_line line list in
    let d : Performed = performed w out c.list s c.command in
    let t : Written = printed text at (explained_line number d.step.answer d.waiting line s.opened) in
    record { session = d.step.session; words = d.words; waiting = d.waiting; list = c.list; text = t.text; end = t.at }
