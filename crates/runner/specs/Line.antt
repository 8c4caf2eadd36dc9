-- A line of a script to the line of its answer.
use Rattle.std.specs.Prelude.{ℕ, List}
use Rattle.script.specs.Line.{read_line}
use Rattle.script.specs.Wait.{Taken}
use Rattle.script_print.specs.Print.{printed, answer_line, Written}
use Rattle.runner.specs.declared.session.Session.{Session}
use Rattle.runner.specs.declared.lines.Answered as code
use Rattle.runner.specs.Session.{Performed, performed}

-- what a line leaves: the bench, what a dispatch wrote, the list of a wait, and the text with the answer's line
pub record Answered : Type 0 where
  pub session : Session
  pub words : List ℕ
  pub waiting : List ℕ
  pub list : List ℕ
  pub text : List ℕ
  pub end : ℕ  -- the place behind the answer's line

abbrev pub answered_as : code.Answered → List ℕ → List ℕ → List ℕ → List ℕ → Answered
answered_as a w out list text = record { session = a.session; words = w; waiting = out; list = list; text = text; end = a.end }

-- the line read, its command performed, and the answer written behind the line's number
unfoldable pub answered : List ℕ → List ℕ → List ℕ → List ℕ → List ℕ → ℕ → ℕ → Session → Answered
answered w out list line text at number s =
    let c : Taken = read_line line list in
    let d : Performed = performed w out c.list s c.command in
    let t : Written = printed text at (answer_line number d.step.answer d.waiting) in
    record { session = d.step.session; words = d.words; waiting = d.waiting; list = c.list; text = t.text; end = t.at }
