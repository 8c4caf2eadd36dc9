-- What the command of a line does to a bench: the scheduler in its words, and a clock.
use Rattle.std.specs.Prelude.{ℕ, Bool, true, false, cond, List, length, Option, Some, None, Result, Ok, Err, ⊤}
use Rattle.std.specs.Option.{option_map}
use Rattle.answers.specs.declared.Answer.{Answer}
use Rattle.answers.specs.declared.Answer.TheVariants as answer
use Rattle.answers.specs.Outcome.{Outcome}
use Rattle.clock.specs.declared.GuestClock.{GuestClock}
use Rattle.clock.specs.declared.ClockError.{ClockError}
use Rattle.clock.specs.declared.Outcome as clock
use Rattle.clock.specs.Numbers.{error_number}
use Rattle.dispatcher.specs.Dispatch.{Dispatched}
use Rattle.script_lex.specs.declared.command.Command.{Command}
use Rattle.model.specs.Call as call
use Rattle.calls.specs.Called.{called}
use Rattle.commands.specs.Commands.{Asked, nothing, begins, calls, bares, works, dispatching, creates, moves, asks, asked, on_words}
use Rattle.runner.specs.declared.session.Session.{Session}
use Rattle.runner.specs.declared.session.Step.{Step}

-- before the first line: no `open` and no `clock new` has succeeded
unfoldable pub begin : Session
begin = record { opened = false; clock = None }

-- ---- a clock

abbrev pub unchanged : Session → Answer → Step
unchanged s a = record { answer = a; session = s }

unfoldable pub done_answer : Result ⊤ ClockError → Answer
done_answer (Ok done) = answer.Done
done_answer (Err why) = answer.Refused (error_number why)

unfoldable pub reading_answer : Result ℕ ClockError → Answer
reading_answer (Ok n) = answer.Count n
reading_answer (Err why) = answer.Refused (error_number why)

-- a clock accepted takes the place of the one before
unfoldable pub new_clock : Session → Result GuestClock ClockError → Step
new_clock s (Ok c) = record { answer = answer.Done; session = record { opened = s.opened; clock = Some c } }
new_clock s (Err why) = unchanged s (answer.Refused (error_number why))

-- 28 for a clock call before a `clock new` has succeeded
unfoldable pub moved : Session → Option clock.Outcome → Step
moved s None = unchanged s (answer.Refused 28)
moved s (Some o) = record { answer = done_answer o.answer; session = record { opened = s.opened; clock = Some o.clock } }

unfoldable pub told : Session → Option (Result ℕ ClockError) → Step
told s None = unchanged s (answer.Refused 28)
told s (Some r) = unchanged s (reading_answer r)

-- ---- a bench

pub record Performed : Type 0 where
  pub step : Step
  pub words : List ℕ
  pub waiting : List ℕ  -- the output of a dispatch

abbrev pub performed_as : Step → List ℕ → List ℕ → Performed
performed_as step w out = record { step = step; words = w; waiting = out }

abbrev pub answers_with : Session → List ℕ → Outcome → Performed
answers_with s out o = performed_as (unchanged s o.answer) o.words out

-- after an `open` has succeeded: another gives 28
unfoldable pub gone_on : List ℕ → List ℕ → Session → Asked → Performed
gone_on w out s nothing = answers_with s out (on_words w nothing)
gone_on w out s (begins p) = answers_with s out (on_words w (begins p))
gone_on w out s (calls c p) = answers_with s out (on_words w (calls c p))
gone_on w out s (bares c p) = answers_with s out (on_words w (bares c p))
gone_on w out s (works address) = answers_with s out (on_words w (works address))
gone_on w out s dispatching =
    let o : Dispatched = called w (call.Dispatch (length out)) out in performed_as (unchanged s o.answer) o.words o.output
gone_on w out s (creates made) = performed_as (new_clock s made) w out
gone_on w out s (moves f) = performed_as (moved s (option_map f s.clock)) w out
gone_on w out s (asks f) = performed_as (told s (option_map f s.clock)) w out

-- whether an `open` has succeeded, by its answer
unfoldable pub accepts : Answer → Bool
accepts (answer.Refused n) = false
accepts answer.Done = true
accepts answer.None = false
accepts (answer.Thread n) = false
accepts (answer.Flag b) = false
accepts (answer.Count n) = false
accepts (answer.Satisfied n) = false
accepts answer.Timeout = false
accepts answer.Blocked = false
accepts (answer.Run n) = false
accepts (answer.AdvanceTo n) = false
accepts (answer.Deadlocked n) = false
accepts answer.Finished = false
accepts (answer.Event key manual signaled) = false

-- "limits 16, 64, 64"
abbrev pub opens_with : List ℕ → ℕ → Outcome
opens_with w p = called w (call.Open (length w) p 16 64 64)

abbrev pub opened_by : Session → Answer → Step
opened_by s a = record { answer = a; session = record { opened = accepts a; clock = s.clock } }

-- 28 for a line before an `open` has succeeded, but for an `open`
unfoldable pub begun : List ℕ → List ℕ → Session → Asked → Performed
begun w out s nothing = performed_as (unchanged s (answer.Refused 28)) w out
begun w out s (begins p) = performed_as (opened_by s (opens_with w p).answer) (opens_with w p).words out
begun w out s (calls c p) = performed_as (unchanged s (answer.Refused 28)) w out
begun w out s (bares c p) = performed_as (unchanged s (answer.Refused 28)) w out
begun w out s (works address) = performed_as (unchanged s (answer.Refused 28)) w out
begun w out s dispatching = performed_as (unchanged s (answer.Refused 28)) w out
begun w out s (creates made) = performed_as (unchanged s (answer.Refused 28)) w out
begun w out s (moves f) = performed_as (unchanged s (answer.Refused 28)) w out
begun w out s (asks f) = performed_as (unchanged s (answer.Refused 28)) w out

-- what a command does
unfoldable pub performed : List ℕ → List ℕ → List ℕ → Session → Option Command → Performed
performed w out list s c = cond s.opened (gone_on w out s (asked list c)) (begun w out s (asked list c))
