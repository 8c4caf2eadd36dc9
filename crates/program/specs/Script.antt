-- What the log makes of a script: how the answer of a command's call is shown, and what a list of commands answers. The log is told the
-- commands alone.
use Rattle.std.specs.Prelude.{ℕ, List, [], ◌∷◌, cond, eqb}
use Rattle.std.specs.Option.{option_map}
use Rattle.model.specs.State.{State}
use Rattle.model.specs.Answer.{Answer, Outcome}
use Rattle.model.specs.Answer as log
use Rattle.model.specs.Call.{Call}
use Rattle.model.specs.Call as call
use Rattle.model.specs.Refusal.{open_refusal, words_needed}
use Rattle.model.specs.Step.{step}
use Rattle.model.specs.Fits.{Fits}
use Rattle.call_answers.specs.Told.{told}
use Rattle.runner.specs.declared.session.Session.{Session}
use Rattle.runner.specs.declared.session.Step as code
use Rattle.runner.specs.Session as program
use Rattle.commands.specs.Commands.{Asked, nothing, begins, calls, bares, works, dispatching, creates, moves, asks}

-- "limits 16, 64, 64"
abbrev pub opening : ℕ → Call
opening p = call.Open (words_needed 16 64 64) p 16 64 64

-- the arguments of the call fit their types
abbrev pub AskedFits : Asked → Type 0
AskedFits nothing = Unit
AskedFits (begins p) = Fits (opening p)
AskedFits (calls c p) = Fits c
AskedFits (bares c p) = Fits c
AskedFits (works address) = Fits (call.StartDpc address)
AskedFits dispatching = Unit
AskedFits (creates made) = Unit
AskedFits (moves f) = Unit
AskedFits (asks f) = Unit

-- ---- how an answer is shown

-- as it is
abbrev pub plain : Answer → Answer
plain a = a

-- a thread, or the sequence of a work, as a number alone
abbrev pub bare : Answer → Answer
bare (log.Refused n) = log.Refused n
bare log.Done = log.Done
bare log.None = log.None
bare (log.ThreadNumber n) = log.Number n
bare (log.Flag b) = log.Flag b
bare (log.Number n) = log.Number n
bare (log.Satisfied n) = log.Satisfied n
bare log.Timeout = log.Timeout
bare log.Blocked = log.Blocked
bare (log.Run n) = log.Run n
bare (log.AdvanceTo n) = log.AdvanceTo n
bare (log.Deadlocked l) = log.Deadlocked l
bare log.Finished = log.Finished
bare (log.ThreadIs n t) = log.ThreadIs n t
bare (log.ObjectIs n) = log.ObjectIs n
bare (log.EventIs e) = log.EventIs e
bare (log.TimerIs t) = log.TimerIs t
bare (log.DpcIs d) = log.DpcIs d
bare (log.WorkIs x) = log.Number x.sequence
bare (log.PolicyIs p) = log.PolicyIs p
bare (log.CountersAre c) = log.CountersAre c
bare (log.ImageIs size bytes) = log.ImageIs size bytes

-- ---- what a command answers, by the log

-- the answer, and the log's scheduler and clock after it
pub record Logged : Type 0 where
  pub answer : Answer
  pub session : Session
  pub state : State

-- 28, and nothing changes
abbrev pub unread : Session → State → Logged
unread s st = record { answer = log.Refused 28; session = s; state = st }

abbrev pub by_call : Session → (Answer → Answer) → Outcome → Logged
by_call s shown o = record { answer = shown o.answer; session = s; state = o.state }

-- a call of the clock leaves the scheduler as it is
abbrev pub by_clock : State → code.Step → Logged
by_clock st x = record { answer = told x.answer; session = x.session; state = st }

-- after an `open` has succeeded: another is not read
unfoldable pub when_open : Session → State → Asked → Logged
when_open s st nothing = unread s st
when_open s st (begins p) = unread s st
when_open s st (calls c p) = by_call s plain (step c st)
when_open s st (bares c p) = by_call s bare (step c st)
when_open s st (works address) = by_call s bare (step (call.StartDpc address) st)
when_open s st dispatching = by_call s plain (step (call.Dispatch 16) st)
when_open s st (creates made) = by_clock st (program.new_clock s made)
when_open s st (moves f) = by_clock st (program.moved s (option_map f s.clock))
when_open s st (asks f) = by_clock st (program.told s (option_map f s.clock))

-- an `open` that the table accepts begins the log
abbrev pub beginning : Session → State → ℕ → Logged
beginning s st p =
    let o = step (opening p) st in
    record { answer = o.answer; session = record { opened = eqb (open_refusal (words_needed 16 64 64) p 16 64 64) 0; clock = s.clock }; state = o.state }

-- before an `open` has succeeded no other line is read
unfoldable pub when_closed : Session → State → Asked → Logged
when_closed s st nothing = unread s st
when_closed s st (begins p) = beginning s st p
when_closed s st (calls c p) = unread s st
when_closed s st (bares c p) = unread s st
when_closed s st (works address) = unread s st
when_closed s st dispatching = unread s st
when_closed s st (creates made) = unread s st
when_closed s st (moves f) = unread s st
when_closed s st (asks f) = unread s st

abbrev pub logged : Session → State → Asked → Logged
logged s st m = cond s.opened (when_open s st m) (when_closed s st m)

-- the answers of a list of them
abbrev pub log_answers : Session → State → List Asked → List Answer
log_answers s st [] = []
log_answers s st (m ∷ ms) = (logged s st m).answer ∷ log_answers (logged s st m).session (logged s st m).state ms
