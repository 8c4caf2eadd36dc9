-- What a call on a scheduler's words answers, in the words of the log, and the words after it.
use Rattle.std.specs.Prelude.{ℕ, zero, suc, List, [], ◌∷◌, cond, not, ◌≡◌, eqb}
use Rattle.std.proofs.Math.Option.{Option, none, some}
use Rattle.answers.specs.declared.Answer as code
use Rattle.answers.specs.declared.Answer.TheVariants as answer
use Rattle.dispatcher.specs.Read.{waited_object}
use Rattle.dispatcher.specs.declared.read.ThreadView.{ThreadView}
use Rattle.dispatcher.specs.ThreadAnswer.{ThreadAnswer}
use Rattle.dispatcher.specs.ThreadAnswer as thread
use Rattle.dispatcher.specs.PlaceAnswer.{PlaceAnswer}
use Rattle.dispatcher.specs.PlaceAnswer as object
use Rattle.model.specs.State as state
use Rattle.model.specs.State.{Named, Status, running, ready, waiting, exited, WaitResult, satisfied, timeout}
use Rattle.model.specs.Waits.{no_object}
use Rattle.model.specs.Reads.{blank}
use Rattle.model.specs.Answer.{Answer, Refused, None, ThreadIs, ImageIs}
use Rattle.model.specs.Call.{Call}
use Rattle.call_answers.specs.Told.{told_with, told, told_timer, told_dpc, told_work, told_policy, told_counters, told_object}
use Rattle.calls.specs.Images.{Imaged}
use Rattle.calls.specs.Guard.{Kind, Code}
use Rattle.calls.specs.Guard as kind
use Rattle.calls.specs.Called.{Reading, tells, images, Meaning, opens, acts, starts, dispatches, reads, meaning, ReadResult, Result, called}

-- ---- a thread, as `thread` and `waited_object` read it

abbrev pub named_by : PlaceAnswer → Named
named_by (object.Refused n) = no_object
named_by object.None = no_object
named_by (object.Object p) = record { kind = p.kind; key = p.key }

-- `m` of the objects that it waits for, from position `i` on
abbrev pub objects_read : ℕ → List ℕ → ℕ → ℕ → List Named
objects_read zero w id i = []
objects_read (suc m) w id i = named_by (waited_object w id i) ∷ objects_read m w id (suc i)

-- 1 running, 2 ready, 3 waiting, 4 exited
abbrev pub status_read : List ℕ → ThreadView → Status
status_read w v =
    cond (eqb v.state 1) running
    (cond (eqb v.state 2) ready
    (cond (eqb v.state 3)
    (waiting (record { objects = objects_read v.count w v.id 0; all = not (eqb v.all 0); deadline = cond (eqb v.timed 0) none (some v.deadline); sequence = v.sequence }))
    (exited v.status)))

-- 0 none, 1 a timeout, 2 + i satisfied by the object at place i
abbrev pub result_read : ℕ → Option WaitResult
result_read zero = none
result_read (suc zero) = some timeout
result_read (suc (suc i)) = some (satisfied i)

-- the thread that a view shows
abbrev pub view_read : List ℕ → ThreadView → state.Thread
view_read w v = record { priority = v.priority; status = status_read w v; result = result_read v.result }

abbrev pub told_thread : List ℕ → ThreadAnswer → Answer
told_thread w (thread.Refused n) = Refused n
told_thread w (thread.Thread v) = ThreadIs v.id (view_read w v)
told_thread w thread.None = None

-- ---- an image: its size, with the output after the call

abbrev pub told_image : List ℕ → code.Answer → Answer
told_image out (answer.Refused n) = Refused n
told_image out answer.Done = told answer.Done
told_image out answer.None = told answer.None
told_image out (answer.Thread id) = told (answer.Thread id)
told_image out (answer.Flag b) = told (answer.Flag b)
told_image out (answer.Count n) = ImageIs n out
told_image out (answer.Satisfied i) = told (answer.Satisfied i)
told_image out answer.Timeout = told answer.Timeout
told_image out answer.Blocked = told answer.Blocked
told_image out (answer.Run id) = told (answer.Run id)
told_image out (answer.AdvanceTo time) = told (answer.AdvanceTo time)
told_image out (answer.Deadlocked n) = told (answer.Deadlocked n)
told_image out answer.Finished = told answer.Finished
told_image out (answer.Event key manual signaled) = told (answer.Event key manual signaled)

abbrev pub image_told : Imaged → Answer
image_told i = told_image i.output i.answer

-- ---- what a call answers

abbrev pub told_as : List ℕ → (k : Kind) → Code k → Answer
told_as w kind.plain a = told a
told_as w kind.threads a = told_thread w a
told_as w kind.places a = told_object a
told_as w kind.timers a = told_timer a
told_as w kind.dpcs a = told_dpc a
told_as w kind.policies a = told_policy a
told_as w kind.counts a = told_counters a

abbrev pub read_told : List ℕ → (r : Reading) → ReadResult r → Answer
read_told w (tells k f) a = told_as w k a
read_told w (images n f) i = image_told (i (blank n))

abbrev pub answer_of : List ℕ → (m : Meaning) → Result m → Answer
answer_of w (opens n f) o = told o.answer
answer_of w (acts f) o = told o.answer
answer_of w (starts f) o = told_work o.answer
answer_of w (dispatches n) o = told_with (o (blank n)).output (o (blank n)).answer
answer_of w (reads r) a = read_told w r a

-- ---- the words after it: a read leaves them

abbrev pub words_of : List ℕ → (m : Meaning) → Result m → List ℕ
words_of w (opens n f) o = o.words
words_of w (acts f) o = o.words
words_of w (starts f) o = o.words
words_of w (dispatches n) o = (o (blank n)).words
words_of w (reads r) a = w

-- ---- a call

-- what a call answers on the words, and the words after it
abbrev pub answered : List ℕ → Call → Answer
answered w c = answer_of w (meaning c) (called w c)

abbrev pub left : List ℕ → Call → List ℕ
left w c = words_of w (meaning c) (called w c)

-- the words lent to an `open` are as many as it says
abbrev pub LentTo : ℕ → Meaning → Type 0
LentTo m (opens n f) = n ≡ m
LentTo m (acts f) = Unit
LentTo m (starts f) = Unit
LentTo m (dispatches n) = Unit
LentTo m (reads r) = Unit

abbrev pub Lent : ℕ → Call → Type 0
Lent m c = LentTo m (meaning c)
