-- 27 before all else: words out of form are refused, and left as they are.
use Rattle.std.specs.Prelude.{Bool, cond, true, List, ℕ, ltb, length}
use Rattle.answers.specs.declared.Answer.{Answer}
use Rattle.answers.specs.declared.Answer.TheVariants.{Refused}
use Rattle.answers.specs.Outcome.{Outcome, outcome}
use Rattle.dispatcher.specs.Dispatch.{Dispatched, told}
use Rattle.dispatcher.specs.Dispatched.{dispatched}
use Rattle.dispatcher.specs.ThreadAnswer.{ThreadAnswer}
use Rattle.dispatcher.specs.ThreadAnswer as thread
use Rattle.dispatcher.specs.PlaceAnswer.{PlaceAnswer}
use Rattle.dispatcher.specs.PlaceAnswer as place
use Rattle.dpc_work.specs.Work.{Started, start_outcome}
use Rattle.dpc_work.specs.WorkAnswer as work
use Rattle.dpc_reads.specs.DpcAnswer.{DpcAnswer}
use Rattle.dpc_reads.specs.DpcAnswer as dpc
use Rattle.dpc_reads.specs.PolicyAnswer.{PolicyAnswer}
use Rattle.dpc_reads.specs.PolicyAnswer as policy
use Rattle.dpc_reads.specs.CountersAnswer.{CountersAnswer}
use Rattle.dpc_reads.specs.CountersAnswer as counters
use Rattle.timers.specs.TimerAnswer.{TimerAnswer}
use Rattle.timers.specs.TimerAnswer as timer
use Rattle.form.specs.Form.{in_form}
use Rattle.calls.specs.Images.{Imaged, imaged}

-- ---- calls that change the words

unfoldable pub guarded : List ℕ → Outcome → Outcome
guarded w o = cond (in_form w) o (outcome (Refused 27) w)

unfoldable pub guarded_dispatch : List ℕ → List ℕ → Dispatched
guarded_dispatch w out = cond (in_form w) (dispatched w out) (told (Refused 27) w out)

unfoldable pub guarded_start : List ℕ → Started → Started
guarded_start w s = cond (in_form w) s (start_outcome (work.Refused 27) w)

-- ---- reads, by the kind of their answer

pub data Kind : Type 0 where
  plain threads places timers dpcs policies counts : Kind

-- the type of the code's answer
abbrev pub Code : Kind → Type 0
Code plain = Answer
Code threads = ThreadAnswer
Code places = PlaceAnswer
Code timers = TimerAnswer
Code dpcs = DpcAnswer
Code policies = PolicyAnswer
Code counts = CountersAnswer

abbrev pub refusing : (k : Kind) → ℕ → Code k
refusing plain n = Refused n
refusing threads n = thread.Refused n
refusing places n = place.Refused n
refusing timers n = timer.Refused n
refusing dpcs n = dpc.Refused n
refusing policies n = policy.Refused n
refusing counts n = counters.Refused n

unfoldable pub readable : List ℕ → (k : Kind) → Code k → Code k
readable w k a = cond (in_form w) a (refusing k 27)

-- ---- images: an output under 64 bytes is refused as well, and left as it is

unfoldable pub image_refused : List ℕ → List ℕ → Bool
image_refused w out = cond (in_form w) (ltb (length out) 64) true

unfoldable pub guarded_image : List ℕ → List ℕ → Imaged → Imaged
guarded_image w out i = cond (image_refused w out) (imaged (Refused 27) out) i
