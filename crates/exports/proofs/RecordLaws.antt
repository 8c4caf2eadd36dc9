-- What an exported call gives that reads, or answers work or an image, from what the call answers.
use mathlib.Core.Path.{◌≡◌, ap, refl}
use mathlib.Core.List.{List}
use Prim.Native.Nat.{ℕ, ◌≤◌, ◌<◌}
use lib.ListN.{length}
use borrow.Author.Tests.{lt-ltb, le-ltb}
use Rattle.std.specs.Prelude.{Result, Ok, Err}
use Rattle.answers.specs.declared.error.SchedulerError.{SchedulerError}
use Rattle.answers.specs.declared.Answer.{Answer}
use Rattle.answers.specs.Errors.{told_by}
use Rattle.images.specs.declared.DpcWork.{DpcWork}
use Rattle.dpc_work.specs.Work.{Started, start_outcome, told}
use Rattle.dpc_work.specs.WorkAnswer.{WorkAnswer, Work, Refused}
use Rattle.calls.specs.Guard.{Kind, Code}
use Rattle.calls.specs.Images.{Imaged, imaged}
use Rattle.exports.specs.SchedulerAnswer.{given, refusal_of, answer_in}
use Rattle.exports.specs.RecordAnswer.{told_by_number, refusal_as, answer_as, work_refusal, work_answer_in}
use Rattle.exports.specs.RecordCall.{room, read_by, started_by, by_number, given_image, imaged_by}

module _ (k : Kind) (w out : List ℕ) where
  pub read_short : (a : Code k) → length out < room k → given 27 w out ≡ read_by k w out a
  unfolding read_by
  read_short a h = simp (lt-ltb _ _ h)

  pub read-by : (a b : Code k) → room k ≤ length out → a ≡ b → given (refusal_as k a) w (answer_as k out a) ≡ read_by k w out b
  unfolding read_by
  read-by a b h e = simp (le-ltb _ _ h) (ap (λ (x : Code k). given (refusal_as k x) w (answer_as k out x)) e)

module _ (w out : List ℕ) where
  pub started-short : (s : Started) → length out < 24 → given 27 w out ≡ started_by w out s
  unfolding started_by
  started-short s h = simp (lt-ltb _ _ h)

  pub started-by : (s : Started) (a : WorkAnswer) (after : List ℕ) → 24 ≤ length out → start_outcome a after ≡ s
      → given (work_refusal a) after (work_answer_in out a) ≡ started_by w out s
  unfolding started_by
  started-by s a after h e = simp (le-ltb _ _ h) (ap (λ (x : Started). given (work_refusal x.answer) x.words (work_answer_in out x.answer)) e)

module _ (bytes out : List ℕ) where
  pub image-short : (i : Imaged) → length out < 4 → given_image 27 bytes out ≡ imaged_by bytes out i
  unfolding imaged_by
  image-short i h = simp (lt-ltb _ _ h)

  pub image-by : (i : Imaged) (a : Answer) (after : List ℕ) → 4 ≤ length out → imaged a after ≡ i
      → given_image (refusal_of a) after (answer_in out a) ≡ imaged_by bytes out i
  unfolding imaged_by
  image-by i a after h e = simp (le-ltb _ _ h) (ap (λ (x : Imaged). given_image (refusal_of x.answer) x.output (answer_in out x.answer)) e)

-- ---- a refusal of the calls by its number

pub told-by-number : {A B : Type 0} (tell : A → B) (refuse : ℕ → B) (r : Result A SchedulerError) → told_by_number tell refuse (by_number r) ≡ told_by tell refuse r
told-by-number tell refuse (Ok a) = refl
told-by-number tell refuse (Err e) = refl

pub work-by-number : (r : Result DpcWork SchedulerError) → told_by_number Work Refused (by_number r) ≡ told r
work-by-number (Ok work) = refl
work-by-number (Err e) = refl
