-- What an exported call gives that reads, or answers work or an image.
use Rattle.std.specs.Prelude.{◌≡◌, cond, ℕ, List, length, ltb, Result, Ok, Err}
use Rattle.std.specs.Borrow.{MutBor}
use Rattle.answers.specs.declared.error.SchedulerError.{SchedulerError}
use Rattle.answers.specs.declared.Answer.TheVariants.{Count}
use Rattle.answers.specs.Errors.{number, answer_of}
use Rattle.images.specs.declared.DpcWork.{DpcWork}
use Rattle.dpc_work.specs.Work.{Started, start_outcome, told}
use Rattle.calls.specs.Guard.{Kind, Code}
use Rattle.calls.specs.Guard as kind
use Rattle.calls.specs.Images.{Imaged, imaged}
use Rattle.exports.specs.SchedulerAnswer.{Given, given, refusal_of, answer_in}
use Rattle.exports.specs.RecordAnswer.{refusal_as, answer_as, work_refusal, work_answer_in}

-- ---- reads: an output with fewer words than an answer of the kind wants is refused with 27

abbrev pub room : Kind → ℕ
room kind.plain = 4
room kind.threads = 24
room kind.places = 24
room kind.timers = 24
room kind.dpcs = 24
room kind.policies = 24
room kind.counts = 24

unfoldable pub read_by : (k : Kind) → List ℕ → List ℕ → Code k → Given
read_by k w out a = cond (ltb (length out) (room k)) (given 27 w out) (given (refusal_as k a) w (answer_as k out a))

-- what a read answers, and what puts that into an output with room for it, by their runs: the number that it answers, and what it leaves there
abbrev pub Puts : {A : Type 0} → (A → Type 0) → (MutBor (List ℕ) → A → ℕ → MutBor (List ℕ) → Type 0) → (k : Kind) → Code k → Type 0
Puts {A} reads puts k a = (r : A) → reads r → (out : MutBor (List ℕ)) (n : ℕ) (after : MutBor (List ℕ)) → puts out r n after
    → (n ≡ refusal_as k a) × (after.now ≡ answer_as k out.now a)

-- a refusal of the calls by its number
abbrev pub by_number : {A : Type 0} → Result A SchedulerError → Result A ℕ
by_number (Ok a) = Ok a
by_number (Err e) = Err (number e)

-- what a read of a record answers, by its runs: always what is told as `a`
abbrev pub Tells : {A B : Type 0} → (A → Type 0) → (A → B) → B → Type 0
Tells {A} runs tell a = (r : A) → runs r → tell r ≡ a

-- ---- work: an output under 24 words is refused with 27

unfoldable pub started_by : List ℕ → List ℕ → Started → Given
started_by w out s =
    cond (ltb (length out) 24) (given 27 w out) (given (work_refusal s.answer) s.words (work_answer_in out s.answer))

-- what a call that starts work does, from the words to its work and the words after it, by its runs
abbrev pub Starts : (MutBor (List ℕ) → Result DpcWork SchedulerError → MutBor (List ℕ) → Type 0) → (List ℕ → Started) → Type 0
Starts runs f = (w : MutBor (List ℕ)) (r : Result DpcWork SchedulerError) (after : MutBor (List ℕ)) → runs w r after
    → start_outcome (told r) after.now ≡ f w.now

-- ---- images: the bytes are an output of their own, and an output for the answer under four words is refused with 27

pub record GivenImage : Type 0 where
  pub number : ℕ
  pub bytes : List ℕ
  pub output : List ℕ

abbrev pub given_image : ℕ → List ℕ → List ℕ → GivenImage
given_image n bytes out = record { number = n; bytes = bytes; output = out }

unfoldable pub imaged_by : List ℕ → List ℕ → Imaged → GivenImage
imaged_by bytes out i =
    cond (ltb (length out) 4) (given_image 27 bytes out) (given_image (refusal_of i.answer) i.output (answer_in out i.answer))

-- what a call that writes an image does, from the bytes to its answer and the bytes after it, by its runs
abbrev pub Writes : (MutBor (List ℕ) → Result ℕ SchedulerError → MutBor (List ℕ) → Type 0) → (List ℕ → Imaged) → Type 0
Writes runs f = (b : MutBor (List ℕ)) (r : Result ℕ SchedulerError) (after : MutBor (List ℕ)) → runs b r after
    → imaged (answer_of Count r) after.now ≡ f b.now
