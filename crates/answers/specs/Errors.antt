-- The numbers of document 01's table, and what a call's Result tells by them.
use Rattle.std.specs.Prelude.{ℕ, ◌≡◌, Option, Some, None, Result, Ok, Err}
use Rattle.answers.specs.declared.error.SchedulerError.{SchedulerError}
use Rattle.answers.specs.declared.error.SchedulerError.TheVariants as error
use Rattle.answers.specs.declared.ThreadId.{ThreadId}
use Rattle.answers.specs.declared.Answer.{Answer}
use Rattle.answers.specs.declared.Answer.TheVariants as answer

abbrev pub number : SchedulerError → ℕ
number error.InvalidPriority = 1
number error.Unknown = 2
number error.NoCurrentThread = 3
number error.Full = 4
number error.OtherKind = 5
number error.InUse = 6
number error.InvalidList = 7
number error.OwnMutex = 8
number error.InvalidIrql = 9
number error.NotOwner = 10
number error.Exited = 11
number error.TimeGoesBack = 12
number error.DueOverflow = 13
number error.Lifetime = 14
number error.InvalidLocation = 15
number error.Overlap = 16
number error.NegativePeriod = 17
number error.Named = 18
number error.Busy = 19
number error.Policy = 20
number error.OtherOrigin = 21
number error.OtherWork = 22
number error.NotReleasable = 23
number error.CountOverflow = 24
number error.OutOfForm = 27

-- the number of its refusal; 0 where it is accepted
abbrev pub refusal : {A : Type 0} → Result A SchedulerError → ℕ
refusal (Ok a) = 0
refusal (Err e) = number e

-- what `refuse` makes of the refusal's number, else what `tell` makes of the answer
abbrev pub told_by : {A B : Type 0} → (A → B) → (ℕ → B) → Result A SchedulerError → B
told_by tell refuse (Ok a) = tell a
told_by tell refuse (Err e) = refuse (number e)

abbrev pub answer_of : {A : Type 0} → (A → Answer) → Result A SchedulerError → Answer
answer_of tell (Ok a) = tell a
answer_of tell (Err e) = answer.Refused (number e)

abbrev pub done : Result (Unit {0}) SchedulerError → Answer
done r = answer_of (λ _. answer.Done) r

abbrev pub thread : ThreadId → Answer
thread id = answer.Thread id.0

abbrev pub thread_or_none : Option ThreadId → Answer
thread_or_none None = answer.None
thread_or_none (Some id) = answer.Thread id.0

-- the answer is none, or one that `tells` says of what there is
abbrev pub TellsOrNone : {A : Type 0} → (A → Answer → Type 0) → Option A → Answer → Type 0
TellsOrNone tells None a = a ≡ answer.None
TellsOrNone tells (Some x) a = tells x a

-- the answer is the number of the refusal, or one that `tells` says of the call's own answer
abbrev pub Tells : {A : Type 0} → (A → Answer → Type 0) → Result A SchedulerError → Answer → Type 0
Tells tells (Ok x) a = tells x a
Tells tells (Err e) a = a ≡ answer.Refused (number e)
