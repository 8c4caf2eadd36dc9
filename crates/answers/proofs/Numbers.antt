-- No two refusals have one number.
use mathlib.Core.Path.{◌≡◌, refl, ap, sym, ◌∙◌}
use mathlib.Core.Bool.{cond}
use Prim.Native.Nat.{ℕ}
use lib.Dec.{eqb}
use Rattle.std.specs.Prelude.{Option, Some, None}
use Rattle.answers.specs.declared.error.SchedulerError.{SchedulerError}
use Rattle.answers.specs.declared.error.SchedulerError.TheVariants as error
use Rattle.answers.specs.Errors.{number}

-- the refusal that a number tells
error_of : ℕ → Option SchedulerError
error_of n =
    cond (eqb n 1) (Some error.InvalidPriority)
    (cond (eqb n 2) (Some error.Unknown)
    (cond (eqb n 3) (Some error.NoCurrentThread)
    (cond (eqb n 4) (Some error.Full)
    (cond (eqb n 5) (Some error.OtherKind)
    (cond (eqb n 6) (Some error.InUse)
    (cond (eqb n 7) (Some error.InvalidList)
    (cond (eqb n 8) (Some error.OwnMutex)
    (cond (eqb n 9) (Some error.InvalidIrql)
    (cond (eqb n 10) (Some error.NotOwner)
    (cond (eqb n 11) (Some error.Exited)
    (cond (eqb n 12) (Some error.TimeGoesBack)
    (cond (eqb n 13) (Some error.DueOverflow)
    (cond (eqb n 14) (Some error.Lifetime)
    (cond (eqb n 15) (Some error.InvalidLocation)
    (cond (eqb n 16) (Some error.Overlap)
    (cond (eqb n 17) (Some error.NegativePeriod)
    (cond (eqb n 18) (Some error.Named)
    (cond (eqb n 19) (Some error.Busy)
    (cond (eqb n 20) (Some error.Policy)
    (cond (eqb n 21) (Some error.OtherOrigin)
    (cond (eqb n 22) (Some error.OtherWork)
    (cond (eqb n 23) (Some error.NotReleasable)
    (cond (eqb n 24) (Some error.CountOverflow)
    (cond (eqb n 27) (Some error.OutOfForm) None))))))))))))))))))))))))

told-back : (e : SchedulerError) → error_of (number e) ≡ Some e
unfolding error_of
told-back error.InvalidPriority = refl
told-back error.Unknown = refl
told-back error.NoCurrentThread = refl
told-back error.Full = refl
told-back error.OtherKind = refl
told-back error.InUse = refl
told-back error.InvalidList = refl
told-back error.OwnMutex = refl
told-back error.InvalidIrql = refl
told-back error.NotOwner = refl
told-back error.Exited = refl
told-back error.TimeGoesBack = refl
told-back error.DueOverflow = refl
told-back error.Lifetime = refl
told-back error.InvalidLocation = refl
told-back error.Overlap = refl
told-back error.NegativePeriod = refl
told-back error.Named = refl
told-back error.Busy = refl
told-back error.Policy = refl
told-back error.OtherOrigin = refl
told-back error.OtherWork = refl
told-back error.NotReleasable = refl
told-back error.CountOverflow = refl
told-back error.OutOfForm = refl

the-one : Option SchedulerError → SchedulerError
the-one None = error.OutOfForm
the-one (Some e) = e

pub numbers-differ : (e f : SchedulerError) → number e ≡ number f → e ≡ f
unfolding the-one
numbers-differ e f q =
    ap the-one (sym (told-back e)) ∙ ap (λ (n : ℕ). the-one (error_of n)) q ∙ ap the-one (told-back f)
