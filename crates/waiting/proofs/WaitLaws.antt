-- The record of a wait: its word for a deadline, and how many objects it has.
use Rattle.std.proofs.Common.{◌≡◌, ℕ, List, Bool, true, false, not, eqb, refl}
use Rattle.answers.specs.Outcome.{bit}
use Rattle.threads.specs.Thread.{recorded}

pub recorded_timed : (list : List ℕ) (n all : ℕ) (b : Bool) (deadline sequence : ℕ) → not (eqb (recorded list n all (bit b) deadline sequence).timed 0) ≡ b
unfolding recorded
recorded_timed list n all true deadline sequence = refl
recorded_timed list n all false deadline sequence = refl

pub recorded_count : (list : List ℕ) (n all timed deadline sequence : ℕ) → (recorded list n all timed deadline sequence).count ≡ n
unfolding recorded
recorded_count list n all timed deadline sequence = refl
