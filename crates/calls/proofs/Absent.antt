-- An argument that may be absent: what a call with it is, of the two parts of the code's Option.
use Rattle.std.proofs.Common.{◌≡◌, ℕ, List, Bool, refl}
use Rattle.std.specs.Prelude.{Option, Some, None, is_some, unwrap_or}
use Rattle.mutexes.specs.Mutexes.{adopted}
use Rattle.waiting.specs.Wait.{waited}
use Rattle.calls.specs.Called.{optional, adopts, waits}

pub adopts_given : (w : List ℕ) (key : ℕ) (owner : Option ℕ) → adopts w key (optional (is_some owner) (unwrap_or owner 0)) ≡ adopted w key (is_some owner) (unwrap_or owner 0)
adopts_given w key None = refl
adopts_given w key (Some owner) = refl

pub waits_given : (w list : List ℕ) (all : Bool) (deadline : Option ℕ) (irql : ℕ)
    → waits w list all (optional (is_some deadline) (unwrap_or deadline 0)) irql ≡ waited w list all (is_some deadline) (unwrap_or deadline 0) irql
waits_given w list all None irql = refl
waits_given w list all (Some deadline) irql = refl
