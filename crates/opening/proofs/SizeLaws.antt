-- The words needed are those of the records, the header to the last DPC.
use Prim.Native.Nat.{ℕ}
use mathlib.Core.Bool.{false}
use mathlib.Core.Path.{◌≡◌}
use native.Mathlib.Omega.{arith}
use Rattle.opening.specs.Open.{bad_limits, words_needed}
use Rattle.opening.proofs.OpenLaws.{limits}
use Rattle.words.specs.Records.{end_of}
use Rattle.words.proofs.RecordLaws.{dpc-from}

pub needed-for-records : (t o d : ℕ) → bad_limits t o d ≡ false → words_needed t o d ≡ end_of t o d
needed-for-records t o d e =
    let l = limits t o d e in
    let last = dpc-from t o d l.threads l.objects l.dpcs d l.dpcs in
    omega arith
