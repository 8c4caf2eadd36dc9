-- Words in form agree with the state that they tell.
use Prim.Native.Nat.{ℕ}
use mathlib.Core.List.{List}
use mathlib.Core.Bool.{true}
use mathlib.Core.Path.{◌≡◌}
use Rattle.form.specs.Form.{in_form}
use Rattle.agreement.specs.Records.{holder_of, active_address}
use Rattle.agreement.specs.Agree.{Agree}
use Rattle.agreement_form.specs.Decoded.{objects_of, table_of, decoded}
use Rattle.agreement_form.specs.Words.{Words}
use Rattle.agreement_form.proofs.Parts.{parts}
use Rattle.agreement_form.proofs.Told.{agreeing}
use Rattle.agreement_form.proofs.DecodedHolders.{holder-told}
use Rattle.agreement_form.proofs.DecodedActive.{active-told}

pub from-form : (w : List ℕ) → Words w → in_form w ≡ true → Agree w (decoded w)
from-form w words e =
    let p = parts w e in
    agreeing w words p (holder_of (objects_of w)) (active_address (table_of w)) (holder-told w words p) (active-told w words p)
