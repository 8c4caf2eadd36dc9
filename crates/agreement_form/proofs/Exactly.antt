-- Words are in form if and only if they are the words of some state in form.
use Prim.Native.Nat.{ℕ}
use mathlib.Core.List.{List}
use mathlib.Core.Bool.{true}
use mathlib.Core.Path.{◌≡◌}
use Rattle.form.specs.Form.{in_form}
use Rattle.model.specs.State.{State}
use Rattle.agreement.specs.Agree.{Agree}
use Rattle.agreement_form.specs.Decoded.{decoded}
use Rattle.agreement_form.specs.Words.{Words}
use Rattle.agreement_form.specs.Form.{Form}
use Rattle.agreement_form.proofs.Passes.{form-passes}
use Rattle.agreement_form.proofs.FromForm.{from-form}
use Rattle.agreement_form.proofs.FormOf.{form_of}

pub some-state : (w : List ℕ) → Words w → in_form w ≡ true → (s : State) × (Agree w s) × Form s
some-state w words e = (decoded w, from-form w words e, form_of w words e)

pub of-state : (w : List ℕ) → (s : State) × (Agree w s) × Form s → in_form w ≡ true
of-state w (s, a, f) = form-passes w s a f

pub exactly : (w : List ℕ) → Words w → (in_form w ≡ true → (s : State) × (Agree w s) × Form s) × ((s : State) × (Agree w s) × Form s → in_form w ≡ true)
exactly w words = (some-state w words, of-state w)
