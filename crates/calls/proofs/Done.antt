-- A call that is made is done: after `reset_event` of a known event, on words in form, the event is not signaled.
use Prim.Native.Nat.{ℕ, zero, suc, ◌+◌}
use mathlib.Core.List.{List, [], ◌∷◌}
use mathlib.Core.Bool.{true, false}
use mathlib.Core.Path.{◌≡◌, refl}
use lib.Dec.{eqb}
use lib.ListN.{get_or, set}
use Rattle.words.specs.Layout as at
use Rattle.objects.specs.Objects.{place_of}
use Rattle.events.specs.Events as events
use Rattle.form.specs.Form.{in_form}
use Rattle.model.specs.Call as call
use Rattle.calls.specs.Guard.{guarded}
use Rattle.calls.specs.Called.{called}
use Rattle.calls.specs.Run.{left}

zeroed : (w : List ℕ) (i : ℕ) → get_or (set w i 0) i 0 ≡ 0
zeroed [] zero = refl
zeroed [] (suc i) = refl
zeroed (x ∷ w) zero = refl
zeroed (x ∷ w) (suc i) = zeroed w i

pub reset-done : (w : List ℕ) (key : ℕ) → in_form w ≡ true → eqb (place_of w 1 key) 0 ≡ false → get_or (left w (call.ResetEvent key)) (place_of w 1 key + at.signaled) 0 ≡ 0
unfolding called guarded events.was_reset
reset-done w key f known = simp (f, known) (zeroed w (place_of w 1 key + at.signaled))
