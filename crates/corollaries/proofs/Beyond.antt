-- What a dispatch leaves of its output, whatever the words: as long as it was, and as it was behind the numbers that a deadlock gives; all of
-- it where no numbers are given.
use mathlib.Core.Bool.{Bool, true, false, cond}
use mathlib.Core.Path.{refl}
use mathlib.Core.List.{List}
use Prim.Native.Nat.{ℕ}
use lib.ListN.{length}
use Rattle.answers.specs.declared.Answer.TheVariants as answer
use Rattle.dispatcher.specs.Dispatch.{told}
use Rattle.dispatcher.specs.Dispatched.{dispatched}
use Rattle.form.specs.Form.{in_form}
use Rattle.calls.specs.Guard.{guarded_dispatch}
use Rattle.calls.specs.Called.{called}
use Rattle.model.specs.Call.{Dispatch}
use Rattle.dispatcher.specs.Left.{Left}
use Rattle.dispatcher.proofs.OutputLaws.{dispatch-leaves}

pub dispatch-output : (words out : List ℕ) → Left out (called words (Dispatch (length out)) out)
unfolding called guarded_dispatch
dispatch-output words out = go (in_form words)
  where
    go : (b : Bool) → Left out (cond b (dispatched words out) (told (answer.Refused 27) words out))
    go true = dispatch-leaves words out
    go false = record { length_stays = refl; beyond = λ j h. refl; none_given = λ e. refl }
