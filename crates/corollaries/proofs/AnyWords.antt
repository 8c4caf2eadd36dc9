-- The answers do not depend on what the lent words held.
use Prim.Native.Nat.{ℕ}
use mathlib.Core.List.{List, ◌∷◌}
use mathlib.Core.Path.{◌≡◌, sym, ◌∙◌}
use lib.ListN.{length}
use Rattle.model.specs.Call.{Call}
use Rattle.model.specs.Start.{Start, first_call, Accepted}
use Rattle.theorem.specs.History.{answers_on, Proper}
use Rattle.theorem.proofs.Theorem.{theorem}

-- the same calls on other lent words, of the same length or of another that the start is accepted on, answer the same
pub any-words : (w x : List ℕ) (start : Start) (calls : List Call) → Accepted (length w) start → Proper (length w) calls → Accepted (length x) start → Proper (length x) calls
    → answers_on w (first_call (length w) start ∷ calls) ≡ answers_on x (first_call (length x) start ∷ calls)
any-words w x start calls accepted proper accepted' proper' = (theorem w start calls accepted proper).answers ∙ sym (theorem x start calls accepted' proper').answers
