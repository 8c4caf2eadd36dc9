-- What stands beside an answer that is no refusal.
use mathlib.Core.Path.{◌≡◌, refl}
use mathlib.Core.Bool.{Bool}
use mathlib.Core.List.{List, []}
use Prim.Native.Nat.{ℕ}
use Rattle.answers.specs.declared.Answer.{Answer}
use Rattle.answers.specs.declared.Answer.TheVariants as answer
use Rattle.explain_line.specs.Explain.{beside}

pub no-beside : (line : List ℕ) (opened : Bool) (a : Answer) → ((n : ℕ) → a ≡ answer.Refused n → ⊥) → beside line opened a ≡ []
unfolding beside
no-beside line opened (answer.Refused n) q = absurd (q n refl)
no-beside line opened answer.Done q = refl
no-beside line opened answer.None q = refl
no-beside line opened (answer.Thread n) q = refl
no-beside line opened (answer.Flag f) q = refl
no-beside line opened (answer.Count n) q = refl
no-beside line opened (answer.Satisfied n) q = refl
no-beside line opened answer.Timeout q = refl
no-beside line opened answer.Blocked q = refl
no-beside line opened (answer.Run n) q = refl
no-beside line opened (answer.AdvanceTo n) q = refl
no-beside line opened (answer.Deadlocked n) q = refl
no-beside line opened answer.Finished q = refl
no-beside line opened (answer.Event key manual signaled) q = refl
