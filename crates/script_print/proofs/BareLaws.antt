-- An answer that is no thread stays.
use mathlib.Core.Path.{◌≡◌, refl}
use Prim.Native.Nat.{ℕ}
use Rattle.answers.specs.declared.Answer.{Answer}
use Rattle.answers.specs.declared.Answer.TheVariants as answer
use Rattle.script_print.specs.Print.{bare_answer}

pub no-thread : (a : Answer) → ((n : ℕ) → a ≡ answer.Thread n → ⊥) → a ≡ bare_answer a
unfolding bare_answer
no-thread (answer.Refused n) q = refl
no-thread answer.Done q = refl
no-thread answer.None q = refl
no-thread (answer.Thread n) q = absurd (q n refl)
no-thread (answer.Flag f) q = refl
no-thread (answer.Count n) q = refl
no-thread (answer.Satisfied n) q = refl
no-thread answer.Timeout q = refl
no-thread answer.Blocked q = refl
no-thread (answer.Run n) q = refl
no-thread (answer.AdvanceTo n) q = refl
no-thread (answer.Deadlocked n) q = refl
no-thread answer.Finished q = refl
no-thread (answer.Event key manual signaled) q = refl
