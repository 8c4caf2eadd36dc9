-- What a call's answer becomes as an Answer: the `From` of its type says it as a relation, and here it is the answer that a definition gives.
use mathlib.Core.Path.{◌≡◌, ap, sym, ◌∙◌}
use mathlib.Core.List.{List}
use Prim.Native.Nat.{ℕ}
use Rattle.std.specs.Prelude.{Option, Some, None, Result, Ok, Err}
use Rattle.answers.specs.declared.error.SchedulerError.{SchedulerError}
use Rattle.answers.specs.declared.Answer.{Answer}
use Rattle.answers.specs.declared.Answer.TheVariants as answer
use Rattle.answers.specs.Errors.{Tells, TellsOrNone, answer_of}
use Rattle.answers.specs.Outcome.{Outcome, outcome}

-- of what may be absent: `none` is the answer where it is
pub told-or-none : {A : Type 0} {R : A → Answer → Type 0} (g : Option A → Answer) → g None ≡ answer.None
    → ((x : A) (a : Answer) → R x a → a ≡ g (Some x)) → (x : Option A) (a : Answer) → TellsOrNone R x a → a ≡ g x
told-or-none g none h None a t = t ∙ sym none
told-or-none g none h (Some x) a t = h x a t

module _ {A : Type 0} {R : A → Answer → Type 0} (f : A → Answer) (r : Result A SchedulerError) (a : Answer) where
  pub told-is : Tells R r a → ((x : A) (b : Answer) → R x b → b ≡ f x) → a ≡ answer_of f r
  told-is t h = go r t
    where
      go : (q : Result A SchedulerError) → Tells R q a → a ≡ answer_of f q
      go (Ok x) t' = h x a t'
      go (Err e) t' = t'

  pub told-outcome : (w : List ℕ) (o : Outcome) → Tells R r a → ((x : A) (b : Answer) → R x b → b ≡ f x)
      → outcome (answer_of f r) w ≡ o → outcome a w ≡ o
  told-outcome w o t h e = ap (λ (b : Answer). outcome b w) (told-is t h) ∙ e
