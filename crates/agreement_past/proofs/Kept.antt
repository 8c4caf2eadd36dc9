-- Words that a call leaves as they were from a place on: one of two outcomes, and words out of form.
use Prim.Native.Nat.{ℕ}
use mathlib.Core.List.{List}
use mathlib.Core.Bool.{Bool, true, false, cond}
use mathlib.Core.Path.{◌≡◌, refl}
use borrow.Author.Tests.{eqb-true}
use lib.Dec.{eqb}
use Rattle.answers.specs.declared.Answer.TheVariants as answer
use Rattle.answers.specs.Outcome.{Outcome, outcome, unless}
use Rattle.form.specs.Form.{in_form}
use Rattle.calls.specs.Guard.{guarded}
use Rattle.agreement_chains.specs.Chains.{Same}

module _ (R : ℕ → Type 0) (w : List ℕ) where
  pub same : Same R w w
  same j r = refl

  -- an accepted call, or a refused one
  pub unless-kept : (n : ℕ) (o : Outcome) → (n ≡ 0 → Same R w o.words) → Same R w (unless n w o).words
  unless-kept n o k = go (eqb n 0) refl
    where
      go : (b : Bool) → eqb n 0 ≡ b → Same R w (cond b o (outcome (answer.Refused n) w)).words
      go true e = k (eqb-true n 0 e)
      go false e = λ j r. refl

  pub guarded-kept : (o : Outcome) → Same R w o.words → Same R w (guarded w o).words
  unfolding guarded
  guarded-kept o k = go (in_form w)
    where
      go : (b : Bool) → Same R w (cond b o (outcome (answer.Refused 27) w)).words
      go true = k
      go false = λ j r. refl
