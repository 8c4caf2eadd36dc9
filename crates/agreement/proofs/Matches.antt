-- Refusals: where the code and the table refuse by the same number, what is left is the effect of an accepted call.
use Prim.Native.Nat.{ℕ}
use mathlib.Core.List.{List}
use mathlib.Core.Bool.{Bool, true, false, cond}
use mathlib.Core.Path.{◌≡◌, refl, sym, ap, ◌∙◌, subst}
use borrow.Author.Tests.{eq-eqb, eqb-true}
use lib.Dec.{eqb}
use Rattle.answers.specs.Outcome as code
use Rattle.answers.specs.Outcome.{unless}
use Rattle.answers.specs.declared.Answer.TheVariants as answer
use Rattle.model.specs.State.{State}
use Rattle.model.specs.Answer.{Outcome, Refused, gives}
use Rattle.model.specs.Call.{Call}
use Rattle.model.specs.Step.{step, refusal, effect}
use Rattle.model.proofs.ListLaws.{not-both}
use Rattle.agreement.specs.Agree.{Agree}
use Rattle.agreement.specs.Matches.{Plainly}

-- a refused call on the log, and an accepted one
pub step-refused : (c : Call) (s : State) (n : ℕ) → refusal c s ≡ n → (n ≡ 0 → ⊥) → step c s ≡ gives (Refused n) s
unfolding step
step-refused c s n e ne = go (eqb (refusal c s) 0) refl
  where
    go : (b : Bool) → eqb (refusal c s) 0 ≡ b → cond b (effect c s) (gives (Refused (refusal c s)) s) ≡ gives (Refused n) s
    go true q = absurd (ne (sym e ∙ eqb-true (refusal c s) 0 q))
    go false q = ap (λ (k : ℕ). gives (Refused k) s) e

pub step-accepted : (c : Call) (s : State) → refusal c s ≡ 0 → step c s ≡ effect c s
unfolding step
step-accepted c s e = ap (λ (b : Bool). cond b (effect c s) (gives (Refused (refusal c s)) s)) (eq-eqb (refusal c s) 0 e)

-- ---- a call that is `unless` a refusal

pub plainly-unless : (w : List ℕ) (s : State) → Agree w s → (c : Call) (r : ℕ) (o : code.Outcome) → r ≡ refusal c s → (refusal c s ≡ 0 → Plainly o (effect c s))
    → Plainly (unless r w o) (step c s)
plainly-unless w s a c r o e f = go (eqb r 0) refl
  where
    go : (b : Bool) → eqb r 0 ≡ b → Plainly (cond b o (code.outcome (answer.Refused r) w)) (step c s)
    go true q = subst (λ (m : Outcome). Plainly o m) (sym (step-accepted c s (sym e ∙ eqb-true r 0 q))) (f (sym e ∙ eqb-true r 0 q))
    go false q =
        subst (λ (m : Outcome). Plainly (code.outcome (answer.Refused r) w) m)
        (sym (step-refused c s r (sym e) (λ z. absurd (not-both (sym (eq-eqb r 0 z) ∙ q)))))
        (record { answers = refl; agree = a })

-- a call that is refused for one reason only, told by a test
pub plainly-refused : (w : List ℕ) (s : State) → Agree w s → (c : Call) (n : ℕ) → refusal c s ≡ n → (n ≡ 0 → ⊥) → Plainly (code.outcome (answer.Refused n) w) (step c s)
plainly-refused w s a c n e ne =
    subst (λ (m : Outcome). Plainly (code.outcome (answer.Refused n) w) m) (sym (step-refused c s n e ne)) (record { answers = refl; agree = a })

pub plainly-accepted : (s : State) (c : Call) (o : code.Outcome) → refusal c s ≡ 0 → Plainly o (effect c s) → Plainly o (step c s)
plainly-accepted s c o e p = subst (λ (m : Outcome). Plainly o m) (sym (step-accepted c s e)) p
