-- `configure_dpc_dispatch`: the same refusals, and the policy.
use Prim.Native.Nat.{ℕ}
use mathlib.Core.List.{List, [], ◌∷◌}
use mathlib.Core.Bool.{Bool, true, false, cond, ◌&&◌, ◌||◌}
use mathlib.Core.Path.{◌≡◌, refl, ap, ◌∙◌}
use native.Mathlib.Omega.{arith}
use borrow.Author.Tests.{ne_eqb}
use lib.Dec.{eqb}
use lib.ListN.{length}
use Rattle.words.specs.Layout as at
use Rattle.dpc_work.specs.Work as words
use Rattle.answers.specs.Outcome.{outcome}
use Rattle.answers.specs.declared.Answer.TheVariants as answer
use Rattle.model.specs.Lists.{is_empty}
use Rattle.model.specs.State.{State}
use Rattle.model.specs.Refusal.{is_unselected, is_untouched, configure_refusal}
use Rattle.model.specs.Step.{step, refusal, effect, configured}
use Rattle.model.specs.Call as call
use Rattle.agreement.specs.Records.{holder_of, active_address}
use Rattle.agreement.specs.Agree.{Agree}
use Rattle.agreement.specs.Matches.{Plainly}
use Rattle.agreement.proofs.Headers.{sim-policy}
use Rattle.agreement.proofs.Matches.{plainly-unless}
use Rattle.agreement_dpc.proofs.Found.{policy-is}

-- ---- tests in another order

all_of : (p c u q n o t x : Bool) → cond p (cond c (cond u (cond q (cond n (cond o (cond t x false) false) false) false) false) false) false ≡ (p && c && u && q && n && x && o && t)
all_of false c u q n o t x = refl
all_of true false u q n o t x = refl
all_of true true false q n o t x = refl
all_of true true true false n o t x = refl
all_of true true true true false o t x = refl
all_of true true true true true false t false = refl
all_of true true true true true false t true = refl
all_of true true true true true true false false = refl
all_of true true true true true true false true = refl
all_of true true true true true true true false = refl
all_of true true true true true true true true = refl

one_of : (b c d : Bool) → ◌≡◌ {A = ℕ} (cond b 20 (cond c 20 (cond d 20 0))) (cond (b || c || d) 20 0)
one_of true c d = refl
one_of false true d = refl
one_of false false true = refl
one_of false false false = refl

empty-is : {A : Type 0} (l : List A) → eqb (length l) 0 ≡ is_empty l
empty-is [] = refl
empty-is (x ∷ l) = ne_eqb (length (x ∷ l)) 0 (λ e. omega arith)

module _ (w : List ℕ) (s : State) (a : Agree w s) where
  untouched-is : words.untouched w ≡ is_untouched s
  unfolding words.untouched is_untouched
  untouched-is =
      simp (
        policy-is w s (holder_of s.dispatcher.objects) (active_address s.dpcs.table) a,
        a.numbers at.threads (length s.dispatcher.threads) refl,
        a.numbers at.current s.dispatcher.current refl,
        a.numbers at.sequence s.dispatcher.sequence refl,
        a.numbers at.now s.now refl,
        a.numbers at.objects (length s.dispatcher.objects) refl,
        a.numbers at.dpcs (length s.dpcs.table) refl,
        a.numbers at.accepted s.dpcs.counters.accepted refl,
        empty-is s.dispatcher.objects,
        empty-is s.dpcs.table,
        all_of (is_unselected s.policy) (eqb (length s.dispatcher.threads) 1) (eqb s.dispatcher.current 1) (eqb s.dispatcher.sequence 0) (eqb s.now 0)
            (is_empty s.dispatcher.objects) (is_empty s.dpcs.table) (eqb s.dpcs.counters.accepted 0),
      )

  refusal_is : (first second : ℕ) → words.configure_refusal w first second ≡ refusal (call.ConfigureDpcDispatch first second) s
  unfolding words.configure_refusal refusal configure_refusal
  refusal_is first second =
      ap (λ (b : Bool). cond b (cond (eqb first 0) 20 (cond (eqb second 0) 20 (cond (eqb first second) 20 0))) 20) untouched-is
      ∙ ap (λ (n : ℕ). cond (is_untouched s) n 20) (one_of (eqb first 0) (eqb second 0) (eqb first second))

  pub agree-configure : (first second : ℕ) → Plainly (words.configured w first second) (step (call.ConfigureDpcDispatch first second) s)
  unfolding words.configured words.policy_set effect configured
  agree-configure first second =
      plainly-unless w s a (call.ConfigureDpcDispatch first second) (words.configure_refusal w first second) (outcome answer.Done (words.policy_set w first second)) (refusal_is first second) done
    where
      done : refusal (call.ConfigureDpcDispatch first second) s ≡ 0 → Plainly (outcome answer.Done (words.policy_set w first second)) (effect (call.ConfigureDpcDispatch first second) s)
      done e = record { answers = refl; agree = sim-policy w s (holder_of s.dispatcher.objects) (active_address s.dpcs.table) a first second }
