-- Refusals: the code refuses exactly the calls that the table refuses over the log, by its numbers, and a refused call changes no word.
use Prim.Native.Nat.{ℕ}
use mathlib.Core.List.{List}
use mathlib.Core.Bool.{false}
use mathlib.Core.Path.{◌≡◌, refl, sym, ap, ◌∙◌, subst}
use native.Mathlib.Decide.{ℕ_discrete}
use lib.ListN.{length, get_or}
use Rattle.words.specs.Layout as at
use Rattle.calls.specs.Run.{answered, left, Lent}
use Rattle.model.specs.State.{State}
use Rattle.model.specs.Answer.{Outcome, Refused}
use Rattle.model.specs.Call.{Call}
use Rattle.model.specs.Step.{refusal, effect}
use Rattle.model.specs.Start.{Start, Accepted}
use Rattle.model.specs.Fits.{Fits}
use Rattle.model.proofs.ListLaws.{not-both}
use Rattle.agreement.proofs.Matches.{step-refused}
use Rattle.theorem.specs.History.{Proper}
use Rattle.theorem.specs.Theorem.{logged, end}
use Rattle.corollaries.specs.Refusals.{is_refused, Short}
use Rattle.corollaries.proofs.Next.{agree, next, accepted-answers}
use Rattle.corollaries.proofs.Leaves.{refused-leaves}
use Rattle.corollaries.proofs.Effects.{effect-plain}
use Rattle.corollaries.proofs.Short.{row-27}

module _ (w : List ℕ) (start : Start) (calls : List Call) (accepted : Accepted (length w) start) (proper : Proper (length w) calls) where
  abbrev words : List ℕ
  words = end w start calls

  abbrev log : State
  log = logged w start calls

  answers_number : (c : Call) → Fits c → Lent (length w) c → (n : ℕ) → (n ≡ 0 → ⊥) → refusal c log ≡ n → answered words c ≡ Refused n
  answers_number c fit lent n ne e = (next w start calls accepted proper c fit lent).answers ∙ ap (λ (x : Outcome). x.answer) (step-refused c log n e ne)

  -- where the table refuses, the code answers the table's number and leaves every word as it was
  pub refused : (c : Call) → Fits c → Lent (length w) c → (n : ℕ) → (n ≡ 0 → ⊥) → refusal c log ≡ n → (answered words c ≡ Refused n) × (left words c ≡ words)
  refused c fit lent n ne e = let a = answers_number c fit lent n ne e in (a, refused-leaves words c (ap is_refused a))

  -- where the table does not, the code answers what the call's effect on the log answers, which is no refusal
  pub not-refused : (c : Call) → Fits c → Lent (length w) c → refusal c log ≡ 0 → (answered words c ≡ (effect c log).answer) × (is_refused (answered words c) ≡ false)
  not-refused c fit lent e =
      let a = accepted-answers w start calls accepted proper c fit lent e in
      (a, ap is_refused a ∙ effect-plain log c)

  -- so a number that the code answers is the table's
  pub refused-by : (c : Call) → Fits c → Lent (length w) c → (n : ℕ) → answered words c ≡ Refused n → refusal c log ≡ n
  refused-by c fit lent n e = go (ℕ_discrete (refusal c log) 0)
    where
      go : Dec (refusal c log ≡ 0) → refusal c log ≡ n
      go (yes z) = absurd (not-both (sym (ap is_refused e) ∙ (not-refused c fit lent z).1))
      go (no z) = let q : Refused (refusal c log) ≡ Refused n = sym (answers_number c fit lent (refusal c log) z refl) ∙ e in cc

  -- and where the code answers no refusal the table has none
  pub passed-by : (c : Call) → Fits c → Lent (length w) c → is_refused (answered words c) ≡ false → refusal c log ≡ 0
  passed-by c fit lent e = go (ℕ_discrete (refusal c log) 0)
    where
      go : Dec (refusal c log ≡ 0) → refusal c log ≡ 0
      go (yes z) = z
      go (no z) = absurd (not-both (sym (ap is_refused (answers_number c fit lent (refusal c log) z refl)) ∙ e))

  -- 0 is no refusal's number
  pub never-0 : (c : Call) → Fits c → Lent (length w) c → answered words c ≡ Refused 0 → ⊥
  never-0 c fit lent e = not-both (sym (ap is_refused e) ∙ (not-refused c fit lent (refused-by c fit lent 0 e)).1)

  -- 27 is answered for an output or lent words that are too short, and for bad limits of an `open`; never for the words' form
  pub never-27 : (c : Call) → Fits c → Lent (length w) c → answered words c ≡ Refused 27 → Short (get_or words at.thread_limit 0) c
  never-27 c fit lent e =
      subst (λ (n : ℕ). Short n c) (sym ((agree w start calls accepted proper).numbers at.thread_limit _ refl)) (row-27 log c (refused-by c fit lent 27 e))
