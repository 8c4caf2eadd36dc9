-- `returned_dpc` and `restored_dpc`: the same refusals; the work returning, then ended.
use Prim.Native.Nat.{ℕ, ◌+◌}
use mathlib.Core.List.{List}
use mathlib.Core.Bool.{Bool, true, cond, not}
use mathlib.Core.Option.{Option, none, some}
use mathlib.Core.Logic.{◌⊎◌, inl, inr}
use mathlib.Core.Path.{◌≡◌, refl, sym, ap, ◌∙◌, subst}
use lib.Dec.{eqb}
use lib.ListN.{get_or, set}
use Rattle.words.specs.Layout as at
use Rattle.images.specs.declared.Dpc.{Dpc}
use Rattle.images.specs.declared.DpcWork.{DpcWork}
use Rattle.images.specs.declared.DpcPhase.{DpcPhase}
use Rattle.images.specs.declared.DpcPhase.TheVariants.{Idle, Queued, Running, Returning}
use Rattle.dpcs.specs.Record.{place_at, number_of}
use Rattle.dpc_queue.specs.Queue.{raised}
use Rattle.dpc_work.specs.Work as words
use Rattle.answers.specs.Outcome.{outcome}
use Rattle.answers.specs.declared.Answer.TheVariants as answer
use Rattle.model.specs.Lists.{present}
use Rattle.model.specs.State.{State}
use Rattle.model.specs.Dpcs.{dpc_at, phase_at, in_phase, rephased, is_active, work_of, returned, restored}
use Rattle.model.specs.Refusal.{runs_with, returns_with, returned_refusal, restored_refusal}
use Rattle.model.specs.Step.{with_dpcs, step, refusal, effect, dpc_returned}
use Rattle.model.specs.Call as call
use Rattle.model.specs.Valid.{Valid}
use Rattle.model.proofs.ListLaws.{not-both}
use Rattle.model.proofs.DpcLaws.{present-some, phase-found}
use Rattle.model.proofs.RowLaws.{holds}
use Rattle.agreement.specs.Records.{dpc_row, work_row, phase_number, holder_of, active_address}
use Rattle.agreement.specs.Agree.{Agree, Agreeing}
use Rattle.agreement.specs.Matches.{Plainly}
use Rattle.agreement.proofs.Headers.{sim-returned, sim-restored, sim-active}
use Rattle.agreement.proofs.Dpcs.{sim-phase}
use Rattle.agreement.proofs.Matches.{plainly-unless}
use Rattle.agreement_work.proofs.Counts.{raised_is, place_found, few-returned, few-restored}
use Rattle.agreement_work.proofs.Work.{with_records}
use Rattle.agreement_work.proofs.Active.{active-same, active-ends}
use Rattle.agreement_dpc.proofs.Found.{number-known, dpc-word}

module _ (w : List ℕ) (s : State) (a : Agree w s) (v : Valid s) (k sequence : ℕ) where
  abbrev holder : ℕ → ℕ
  holder = holder_of s.dispatcher.objects

  abbrev active : ℕ
  active = active_address s.dpcs.table

  abbrev place : ℕ
  place = place_at w (number_of w k)

  -- ---- refusals

  -- the phase's number, then the sequence of its work
  abbrev asked : ℕ → ℕ → ℕ
  asked phase m = cond (eqb m phase) (cond (eqb (get_or w (place + at.work_sequence) 0) sequence) 0 22) 22

  sequence-word : (d : Dpc) → dpc_at s.dpcs.table k ≡ some d → (x : DpcWork) → work_of d.phase ≡ some x → eqb (get_or w (place + at.work_sequence) 0) sequence ≡ eqb x.sequence sequence
  sequence-word d e x q = ap (λ (m : ℕ). eqb m sequence) (dpc-word w s holder active a k d e 11 x.sequence (row d.phase q))
    where
      row : (p : DpcPhase) → work_of p ≡ some x → get_or (dpc_row (holder d.address) (in_phase d p)) 11 none ≡ some x.sequence
      row p z = ap (λ (o : Option DpcWork). get_or (work_row o) 0 none) z

  phase-refusal-is : (phase : ℕ) (f : DpcPhase → Bool) → ((d : Dpc) → dpc_at s.dpcs.table k ≡ some d → asked phase (phase_number d.phase) ≡ cond (f d.phase) 0 22)
      → words.phase_refusal w k phase sequence ≡ cond (present (dpc_at s.dpcs.table k)) (cond (f (phase_at s.dpcs.table k)) 0 22) 2
  unfolding words.phase_refusal
  phase-refusal-is phase f h = ap (λ (b : Bool). cond b 2 (asked phase (get_or w (place + at.phase) 0))) (number-known w s holder active a k) ∙ go (dpc_at s.dpcs.table k) refl
    where
      go : (o : Option Dpc) → dpc_at s.dpcs.table k ≡ o → cond (not (present o)) 2 (asked phase (get_or w (place + at.phase) 0)) ≡ cond (present o) (cond (f (phase_at s.dpcs.table k)) 0 22) 2
      go none e = refl
      go (some d) e =
          ap (asked phase) (dpc-word w s holder active a k d e 1 (phase_number d.phase) refl) ∙ h d e
          ∙ ap (λ (p : DpcPhase). cond (f p) 0 22) (sym (phase-found s.dpcs.table k d e))

  runs-is : (d : Dpc) → dpc_at s.dpcs.table k ≡ some d → asked 2 (phase_number d.phase) ≡ cond (runs_with sequence d.phase) 0 22
  runs-is d e = go d.phase refl
    where
      go : (p : DpcPhase) → d.phase ≡ p → asked 2 (phase_number p) ≡ cond (runs_with sequence p) 0 22
      go Idle q = refl
      go (Queued x) q = refl
      go (Running x) q = ap (λ (b : Bool). cond b 0 22) (sequence-word d e x (ap work_of q))
      go (Returning x) q = refl

  returns_is : (d : Dpc) → dpc_at s.dpcs.table k ≡ some d → asked 3 (phase_number d.phase) ≡ cond (returns_with sequence d.phase) 0 22
  returns_is d e = go d.phase refl
    where
      go : (p : DpcPhase) → d.phase ≡ p → asked 3 (phase_number p) ≡ cond (returns_with sequence p) 0 22
      go Idle q = refl
      go (Queued x) q = refl
      go (Running x) q = refl
      go (Returning x) q = ap (λ (b : Bool). cond b 0 22) (sequence-word d e x (ap work_of q))

  -- ---- effects

  module _ (d : Dpc) (e : dpc_at s.dpcs.table k ≡ some d) where
    -- another phase, by the number of the DPC
    phased : (p : DpcPhase) → (work_of p ≡ work_of d.phase) ⊎ (work_of p ≡ none) → Agreeing (set w (place + at.phase) (phase_number p)) (with_records s (rephased s.dpcs.table k p) s.dpcs.queue) holder active
    phased p same =
        subst (λ (b : ℕ). Agreeing (set w (b + at.phase) (phase_number p)) (with_records s (rephased s.dpcs.table k p) s.dpcs.queue) holder active) (sym (place_found w s holder active a k d e))
        (sim-phase w s holder active a k d e p same)

    now-returning : (x : DpcWork) → d.phase ≡ Running x → Agree (words.returning w (number_of w k)) (with_dpcs s (returned s.dpcs k x))
    unfolding words.returning returned
    now-returning x q =
        subst (Agreeing (words.returning w (number_of w k)) (with_dpcs s (returned s.dpcs k x)) holder)
        (sym (active-same s.dpcs.table a.shape.dpcs.rising k d e (Returning x) (sym (ap is_active q))))
        (subst (λ (l : List ℕ). Agreeing l (with_dpcs s (returned s.dpcs k x)) holder active)
        (sym (raised_is w₁ 17 s.dpcs.counters.returned (b.numbers at.returned s.dpcs.counters.returned refl) (few-returned s.limits.dpcs s.dpcs v.queueing)))
        (sim-returned w₁ (with_records s (rephased s.dpcs.table k (Returning x)) s.dpcs.queue) holder active b))
      where
        w₁ : List ℕ
        w₁ = set w (place_at w (number_of w k) + at.phase) 3

        b : Agreeing w₁ (with_records s (rephased s.dpcs.table k (Returning x)) s.dpcs.queue) holder active
        b = phased (Returning x) (inl (sym (ap work_of q)))

    now-idle : is_active d.phase ≡ true → Agree (words.idle w (number_of w k)) (with_dpcs s (restored s.dpcs k))
    unfolding words.idle restored
    now-idle t =
        subst (Agreeing (words.idle w (number_of w k)) (with_dpcs s (restored s.dpcs k)) holder)
        (sym (active-ends s.dpcs.table a.shape.dpcs.rising k d e Idle refl t v.queueing.one_active))
        (sim-active (raised w₁ 18) (with_dpcs s (restored s.dpcs k)) holder active
        (subst (λ (l : List ℕ). Agreeing l (with_dpcs s (restored s.dpcs k)) holder active)
        (sym (raised_is w₁ 18 s.dpcs.counters.restored (b.numbers at.restored s.dpcs.counters.restored refl) (few-restored s.limits.dpcs s.dpcs v.queueing)))
        (sim-restored w₁ (with_records s (rephased s.dpcs.table k Idle) s.dpcs.queue) holder active b)) 0)
      where
        w₁ : List ℕ
        w₁ = set w (place_at w (number_of w k) + at.phase) 0

        b : Agreeing w₁ (with_records s (rephased s.dpcs.table k Idle) s.dpcs.queue) holder active
        b = phased Idle (inr refl)

  -- ---- the calls

  pub agree-returned : Plainly (words.work_returned w k sequence) (step (call.ReturnedDpc k sequence) s)
  unfolding words.work_returned effect refusal returned_refusal dpc_returned
  agree-returned =
      plainly-unless w s a (call.ReturnedDpc k sequence) (words.returned_refusal w k sequence) (outcome answer.Done (words.returning w (number_of w k))) (phase-refusal-is 2 (runs_with sequence) runs-is) done
    where
      go : (d : Dpc) → dpc_at s.dpcs.table k ≡ some d → (p : DpcPhase) → d.phase ≡ p → runs_with sequence p ≡ true → Plainly (outcome answer.Done (words.returning w (number_of w k))) (dpc_returned s k p)
      go d e Idle q z = absurd (not-both (sym z))
      go d e (Queued x) q z = absurd (not-both (sym z))
      go d e (Running x) q z = record { answers = refl; agree = now-returning d e x q }
      go d e (Returning x) q z = absurd (not-both (sym z))

      done : returned_refusal s k sequence ≡ 0 → Plainly (outcome answer.Done (words.returning w (number_of w k))) (dpc_returned s k (phase_at s.dpcs.table k))
      done z =
          let r₁ = holds (present (dpc_at s.dpcs.table k)) 1 (cond (runs_with sequence (phase_at s.dpcs.table k)) 0 22) z in
          let d = present-some s.dpcs.table k r₁.0 in
          go d.0 d.1 (phase_at s.dpcs.table k) (sym (phase-found s.dpcs.table k d.0 d.1)) (holds (runs_with sequence (phase_at s.dpcs.table k)) 21 0 r₁.1).0

  pub agree-restored : Plainly (words.work_restored w k sequence) (step (call.RestoredDpc k sequence) s)
  unfolding words.work_restored effect refusal restored_refusal
  agree-restored =
      plainly-unless w s a (call.RestoredDpc k sequence) (words.restored_refusal w k sequence) (outcome answer.Done (words.idle w (number_of w k))) (phase-refusal-is 3 (returns_with sequence) returns_is) done
    where
      acts : (p : DpcPhase) → returns_with sequence p ≡ true → is_active p ≡ true
      acts Idle z = z
      acts (Queued x) z = z
      acts (Running x) z = refl
      acts (Returning x) z = refl

      done : restored_refusal s k sequence ≡ 0 → Plainly (outcome answer.Done (words.idle w (number_of w k))) (effect (call.RestoredDpc k sequence) s)
      done z =
          let r₁ = holds (present (dpc_at s.dpcs.table k)) 1 (cond (returns_with sequence (phase_at s.dpcs.table k)) 0 22) z in
          let d = present-some s.dpcs.table k r₁.0 in
          let t = acts (phase_at s.dpcs.table k) (holds (returns_with sequence (phase_at s.dpcs.table k)) 21 0 r₁.1).0 in
          record { answers = refl; agree = now-idle d.0 d.1 (ap is_active (sym (phase-found s.dpcs.table k d.0 d.1)) ∙ t) }
