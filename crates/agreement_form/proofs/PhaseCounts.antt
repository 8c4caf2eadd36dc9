-- How many DPCs have a phase in agreeing words: as many as in the log.
use Prim.Native.Nat.{ℕ, suc, ◌+◌, ◌*◌, ◌≤◌}
use mathlib.Core.List.{List, [], ◌∷◌}
use mathlib.Core.Bool.{Bool, cond, true}
use mathlib.Core.Option.{some}
use mathlib.Core.Path.{◌≡◌, refl, sym, ap, ◌∙◌}
use native.Mathlib.Omega.{arith}
use lib.ListN.{length}
use lib.Dec.{eqb}
use Rattle.words.specs.Layout.{entry_at}
use Rattle.objects.specs.Objects.{dpcs_base}
use Rattle.images.specs.declared.Dpc.{Dpc}
use Rattle.images.specs.declared.DpcPhase.{DpcPhase}
use Rattle.images.specs.declared.DpcPhase.TheVariants.{Idle, Queued, Running, Returning}
use Rattle.form_dpc.specs.Dpc.{has_phase, phase_one, phase_count_in, phase_count}
use Rattle.form_dpc.specs.Counts.{active_count}
use Rattle.model.specs.Lists.{nth, count_of}
use Rattle.model.specs.State.{State}
use Rattle.model.specs.Dpcs.{is_queued, is_active, is_returning}
use Rattle.model.specs.Valid as model
use Rattle.model.proofs.ListLaws.{not-both}
use Rattle.agreement_tables.proofs.Lists.{nth_in}
use Rattle.agreement.specs.Records.{phase_number}
use Rattle.agreement.specs.Agree.{Agreeing, dpcs_from}
use Rattle.agreement.proofs.Places.{entry_place}
use Rattle.agreement.proofs.Headers.{dpcs-few}
use Rattle.agreement.proofs.Lookups.{dpcs-base-is, dpc-count-is}
use Rattle.agreement_form.proofs.QueueLength.{count_same, count-either}

pub queued-number : (p : DpcPhase) → eqb (phase_number p) 1 ≡ is_queued p
queued-number Idle = refl
queued-number (Queued x) = refl
queued-number (Running x) = refl
queued-number (Returning x) = refl

returning-number : (p : DpcPhase) → eqb (phase_number p) 3 ≡ is_returning p
returning-number Idle = refl
returning-number (Queued x) = refl
returning-number (Running x) = refl
returning-number (Returning x) = refl

active-number : (p : DpcPhase) → cond (is_active p) 1 0 ≡ cond (eqb (phase_number p) 2) 1 0 + cond (eqb (phase_number p) 3) 1 0
active-number Idle = refl
active-number (Queued x) = refl
active-number (Running x) = refl
active-number (Returning x) = refl

pub active-two : (p : DpcPhase) → is_active p ≡ true → 2 ≤ phase_number p
active-two Idle e = absurd (not-both (sym e))
active-two (Queued x) e = absurd (not-both (sym e))
active-two (Running x) e = omega arith
active-two (Returning x) e = omega arith

-- the records from position `i` on have the phases of the list
count-in : (w : List ℕ) (base phase : ℕ) (l : List Dpc) (i : ℕ) → ((k : ℕ) (d : Dpc) → nth l k ≡ some d → has_phase w (entry_at base (i + k)) phase ≡ eqb (phase_number d.phase) phase)
    → phase_count_in (length l) w base i phase ≡ count_of (λ (d : Dpc). eqb (phase_number d.phase) phase) l
unfolding phase_count_in phase_one
count-in w base phase [] i h = refl
count-in w base phase (d ∷ l) i h =
    ap (λ (b : Bool). cond b 1 0 + phase_count_in (length l) w base (i + 1) phase) (ap (λ (j : ℕ). has_phase w (entry_at base j) phase) (let z : i ≡ i + 0 = omega arith in z) ∙ h 0 d refl)
    ∙ ap (λ (n : ℕ). cond (eqb (phase_number d.phase) phase) 1 0 + n)
    (count-in w base phase l (i + 1) (λ k x e. ap (λ (j : ℕ). has_phase w (entry_at base j) phase) (let z : i + 1 + k ≡ i + suc k = omega arith in z) ∙ h (suc k) x e))

-- ---- what is read of agreeing words

module _ (w : List ℕ) (s : State) (holder : ℕ → ℕ) (active : ℕ) (a : Agreeing w s holder active) where
  abbrev table : List Dpc
  table = s.dpcs.table

  few : length table ≤ 4096
  few = dpcs-few w s holder active a

  pub phase_word : (phase i : ℕ) (d : Dpc) → nth table i ≡ some d → has_phase w (dpcs_from s.limits + 32 * i) phase ≡ eqb (phase_number d.phase) phase
  unfolding has_phase
  phase_word phase i d e = ap (λ (n : ℕ). eqb n phase) (a.dpcs i d e 1 (phase_number d.phase) refl)

  pub phase-count : (phase : ℕ) → phase_count w phase ≡ count_of (λ (d : Dpc). eqb (phase_number d.phase) phase) table
  unfolding phase_count
  phase-count phase =
      ap (λ (m : ℕ). phase_count_in m w (dpcs_base w) 0 phase) (dpc-count-is w s holder active a)
      ∙ ap (λ (b : ℕ). phase_count_in (length table) w b 0 phase) (dpcs-base-is w s holder active a)
      ∙ count-in w (dpcs_from s.limits) phase table 0 each
    where
      each : (k : ℕ) (d : Dpc) → nth table k ≡ some d → has_phase w (entry_at (dpcs_from s.limits) (0 + k)) phase ≡ eqb (phase_number d.phase) phase
      each k d e =
          ap (λ (j : ℕ). has_phase w (entry_at (dpcs_from s.limits) j) phase) (let z : 0 + k ≡ k = omega arith in z)
          ∙ ap (λ (p : ℕ). has_phase w p phase)
          (entry_place (dpcs_from s.limits) k (omega (arith, a.shape.sizes.limits.threads, a.shape.sizes.limits.objects)) (omega (arith, few, nth_in table k d e)))
          ∙ phase_word phase k d e

  pub returning-count : phase_count w 3 ≡ model.returning_count table
  returning-count = phase-count 3 ∙ count_same (λ (d : Dpc). eqb (phase_number d.phase) 3) (λ (d : Dpc). is_returning d.phase) table (λ d. returning-number d.phase)

  pub active-count : active_count w ≡ model.active_count table
  unfolding active_count
  active-count =
      let either = count-either (λ (d : Dpc). eqb (phase_number d.phase) 2) (λ (d : Dpc). eqb (phase_number d.phase) 3) (λ (d : Dpc). is_active d.phase) table (λ d. active-number d.phase) in
      omega (arith, phase-count 2, phase-count 3, either)
