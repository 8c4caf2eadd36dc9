-- The DPCs of the state that words in form tell: rows, rising addresses, none at 0.
use Prim.Native.Nat.{ℕ, zero, suc, ◌+◌, ◌*◌, ◌≤◌, ◌<◌}
use mathlib.Core.List.{List}
use mathlib.Core.Bool.{cond, true}
use mathlib.Core.Option.{some}
use mathlib.Core.Path.{◌≡◌, refl, sym, ap, ◌∙◌, subst}
use native.Mathlib.Omega.{arith}
use lib.ListN.{get_or}
use lib.Dec.{eqb}
use Rattle.words.specs.Layout as at
use Rattle.images.specs.declared.Dpc.{Dpc}
use Rattle.images.specs.declared.DpcOrigin.TheVariants as origin
use Rattle.images.specs.declared.DpcPhase.{DpcPhase}
use Rattle.images.specs.declared.DpcPhase.TheVariants.{Idle, Queued, Running, Returning}
use Rattle.images.specs.Place.{dpc_size, architecture_of, backing_of}
use Rattle.dpcs.specs.Record.{timer_origin, origin_at, work_at, backing_at, phase_at, dpc_at}
use Rattle.model.specs.Lists.{Mem}
use Rattle.model.specs.Table.{Rising}
use Rattle.model.specs.Dpcs.{address_of, is_busy, work_of}
use Rattle.model.specs.Valid.{DpcPlaced, sequence_of}
use Rattle.model.proofs.ListLaws.{not-both}
use Rattle.agreement.specs.Row.{Row}
use Rattle.agreement.specs.Records.{phase_number, origin_row, work_row, dpc_row}
use Rattle.agreement.specs.Agree.{DpcTable, dpcs_from}
use Rattle.agreement_form.specs.Decoded.{limits_of, dpc_of, table_of}
use Rattle.agreement_form.proofs.Each.{flag-number, From, each-nth, mem-each, rising-each, row_from, ends, says, skips}
use Rattle.agreement_form.proofs.Located.{not-at-zero}
use Rattle.agreement_form.proofs.DpcForm.{NoTimer, DpcForm, DpcsForm}
use Rattle.agreement_form.proofs.DecodedObjects.{architecture-number, backed}

module _ (w : List ℕ) (place : ℕ) where
  -- ---- phases

  phase-by : ℕ → DpcPhase
  phase-by n = cond (eqb n 0) Idle (cond (eqb n 1) (Queued (work_at w place)) (cond (eqb n 2) (Running (work_at w place)) (Returning (work_at w place))))

  phase-number : (n : ℕ) → n ≤ 3 → n ≡ phase_number (phase-by n)
  unfolding phase-by
  phase-number zero h = refl
  phase-number (suc zero) h = refl
  phase-number (suc (suc zero)) h = refl
  phase-number (suc (suc (suc zero))) h = refl
  phase-number (suc (suc (suc (suc n)))) h = absurd (omega arith)

  phase-is : phase_at w place ≡ phase-by (get_or w (place + at.phase) 0)
  unfolding phase_at phase-by
  phase-is = refl

  pub phase_word : get_or w (place + at.phase) 0 ≤ 3 → get_or w (place + at.phase) 0 ≡ phase_number (phase_at w place)
  phase_word h = phase-number (get_or w (place + at.phase) 0) h ∙ ap phase_number (sym phase-is)

  -- ---- work

  origin-by : (n : ℕ) → n ≤ 1 → get_or w (place + at.origin) 0 ≡ n → (n ≡ 0 → NoTimer w place) → get_or w (place + at.origin_periodic) 0 ≤ 1
      → From w place 14 (origin_row (cond (eqb n 0) origin.Caller (timer_origin w place)))
  unfolding timer_origin
  origin-by zero h e s p =
      let z = s refl in
      says e (says z.0 (says z.1 (says z.2 (says z.3 (says z.4 (says z.5 ends))))))
  origin-by (suc zero) h e s p = says e (says refl (says refl (says refl (says refl (says refl (says (flag-number (get_or w (place + at.origin_periodic) 0) p) ends))))))
  origin-by (suc (suc n)) h e s p = absurd (omega arith)

  work-row : DpcForm w place → (get_or w (place + at.phase) 0 ≡ 0 → ⊥) → From w place 11 (work_row (some (work_at w place)))
  unfolding work_at origin_at
  work-row f busy = says refl (says refl (says refl (origin-by (get_or w (place + at.origin) 0) (f.flags busy).0 refl (f.caller busy) (f.flags busy).1)))

  works : (n : ℕ) → n ≤ 3 → ((n ≡ 0 → ⊥) → From w place 11 (work_row (some (work_at w place)))) → From w place 11 (work_row (work_of (phase-by n)))
  unfolding phase-by
  works zero h r = ends
  works (suc zero) h r = r (λ q. omega arith)
  works (suc (suc zero)) h r = r (λ q. omega arith)
  works (suc (suc (suc zero))) h r = r (λ q. omega arith)
  works (suc (suc (suc (suc n)))) h r = absurd (omega arith)

  -- ---- the row

  pub dpc-row : DpcForm w place → Row w place (dpc_row (get_or w (place + at.named_by) 0) (dpc_at w place))
  unfolding dpc_at backing_at
  dpc-row f =
      let b = backed (get_or w (place + at.dpc_backing) 0) (get_or w (place + at.dpc_base) 0) (get_or w (place + at.dpc_size) 0) (get_or w (place + at.dpc_mapped) 0) f.stands.kind f.stands.image in
      let z : place + 0 ≡ place = omega arith in
      row_from w place (dpc_row (get_or w (place + at.named_by) 0) (dpc_at w place))
      (says (ap (λ (p : ℕ). get_or w p 0) z)
      (says (phase_word f.phase)
      (skips (says refl
      (says (architecture-number (get_or w (place + at.dpc_architecture) 0) f.stands.architecture)
      (says b.of-kind (says b.of-base (says b.of_size (says b.of-mapped
      (says refl (says refl
      (subst (λ (p : DpcPhase). From w place 11 (work_row (work_of p))) (sym phase-is) (works (get_or w (place + at.phase) 0) f.phase (work-row f))))))))))))))

  pub address_is : (dpc_at w place).address ≡ get_or w place 0
  unfolding dpc_at
  address_is = refl

  pub dpc-there : DpcForm w place → (dpc_at w place).address ≡ 0 → ⊥
  dpc-there f e =
      not-at-zero (get_or w place 0) (dpc_size (architecture_of (get_or w (place + at.dpc_architecture) 0))) (architecture_of (get_or w (place + at.dpc_architecture) 0))
      (backing_of (get_or w (place + at.dpc_backing) 0) (get_or w (place + at.dpc_base) 0) (get_or w (place + at.dpc_size) 0) (get_or w (place + at.dpc_mapped) 0)) f.stands.free (sym address_is ∙ e)

  -- ---- what the log asks of it

  pub dpc-placed : DpcForm w place → DpcPlaced (dpc_at w place)
  unfolding dpc_at backing_at
  dpc-placed f = f.stands.free

  sequence-by : (n : ℕ) → n ≤ 3 → ((n ≡ 0 → ⊥) → (1 ≤ get_or w (place + at.work_sequence) 0) × (get_or w (place + at.work_sequence) 0 ≤ get_or w at.accepted 0))
      → (sequence_of (work_of (phase-by n)) ≤ get_or w at.accepted 0) × (is_busy (phase-by n) ≡ true → 1 ≤ sequence_of (work_of (phase-by n)))
  unfolding phase-by work_at
  sequence-by zero h r = (omega arith, (λ q. absurd (not-both (sym q))))
  sequence-by (suc zero) h r = ((r (λ q. omega arith)).1, (λ q. (r (λ z. omega arith)).0))
  sequence-by (suc (suc zero)) h r = ((r (λ q. omega arith)).1, (λ q. (r (λ z. omega arith)).0))
  sequence-by (suc (suc (suc zero))) h r = ((r (λ q. omega arith)).1, (λ q. (r (λ z. omega arith)).0))
  sequence-by (suc (suc (suc (suc n)))) h r = absurd (omega arith)

  -- work bears a sequence that has been given
  pub work-sequence : DpcForm w place → (sequence_of (work_of (dpc_at w place).phase) ≤ get_or w at.accepted 0) × (is_busy (dpc_at w place).phase ≡ true → 1 ≤ sequence_of (work_of (dpc_at w place).phase))
  unfolding dpc_at
  work-sequence f =
      subst (λ (x : DpcPhase). (sequence_of (work_of x) ≤ get_or w at.accepted 0) × (is_busy x ≡ true → 1 ≤ sequence_of (work_of x))) (sym phase-is)
      (sequence-by (get_or w (place + at.phase) 0) f.phase f.given)

-- ---- all of them

module _ (w : List ℕ) (f : DpcsForm w) where
  pub dpcs-rise : Rising address_of (table_of w)
  dpcs-rise =
      rising-each (dpc_of w) address_of (get_or w at.dpcs 0) 0
      (λ i p q. omega (arith, f.rises i (omega arith), address_is w (dpcs_from (limits_of w) + 32 * i), address_is w (dpcs_from (limits_of w) + 32 * suc i)))

  pub dpcs-there : (d : Dpc) → Mem d (table_of w) → d.address ≡ 0 → ⊥
  dpcs-there d m e =
      let h = mem-each (dpc_of w) (get_or w at.dpcs 0) 0 d m in
      dpc-there w (dpcs_from (limits_of w) + 32 * h.0) (f.forms h.0 (omega (arith, h.2))) (ap address_of (sym h.3) ∙ e)

  -- with any holder that tells word 3
  pub dpcs-hold : (holder : ℕ → ℕ) → ((i : ℕ) → i < get_or w at.dpcs 0 → get_or w (dpcs_from (limits_of w) + 32 * i + at.named_by) 0 ≡ holder (dpc_of w i).address) → DpcTable w (dpcs_from (limits_of w)) holder (table_of w)
  dpcs-hold holder h i d e =
      let k = each-nth (dpc_of w) (get_or w at.dpcs 0) 0 i d e in
      let z : 0 + i ≡ i = omega arith in
      let place = dpcs_from (limits_of w) + 32 * i in
      subst (λ (x : Dpc). Row w place (dpc_row (holder x.address) x)) (sym (k.1 ∙ ap (dpc_of w) z))
      (subst (λ (n : ℕ). Row w place (dpc_row n (dpc_of w i))) (h i k.0) (dpc-row w place (f.forms i k.0)))
