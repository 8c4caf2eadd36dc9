-- One record of a DPC in words that agree with a state in form passes the check of its numbers.
use Prim.Native.Nat.{ℕ, ◌+◌, ◌≤◌}
use mathlib.Core.List.{List, ◌∷◌}
use mathlib.Core.Bool.{Bool, cond, true, false}
use mathlib.Core.Option.{Option, none, some}
use mathlib.Core.Path.{◌≡◌, refl, ap, ◌∙◌}
use native.Mathlib.Omega.{arith}
use borrow.Author.Tests.{ne_eqb, le-leb, le-ltb}
use lib.ListN.{get_or}
use lib.Dec.{eqb, leb, ltb}
use Rattle.words.specs.Layout as at
use Rattle.images.specs.declared.Dpc.{Dpc}
use Rattle.images.specs.declared.DpcWork.{DpcWork}
use Rattle.images.specs.declared.DpcOrigin.{DpcOrigin}
use Rattle.images.specs.declared.DpcOrigin.TheVariants as origin
use Rattle.images.specs.declared.DpcPhase.{DpcPhase}
use Rattle.images.specs.declared.DpcPhase.TheVariants.{Idle, Queued, Running, Returning}
use Rattle.images.specs.Place.{architecture_number, architecture_of, backing_kind, backing_base, backing_size, backing_mapped, dpc_size}
use Rattle.form_dpc.specs.Place.{located}
use Rattle.form_dpc.specs.Dpc.{dpc_placed, names_no_timer, origin_passes, work_passes, dpc_numbers, sequence_given}
use Rattle.model.specs.Dpcs.{is_busy, work_of}
use Rattle.model.specs.Valid.{DpcPlaced, sequence_of}
use Rattle.agreement.specs.Row.{Row}
use Rattle.agreement.specs.Records.{flag, phase_number, dpc_row, origin_row, work_row}
use Rattle.agreement.proofs.Records.{architecture-read}
use Rattle.agreement_form.proofs.Located.{located-is}
use Rattle.agreement_form.proofs.TimerRecords.{flag-few, first_word}

phase-few : (p : DpcPhase) → phase_number p ≤ 3
phase-few Idle = omega arith
phase-few (Queued x) = omega arith
phase-few (Running x) = omega arith
phase-few (Returning x) = omega arith

-- the two flags of work
kind_word : (o : DpcOrigin) → (m : ℕ) × (get_or (origin_row o) 0 none ≡ some m) × (m ≤ 1)
kind_word origin.Caller = (0, refl, omega arith)
kind_word (origin.Timer address arm initialization deadline observed periodic) = (1, refl, omega arith)

periodic-word : (o : DpcOrigin) → (m : ℕ) × (get_or (origin_row o) 6 none ≡ some m) × (m ≤ 1)
periodic-word origin.Caller = (0, refl, omega arith)
periodic-word (origin.Timer address arm initialization deadline observed periodic) = (flag periodic, refl, flag-few periodic)

-- ---- one record

module _ (w : List ℕ) (place holder : ℕ) (d : Dpc) (r : Row w place (dpc_row holder d)) where
  dpc-placed : DpcPlaced d → dpc_placed w place ≡ true
  unfolding dpc_placed
  dpc-placed h =
      ap (λ (n : ℕ). located w place at.dpc_architecture (dpc_size (architecture_of n))) (r 4 (architecture_number d.architecture) refl)
      ∙ ap (λ x. located w place at.dpc_architecture (dpc_size x)) (architecture-read d.architecture)
      ∙ located-is w place 4 d.address (dpc_size d.architecture) d.architecture d.backing (first_word w place d.address (r 0 d.address refl))
      (r 4 (architecture_number d.architecture) refl) (r 5 (backing_kind d.backing) refl) (r 6 (backing_base d.backing) refl)
      (r 7 (backing_size d.backing) refl) (r 8 (backing_mapped d.backing) refl) h

  -- the timer's words of work that no timer put into the queue
  origin-passes : (x : DpcWork) → work_of d.phase ≡ some x → origin_passes w place ≡ true
  unfolding origin_passes names_no_timer
  origin-passes x e = go x.origin refl
    where
      own : (o : DpcOrigin) → x.origin ≡ o → (j : ℕ) → get_or (work_row (work_of d.phase)) j none ≡ get_or (some x.sequence ∷ some x.first ∷ some x.second ∷ origin_row o) j none
      own o q j = ap (λ (y : Option DpcWork). get_or (work_row y) j none) e ∙ ap (λ (y : DpcOrigin). get_or (some x.sequence ∷ some x.first ∷ some x.second ∷ origin_row y) j none) q

      go : (o : DpcOrigin) → x.origin ≡ o → origin_passes w place ≡ true
      go origin.Caller q =
          let z = own origin.Caller q in
          simp (r 14 0 (z 3), r 15 0 (z 4), r 16 0 (z 5), r 17 0 (z 6), r 18 0 (z 7), r 19 0 (z 8), r 20 0 (z 9))
      go (origin.Timer address arm initialization deadline observed periodic) q = simp (r 14 1 (own (origin.Timer address arm initialization deadline observed periodic) q 3))

  flags-pass : (x : DpcWork) → work_of d.phase ≡ some x → cond (ltb 1 (get_or w (place + at.origin) 0)) false (cond (origin_passes w place) (leb (get_or w (place + at.origin_periodic) 0) 1) false) ≡ true
  flags-pass x e =
      let first = kind_word x.origin in
      let last = periodic-word x.origin in
      let word = r 14 first.0 (ap (λ (o : Option DpcWork). get_or (work_row o) 3 none) e ∙ first.1) in
      let word' = r 20 last.0 (ap (λ (o : Option DpcWork). get_or (work_row o) 9 none) e ∙ last.1) in
      simp (origin-passes x e, word, word', le-ltb 1 first.0 first.2, le-leb last.0 1 last.2)

  work-passes : work_passes w place ≡ true
  unfolding work_passes
  work-passes =
      ap (λ (n : ℕ). cond (eqb n 0) true rest) (r 1 (phase_number d.phase) refl)
      ∙ go d.phase refl
    where
      rest : Bool
      rest = cond (ltb 1 (get_or w (place + at.origin) 0)) false (cond (origin_passes w place) (leb (get_or w (place + at.origin_periodic) 0) 1) false)

      go : (p : DpcPhase) → d.phase ≡ p → cond (eqb (phase_number d.phase) 0) true rest ≡ true
      go Idle e = simp e
      go (Queued x) e = ap (λ (p : DpcPhase). cond (eqb (phase_number p) 0) true rest) e ∙ flags-pass x (ap work_of e)
      go (Running x) e = ap (λ (p : DpcPhase). cond (eqb (phase_number p) 0) true rest) e ∙ flags-pass x (ap work_of e)
      go (Returning x) e = ap (λ (p : DpcPhase). cond (eqb (phase_number p) 0) true rest) e ∙ flags-pass x (ap work_of e)

  pub dpc-numbers : DpcPlaced d → dpc_numbers w place ≡ true
  unfolding dpc_numbers
  dpc-numbers h = simp (r 1 (phase_number d.phase) refl, le-ltb 3 (phase_number d.phase) (phase-few d.phase), dpc-placed h, work-passes)

  pub sequence-given : (accepted : ℕ) → get_or w at.accepted 0 ≡ accepted → (is_busy d.phase ≡ true → 1 ≤ sequence_of (work_of d.phase)) → sequence_of (work_of d.phase) ≤ accepted
      → sequence_given w place ≡ true
  unfolding sequence_given
  sequence-given accepted e one le =
      ap (λ (n : ℕ). cond (eqb n 0) true rest) (r 1 (phase_number d.phase) refl) ∙ go d.phase refl
    where
      rest : Bool
      rest = cond (eqb (get_or w (place + at.work_sequence) 0) 0) false (leb (get_or w (place + at.work_sequence) 0) (get_or w at.accepted 0))

      bears : (x : DpcWork) → work_of d.phase ≡ some x → is_busy d.phase ≡ true → rest ≡ true
      bears x q b =
          let word = r 11 x.sequence (ap (λ (o : Option DpcWork). get_or (work_row o) 0 none) q) in
          let own : sequence_of (work_of d.phase) ≡ x.sequence = ap sequence_of q in
          simp (word, e, ne_eqb x.sequence 0 (λ z. omega (arith, z, own, one b)), le-leb x.sequence accepted (omega (arith, own, le)))

      go : (p : DpcPhase) → d.phase ≡ p → cond (eqb (phase_number d.phase) 0) true rest ≡ true
      go Idle q = simp q
      go (Queued x) q = ap (λ (p : DpcPhase). cond (eqb (phase_number p) 0) true rest) q ∙ bears x (ap work_of q) (ap is_busy q)
      go (Running x) q = ap (λ (p : DpcPhase). cond (eqb (phase_number p) 0) true rest) q ∙ bears x (ap work_of q) (ap is_busy q)
      go (Returning x) q = ap (λ (p : DpcPhase). cond (eqb (phase_number p) 0) true rest) q ∙ bears x (ap work_of q) (ap is_busy q)
