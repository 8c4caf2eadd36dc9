-- The DPC queue and the counts of DPC work in words that agree with a state in form pass the check.
use Prim.Native.Nat.{ℕ, suc, ◌+◌, ◌*◌, ◌≤◌}
use mathlib.Core.List.{List, [], ◌∷◌, map}
use mathlib.Core.Bool.{Bool, cond, true, false}
use mathlib.Core.Option.{Option, none, some}
use mathlib.Core.Path.{◌≡◌, refl, sym, ap, ◌∙◌}
use native.Mathlib.Omega.{arith}
use borrow.Author.Tests.{eq-eqb, ne_eqb, le-leb, le-ltb}
use lib.ListN.{get_or, length}
use lib.Dec.{eqb, leb}
use Rattle.words.specs.Layout as at
use Rattle.chains.specs.declared.Chain.{Chain}
use Rattle.chains.specs.Chain as chain
use Rattle.objects.specs.Objects.{dpc_found}
use Rattle.images.specs.declared.Dpc.{Dpc}
use Rattle.dpcs.specs.Record.{place_at, queue_chain}
use Rattle.form_dpc.specs.Dpc.{phase_count}
use Rattle.form_dpc.specs.Queue.{queued_at, queue_in, queue_size, queue_stands_once}
use Rattle.form_dpc.specs.Counts.{active_count, sum_holds, active_named, starts_pass, returns_pass}
use Rattle.model.specs.Lists.{Mem, nth, given}
use Rattle.model.specs.State.{State}
use Rattle.model.specs.Dpcs.{address_of, phase_at, is_queued, is_active, active_dpc}
use Rattle.model.proofs.ListLaws.{mem-member}
use Rattle.model.proofs.TableLaws.{mem-found}
use Rattle.model.proofs.DpcLaws.{phase-found}
use Rattle.agreement_tables.specs.Tables.{below}
use Rattle.agreement_tables.proofs.Lists.{nth_in, find-nth}
use Rattle.agreement_chains.specs.Chains.{Standing}
use Rattle.agreement_chains.proofs.Frames.{standing-length}
use Rattle.agreement_chains.proofs.Renumbers.{mem-map}
use Rattle.agreement.specs.Records.{phase_number, holder_of, active_address, number_in, numbers_in}
use Rattle.agreement.specs.Chains.{queue_from}
use Rattle.agreement.specs.Agree.{Agree, dpcs_from}
use Rattle.agreement.proofs.Headers.{dpcs-few}
use Rattle.agreement.proofs.Frames.{numbers-standing, number_at}
use Rattle.agreement.proofs.Lookups.{dpc-count-is, dpc-place, dpc-row, place_is, queue-chain-is}
use Rattle.agreement_form.specs.Form.{Form}
use Rattle.agreement_form.proofs.ChainPasses.{queue-size-is}
use Rattle.agreement_form.proofs.TimerRecords.{first-is}
use Rattle.agreement_form.proofs.QueueLength.{queue-length, count_same, count_none}
use Rattle.agreement_form.proofs.PhaseCounts.{queued-number, active-two, phase_word, phase-count, returning-count, active-count}

pub length-map : (f : ℕ → ℕ) (l : List ℕ) → length (map f l) ≡ length l
length-map f [] = refl
length-map f (x ∷ l) = ap suc (length-map f l)

module _ (w : List ℕ) (s : State) (a : Agree w s) (v : Form s) where
  abbrev table : List Dpc
  table = s.dpcs.table

  abbrev queue : List ℕ
  queue = s.dpcs.queue

  abbrev holder : ℕ → ℕ
  holder = holder_of s.dispatcher.objects

  abbrev active : ℕ
  active = active_address s.dpcs.table

  few : length table ≤ 4096
  few = dpcs-few w s holder active a

  queued-count : phase_count w 1 ≡ length queue
  queued-count =
      phase-count w s holder active a 1 ∙ count_same (λ (d : Dpc). eqb (phase_number d.phase) 1) (λ (d : Dpc). is_queued d.phase) table (λ d. queued-number d.phase)
      ∙ sym (queue-length table v.queueing.rising queue v.queueing.once v.queueing.queued)

  -- ---- the queue

  number-queued : (b : ℕ) → Mem b queue → queued_at w (number_in table b) ≡ true
  unfolding queued_at
  number-queued b m = go (number_at table v.queueing.rising b (a.shape.dpcs.queued b m))
    where
      i : ℕ
      i = below address_of b table

      go : ((d : Dpc) × (nth table i ≡ some d) × (d.address ≡ b)) → queued_at w (number_in table b) ≡ true
      go (d, e, q) =
          let phase = phase-found table d.address d (find-nth address_of table v.queueing.rising i d e) in
          let queued : is_queued d.phase ≡ true = ap is_queued (sym phase) ∙ ap (λ (c : ℕ). is_queued (phase_at table c)) q ∙ sym (v.queueing.queued b) ∙ mem-member b queue m in
          let place : place_at w (number_in table b) ≡ dpcs_from s.limits + 32 * i
          = ap (place_at w) (let z : suc i ≡ i + 1 = omega arith in z) ∙ place_is w s holder active a i (nth_in table i d e) in
          simp (
            dpc-count-is w s holder active a,
            le-ltb (length table) (number_in table b) (omega (arith, nth_in table i d e)),
            place,
            phase_word w s holder active a 1 i d e ∙ queued-number d.phase ∙ queued,
          )

  pub queue-stands-once : queue_stands_once w ≡ true
  unfolding queue_stands_once queue_size
  queue-stands-once =
      eq-eqb (queue_in 4097 w (queue_chain w) 0 (chain.first_of w (queue_chain w)) 1) (phase_count w 1 + 1)
      (ap (λ (c : Chain). queue_in 4097 w c 0 (chain.first_of w c) 1) (queue-chain-is w s holder active a)
      ∙ queue-size-is w (queue_from (dpcs_from s.limits)) 4097 (numbers_in table queue) a.work (λ y m. each y (mem-map (number_in table) y queue m)) (omega (arith, few, standing-length (length table) (numbers_in table queue) standing))
      ∙ (let z : length (numbers_in table queue) + 1 ≡ phase_count w 1 + 1 = omega (arith, length-map (number_in table) queue, queued-count) in z))
    where
      standing : Standing (length table) (numbers_in table queue)
      standing = numbers-standing table queue a.shape.dpcs

      each : (y : ℕ) → ((b : ℕ) × (Mem b queue) × (y ≡ number_in table b)) → (1 ≤ y) × (queued_at w y ≡ true)
      each y (b, m, e) = (omega (arith, e), ap (queued_at w) e ∙ number-queued b m)

  -- ---- counts of work

  pub sum-holds : sum_holds w ≡ true
  unfolding sum_holds
  sum-holds =
      eq-eqb (get_or w at.accepted 0) (get_or w at.removed 0 + (get_or w at.restored 0 + (phase_count w 1 + active_count w)))
      (omega (arith, a.numbers at.accepted s.dpcs.counters.accepted refl, a.numbers at.removed s.dpcs.counters.removed refl, a.numbers at.restored s.dpcs.counters.restored refl, queued-count, active-count w s holder active a, v.queueing.sum))

  active-named : active_named w ≡ true
  unfolding active_named
  active-named =
      ap (λ (n : ℕ). cond (eqb n 0) (eqb (active_count w) 0) (cond (eqb (dpc_found w n) 0) false (leb 2 (get_or w (dpc_found w n + at.phase) 0)))) (a.numbers at.active (active_address table) refl)
      ∙ go (active_dpc table) refl
    where
      test : ℕ → Bool
      test n = cond (eqb n 0) (eqb (active_count w) 0) (cond (eqb (dpc_found w n) 0) false (leb 2 (get_or w (dpc_found w n + at.phase) 0)))

      go : (o : Option Dpc) → active_dpc table ≡ o → test (active_address table) ≡ true
      go none e =
          ap (λ (o : Option Dpc). test (given o 0 (λ (d : Dpc). d.address))) e
          ∙ eq-eqb (active_count w) 0 (active-count w s holder active a ∙ count_none (λ (d : Dpc). is_active d.phase) table e)
      go (some d) e =
          let h = first-is (λ (x : Dpc). is_active x.phase) table d e in
          let there = mem-found address_of table v.queueing.rising d h.0 in
          let place = dpcs_from s.limits + 32 * below address_of d.address table in
          ap (λ (o : Option Dpc). test (given o 0 (λ (x : Dpc). x.address))) e
          ∙ simp (
            ne_eqb d.address 0 (a.shape.dpcs.placed d h.0),
            dpc-place w s holder active a d.address d there,
            ne_eqb place 0 (λ z. omega arith),
            dpc-row w s holder active a d.address d there 1 (phase_number d.phase) refl,
            le-leb 2 (phase_number d.phase) (active-two d.phase h.1),
          )

  pub starts-pass : starts_pass w ≡ true
  unfolding starts_pass active_named
  starts-pass =
      simp (
        le-ltb 1 (active_count w) (omega (arith, active-count w s holder active a, v.queueing.one_active)),
        eq-eqb (get_or w at.started 0) (get_or w at.restored 0 + active_count w)
            (omega (arith, a.numbers at.started s.dpcs.counters.started refl, a.numbers at.restored s.dpcs.counters.restored refl, active-count w s holder active a, v.queueing.starts)),
      )
      active-named

  pub returns-pass : returns_pass w ≡ true
  unfolding returns_pass
  returns-pass =
      eq-eqb (get_or w at.returned 0) (get_or w at.restored 0 + phase_count w 3)
      (omega (arith, a.numbers at.returned s.dpcs.counters.returned refl, a.numbers at.restored s.dpcs.counters.restored refl, returning-count w s holder active a, v.queueing.returns))
