-- `insert_queue_dpc`: the same refusals, and the work accepted or counted as a duplicate.
use Prim.Native.Nat.{ℕ, ◌+◌, ◌-◌, ◌^◌}
use mathlib.Core.List.{List}
use mathlib.Core.Bool.{Bool, true, false, cond, not}
use mathlib.Core.Option.{Option, none, some}
use mathlib.Core.Path.{◌≡◌, refl, sym, ap, ◌∙◌, subst}
use native.Mathlib.Omega.{arith}
use borrow.Author.Tests.{eqb-true, eqb-false, le-leb, lt-leb, leb-false}
use lib.Dec.{eqb, leb}
use lib.ListN.{get_or}
use Rattle.words.specs.Layout as at
use Rattle.images.specs.declared.Dpc.{Dpc}
use Rattle.images.specs.declared.DpcWork.{DpcWork}
use Rattle.images.specs.declared.DpcOrigin.{DpcOrigin}
use Rattle.images.specs.declared.DpcOrigin.TheVariants as origin
use Rattle.images.specs.declared.DpcPhase.{DpcPhase}
use Rattle.images.specs.declared.DpcPhase.TheVariants.{Idle, Queued, Running, Returning}
use Rattle.dpcs.specs.Record.{place_at, number_of}
use Rattle.dpc_queue.specs.Queue as queue
use Rattle.dpc_work.specs.Work as words
use Rattle.answers.specs.Outcome as code
use Rattle.answers.specs.declared.Answer.TheVariants as answer
use Rattle.model.specs.Lists.{present}
use Rattle.model.specs.State.{State}
use Rattle.model.specs.Dpcs.{dpc_at, phase_at, in_phase, is_queued, is_active, is_caller, new_work, accepted, duplicated}
use Rattle.model.specs.Timers.{most, is_named}
use Rattle.model.specs.Refusal.{is_unselected, insert_in_phase, insert_refusal}
use Rattle.model.specs.Step.{with_dpcs, step, refusal, effect, dpc_inserted}
use Rattle.model.specs.Call as call
use Rattle.model.specs.Answer.{gives, Flag}
use Rattle.model.specs.Valid.{Valid}
use Rattle.model.proofs.DpcLaws.{present-some, phase-found}
use Rattle.model.proofs.RowLaws.{passes, holds}
use Rattle.agreement.specs.Records.{dpc_row, origin_row, phase_number, holder_of, active_address}
use Rattle.agreement.specs.Agree.{Agree, Agreeing}
use Rattle.agreement.specs.Matches.{Plainly}
use Rattle.agreement.proofs.Matches.{plainly-unless}
use Rattle.agreement_work.proofs.Counts.{few-accepted}
use Rattle.agreement_work.proofs.Work.{not-queued, sim-duplicated, sim-accepted-work}
use Rattle.agreement_work.proofs.Active.{active-same}
use Rattle.agreement_dpc.proofs.Found.{policy-is, number-known, dpc-word}
use Rattle.agreement_dpc.proofs.Named.{named-is}

module _ (w : List ℕ) (s : State) (a : Agree w s) (v : Valid s) (k : ℕ) where
  abbrev holder : ℕ → ℕ
  holder = holder_of s.dispatcher.objects

  abbrev active : ℕ
  active = active_address s.dpcs.table

  abbrev n : ℕ
  n = number_of w k

  -- ---- refusals

  -- the count of duplicates at its end: the code asks whether it is that number
  end_is : eqb (get_or w at.duplicates 0) (2 ^ 64 - 1) ≡ leb most s.dpcs.counters.duplicates
  end_is = ap (λ (c : ℕ). eqb c most) (a.numbers at.duplicates s.dpcs.counters.duplicates refl) ∙ go (eqb s.dpcs.counters.duplicates most) refl
    where
      go : (b : Bool) → eqb s.dpcs.counters.duplicates most ≡ b → b ≡ leb most s.dpcs.counters.duplicates
      go true q = sym (le-leb most s.dpcs.counters.duplicates (omega (arith, eqb-true s.dpcs.counters.duplicates most q)))
      go false q = sym (lt-leb most s.dpcs.counters.duplicates (omega (arith, eqb-false s.dpcs.counters.duplicates most q, a.shape.counted)))

  module _ (d : Dpc) (e : dpc_at s.dpcs.table k ≡ some d) where
    phase_word : get_or w (place_at w n + at.phase) 0 ≡ phase_number d.phase
    phase_word = dpc-word w s holder active a k d e 1 (phase_number d.phase) refl

    -- word 14 of a record with work is 0 where a caller put it there
    origin-word : (x : DpcWork) → d.phase ≡ Queued x → eqb (get_or w (place_at w n + at.origin) 0) 0 ≡ is_caller x.origin
    origin-word x q = go x.origin refl
      where
        go : (o : DpcOrigin) → x.origin ≡ o → eqb (get_or w (place_at w n + at.origin) 0) 0 ≡ is_caller o
        go origin.Caller z = ap (λ (m : ℕ). eqb m 0) (dpc-word w s holder active a k d e 14 0
            (ap (λ (p : DpcPhase). get_or (dpc_row (holder d.address) (in_phase d p)) 14 none) q ∙ ap (λ (o : DpcOrigin). get_or (origin_row o) 0 none) z))
        go (origin.Timer b c f g h i) z = ap (λ (m : ℕ). eqb m 0) (dpc-word w s holder active a k d e 14 1
            (ap (λ (p : DpcPhase). get_or (dpc_row (holder d.address) (in_phase d p)) 14 none) q ∙ ap (λ (o : DpcOrigin). get_or (origin_row o) 0 none) z))

    work-refusal-is : words.work_refusal w n ≡ insert_in_phase s d.phase
    unfolding words.work_refusal words.duplicate_refusal
    work-refusal-is = ap (λ (m : ℕ). cond (eqb m 1) (words.duplicate_refusal w (place_at w n)) (cond (eqb m 0) (cond (leb 65536 (get_or w at.accepted 0)) 14 0) 19)) phase_word ∙ go d.phase refl
      where
        go : (p : DpcPhase) → d.phase ≡ p → cond (eqb (phase_number p) 1) (words.duplicate_refusal w (place_at w n)) (cond (eqb (phase_number p) 0) (cond (leb 65536 (get_or w at.accepted 0)) 14 0) 19) ≡ insert_in_phase s p
        go Idle q = ap (λ (c : ℕ). cond (leb 65536 c) 14 0) (a.numbers at.accepted s.dpcs.counters.accepted refl)
        go (Queued x) q = ap (λ (b : Bool). cond b (cond (eqb (get_or w at.duplicates 0) (2 ^ 64 - 1)) 24 0) 21) (origin-word x q) ∙ ap (λ (b : Bool). cond (is_caller x.origin) (cond b 24 0) 21) end_is
        go (Running x) q = refl
        go (Returning x) q = refl

  refusal_is : (first second : ℕ) → words.insert_refusal w k ≡ refusal (call.InsertQueueDpc k first second) s
  unfolding words.insert_refusal refusal insert_refusal
  refusal_is first second =
      ap (λ (b : Bool). cond b 18 (cond (eqb (get_or w at.policy 0) 0) 20 (cond (eqb n 0) 2 (words.work_refusal w n)))) (named-is w s a v k)
      ∙ ap (λ (b : Bool). cond (is_named s.dispatcher.objects k) 18 (cond b 20 (cond (eqb n 0) 2 (words.work_refusal w n)))) (policy-is w s holder active a)
      ∙ ap (λ (m : ℕ). cond (is_named s.dispatcher.objects k) 18 (cond (is_unselected s.policy) 20 m))
      (ap (λ (b : Bool). cond b 2 (words.work_refusal w n)) (number-known w s holder active a k) ∙ go (dpc_at s.dpcs.table k) refl)
    where
      go : (o : Option Dpc) → dpc_at s.dpcs.table k ≡ o → cond (not (present o)) 2 (words.work_refusal w n) ≡ cond (present o) (insert_in_phase s (phase_at s.dpcs.table k)) 2
      go none e = refl
      go (some d) e = work-refusal-is d e ∙ ap (insert_in_phase s) (sym (phase-found s.dpcs.table k d e))

  -- ---- the effect

  module _ (first second : ℕ) (d : Dpc) (e : dpc_at s.dpcs.table k ≡ some d) where
    work-accepted : is_queued d.phase ≡ false → is_active d.phase ≡ false
        → Agree (queue.accepted w n first second words.caller_origin) (with_dpcs s (accepted s.dpcs k first second origin.Caller))
    unfolding accepted words.caller_origin
    work-accepted idle calm =
        subst (Agreeing (queue.accepted w n first second words.caller_origin) (with_dpcs s (accepted s.dpcs k first second origin.Caller)) holder)
        (sym (active-same s.dpcs.table a.shape.dpcs.rising k d e (Queued (new_work s.dpcs first second origin.Caller)) (sym calm)))
        (sim-accepted-work w s holder active a k d e n first second origin.Caller refl
        (not-queued s.limits.dpcs s.dpcs v.queueing k (ap is_queued (phase-found s.dpcs.table k d e) ∙ idle)) (few-accepted s.limits.dpcs s.dpcs v.queueing))

    duplicate : leb most s.dpcs.counters.duplicates ≡ false → Agree (queue.raised w at.duplicates) (with_dpcs s (duplicated s.dpcs))
    unfolding duplicated
    duplicate h = sim-duplicated w s holder active a (leb-false most s.dpcs.counters.duplicates h)

    inserted : (p : DpcPhase) → d.phase ≡ p → insert_in_phase s p ≡ 0
        → Plainly (cond (queue.queued w n) (code.outcome (answer.Flag false) (queue.raised w at.duplicates)) (code.outcome (answer.Flag true) (queue.accepted w n first second words.caller_origin)))
        (cond (is_queued p) (gives (Flag false) (with_dpcs s (duplicated s.dpcs))) (gives (Flag true) (with_dpcs s (accepted s.dpcs k first second origin.Caller))))
    unfolding queue.queued
    inserted Idle q z =
        subst (λ (m : ℕ). Plainly (cond (eqb m 1) (code.outcome (answer.Flag false) (queue.raised w at.duplicates)) (code.outcome (answer.Flag true) (queue.accepted w n first second words.caller_origin)))
        (gives (Flag true) (with_dpcs s (accepted s.dpcs k first second origin.Caller)))) (sym (phase_word d e ∙ ap phase_number q))
        (record { answers = refl; agree = work-accepted (ap is_queued q) (ap is_active q) })
    inserted (Queued x) q z =
        subst (λ (m : ℕ). Plainly (cond (eqb m 1) (code.outcome (answer.Flag false) (queue.raised w at.duplicates)) (code.outcome (answer.Flag true) (queue.accepted w n first second words.caller_origin)))
        (gives (Flag false) (with_dpcs s (duplicated s.dpcs)))) (sym (phase_word d e ∙ ap phase_number q))
        (record { answers = refl; agree = duplicate (passes (leb most s.dpcs.counters.duplicates) 23 0 (holds (is_caller x.origin) 20 (cond (leb most s.dpcs.counters.duplicates) 24 0) z).1).0 })
    inserted (Running x) q z = absurd (omega arith)
    inserted (Returning x) q z = absurd (omega arith)

  pub agree-insert : (first second : ℕ) → Plainly (words.queue_inserted w k first second) (step (call.InsertQueueDpc k first second) s)
  unfolding words.queue_inserted effect refusal insert_refusal dpc_inserted
  agree-insert first second =
      plainly-unless w s a (call.InsertQueueDpc k first second) (words.insert_refusal w k)
      (cond (queue.queued w n) (code.outcome (answer.Flag false) (queue.raised w at.duplicates)) (code.outcome (answer.Flag true) (queue.accepted w n first second words.caller_origin))) (refusal_is first second) done
    where
      done : insert_refusal s k ≡ 0
          → Plainly (cond (queue.queued w n) (code.outcome (answer.Flag false) (queue.raised w at.duplicates)) (code.outcome (answer.Flag true) (queue.accepted w n first second words.caller_origin))) (dpc_inserted s k first second)
      done z =
          let r₁ = passes (is_named s.dispatcher.objects k) 17 _ z in
          let r₂ = passes (is_unselected s.policy) 19 _ r₁.1 in
          let r₃ = holds (present (dpc_at s.dpcs.table k)) 1 (insert_in_phase s (phase_at s.dpcs.table k)) r₂.1 in
          let d = present-some s.dpcs.table k r₃.0 in
          inserted first second d.0 d.1 (phase_at s.dpcs.table k) (sym (phase-found s.dpcs.table k d.0 d.1)) r₃.1
