-- The work of a timer that expires: queued, or a duplicate counted.
use Prim.Native.Nat.{ℕ}
use mathlib.Core.List.{List}
use mathlib.Core.Bool.{Bool, true, false, cond}
use mathlib.Core.Option.{some}
use mathlib.Core.Path.{◌≡◌, refl, sym, ap, ◌∙◌, subst}
use native.Mathlib.Omega.{arith}
use borrow.Author.Tests.{eq-eqb, ne_eqb, eqb-true, eqb-false}
use lib.ListN.{get_or}
use lib.Dec.{eqb}
use Rattle.words.specs.Layout as at
use Rattle.dpcs.specs.Record.{number_of}
use Rattle.dpc_queue.specs.Queue as queue
use Rattle.dpc_queue.specs.declared.Origin.{Origin}
use Rattle.expiry.specs.Expire as words
use Rattle.images.specs.declared.Timer.{Timer}
use Rattle.images.specs.declared.Dpc.{Dpc}
use Rattle.images.specs.declared.DpcPhase.{DpcPhase}
use Rattle.images.specs.declared.DpcPhase.TheVariants.{Idle, Queued, Running, Returning}
use Rattle.model.specs.Lists.{present}
use Rattle.model.specs.State.{State, Dpcs, Policy, unselected, cpu0_dispatch}
use Rattle.model.specs.Dpcs.{address_of, dpc_at, phase_at, is_active, is_queued, new_work, accepted, duplicated}
use Rattle.model.specs.Table.{Rising}
use Rattle.model.specs.Timers.{origin_of, queue_refusal, expiry_refusal, work_queued, dpcs_after}
use Rattle.model.specs.Valid.{Queueing}
use Rattle.model.specs.Step.{with_dpcs}
use Rattle.model.proofs.DpcLaws.{present-some, phase-found}
use Rattle.agreement.specs.Row.{Row}
use Rattle.agreement.specs.Records.{flag, active_address, timer_row, phase_number, first_argument, second_argument}
use Rattle.agreement.specs.Agree.{Agreeing}
use Rattle.agreement.proofs.Dpcs.{stored_origin}
use Rattle.agreement_work.proofs.Work.{not-queued, sim-accepted-work, sim-duplicated}
use Rattle.agreement_work.proofs.Active.{active-same}
use Rattle.agreement_advance.proofs.Check.{dpc-row-at}
use Rattle.agreement_advance.proofs.Passed.{plain-passed, queuing-passed, work-passed, idle-passed, queued-passed}

-- ---- the active DPC is the same

pub active-after : (p : Policy) (time : ℕ) (q : Dpcs) (t : Timer) → Rising address_of q.table → ((t.dpc ≡ 0 → ⊥) → present (dpc_at q.table t.dpc) ≡ true)
    → active_address (dpcs_after p time q t).table ≡ active_address q.table
unfolding dpcs_after accepted duplicated
active-after unselected time q t r known = refl
active-after (cpu0_dispatch first second) time q t r known = go (eqb t.dpc 0) refl
  where
    by-phase : (d : Dpc) → dpc_at q.table t.dpc ≡ some d → (p : DpcPhase) → d.phase ≡ p → active_address (work_queued q first second time t p).table ≡ active_address q.table
    by-phase d e Idle f = active-same q.table r t.dpc d e (Queued (new_work q first second (origin_of time t))) (ap is_active (sym f))
    by-phase d e (Queued x) f = refl
    by-phase d e (Running x) f = refl
    by-phase d e (Returning x) f = refl

    go : (b : Bool) → eqb t.dpc 0 ≡ b → active_address (cond b q (work_queued q first second time t (phase_at q.table t.dpc))).table ≡ active_address q.table
    go true z = refl
    go false z =
        let x = present-some q.table t.dpc (known (eqb-false t.dpc 0 z)) in
        by-phase x.0 x.1 (phase_at q.table t.dpc) (sym (phase-found q.table t.dpc x.0 x.1))

module _ (w : List ℕ) (s : State) (holder : ℕ → ℕ) (active : ℕ) (a : Agreeing w s holder active) (time place : ℕ) (t : Timer) (row : Row w place (timer_row t)) where
  -- the origin as the words tell it
  origin-is : words.origin_of w place time ≡ stored_origin (origin_of time t)
  unfolding words.origin_of words.flag
  origin-is =
      let z : words.origin_of w place time ≡ record { timer = 1; address = t.address; arm = t.arm_generation; initialization = t.initialization; deadline = t.due; observed = time; periodic = cond (eqb t.period_ms 0) 0 1 }
      = simp (row 0 t.address refl, row 10 t.arm_generation refl, row 11 t.initialization refl, row 6 t.due refl, row 7 t.period_ms refl) in
      z ∙ ap (λ (n : ℕ). record { timer = 1; address = t.address; arm = t.arm_generation; initialization = t.initialization; deadline = t.due; observed = time; periodic = n }) (go (eqb t.period_ms 0))
    where
      go : (b : Bool) → ◌≡◌ {A = ℕ} (cond b 0 1) (flag (cond b false true))
      go true = refl
      go false = refl

  module _ (limit : ℕ) (v : Queueing limit s.dpcs.table s.dpcs.queue s.dpcs.counters) where
    -- at a DPC in its phase
    queued-at : (first second : ℕ) → s.policy ≡ cpu0_dispatch first second → (d : Dpc) → dpc_at s.dpcs.table t.dpc ≡ some d → (p : DpcPhase) → d.phase ≡ p → queue_refusal s.dpcs t p ≡ 0
        → Agreeing (words.queued_for w (number_of w t.dpc) place time) (with_dpcs s (work_queued s.dpcs first second time t p)) holder active
    unfolding words.queued_for
    queued-at first second policy d e p f r =
        subst (λ (n : ℕ). Agreeing (branches n) (with_dpcs s (work_queued s.dpcs first second time t p)) holder active)
        (sym (dpc-row-at w s holder active a t.dpc d e 1 (phase_number d.phase) refl ∙ ap phase_number f)) (go p f r)
      where
        branches : ℕ → List ℕ
        branches n = cond (eqb n 0) (queue.accepted w (number_of w t.dpc) (get_or w at.timer_argument 0) (get_or w at.timer_argument2 0) (words.origin_of w place time)) (queue.raised w at.duplicates)

        go : (p : DpcPhase) → d.phase ≡ p → queue_refusal s.dpcs t p ≡ 0 → Agreeing (branches (phase_number p)) (with_dpcs s (work_queued s.dpcs first second time t p)) holder active
        go Idle f r =
            let x = a.numbers at.timer_argument (first_argument s.policy) refl ∙ ap first_argument policy in
            let y = a.numbers at.timer_argument2 (second_argument s.policy) refl ∙ ap second_argument policy in
            subst (λ (o : Origin). Agreeing (queue.accepted w (number_of w t.dpc) (get_or w at.timer_argument 0) (get_or w at.timer_argument2 0) o) (with_dpcs s (accepted s.dpcs t.dpc first second (origin_of time t))) holder active) (sym origin-is)
            (subst (λ (n : ℕ). Agreeing (queue.accepted w (number_of w t.dpc) n (get_or w at.timer_argument2 0) (stored_origin (origin_of time t))) (with_dpcs s (accepted s.dpcs t.dpc first second (origin_of time t))) holder active) (sym x)
            (subst (λ (n : ℕ). Agreeing (queue.accepted w (number_of w t.dpc) first n (stored_origin (origin_of time t))) (with_dpcs s (accepted s.dpcs t.dpc first second (origin_of time t))) holder active) (sym y)
            (sim-accepted-work w s holder active a t.dpc d e (number_of w t.dpc) first second (origin_of time t) refl
            (not-queued limit s.dpcs v t.dpc (ap is_queued (phase-found s.dpcs.table t.dpc d e ∙ f))) (omega (arith, idle-passed time s.dpcs t r)))))
        go (Queued x) f r = sim-duplicated w s holder active a (queued-passed time s.dpcs t x r)
        go (Running x) f r = absurd (omega arith)
        go (Returning x) f r = absurd (omega arith)

    -- without a DPC there is none
    no-work : t.dpc ≡ 0 → words.work_queued w place time ≡ w
    unfolding words.work_queued
    no-work z = simp (row 8 t.dpc refl, eq-eqb t.dpc 0 z)

    some-work : (t.dpc ≡ 0 → ⊥) → words.work_queued w place time ≡ words.queued_for w (number_of w t.dpc) place time
    unfolding words.work_queued
    some-work has = simp (row 8 t.dpc refl, ne_eqb t.dpc 0 has)

    pub sim-work-queued : ((t.dpc ≡ 0 → ⊥) → present (dpc_at s.dpcs.table t.dpc) ≡ true) → expiry_refusal s.policy time s.dpcs t ≡ 0
        → Agreeing (words.work_queued w place time) (with_dpcs s (dpcs_after s.policy time s.dpcs t)) holder active
    unfolding dpcs_after
    sim-work-queued known r = go s.policy refl r
      where
        go : (p : Policy) → s.policy ≡ p → expiry_refusal p time s.dpcs t ≡ 0 → Agreeing (words.work_queued w place time) (with_dpcs s (dpcs_after p time s.dpcs t)) holder active
        go unselected policy r = subst (λ (x : List ℕ). Agreeing x s holder active) (sym (no-work (plain-passed time s.dpcs t r).0)) a
        go (cpu0_dispatch first second) policy r = by (eqb t.dpc 0) refl
          where
            by : (b : Bool) → eqb t.dpc 0 ≡ b → Agreeing (words.work_queued w place time) (with_dpcs s (cond b s.dpcs (work_queued s.dpcs first second time t (phase_at s.dpcs.table t.dpc)))) holder active
            by true z = subst (λ (x : List ℕ). Agreeing x s holder active) (sym (no-work (eqb-true t.dpc 0 z))) a
            by false z =
                let has = eqb-false t.dpc 0 z in
                let x = present-some s.dpcs.table t.dpc (known has) in
                subst (λ (y : List ℕ). Agreeing y (with_dpcs s (work_queued s.dpcs first second time t (phase_at s.dpcs.table t.dpc))) holder active) (sym (some-work has))
                (queued-at first second policy x.0 x.1 (phase_at s.dpcs.table t.dpc) (sym (phase-found s.dpcs.table t.dpc x.0 x.1))
                (work-passed time s.dpcs t (queuing-passed time s.dpcs t first second r).1 has))
