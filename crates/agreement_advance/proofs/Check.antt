-- What refuses the expiry of one timer: the words' test is the log's, for DPCs and counts that are as the words say.
use Prim.Native.Nat.{ℕ, ◌+◌, ◌^◌, ◌≤◌}
use mathlib.Core.List.{List, ◌++◌}
use mathlib.Core.Bool.{Bool, true, false, cond, not}
use mathlib.Core.Option.{Option, none, some}
use mathlib.Core.Path.{◌≡◌, refl, sym, ap, ◌∙◌, subst}
use native.Mathlib.Omega.{arith}
use borrow.Author.Tests.{eqb-true, eqb-false, ltb-true, ltb-false, lt-ltb, le-ltb, ne_eqb}
use lib.ListN.{get_or}
use lib.Dec.{eqb, leb, ltb}
use Rattle.words.specs.Layout as at
use Rattle.dpcs.specs.Record.{number_of, place_at}
use Rattle.expiry.specs.Next as next
use Rattle.expiry.specs.Check.{is_own, idle_refusal, queued_refusal, work_refusal, timer_passes, plain_refusal, queuing_refusal, one_refusal, counts}
use Rattle.expiry.specs.declared.check.Counts.{Counts}
use Rattle.images.specs.declared.Timer.{Timer}
use Rattle.images.specs.declared.Dpc.{Dpc}
use Rattle.images.specs.declared.DpcWork.{DpcWork}
use Rattle.images.specs.declared.DpcOrigin.{DpcOrigin}
use Rattle.images.specs.declared.DpcOrigin.TheVariants as origin
use Rattle.images.specs.declared.DpcPhase.{DpcPhase}
use Rattle.images.specs.declared.DpcPhase.TheVariants.{Idle, Queued, Running, Returning}
use Rattle.model.specs.Lists.{present, given}
use Rattle.model.specs.State.{State, Dpcs, Policy, unselected, cpu0_dispatch}
use Rattle.model.specs.Dpcs.{dpc_at, is_from, work_of}
use Rattle.model.specs.Timers as log
use Rattle.model.specs.Timers.{most, is_periodic, horizon_refusal, queue_refusal, expiry_refusal}
use Rattle.model.proofs.DpcLaws.{present-some}
use Rattle.agreement.specs.Row.{Row}
use Rattle.agreement.specs.Records.{timer_row, dpc_row, work_row, origin_row, phase_number, policy_number}
use Rattle.agreement.specs.Agree.{Agreeing}
use Rattle.agreement.proofs.Dpcs.{before_work}
use Rattle.agreement.proofs.Lookups.{dpc-row}
use Rattle.agreement_work.proofs.Counts.{place-numbered}
use Rattle.agreement_advance.proofs.Order.{policy-is}

-- ---- 13

-- the next due passes 2^64 − 1
abbrev pub late : ℕ → Timer → Bool
late time t = cond (is_periodic t) (ltb most (log.next_due t.due t.period_ms time)) false

pub horizon-is : (time : ℕ) (t : Timer) → horizon_refusal time t ≡ cond (late time t) 13 0
unfolding horizon_refusal
horizon-is time t = go (is_periodic t)
  where
    go : (b : Bool) → ◌≡◌ {A = ℕ} (cond b (cond (ltb most (log.next_due t.due t.period_ms time)) 13 0) 0) (cond (cond b (ltb most (log.next_due t.due t.period_ms time)) false) 13 0)
    go true = refl
    go false = refl

pub next-due-is : (due time period : ℕ) → next.next_due due time period ≡ log.next_due due period time
unfolding next.next_due next.next_by log.next_due
next-due-is due time period = refl

over : (n : ℕ) → not (ltb n (2 ^ 64)) ≡ ltb most n
over n = go (ltb n (2 ^ 64)) refl
  where
    go : (b : Bool) → ltb n (2 ^ 64) ≡ b → not b ≡ ltb most n
    go true q = sym (le-ltb most n (omega (arith, ltb-true n (2 ^ 64) q)))
    go false q = sym (lt-ltb most n (omega (arith, ltb-false n (2 ^ 64) q)))

none-again : (due time : ℕ) → log.next_due due 0 time ≡ due
unfolding log.next_due
none-again due time = omega arith

pub passes-is : (time : ℕ) (t : Timer) → t.due ≤ most → next.passes t.due time t.period_ms ≡ late time t
unfolding next.passes
passes-is time t h = over (next.next_due t.due time t.period_ms) ∙ ap (ltb most) (next-due-is t.due time t.period_ms) ∙ go (eqb t.period_ms 0) refl
  where
    again : ℕ → ℕ
    again p = log.next_due t.due p time

    go : (b : Bool) → eqb t.period_ms 0 ≡ b → ltb most (again t.period_ms) ≡ cond (cond b false true) (ltb most (again t.period_ms)) false
    go true q = ap (λ (p : ℕ). ltb most (again p)) (eqb-true t.period_ms 0 q) ∙ ap (ltb most) (none-again t.due time) ∙ le-ltb most t.due h
    go false q = refl

module _ (w : List ℕ) (s : State) (holder : ℕ → ℕ) (active : ℕ) (a : Agreeing w s holder active) where
  -- the row of a DPC, where the words look for it
  pub dpc-row-at : (k : ℕ) (d : Dpc) → dpc_at s.dpcs.table k ≡ some d → Row w (place_at w (number_of w k)) (dpc_row (holder d.address) d)
  dpc-row-at k d e = subst (λ (p : ℕ). Row w p (dpc_row (holder d.address) d)) (sym (place-numbered w s holder active a k d e)) (dpc-row w s holder active a k d e)

  -- ---- the work of a timer

  module _ (place : ℕ) (t : Timer) (row : Row w place (timer_row t)) (q : Dpcs) where
    abbrev c : Counts
    c = counts q.counters.accepted q.counters.duplicates

    -- a DPC's row in a phase
    abbrev row_in : ℕ → Dpc → DpcPhase → List (Option ℕ)
    row_in h d p = before_work h d (phase_number p) ++ work_row (work_of p)

    own_is : (p h : ℕ) (d : Dpc) (x : DpcWork) (o : DpcOrigin) → x.origin ≡ o → Row w p (row_in h d (Queued x)) → is_own w p place ≡ is_from t o
    unfolding is_own
    own_is p h d x origin.Caller e r = let z : get_or w (p + at.origin) 0 ≡ 0 = r 14 0 (ap (λ (o : DpcOrigin). get_or (origin_row o) 0 none) e) in simp (z)
    own_is p h d x (origin.Timer address arm initialization deadline observed periodic) e r =
        simp (
          let z : get_or w (p + at.origin) 0 ≡ 1 = r 14 1 (ap (λ (o : DpcOrigin). get_or (origin_row o) 0 none) e) in z,
          let z : get_or w (p + at.origin_timer) 0 ≡ address = r 15 address (ap (λ (o : DpcOrigin). get_or (origin_row o) 1 none) e) in z,
          let z : get_or w (p + at.origin_arm) 0 ≡ arm = r 16 arm (ap (λ (o : DpcOrigin). get_or (origin_row o) 2 none) e) in z,
          let z : get_or w (p + at.origin_initialization) 0 ≡ initialization = r 17 initialization (ap (λ (o : DpcOrigin). get_or (origin_row o) 3 none) e) in z,
          row 0 t.address refl,
          row 10 t.arm_generation refl,
          row 11 t.initialization refl,
        )

    in-phase : (p h : ℕ) (d : Dpc) (x : DpcPhase) → Row w p (row_in h d x) → work_refusal w p place c ≡ queue_refusal q t x
    unfolding work_refusal idle_refusal queued_refusal
    in-phase p h d Idle r = simp (r 1 0 refl)
    in-phase p h d (Queued x) r =
        let z : work_refusal w p place c ≡ cond (is_own w p place) (cond (leb most q.counters.duplicates) 24 0) 21 = simp (r 1 1 refl) in
        z ∙ ap (λ (b : Bool). cond b (cond (leb most q.counters.duplicates) 24 0) 21) (own_is p h d x x.origin refl r)
    in-phase p h d (Running x) r = simp (r 1 2 refl)
    in-phase p h d (Returning x) r = simp (r 1 3 refl)

    -- what its work meets, at a DPC that is as the words say
    pub work-is : (t.dpc ≡ 0 → ⊥) → (d : Dpc) → dpc_at s.dpcs.table t.dpc ≡ some d → dpc_at q.table t.dpc ≡ dpc_at s.dpcs.table t.dpc
        → work_refusal w (place_at w (number_of w t.dpc)) place c ≡ log.work_refusal q t
    work-is has d e same =
        in-phase (place_at w (number_of w t.dpc)) (holder d.address) d d.phase (dpc-row-at t.dpc d e)
        ∙ sym (
        ap (λ (b : Bool). cond b 0 (cond (present (dpc_at q.table t.dpc)) (queue_refusal q t (given (dpc_at q.table t.dpc) Idle (λ (x : Dpc). x.phase))) 2)) (ne_eqb t.dpc 0 has)
        ∙ ap (λ (o : Option Dpc). cond (present o) (queue_refusal q t (given o Idle (λ (x : Dpc). x.phase))) 2) (same ∙ e)
        )

    -- ---- all of it

    module _ (time : ℕ) (h : t.due ≤ most) where
      timer-passes : timer_passes w place time ≡ late time t
      unfolding timer_passes
      timer-passes =
          ap (λ (n : ℕ). next.passes n time (get_or w (place + at.period) 0)) (row 6 t.due refl) ∙ ap (next.passes t.due time) (row 7 t.period_ms refl) ∙ passes-is time t h

      plain-is : plain_refusal w place time ≡ cond (eqb t.dpc 0) (horizon_refusal time t) 20
      unfolding plain_refusal
      plain-is =
          ap (λ (n : ℕ). cond (eqb n 0) (cond (timer_passes w place time) 13 0) 20) (row 8 t.dpc refl)
          ∙ ap (λ (b : Bool). cond (eqb t.dpc 0) (cond b 13 0) 20) timer-passes
          ∙ ap (λ (n : ℕ). cond (eqb t.dpc 0) n 20) (sym (horizon-is time t))

      module _ (known : (t.dpc ≡ 0 → ⊥) → present (dpc_at s.dpcs.table t.dpc) ≡ true) (same : (t.dpc ≡ 0 → ⊥) → dpc_at q.table t.dpc ≡ dpc_at s.dpcs.table t.dpc) where
        meets : cond (eqb t.dpc 0) 0 (work_refusal w (place_at w (number_of w t.dpc)) place c) ≡ log.work_refusal q t
        meets = go (eqb t.dpc 0) refl
          where
            go : (b : Bool) → eqb t.dpc 0 ≡ b → cond (eqb t.dpc 0) 0 (work_refusal w (place_at w (number_of w t.dpc)) place c) ≡ log.work_refusal q t
            go true z =
                ap (λ (b : Bool). cond b 0 (work_refusal w (place_at w (number_of w t.dpc)) place c)) z
                ∙ sym (ap (λ (b : Bool). cond b 0 (cond (present (dpc_at q.table t.dpc)) (queue_refusal q t (given (dpc_at q.table t.dpc) Idle (λ (x : Dpc). x.phase))) 2)) z)
            go false z =
                let has = eqb-false t.dpc 0 z in
                let x = present-some s.dpcs.table t.dpc (known has) in
                ap (λ (b : Bool). cond b 0 (work_refusal w (place_at w (number_of w t.dpc)) place c)) z ∙ work-is has x.0 x.1 (same has)

        queuing-is : queuing_refusal w place time c ≡ cond (eqb (horizon_refusal time t) 0) (log.work_refusal q t) (horizon_refusal time t)
        unfolding queuing_refusal
        queuing-is =
            ap (λ (n : ℕ). cond (timer_passes w place time) 13 (cond (eqb n 0) 0 (work_refusal w (place_at w (number_of w n)) place c))) (row 8 t.dpc refl)
            ∙ ap (λ (b : Bool). cond b 13 (cond (eqb t.dpc 0) 0 (work_refusal w (place_at w (number_of w t.dpc)) place c))) timer-passes
            ∙ ap (cond (late time t) 13) meets
            ∙ go (late time t)
            ∙ ap (λ (n : ℕ). cond (eqb n 0) (log.work_refusal q t) n) (sym (horizon-is time t))
          where
            go : (b : Bool) → cond b 13 (log.work_refusal q t) ≡ cond (eqb (cond b 13 0) 0) (log.work_refusal q t) (cond b 13 0)
            go true = refl
            go false = refl

        pub one-refusal : one_refusal w place time (counts q.counters.accepted q.counters.duplicates) ≡ expiry_refusal s.policy time q t
        unfolding one_refusal expiry_refusal
        one-refusal = ap (λ (b : Bool). cond b (plain_refusal w place time) (queuing_refusal w place time c)) (policy-is w s holder active a) ∙ go s.policy
          where
            go : (p : Policy) → cond (eqb (policy_number p) 0) (plain_refusal w place time) (queuing_refusal w place time c) ≡ expiry_refusal p time q t
            go unselected = plain-is
            go (cpu0_dispatch first second) = queuing-is
