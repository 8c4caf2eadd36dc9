-- A timer cancelled, in the words and in the log: its own work out of the queue, its DPC had by none, the timer no longer inserted.
use Prim.Native.Nat.{ℕ, ◌+◌, ◌*◌}
use mathlib.Core.List.{List, [], ◌∷◌}
use mathlib.Core.Bool.{Bool, true, false, cond}
use mathlib.Core.Option.{some}
use mathlib.Core.Path.{◌≡◌, refl, sym, ap, ◌∙◌, subst}
use native.Mathlib.Omega.{arith}
use lib.ListN.{set}
use lib.Dec.{eqb}
use Rattle.words.specs.Layout as at
use Rattle.images.specs.declared.Timer.{Timer}
use Rattle.images.specs.declared.Dpc.{Dpc}
use Rattle.images.specs.declared.DpcPhase.{DpcPhase}
use Rattle.images.specs.declared.DpcPhase.TheVariants.{Idle, Queued, Running, Returning}
use Rattle.dpcs.specs.Record.{number_of}
use Rattle.dpc_queue.specs.Queue as queue
use Rattle.arming.specs.Arm as words
use Rattle.model.specs.State.{State, Dpcs, timer}
use Rattle.model.specs.Waits.{key_of, object_at, put_object}
use Rattle.model.specs.Dpcs.{dpc_at, phase_at, is_idle, is_queued, is_active, withdrawn}
use Rattle.model.specs.Timers.{cancelled}
use Rattle.model.specs.Refusal.{is_unselected}
use Rattle.model.specs.Step.{with_table, with_dpcs, own_queued, cancels_work}
use Rattle.model.specs.Valid.{Valid}
use Rattle.model.proofs.ListLaws.{not-both, member-mem}
use Rattle.model.proofs.TableLaws.{found}
use Rattle.model.proofs.DpcLaws.{phase-found, phase-known}
use Rattle.agreement_tables.specs.Tables.{below}
use Rattle.agreement.specs.Records.{holds, holder_of, active_address}
use Rattle.agreement.specs.Agree.{objects_from, Agreeing, Agree}
use Rattle.agreement.proofs.Rows.{store}
use Rattle.agreement.proofs.Objects.{sim-put-object}
use Rattle.agreement_work.proofs.Counts.{few-removed}
use Rattle.agreement_work.proofs.Work.{sim-withdrawn}
use Rattle.agreement_work.proofs.Active.{active-same}
use Rattle.agreement_work.proofs.Puts.{holder-timer}
use Rattle.agreement_work.proofs.Named.{idle-holds}
use Rattle.agreement_work.proofs.Armed.{holder-gone}
use Rattle.agreement_work.proofs.Same.{agreeing-same}
use Rattle.agreement_timers.proofs.Naming.{sim-unnamed}

-- work that a cancel takes out is queued
cancels-queued : (s : State) (t : Timer) → cancels_work s t ≡ true → is_queued (phase_at s.dpcs.table t.dpc) ≡ true
unfolding cancels_work
cancels-queued s t e = by t.inserted (is_unselected s.policy) (eqb t.dpc 0) e
  where
    queued : (p : DpcPhase) → own_queued t p ≡ true → is_queued p ≡ true
    queued Idle z = z
    queued (Queued x) z = refl
    queued (Running x) z = z
    queued (Returning x) z = z

    by : (i u z : Bool) → cond i (cond u false (cond z false (own_queued t (phase_at s.dpcs.table t.dpc)))) false ≡ true → is_queued (phase_at s.dpcs.table t.dpc) ≡ true
    by true true z q = absurd (not-both (sym q))
    by true false true q = absurd (not-both (sym q))
    by true false false q = queued (phase_at s.dpcs.table t.dpc) q
    by false u z q = absurd (not-both (sym q))

queued-idle : (p : DpcPhase) → is_queued p ≡ true → is_idle p ≡ false
queued-idle Idle e = sym e
queued-idle (Queued x) e = refl
queued-idle (Running x) e = refl
queued-idle (Returning x) e = refl

queued-active : (p : DpcPhase) → is_queued p ≡ true → is_active Idle ≡ is_active p
queued-active Idle e = refl
queued-active (Queued x) e = refl
queued-active (Running x) e = absurd (not-both (sym e))
queued-active (Returning x) e = absurd (not-both (sym e))

-- the DPCs after a cancel
abbrev pub dpcs_after : State → Timer → Bool → Dpcs
dpcs_after s t own = cond own (withdrawn s.dpcs t.dpc) s.dpcs

module _ (w : List ℕ) (s : State) (a : Agree w s) (v : Valid s) (k : ℕ) (t : Timer) (e : object_at s.dispatcher.objects k ≡ some (timer t)) where
  abbrev holder : ℕ → ℕ
  holder = holder_of s.dispatcher.objects

  abbrev active : ℕ
  active = active_address s.dpcs.table

  abbrev place : ℕ
  place = objects_from s.limits + 32 * below key_of k s.dispatcher.objects

  -- its own work out of the queue
  module _ (q : cancels_work s t ≡ true) where
    is-queued : is_queued (phase_at s.dpcs.table t.dpc) ≡ true
    is-queued = cancels-queued s t q

    there : (d : Dpc) × (dpc_at s.dpcs.table t.dpc ≡ some d)
    there = phase-known s.dpcs.table t.dpc (queued-idle (phase_at s.dpcs.table t.dpc) is-queued)

    out-agrees : Agreeing (queue.withdrawn w (number_of w t.dpc)) (with_dpcs s (withdrawn s.dpcs t.dpc)) holder active
    out-agrees =
        sim-withdrawn w s holder active a t.dpc there.0 there.1 (number_of w t.dpc) refl
        (member-mem t.dpc s.dpcs.queue (v.queueing.queued t.dpc ∙ is-queued)) (few-removed s.limits.dpcs s.dpcs v.queueing)

    out-active : active_address (withdrawn s.dpcs t.dpc).table ≡ active
    unfolding withdrawn
    out-active =
        active-same s.dpcs.table a.shape.dpcs.rising t.dpc there.0 there.1 Idle
        (queued-active there.0.phase (ap is_queued (sym (phase-found s.dpcs.table t.dpc there.0 there.1)) ∙ is-queued))

  work-agrees : (own : Bool) → cancels_work s t ≡ own → Agreeing (cond own (queue.withdrawn w (number_of w t.dpc)) w) (with_dpcs s (dpcs_after s t own)) holder active
  work-agrees true q = out-agrees q
  work-agrees false q = a

  work-active : (own : Bool) → cancels_work s t ≡ own → active_address (dpcs_after s t own).table ≡ active
  work-active true q = out-active q
  work-active false q = refl

  -- who has a DPC afterwards
  after : (b : ℕ) → (b ≡ 0 → ⊥) → holder_of (put_object (timer (cancelled t)) s.dispatcher.objects) b ≡ cond (holds b t) 0 (holder b)
  after b z = go (holds b t) refl
    where
      there' : object_at s.dispatcher.objects t.address ≡ some (timer t)
      there' = ap (object_at s.dispatcher.objects) (found key_of s.dispatcher.objects k (timer t) e).1 ∙ e

      go : (c : Bool) → holds b t ≡ c → holder_of (put_object (timer (cancelled t)) s.dispatcher.objects) b ≡ cond c 0 (holder b)
      go true q = holder-gone s.dispatcher.objects a.shape.rising v.linked.alone b z (cancelled t) t there' q (idle-holds b (cancelled t) refl)
      go false q = holder-timer s.dispatcher.objects a.shape.rising (cancelled t) t there' b (idle-holds b (cancelled t) refl ∙ sym q)

  -- the timer is no longer inserted
  pub agree-disarmed : (own : Bool) → cancels_work s t ≡ own
      → Agree (words.disarmed (cond own (queue.withdrawn w (number_of w t.dpc)) w) place) (with_table (with_dpcs s (dpcs_after s t own)) (put_object (timer (cancelled t)) s.dispatcher.objects))
  unfolding words.disarmed
  agree-disarmed own q =
      let s₁ = with_dpcs s (dpcs_after s t own) in
      let w₁ = cond own (queue.withdrawn w (number_of w t.dpc)) w in
      let s₂ = with_table s₁ (put_object (timer (cancelled t)) s.dispatcher.objects) in
      let without : ℕ → ℕ = λ b. cond (holds b t) 0 (holder b) in
      let named : t.address ≡ k = (found key_of s.dispatcher.objects k (timer t) e).1 in
      let w₂ = words.unnamed w₁ place in
      subst (λ (n : ℕ). Agreeing (set w₂ (place + at.inserted) 0) s₂ (holder_of (put_object (timer (cancelled t)) s.dispatcher.objects)) n) (sym (work-active own q))
      (agreeing-same (set w₂ (place + at.inserted) 0) s₂ without active
      (subst (λ (n : ℕ). Agreeing (set w₂ (objects_from s.limits + 32 * below key_of n s.dispatcher.objects + at.inserted) 0) s₂ without active) named
      (sim-put-object w₂ s₁ without active (sim-unnamed w₁ s₁ holder active (work-agrees own q) k t e) (timer t) (timer (cancelled t)) (store at.inserted 0 ∷ [])
      (ap (object_at s.dispatcher.objects) named ∙ e) (a.shape.bounded k (timer t) e) (omega arith, tt) refl))
      (holder_of (put_object (timer (cancelled t)) s.dispatcher.objects)) after)
