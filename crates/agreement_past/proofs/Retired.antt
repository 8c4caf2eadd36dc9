-- Timers and DPCs in memory that is given back.
use Prim.Native.Nat.{ℕ}
use mathlib.Core.List.{List}
use mathlib.Core.Bool.{Bool, true, false, cond, not}
use mathlib.Core.Path.{◌≡◌, refl, sym, ap, ◌∙◌}
use Rattle.images.specs.declared.Dpc.{Dpc}
use Rattle.images.specs.declared.DpcPhase.TheVariants.{Idle}
use Rattle.timers.specs.Release.{release_refusal, timers_marked, timers_closed, timers_retired}
use Rattle.model.specs.Lists.{keep, any, Mem}
use Rattle.model.specs.State.{State}
use Rattle.model.specs.Waits.{timers_of}
use Rattle.model.specs.Dpcs.{address_of, is_busy, is_queued}
use Rattle.model.specs.Timers.{is_named}
use Rattle.model.specs.Refusal.{dpc_overlapped, timer_held, dpc_held, timer_release_refusal}
use Rattle.model.specs.Step.{with_table, is_retired_timer}
use Rattle.model.specs.Valid.{Valid}
use Rattle.model.proofs.ListLaws.{not-both, any_false, mem-member}
use Rattle.model.proofs.TableLaws.{mem-found}
use Rattle.model.proofs.RowLaws.{passes}
use Rattle.model.proofs.DpcLaws.{idle-not-busy, phase-found}
use Rattle.agreement.specs.Records.{holder_of, active_address}
use Rattle.agreement.specs.Agree.{Agree}
use Rattle.agreement_release.proofs.TimerRefusal.{timer-release-is}
use Rattle.agreement_release.proofs.TimersClosed.{sim-timers-closed}
use Rattle.agreement_chains.specs.Chains.{Same}
use Rattle.agreement_past.specs.Past.{Beyond}
use Rattle.agreement_past.proofs.Kept.{unless-kept}
use Rattle.agreement_past.proofs.TimersClosed.{timers-closed-kept}
use Rattle.agreement_past.proofs.DpcsClosed.{dpcs-closed-kept}

module _ (s : State) (v : Valid s) (address size : ℕ) (e : timer_release_refusal s address size ≡ 0) where
  none-held : (any (timer_held s address size) (timers_of s.dispatcher.objects) ≡ false) × (any (dpc_held s address size) s.dpcs.table ≡ false)
  unfolding timer_release_refusal
  none-held =
      let p = passes (any (timer_held s address size) (timers_of s.dispatcher.objects)) 22 (cond (any (dpc_held s address size) s.dpcs.table) 23 0) e in
      let q = passes (any (dpc_held s address size) s.dpcs.table) 22 0 p.1 in (p.0, q.0)

  -- a DPC that goes is idle
  idle-dpc : (d : Dpc) → Mem d s.dpcs.table → dpc_overlapped address size d ≡ true → d.phase ≡ Idle
  unfolding dpc_held
  idle-dpc d m o = idle-not-busy d.phase (by (dpc_overlapped address size d) (is_busy d.phase) o (any_false (dpc_held s address size) s.dpcs.table none-held.1 d m))
    where
      by : (p q : Bool) → p ≡ true → cond p (cond q true (is_named s.dispatcher.objects d.address)) false ≡ false → q ≡ false
      by true true h z = absurd (not-both z)
      by true false h z = refl
      by false q h z = absurd (not-both (sym h))

  unqueued : (d : Dpc) → Mem d s.dpcs.table → dpc_overlapped address size d ≡ true → Mem d.address s.dpcs.queue → ⊥
  unqueued d m o i =
      not-both (sym (mem-member d.address s.dpcs.queue i) ∙ v.queueing.queued d.address
      ∙ ap is_queued (phase-found s.dpcs.table d.address d (mem-found address_of s.dpcs.table v.queueing.rising d m) ∙ idle-dpc d m o))

module _ (w : List ℕ) (s : State) (a : Agree w s) (v : Valid s) (address size : ℕ) where
  pub timers-retired-kept : Same (Beyond s.limits) w (timers_retired w address size).words
  unfolding timers_retired
  timers-retired-kept = unless-kept (Beyond s.limits) w (release_refusal w address size) _
      (λ e j r. let z = sym (timer-release-is w s a v address size) ∙ e in
      dpcs-closed-kept w₂ (with_table s (keep (λ o. not (is_retired_timer address size o)) s.dispatcher.objects)) holder active (sim-timers-closed w s holder active a address size) address size (unqueued s v address size z) j r
      ∙ timers-closed-kept w s holder active a address size j r)
    where
      w₂ : List ℕ
      w₂ = timers_closed (timers_marked w address size)

      holder : ℕ → ℕ
      holder = holder_of s.dispatcher.objects

      active : ℕ
      active = active_address s.dpcs.table
