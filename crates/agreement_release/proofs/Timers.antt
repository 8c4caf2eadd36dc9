-- `retire_timer_backing` and `require_timer_release` on the words and in the log.
use Prim.Native.Nat.{ℕ}
use mathlib.Core.List.{List}
use mathlib.Core.Bool.{Bool, true, false, cond, not}
use mathlib.Core.Option.{Option}
use mathlib.Core.Path.{◌≡◌, refl, sym, ap, ◌∙◌, subst}
use lib.Dec.{eqb}
use Rattle.answers.specs.declared.Answer.TheVariants as answer
use Rattle.call_answers.specs.Told.{told}
use Rattle.images.specs.declared.Timer.{Timer}
use Rattle.images.specs.declared.Dpc.{Dpc}
use Rattle.images.specs.declared.DpcPhase.TheVariants.{Idle}
use Rattle.dpc_table.specs.Table.{closed_up}
use Rattle.timers.specs.Release.{release_refusal, timer_release, timers_marked, timers_closed, dpcs_marked, timers_retired}
use Rattle.model.specs.Lists.{keep, any, Mem, given}
use Rattle.model.specs.State.{State, Object}
use Rattle.model.specs.Waits.{timers_of}
use Rattle.model.specs.Dpcs.{address_of, is_active, is_busy, is_queued}
use Rattle.model.specs.Timers.{is_named}
use Rattle.model.specs.Refusal.{is_waited_on, is_periodic_origin, timer_overlapped, dpc_overlapped, timer_held, dpc_held, timer_release_refusal}
use Rattle.model.specs.Reads.{read_refusal, read_answer}
use Rattle.model.specs.Answer.{Done, Refused, gives}
use Rattle.model.specs.Call as call
use Rattle.model.specs.Step as log
use Rattle.model.specs.Step.{step, refusal, effect, with_table, is_retired_timer}
use Rattle.model.specs.Valid.{Valid}
use Rattle.model.proofs.ListLaws.{not-both, any_false, mem-member}
use Rattle.model.proofs.TableLaws.{mem-found}
use Rattle.model.proofs.RowLaws.{passes}
use Rattle.model.proofs.DpcLaws.{idle-not-busy, phase-found}
use Rattle.model.proofs.ObjectLaws.{on-timer₂}
use Rattle.model.proofs.LinkLaws.{timer-mem}
use Rattle.agreement.specs.Records.{holder_of, active_address}
use Rattle.agreement.specs.Agree.{Agree}
use Rattle.agreement.specs.Matches.{Plainly}
use Rattle.agreement.proofs.Matches.{plainly-unless}
use Rattle.agreement_work.proofs.Holders.{has, holder-keep}
use Rattle.agreement_work.proofs.Named.{idle-holds}
use Rattle.agreement_release.proofs.Walks.{first-kept}
use Rattle.agreement_release.proofs.Fewer.{same-named}
use Rattle.agreement_release.proofs.TimerRefusal.{timer-release-is}
use Rattle.agreement_release.proofs.TimersClosed.{sim-timers-closed}
use Rattle.agreement_release.proofs.FewerDpcs.{sim-dpcs-closed}

-- ---- what is given back is not in use

module _ (s : State) (v : Valid s) (address size : ℕ) (e : timer_release_refusal s address size ≡ 0) where
  none-held : (any (timer_held s address size) (timers_of s.dispatcher.objects) ≡ false) × (any (dpc_held s address size) s.dpcs.table ≡ false)
  unfolding timer_release_refusal
  none-held =
      let p = passes (any (timer_held s address size) (timers_of s.dispatcher.objects)) 22 (cond (any (dpc_held s address size) s.dpcs.table) 23 0) e in
      let q = passes (any (dpc_held s address size) s.dpcs.table) 22 0 p.1 in (p.0, q.0)

  -- a timer that goes is not inserted
  idle-timer : (t : Timer) → Mem t (timers_of s.dispatcher.objects) → timer_overlapped address size t ≡ true → t.inserted ≡ false
  unfolding timer_held
  idle-timer t m o = by (timer_overlapped address size t) t.inserted (is_waited_on s 2 t.address) o (any_false (timer_held s address size) (timers_of s.dispatcher.objects) none-held.0 t m)
    where
      by : (p q r : Bool) → p ≡ true → cond p (cond q true (cond r true (is_periodic_origin s.dpcs.table t.address))) false ≡ false → q ≡ false
      by true true r h z = absurd (not-both z)
      by true false r h z = refl
      by false q r h z = absurd (not-both (sym h))

  gone-holds : (b : ℕ) (x : Object) → Mem x s.dispatcher.objects → not (is_retired_timer address size x) ≡ false → has b x ≡ false
  gone-holds b x i = on-timer₂ (λ gone held. not gone ≡ false → held ≡ false) x (λ n z. refl)
      (λ t q z. idle-holds b t (idle-timer t (timer-mem s.dispatcher.objects t (subst (λ (y : Object). Mem y s.dispatcher.objects) q i)) (by (timer_overlapped address size t) z)))
    where
      by : (p : Bool) → not p ≡ false → p ≡ true
      by true q = refl
      by false q = absurd (not-both q)

  -- a DPC that goes is idle
  idle-dpc : (d : Dpc) → Mem d s.dpcs.table → dpc_overlapped address size d ≡ true → d.phase ≡ Idle
  unfolding dpc_held
  idle-dpc d m o = idle-not-busy d.phase (by (dpc_overlapped address size d) (is_busy d.phase) o (any_false (dpc_held s address size) s.dpcs.table none-held.1 d m))
    where
      by : (p q : Bool) → p ≡ true → cond p (cond q true (is_named s.dispatcher.objects d.address)) false ≡ false → q ≡ false
      by true true h z = absurd (not-both z)
      by true false h z = refl
      by false q h z = absurd (not-both (sym h))

  unqueued : (d : Dpc) → Mem d s.dpcs.table → dpc_overlapped address size d ≡ true → Mem d.address s.dpcs.queue → ⊥
  unqueued d m o i =
      not-both (sym (mem-member d.address s.dpcs.queue i) ∙ v.queueing.queued d.address
      ∙ ap is_queued (phase-found s.dpcs.table d.address d (mem-found address_of s.dpcs.table v.queueing.rising d m) ∙ idle-dpc d m o))

  same-active : active_address (keep (λ (d : Dpc). not (dpc_overlapped address size d)) s.dpcs.table) ≡ active_address s.dpcs.table
  same-active = ap (λ (o : Option Dpc). given o 0 (λ (d : Dpc). d.address))
      (first-kept (λ (d : Dpc). is_active d.phase) (λ (d : Dpc). not (dpc_overlapped address size d)) s.dpcs.table (λ d m z. ap is_active (idle-dpc d m (by (dpc_overlapped address size d) z))))
    where
      by : (p : Bool) → not p ≡ false → p ≡ true
      by true q = refl
      by false q = absurd (not-both q)

module _ (w : List ℕ) (s : State) (a : Agree w s) (v : Valid s) (address size : ℕ) where
  sim-retired : timer_release_refusal s address size ≡ 0 → Agree (closed_up (dpcs_marked (timers_closed (timers_marked w address size)) address size)) (log.timers_retired s address size)
  unfolding log.timers_retired
  sim-retired e =
      same-named (closed_up (dpcs_marked w₂ address size)) (log.timers_retired s address size) holder active
      (sim-dpcs-closed w₂ (with_table s (keep (λ o. not (is_retired_timer address size o)) s.dispatcher.objects)) holder active (sim-timers-closed w s holder active a address size) address size (unqueued s v address size e))
      (holder_of (keep (λ o. not (is_retired_timer address size o)) s.dispatcher.objects)) (active_address (keep (λ (d : Dpc). not (dpc_overlapped address size d)) s.dpcs.table))
      (λ d m. holder-keep (λ o. not (is_retired_timer address size o)) s.dispatcher.objects d.address (gone-holds s v address size e d.address))
      (same-active s v address size e)
    where
      w₂ : List ℕ
      w₂ = timers_closed (timers_marked w address size)

      holder : ℕ → ℕ
      holder = holder_of s.dispatcher.objects

      active : ℕ
      active = active_address s.dpcs.table

  pub agree-retire-timers : Plainly (timers_retired w address size) (step (call.RetireTimerBacking address size) s)
  unfolding timers_retired refusal effect
  agree-retire-timers =
      plainly-unless w s a (call.RetireTimerBacking address size) (release_refusal w address size) _ (timer-release-is w s a v address size)
      (λ e. record { answers = refl; agree = sim-retired e })

  pub require-timer-release : told (timer_release w address size) ≡ (step (call.Reads (call.RequireTimerRelease address size)) s).answer
  unfolding timer_release step refusal effect read_refusal read_answer
  require-timer-release =
      ap (λ (n : ℕ). told (cond (eqb n 0) answer.Done (answer.Refused n))) (timer-release-is w s a v address size)
      ∙ by (eqb (timer_release_refusal s address size) 0) (timer_release_refusal s address size)
    where
      by : (b : Bool) (n : ℕ) → told (cond b answer.Done (answer.Refused n)) ≡ (cond b (gives Done s) (gives (Refused n) s)).answer
      by true n = refl
      by false n = refl
