-- `remove_queue_dpc`: the same refusal, and queued work withdrawn.
use Prim.Native.Nat.{ℕ}
use mathlib.Core.List.{List}
use mathlib.Core.Bool.{Bool, true, false, cond, not}
use mathlib.Core.Option.{some}
use mathlib.Core.Path.{◌≡◌, refl, sym, ap, ◌∙◌, subst}
use lib.Dec.{eqb}
use Rattle.images.specs.declared.Dpc.{Dpc}
use Rattle.images.specs.declared.DpcPhase.{DpcPhase}
use Rattle.images.specs.declared.DpcPhase.TheVariants.{Idle, Queued, Running, Returning}
use Rattle.dpcs.specs.Record.{number_of}
use Rattle.dpc_queue.specs.Queue as queue
use Rattle.dpc_work.specs.Work as words
use Rattle.answers.specs.Outcome as code
use Rattle.answers.specs.declared.Answer.TheVariants as answer
use Rattle.model.specs.Lists.{present}
use Rattle.model.specs.State.{State}
use Rattle.model.specs.Dpcs.{dpc_at, phase_at, is_queued, is_active, withdrawn}
use Rattle.model.specs.Refusal.{unknown_dpc}
use Rattle.model.specs.Step.{with_dpcs, step, refusal, effect, dpc_removed}
use Rattle.model.specs.Call as call
use Rattle.model.specs.Answer.{gives, Flag}
use Rattle.model.specs.Valid.{Valid}
use Rattle.model.proofs.ListLaws.{member-mem}
use Rattle.model.proofs.DpcLaws.{present-some, phase-found}
use Rattle.model.proofs.RowLaws.{holds}
use Rattle.agreement.specs.Records.{phase_number, holder_of, active_address}
use Rattle.agreement.specs.Agree.{Agree, Agreeing}
use Rattle.agreement.specs.Matches.{Plainly}
use Rattle.agreement.proofs.Matches.{plainly-unless}
use Rattle.agreement_work.proofs.Counts.{few-removed}
use Rattle.agreement_work.proofs.Work.{sim-withdrawn}
use Rattle.agreement_work.proofs.Active.{active-same}
use Rattle.agreement_dpc.proofs.Found.{number-known, dpc-word}

module _ (w : List ℕ) (s : State) (a : Agree w s) (v : Valid s) (k : ℕ) where
  abbrev holder : ℕ → ℕ
  holder = holder_of s.dispatcher.objects

  abbrev active : ℕ
  active = active_address s.dpcs.table

  refusal_is : words.remove_refusal w k ≡ refusal (call.RemoveQueueDpc k) s
  unfolding words.remove_refusal refusal unknown_dpc
  refusal_is = ap (λ (b : Bool). cond b 2 0) (number-known w s holder active a k) ∙ go (present (dpc_at s.dpcs.table k))
    where
      go : (b : Bool) → ◌≡◌ {A = ℕ} (cond (not b) 2 0) (cond b 0 2)
      go true = refl
      go false = refl

  module _ (d : Dpc) (e : dpc_at s.dpcs.table k ≡ some d) where
    work-withdrawn : is_queued d.phase ≡ true → is_active d.phase ≡ false → Agree (queue.withdrawn w (number_of w k)) (with_dpcs s (withdrawn s.dpcs k))
    unfolding withdrawn
    work-withdrawn t calm =
        subst (Agreeing (queue.withdrawn w (number_of w k)) (with_dpcs s (withdrawn s.dpcs k)) holder)
        (sym (active-same s.dpcs.table a.shape.dpcs.rising k d e Idle (sym calm)))
        (sim-withdrawn w s holder active a k d e (number_of w k) refl
        (member-mem k s.dpcs.queue (v.queueing.queued k ∙ ap is_queued (phase-found s.dpcs.table k d e) ∙ t)) (few-removed s.limits.dpcs s.dpcs v.queueing))

    removed : (p : DpcPhase) → d.phase ≡ p
        → Plainly (cond (eqb (phase_number p) 1) (code.outcome (answer.Flag true) (queue.withdrawn w (number_of w k))) (code.outcome (answer.Flag false) w))
        (cond (is_queued p) (gives (Flag true) (with_dpcs s (withdrawn s.dpcs k))) (gives (Flag false) s))
    removed Idle q = record { answers = refl; agree = a }
    removed (Queued x) q = record { answers = refl; agree = work-withdrawn (ap is_queued q) (ap is_active q) }
    removed (Running x) q = record { answers = refl; agree = a }
    removed (Returning x) q = record { answers = refl; agree = a }

  pub agree-remove : Plainly (words.queue_removed w k) (step (call.RemoveQueueDpc k) s)
  unfolding words.queue_removed effect refusal unknown_dpc dpc_removed queue.queued
  agree-remove =
      plainly-unless w s a (call.RemoveQueueDpc k) (words.remove_refusal w k)
      (cond (queue.queued w (number_of w k)) (code.outcome (answer.Flag true) (queue.withdrawn w (number_of w k))) (code.outcome (answer.Flag false) w)) refusal_is done
    where
      done : unknown_dpc s k ≡ 0 → Plainly (cond (queue.queued w (number_of w k)) (code.outcome (answer.Flag true) (queue.withdrawn w (number_of w k))) (code.outcome (answer.Flag false) w)) (dpc_removed s k)
      done z =
          let d = present-some s.dpcs.table k (holds (present (dpc_at s.dpcs.table k)) 1 0 z).0 in
          subst (λ (m : ℕ). Plainly (cond (eqb m 1) (code.outcome (answer.Flag true) (queue.withdrawn w (number_of w k))) (code.outcome (answer.Flag false) w)) (dpc_removed s k))
          (sym (dpc-word w s holder active a k d.0 d.1 1 (phase_number d.0.phase) refl ∙ ap phase_number (sym (phase-found s.dpcs.table k d.0 d.1))))
          (removed d.0 d.1 (phase_at s.dpcs.table k) (sym (phase-found s.dpcs.table k d.0 d.1)))
