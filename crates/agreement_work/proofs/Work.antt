-- What happens to DPC work: accepted into the queue, counted as a duplicate, withdrawn.
use Prim.Native.Nat.{ℕ, suc, ◌+◌, ◌*◌, ◌%◌, ◌^◌, ◌≤◌, ◌<◌}
use mathlib.Core.List.{List, [], ◌∷◌, ◌++◌}
use mathlib.Core.Bool.{false}
use mathlib.Core.Option.{Option, some}
use mathlib.Core.Logic.{inr}
use mathlib.Core.Path.{◌≡◌, refl, sym, ap, ◌∙◌, subst}
use native.Mathlib.Omega.{arith}
use lib.ListN.{get_or, set}
use Rattle.words.specs.Layout as at
use Rattle.images.specs.declared.Dpc.{Dpc}
use Rattle.images.specs.declared.DpcOrigin.{DpcOrigin}
use Rattle.images.specs.declared.DpcPhase.{DpcPhase}
use Rattle.images.specs.declared.DpcPhase.TheVariants.{Idle, Queued}
use Rattle.chains.specs.declared.Chain.{Chain}
use Rattle.chains.specs.Chain.{pushed, removed}
use Rattle.objects.specs.Objects.{dpc_found}
use Rattle.dpcs.specs.Record.{place_at, number_of, queue_chain}
use Rattle.dpc_queue.specs.Queue as words
use Rattle.model.specs.Lists.{Mem, without, present, given}
use Rattle.model.specs.State.{State, Dpcs}
use Rattle.model.specs.Dpcs.{address_of, dpc_at, in_phase, put_dpc, rephased, phase_at, is_queued, new_work, accepted, duplicated, withdrawn}
use Rattle.model.specs.Timers.{most}
use Rattle.model.specs.Valid.{Queueing}
use Rattle.model.specs.Step.{with_dpcs}
use Rattle.model.proofs.ListLaws.{member-not}
use Rattle.model.proofs.TableLaws.{found}
use Rattle.model.proofs.DpcLaws.{still-present}
use Rattle.agreement_tables.specs.Tables.{below}
use Rattle.agreement_tables.proofs.Numbers.{below-put-known}
use Rattle.agreement.specs.Records.{number_in}
use Rattle.agreement.specs.Chains.{queue_from}
use Rattle.agreement.specs.Agree.{dpcs_from, Agreeing}
use Rattle.agreement.proofs.Headers.{sim-accepted, sim-duplicate, sim-removed}
use Rattle.agreement.proofs.Lookups.{dpc-place, queue-chain-is}
use Rattle.agreement.proofs.Dpcs.{stored_origin, sim-phase, sim-work}
use Rattle.agreement.proofs.Queue.{sim-enqueue, sim-dequeue}
use Rattle.agreement_work.proofs.Counts.{one_more, raised_is, number_is, place-numbered, place_found}

-- other records or another queue, the rest as it was
abbrev pub with_records : State → List Dpc → List ℕ → State
with_records s table queue = with_dpcs s (record { table = table; queue = queue; counters = s.dpcs.counters })

-- a DPC that is not queued is not in the queue
pub not-queued : (limit : ℕ) (q : Dpcs) → Queueing limit q.table q.queue q.counters → (k : ℕ) → is_queued (phase_at q.table k) ≡ false → Mem k q.queue → ⊥
not-queued limit q v k e = member-not k q.queue (v.queued k ∙ e)

module _ (w : List ℕ) (s : State) (holder : ℕ → ℕ) (active : ℕ) (a : Agreeing w s holder active) where
  -- ---- a duplicate

  pub sim-duplicated : s.dpcs.counters.duplicates < most → Agreeing (words.raised w at.duplicates) (with_dpcs s (duplicated s.dpcs)) holder active
  unfolding duplicated
  sim-duplicated h =
      subst (λ (v : List ℕ). Agreeing v (with_dpcs s (duplicated s.dpcs)) holder active)
      (sym (raised_is w 14 s.dpcs.counters.duplicates (a.numbers at.duplicates s.dpcs.counters.duplicates refl) h))
      (sim-duplicate w s holder active a (omega arith))

  module _ (k : ℕ) (d : Dpc) (e : dpc_at s.dpcs.table k ≡ some d) where
    -- the number of a DPC stays when it enters another phase
    number-stays : (p : DpcPhase) → number_in (rephased s.dpcs.table k p) k ≡ number_in s.dpcs.table k
    number-stays p =
        ap (λ (o : Option Dpc). number_in (given o s.dpcs.table (λ x. put_dpc (in_phase x p) s.dpcs.table)) k) e
        ∙ ap suc (below-put-known address_of (in_phase d p) s.dpcs.table a.shape.dpcs.rising d (ap (dpc_at s.dpcs.table) (found address_of s.dpcs.table k d e).1 ∙ e) k d e)

    -- ---- accepted: new work, the last place in the queue, and a count

    accepted-words : (n first second : ℕ) (o : DpcOrigin) → n ≡ number_of w k → s.dpcs.counters.accepted ≤ 65536
        → words.accepted w n first second (stored_origin o)
        ≡ set (pushed (words.origin_put (words.work_put w (dpc_found w k) (s.dpcs.counters.accepted + 1) first second) (dpc_found w k) (stored_origin o))
        (queue_from (dpcs_from s.limits)) (number_in s.dpcs.table k)) 13 (s.dpcs.counters.accepted + 1)
    unfolding words.accepted
    accepted-words n first second o z h =
        ap (λ (q : ℕ). from q (place_at w n) n (queue_chain w)) number
        ∙ ap (λ (p : ℕ). from (s.dpcs.counters.accepted + 1) p n (queue_chain w)) (ap (place_at w) z ∙ place_found w s holder active a k d e)
        ∙ ap (λ (m : ℕ). from (s.dpcs.counters.accepted + 1) (dpc_found w k) m (queue_chain w)) (z ∙ number_is w s holder active a k d e)
        ∙ ap (from (s.dpcs.counters.accepted + 1) (dpc_found w k) (number_in s.dpcs.table k)) (queue-chain-is w s holder active a)
      where
        from : ℕ → ℕ → ℕ → Chain → List ℕ
        from q p m c = set (pushed (words.origin_put (words.work_put w p q first second) p (stored_origin o)) c m) 13 q

        number : (get_or w at.accepted 0 + 1) % 2 ^ 64 ≡ s.dpcs.counters.accepted + 1
        number = ap (λ (v : ℕ). (v + 1) % 2 ^ 64) (a.numbers at.accepted s.dpcs.counters.accepted refl) ∙ one_more s.dpcs.counters.accepted (omega (arith, h))

    pub sim-accepted-work : (n first second : ℕ) (o : DpcOrigin) → n ≡ number_of w k → (Mem k s.dpcs.queue → ⊥) → s.dpcs.counters.accepted ≤ 65536
        → Agreeing (words.accepted w n first second (stored_origin o)) (with_dpcs s (accepted s.dpcs k first second o)) holder active
    unfolding accepted
    sim-accepted-work n first second o z absent h =
        subst (λ (v : List ℕ). Agreeing v (with_dpcs s (accepted s.dpcs k first second o)) holder active) (sym (accepted-words n first second o z h))
        (sim-accepted w₂ s₂ holder active b₂)
      where
        p : DpcPhase
        p = Queued (new_work s.dpcs first second o)

        w₁ : List ℕ
        w₁ = words.origin_put (words.work_put w (dpc_found w k) (s.dpcs.counters.accepted + 1) first second) (dpc_found w k) (stored_origin o)

        w₂ : List ℕ
        w₂ = pushed w₁ (queue_from (dpcs_from s.limits)) (number_in s.dpcs.table k)

        s₁ : State
        s₁ = with_records s (rephased s.dpcs.table k (Queued (new_work s.dpcs first second o))) s.dpcs.queue

        s₂ : State
        s₂ = with_records s (rephased s.dpcs.table k (Queued (new_work s.dpcs first second o))) (s.dpcs.queue ++ (k ∷ []))

        b₁ : Agreeing w₁ s₁ holder active
        b₁ = sim-work w s holder active a k d e (new_work s.dpcs first second o)

        b₂ : Agreeing w₂ s₂ holder active
        b₂ = subst (λ (m : ℕ). Agreeing (pushed w₁ (queue_from (dpcs_from s.limits)) m) s₂ holder active) (number-stays p)
            (sim-enqueue w₁ s₁ holder active b₁ k (still-present s.dpcs.table a.shape.dpcs.rising k d e p k ∙ ap present e) absent)

    -- ---- withdrawn: out of the queue, idle, and a count

    withdrawn-words : (n : ℕ) → n ≡ number_of w k
        → words.withdrawn w n
        ≡ words.raised (set (removed w (queue_from (dpcs_from s.limits)) (number_in s.dpcs.table k)) (dpcs_from s.limits + 32 * below address_of k s.dpcs.table + at.phase) 0) 15
    unfolding words.withdrawn
    withdrawn-words n z =
        ap (λ (p : ℕ). from p n (queue_chain w)) (ap (place_at w) z ∙ place-numbered w s holder active a k d e)
        ∙ ap (λ (m : ℕ). from (dpcs_from s.limits + 32 * below address_of k s.dpcs.table) m (queue_chain w)) (z ∙ number_is w s holder active a k d e)
        ∙ ap (from (dpcs_from s.limits + 32 * below address_of k s.dpcs.table) (number_in s.dpcs.table k)) (queue-chain-is w s holder active a)
      where
        from : ℕ → ℕ → Chain → List ℕ
        from p m c = words.raised (set (removed w c m) (p + at.phase) 0) 15

    pub sim-withdrawn : (n : ℕ) → n ≡ number_of w k → Mem k s.dpcs.queue → s.dpcs.counters.removed < most
        → Agreeing (words.withdrawn w n) (with_dpcs s (withdrawn s.dpcs k)) holder active
    unfolding withdrawn
    sim-withdrawn n z m h =
        subst (λ (v : List ℕ). Agreeing v (with_dpcs s (withdrawn s.dpcs k)) holder active)
        (sym (withdrawn-words n z ∙ raised_is w₂ 15 s.dpcs.counters.removed (b₂.numbers at.removed s.dpcs.counters.removed refl) h))
        (sim-removed w₂ s₂ holder active b₂)
      where
        w₁ : List ℕ
        w₁ = removed w (queue_from (dpcs_from s.limits)) (number_in s.dpcs.table k)

        w₂ : List ℕ
        w₂ = set w₁ (dpcs_from s.limits + 32 * below address_of k s.dpcs.table + at.phase) 0

        s₁ : State
        s₁ = with_records s s.dpcs.table (without k s.dpcs.queue)

        s₂ : State
        s₂ = with_records s (rephased s.dpcs.table k Idle) (without k s.dpcs.queue)

        b₁ : Agreeing w₁ s₁ holder active
        b₁ = sim-dequeue w s holder active a k m

        b₂ : Agreeing w₂ s₂ holder active
        b₂ = subst (λ (p : ℕ). Agreeing (set w₁ (p + at.phase) 0) s₂ holder active) (dpc-place w₁ s₁ holder active b₁ k d e) (sim-phase w₁ s₁ holder active b₁ k d e Idle (inr refl))
