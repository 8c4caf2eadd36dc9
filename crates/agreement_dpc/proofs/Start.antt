-- `start_dpc`: the same refusals, and the head of the queue running.
use Prim.Native.Nat.{ℕ, ◌+◌, ◌*◌}
use mathlib.Core.List.{List, [], ◌∷◌}
use mathlib.Core.Bool.{Bool, true, false, cond, not, ◌&&◌}
use mathlib.Core.Option.{Option, some}
use mathlib.Core.Logic.{inl}
use mathlib.Core.Path.{◌≡◌, refl, sym, ap, ◌∙◌, subst}
use borrow.Author.Tests.{eqb-true, eqb-false}
use lib.Dec.{eqb}
use lib.ListN.{get_or, set}
use Rattle.words.specs.Layout as at
use Rattle.chains.specs.declared.Chain.{Chain}
use Rattle.chains.specs.Chain.{first_of, unlinked}
use Rattle.images.specs.declared.Dpc.{Dpc}
use Rattle.images.specs.declared.DpcWork.{DpcWork}
use Rattle.images.specs.declared.DpcPhase.{DpcPhase}
use Rattle.images.specs.declared.DpcPhase.TheVariants.{Idle, Queued, Running, Returning}
use Rattle.dpcs.specs.Record as record-words
use Rattle.dpcs.specs.Record.{place_at, number_of, queue_chain}
use Rattle.dpc_queue.specs.Queue.{raised}
use Rattle.dpc_work.specs.Work as words
use Rattle.dpc_work.specs.WorkAnswer as start
use Rattle.call_answers.specs.Told.{told_work}
use Rattle.model.specs.Lists.{Mem, rest, present}
use Rattle.model.specs.State.{State}
use Rattle.model.specs.Dpcs.{address_of, dpc_at, phase_at, rephased, is_idle, is_queued, work_of, active_dpc, started}
use Rattle.model.specs.Refusal.{is_head, start_refusal}
use Rattle.model.specs.Step.{with_dpcs, step, refusal, effect, dpc_started}
use Rattle.model.specs.Call as call
use Rattle.model.specs.Answer.{Outcome, gives, WorkIs}
use Rattle.model.specs.Valid.{Valid}
use Rattle.model.proofs.ListLaws.{not-both, mem-member}
use Rattle.model.proofs.TableLaws.{some_same, found}
use Rattle.model.proofs.DpcLaws.{present-some, phase-found, phase-known}
use Rattle.model.proofs.RowLaws.{passes, holds, and-true}
use Rattle.agreement_tables.specs.Tables.{below}
use Rattle.agreement.specs.Records.{number_in, phase_number, holder_of, active_address}
use Rattle.agreement.specs.Chains.{queue_from}
use Rattle.agreement.specs.Agree.{dpcs_from, Agree, Agreeing}
use Rattle.agreement.specs.Matches.{Matches}
use Rattle.agreement.proofs.Headers.{sim-started, sim-active}
use Rattle.agreement.proofs.Lookups.{dpc-place, queue-chain-is}
use Rattle.agreement.proofs.Dpcs.{sim-phase}
use Rattle.agreement.proofs.Queue.{sim-head}
use Rattle.agreement.proofs.Matches.{step-accepted, step-refused}
use Rattle.agreement_work.proofs.Counts.{raised_is, number_is, place-numbered, few-started}
use Rattle.agreement_work.proofs.Work.{with_records}
use Rattle.agreement_work.proofs.Active.{active-starts}
use Rattle.agreement_dpc.proofs.Found.{dpc-word, dpc-whole, number-known}
use Rattle.agreement_dpc.proofs.Head.{none_first, head_first, active-word}

-- a call that answers work
abbrev pub Starts : words.Started → Outcome → Type 0
Starts o m = Matches (told_work o.answer) o.words m

head-rest : (k : ℕ) (l : List ℕ) → is_head k l ≡ true → l ≡ k ∷ rest l
head-rest k [] e = absurd (not-both (sym e))
head-rest k (x ∷ l) e = ap (λ (y : ℕ). y ∷ l) (eqb-true x k e)

module _ (w : List ℕ) (s : State) (a : Agree w s) (v : Valid s) (k : ℕ) where
  abbrev holder : ℕ → ℕ
  holder = holder_of s.dispatcher.objects

  abbrev active : ℕ
  active = active_address s.dpcs.table

  -- ---- refusals

  abbrev unless22 : Bool → ℕ
  unless22 b = cond b 0 22

  -- asked of the first of the queue
  abbrev asked : ℕ → ℕ
  asked n = cond (eqb n 0) 22 (unless22 (eqb (get_or w (place_at w n + at.address) 0) k))

  -- the code asks the head's address; the log asks also whether the head is queued, as it is
  head-asked : asked (first_of w (queue_chain w)) ≡ unless22 (is_head k s.dpcs.queue && is_queued (phase_at s.dpcs.table k))
  head-asked = go s.dpcs.queue refl
    where
      same : (h : ℕ) (t : List ℕ) → s.dpcs.queue ≡ h ∷ t → (b : Bool) → eqb h k ≡ b → unless22 b ≡ unless22 (b && is_queued (phase_at s.dpcs.table k))
      same h t e true q =
          let m : Mem k s.dpcs.queue = subst (Mem k) (sym e) (inl (sym (eqb-true h k q))) in
          sym (ap unless22 (sym (v.queueing.queued k) ∙ mem-member k s.dpcs.queue m))
      same h t e false q = refl

      head : (h : ℕ) (t : List ℕ) → s.dpcs.queue ≡ h ∷ t → (d : Dpc) → dpc_at s.dpcs.table h ≡ some d → asked (first_of w (queue_chain w)) ≡ unless22 (eqb h k)
      head h t e d f =
          ap asked (head_first w s holder active a h t e d f)
          ∙ ap (λ (b : Bool). cond b 22 (unless22 (eqb (get_or w (place_at w (number_of w h) + at.address) 0) k))) (number-known w s holder active a h ∙ ap (λ (o : Option Dpc). not (present o)) f)
          ∙ ap (λ (m : ℕ). unless22 (eqb m k)) (dpc-word w s holder active a h d f 0 d.address refl ∙ (found address_of s.dpcs.table h d f).1)

      go : (q : List ℕ) → s.dpcs.queue ≡ q → asked (first_of w (queue_chain w)) ≡ unless22 (is_head k q && is_queued (phase_at s.dpcs.table k))
      go [] e = ap asked (none_first w s holder active a e)
      go (h ∷ t) e =
          let d = present-some s.dpcs.table h (a.shape.dpcs.queued h (subst (Mem h) (sym e) (inl refl))) in
          head h t e d.0 d.1 ∙ same h t e (eqb h k) refl

  refusal_is : words.start_refusal w k ≡ refusal (call.StartDpc k) s
  unfolding words.start_refusal refusal start_refusal
  refusal_is =
      ap (λ (b : Bool). cond b (asked (first_of w (queue_chain w))) 22) (active-word w s holder a)
      ∙ ap (λ (n : ℕ). cond (not (present (active_dpc s.dpcs.table))) n 22) head-asked
      ∙ go (present (active_dpc s.dpcs.table))
    where
      go : (b : Bool) → cond (not b) (unless22 (is_head k s.dpcs.queue && is_queued (phase_at s.dpcs.table k))) 22 ≡ cond b 22 (unless22 (is_head k s.dpcs.queue && is_queued (phase_at s.dpcs.table k)))
      go true = refl
      go false = refl

  -- ---- the effect

  module _ (d : Dpc) (e : dpc_at s.dpcs.table k ≡ some d) (x : DpcWork) (q : d.phase ≡ Queued x) (h : s.dpcs.queue ≡ k ∷ rest s.dpcs.queue) where
    first-is : first_of w (queue_chain w) ≡ number_of w k
    first-is = head_first w s holder active a k (rest s.dpcs.queue) h d e

    work-is : record-words.work_at w (place_at w (number_of w k)) ≡ x
    unfolding record-words.dpc_at record-words.phase_at
    work-is =
        some_same (record-words.work_at w (place_at w (number_of w k))) x
        (sym (ap (λ (m : ℕ). work_of (cond (eqb m 0) Idle (cond (eqb m 1) (Queued (record-words.work_at w (place_at w (number_of w k)))) (cond (eqb m 2) (Running (record-words.work_at w (place_at w (number_of w k)))) (Returning (record-words.work_at w (place_at w (number_of w k))))))))
        (dpc-word w s holder active a k d e 1 (phase_number d.phase) refl ∙ ap phase_number q))
        ∙ ap (λ (y : Dpc). work_of y.phase) (dpc-whole w s holder active a k d e) ∙ ap work_of q)

    started-words : words.head_started w (number_of w k) k
        ≡ set (raised (set (unlinked w (queue_from (dpcs_from s.limits)) 0 (number_in s.dpcs.table k)) (dpcs_from s.limits + 32 * below address_of k s.dpcs.table + at.phase) 2) 16) 25 k
    unfolding words.head_started
    started-words =
        ap (λ (p : ℕ). from p (number_of w k) (queue_chain w)) (place-numbered w s holder active a k d e)
        ∙ ap (λ (m : ℕ). from (dpcs_from s.limits + 32 * below address_of k s.dpcs.table) m (queue_chain w)) (number_is w s holder active a k d e)
        ∙ ap (from (dpcs_from s.limits + 32 * below address_of k s.dpcs.table) (number_in s.dpcs.table k)) (queue-chain-is w s holder active a)
      where
        from : ℕ → ℕ → Chain → List ℕ
        from p m c = set (raised (set (unlinked w c 0 m) (p + at.phase) 2) 16) 25 k

    now-running : present (active_dpc s.dpcs.table) ≡ false → Agree (words.head_started w (number_of w k) k) (with_dpcs s (started s.dpcs k x))
    unfolding started
    now-running none-active =
        subst (Agreeing (words.head_started w (number_of w k) k) (with_dpcs s (started s.dpcs k x)) holder)
        (sym (active-starts s.dpcs.table a.shape.dpcs.rising k d e (Running x) refl none-active))
        (subst (λ (l : List ℕ). Agreeing l (with_dpcs s (started s.dpcs k x)) holder k) (sym started-words)
        (sim-active (raised w₂ 16) (with_dpcs s (started s.dpcs k x)) holder active
        (subst (λ (l : List ℕ). Agreeing l (with_dpcs s (started s.dpcs k x)) holder active)
        (sym (raised_is w₂ 16 s.dpcs.counters.started (b₂.numbers at.started s.dpcs.counters.started refl) (few-started s.limits.dpcs s.dpcs v.queueing)))
        (sim-started w₂ s₂ holder active b₂)) k))
      where
        w₁ : List ℕ
        w₁ = unlinked w (queue_from (dpcs_from s.limits)) 0 (number_in s.dpcs.table k)

        w₂ : List ℕ
        w₂ = set w₁ (dpcs_from s.limits + 32 * below address_of k s.dpcs.table + at.phase) 2

        s₁ : State
        s₁ = with_records s s.dpcs.table (rest s.dpcs.queue)

        s₂ : State
        s₂ = with_records s (rephased s.dpcs.table k (Running x)) (rest s.dpcs.queue)

        b₁ : Agreeing w₁ s₁ holder active
        b₁ = sim-head w s holder active a k (rest s.dpcs.queue) h

        b₂ : Agreeing w₂ s₂ holder active
        b₂ = subst (λ (p : ℕ). Agreeing (set w₁ (p + at.phase) 2) s₂ holder active) (dpc-place w₁ s₁ holder active b₁ k d e) (sim-phase w₁ s₁ holder active b₁ k d e (Running x) (inl (sym (ap work_of q))))

    starts : present (active_dpc s.dpcs.table) ≡ false
        → Starts (words.start_outcome (start.Work (record-words.work_at w (place_at w (first_of w (queue_chain w))))) (words.head_started w (first_of w (queue_chain w)) k)) (gives (WorkIs x) (with_dpcs s (started s.dpcs k x)))
    starts none-active =
        subst (λ (n : ℕ). Starts (words.start_outcome (start.Work (record-words.work_at w (place_at w n))) (words.head_started w n k)) (gives (WorkIs x) (with_dpcs s (started s.dpcs k x)))) (sym first-is)
        (record { answers = ap WorkIs work-is; agree = now-running none-active })

  -- ---- the call

  pub agree-start : Starts (words.work_started w k) (step (call.StartDpc k) s)
  unfolding words.work_started effect refusal start_refusal dpc_started
  agree-start = go (eqb (words.start_refusal w k) 0) refl
    where
      begun : words.Started
      begun = words.start_outcome (start.Work (record-words.work_at w (place_at w (first_of w (queue_chain w))))) (words.head_started w (first_of w (queue_chain w)) k)

      by : (p : DpcPhase) → phase_at s.dpcs.table k ≡ p → is_queued p ≡ true → present (active_dpc s.dpcs.table) ≡ false → s.dpcs.queue ≡ k ∷ rest s.dpcs.queue → Starts begun (dpc_started s k p)
      by Idle q z n h = absurd (not-both (sym z))
      by (Queued x) q z n h =
          let d = phase-known s.dpcs.table k (ap is_idle q) in
          starts d.0 d.1 x (sym (phase-found s.dpcs.table k d.0 d.1) ∙ q) h n
      by (Running x) q z n h = absurd (not-both (sym z))
      by (Returning x) q z n h = absurd (not-both (sym z))

      done : start_refusal s k ≡ 0 → Starts begun (dpc_started s k (phase_at s.dpcs.table k))
      done z =
          let r₁ = passes (present (active_dpc s.dpcs.table)) 21 _ z in
          let r₂ = holds (is_head k s.dpcs.queue && is_queued (phase_at s.dpcs.table k)) 21 0 r₁.1 in
          let r₃ = and-true (is_head k s.dpcs.queue) (is_queued (phase_at s.dpcs.table k)) r₂.0 in
          by (phase_at s.dpcs.table k) refl r₃.1 r₁.0 (head-rest k s.dpcs.queue r₃.0)

      go : (b : Bool) → eqb (words.start_refusal w k) 0 ≡ b → Starts (cond b begun (words.start_outcome (start.Refused (words.start_refusal w k)) w)) (step (call.StartDpc k) s)
      go true q =
          let z = sym refusal_is ∙ eqb-true (words.start_refusal w k) 0 q in
          subst (Starts begun) (sym (step-accepted (call.StartDpc k) s z)) (done z)
      go false q =
          subst (Starts (words.start_outcome (start.Refused (words.start_refusal w k)) w))
          (sym (step-refused (call.StartDpc k) s (words.start_refusal w k) (sym refusal_is) (eqb-false (words.start_refusal w k) 0 q)))
          (record { answers = refl; agree = a })
