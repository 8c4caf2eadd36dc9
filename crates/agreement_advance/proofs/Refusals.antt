-- What refuses an advance: the first refusal along the words' list is the first along the log's. The words look at phases as they
-- were before the advance; the log's go on, but no timer's DPC is another's.
use Prim.Native.Nat.{ℕ, ◌+◌, ◌%◌, ◌^◌, ◌≤◌}
use mathlib.Core.List.{List, [], ◌∷◌}
use mathlib.Core.Bool.{Bool, true, false, cond}
use mathlib.Core.Option.{Option, some}
use mathlib.Core.Logic.{inl}
use mathlib.Core.Path.{◌≡◌, refl, sym, ap, ◌∙◌, subst}
use native.Mathlib.Omega.{arith}
use borrow.Author.Tests.{eq-eqb, eqb-true, eqb-false, ne_eqb}
use lib.ListN.{get_or}
use lib.Dec.{eqb}
use Rattle.words.specs.Layout as at
use Rattle.words.specs.Layout.{entry_at}
use Rattle.dpcs.specs.Record.{number_of, place_at}
use Rattle.expiry.specs.Check.{one_refusal, counts, counted_after, counts_at, refusal_in, list_refusal}
use Rattle.expiry.specs.declared.check.Counts.{Counts}
use Rattle.expiry_advance.specs.Advance as words
use Rattle.images.specs.declared.Timer.{Timer}
use Rattle.images.specs.declared.Dpc.{Dpc}
use Rattle.images.specs.declared.DpcPhase.{DpcPhase}
use Rattle.images.specs.declared.DpcPhase.TheVariants.{Idle, Queued, Running, Returning}
use Rattle.model.specs.Lists.{present}
use Rattle.model.specs.State.{State, timer, Dpcs, Policy, unselected, cpu0_dispatch}
use Rattle.model.specs.Waits.{key_of}
use Rattle.model.specs.Dpcs.{dpc_at, phase_at, accepted, duplicated}
use Rattle.model.specs.Timers.{most, due_timers, queue_refusal, expiry_refusal, work_queued, dpcs_after, Expired, expire_one, refusal_of_each}
use Rattle.model.specs.Refusal.{unexpired}
use Rattle.model.specs.Valid.{Valid}
use Rattle.model.proofs.DpcLaws.{present-some, phase-found}
use Rattle.model.proofs.ExpiryLaws.{Expiring, one-expired, Pending, pending-on, due-pending}
use Rattle.model.proofs.KeepTimers.{begun}
use Rattle.agreement_tables.proofs.Lists.{find-nth}
use Rattle.agreement.specs.Row.{Row}
use Rattle.agreement.specs.Records.{active_address, timer_row, phase_number, holder_of}
use Rattle.agreement.specs.Agree.{objects_from, Agreeing, Agree}
use Rattle.agreement.proofs.Lookups.{base-is}
use Rattle.agreement_work.proofs.Counts.{one_more}
use Rattle.agreement_advance.proofs.Order.{Names, timer-row-at, order-names}
use Rattle.agreement_advance.proofs.Check.{dpc-row-at, one-refusal}
use Rattle.agreement_advance.proofs.Apart.{Untouched, untouched-on}
use Rattle.agreement_advance.proofs.Passed.{plain-passed, queuing-passed, work-passed, idle-passed, queued-passed}

-- the counts of DPCs
abbrev pub counts_of : Dpcs → Counts
counts_of q = counts q.counters.accepted q.counters.duplicates

module _ (w : List ℕ) (s : State) (holder : ℕ → ℕ) (active : ℕ) (a : Agreeing w s holder active) (time : ℕ) where
  -- ---- the counts after one timer

  module _ (place : ℕ) (t : Timer) (row : Row w place (timer_row t)) (q : Dpcs) where
    -- where it has a DPC that is as the words say
    counted : (first second : ℕ) → (t.dpc ≡ 0 → ⊥) → (d : Dpc) → dpc_at s.dpcs.table t.dpc ≡ some d → (p : DpcPhase) → d.phase ≡ p → queue_refusal q t p ≡ 0
        → counted_after w place (counts_of q) ≡ counts_of (work_queued q first second time t p)
    unfolding counted_after accepted duplicated
    counted first second has d e p f r = start ∙ go p f r
      where
        dpc-place : ℕ
        dpc-place = place_at w (number_of w t.dpc)

        branches : ℕ → Counts
        branches n = cond (eqb n 0) (counts ((q.counters.accepted + 1) % 2 ^ 64) q.counters.duplicates) (counts q.counters.accepted ((q.counters.duplicates + 1) % 2 ^ 64))

        start : counted_after w place (counts_of q) ≡ branches (phase_number p)
        start =
            ap (λ (n : ℕ). cond (eqb n 0) (counts_of q) (branches (get_or w (place_at w (number_of w n) + at.phase) 0))) (row 8 t.dpc refl)
            ∙ ap (λ (b : Bool). cond b (counts_of q) (branches (get_or w (dpc-place + at.phase) 0))) (ne_eqb t.dpc 0 has)
            ∙ ap branches (dpc-row-at w s holder active a t.dpc d e 1 (phase_number d.phase) refl ∙ ap phase_number f)

        go : (p : DpcPhase) → d.phase ≡ p → queue_refusal q t p ≡ 0 → branches (phase_number p) ≡ counts_of (work_queued q first second time t p)
        go Idle f r = ap (λ (n : ℕ). counts n q.counters.duplicates) (one_more q.counters.accepted (omega (arith, idle-passed time q t r)))
        go (Queued x) f r = ap (counts q.counters.accepted) (one_more q.counters.duplicates (queued-passed time q t x r))
        go (Running x) f r = absurd (omega arith)
        go (Returning x) f r = absurd (omega arith)

    -- where it has none
    counted_none : t.dpc ≡ 0 → counted_after w place (counts_of q) ≡ counts_of q
    unfolding counted_after
    counted_none z = simp (row 8 t.dpc refl, eq-eqb t.dpc 0 z)

    counted_is : (known : (t.dpc ≡ 0 → ⊥) → present (dpc_at s.dpcs.table t.dpc) ≡ true) (same : (t.dpc ≡ 0 → ⊥) → dpc_at q.table t.dpc ≡ dpc_at s.dpcs.table t.dpc)
        → (p : Policy) → expiry_refusal p time q t ≡ 0 → counted_after w place (counts_of q) ≡ counts_of (dpcs_after p time q t)
    unfolding dpcs_after
    counted_is known same unselected r = counted_none (plain-passed time q t r).0
    counted_is known same (cpu0_dispatch first second) r = go (eqb t.dpc 0) refl
      where
        go : (b : Bool) → eqb t.dpc 0 ≡ b → counted_after w place (counts_of q) ≡ counts_of (cond b q (work_queued q first second time t (phase_at q.table t.dpc)))
        go true z = counted_none (eqb-true t.dpc 0 z)
        go false z =
            let has = eqb-false t.dpc 0 z in
            let x = present-some s.dpcs.table t.dpc (known has) in
            counted first second has x.0 x.1 (phase_at q.table t.dpc) (sym (phase-found q.table t.dpc x.0 (same has ∙ x.1)))
            (work-passed time q t (queuing-passed time q t first second r).1 has)

  -- ---- along the list

  along : (is : List ℕ) (ts : List Timer) (e : Expired) → Names s.dispatcher.objects is ts → Expiring s.limits s.dispatcher e → Pending e.objects ts
      → Untouched s.dpcs.table e.dpcs.table ts → refusal_in w (objects_from s.limits) is time (counts_of e.dpcs) ≡ refusal_of_each s.policy time e ts
  unfolding refusal_in expire_one
  along [] [] e n v p h = refl
  along [] (t ∷ ts) e n v p h = absurd n
  along (i ∷ is) [] e n v p h = absurd n
  along (i ∷ is) (t ∷ ts) e n v p h =
      ap (λ (r : ℕ). cond (eqb r 0) (refusal_in w (objects_from s.limits) is time (counted_after w place (counts_of e.dpcs))) r) refused
      ∙ go (eqb (expiry_refusal s.policy time e.dpcs t) 0) refl
      (λ r. along is ts (expire_one s.policy time e t) n.1 (one-expired s.limits s.dispatcher e v s.policy time t p.0 p.1 r) (pending-on s.policy time e t ts p)
      (untouched-on s.limits s.dispatcher s.dpcs.table s.policy time e v t ts p h))
    where
      place : ℕ
      place = entry_at (objects_from s.limits) i

      row : Row w place (timer_row t)
      row = timer-row-at w s holder active a i t n.0

      same : (t.dpc ≡ 0 → ⊥) → dpc_at e.dpcs.table t.dpc ≡ dpc_at s.dpcs.table t.dpc
      same = h t (inl refl)

      known : (t.dpc ≡ 0 → ⊥) → present (dpc_at s.dpcs.table t.dpc) ≡ true
      known has = subst (λ (o : Option Dpc). present o ≡ true) (same has) (v.linked.served t.address (timer t) p.0 p.1 has).0

      small : t.due ≤ most
      small = (a.shape.bounded t.address (timer t) (find-nth key_of s.dispatcher.objects a.shape.rising i (timer t) n.0)).1

      refused : one_refusal w place time (counts_of e.dpcs) ≡ expiry_refusal s.policy time e.dpcs t
      refused = one-refusal w s holder active a place t row e.dpcs time small known same

      go : (b : Bool) → eqb (expiry_refusal s.policy time e.dpcs t) 0 ≡ b
          → (expiry_refusal s.policy time e.dpcs t ≡ 0 → refusal_in w (objects_from s.limits) is time (counts_of (dpcs_after s.policy time e.dpcs t)) ≡ refusal_of_each s.policy time (expire_one s.policy time e t) ts)
          → cond b (refusal_in w (objects_from s.limits) is time (counted_after w place (counts_of e.dpcs))) (expiry_refusal s.policy time e.dpcs t)
          ≡ cond b (refusal_of_each s.policy time (expire_one s.policy time e t) ts) (expiry_refusal s.policy time e.dpcs t)
      go true z ih =
          let r = eqb-true (expiry_refusal s.policy time e.dpcs t) 0 z in
          ap (refusal_in w (objects_from s.limits) is time) (counted_is place t row e.dpcs known same s.policy r) ∙ ih r
      go false z ih = refl

-- ---- the refusal of an advance

pub expiry-refusal-is : (w : List ℕ) (s : State) → Agree w s → Valid s → (time : ℕ)
    → words.expiry_refusal w time ≡ refusal_of_each s.policy time (unexpired s) (due_timers s.policy time s.dispatcher.objects)
unfolding words.expiry_refusal list_refusal counts_at
expiry-refusal-is w s a v time =
    ap (λ (b : ℕ). refusal_in w b (words.order w time) time (counts (get_or w at.accepted 0) (get_or w at.duplicates 0))) (base-is w s holder active a)
    ∙ ap (λ (n : ℕ). refusal_in w (objects_from s.limits) (words.order w time) time (counts n (get_or w at.duplicates 0))) (a.numbers at.accepted s.dpcs.counters.accepted refl)
    ∙ ap (λ (n : ℕ). refusal_in w (objects_from s.limits) (words.order w time) time (counts s.dpcs.counters.accepted n)) (a.numbers at.duplicates s.dpcs.counters.duplicates refl)
    ∙ along w s holder active a time (words.order w time) (due_timers s.policy time s.dispatcher.objects) (unexpired s) (order-names w s holder active a time) (begun s v)
    (due-pending s.policy time s.dispatcher.objects v.sound.rising) (λ u m has. refl)
  where
    holder : ℕ → ℕ
    holder = holder_of s.dispatcher.objects

    active : ℕ
    active = active_address s.dpcs.table
