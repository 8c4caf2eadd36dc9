-- DPC work put into the queue, taken out of it, started and ended.
use Prim.Native.Nat.{ℕ, ◌+◌, ◌-◌, ◌*◌, ◌%◌, ◌^◌, ◌≤◌, ◌<◌}
use mathlib.Core.List.{List}
use mathlib.Core.Bool.{Bool, true, false, cond}
use mathlib.Core.Path.{◌≡◌, refl, sym, ◌∙◌, subst}
use native.Mathlib.Omega.{arith}
use lib.Dec.{eqb, leb, ltb}
use lib.ListN.{get_or, set}
use Rattle.words.specs.Layout as at
use Rattle.words.specs.Layout.{entry_at}
use Rattle.answers.specs.declared.Answer.TheVariants as answer
use Rattle.answers.specs.Outcome.{outcome}
use Rattle.chains.specs.Chain.{link_at, first_of, find_before, pushed, unlinked, removed}
use Rattle.objects.specs.Objects.{dpcs_base}
use Rattle.dpcs.specs.Record.{work_at, place_at, number_of, queue_chain}
use Rattle.dpc_queue.specs.declared.Origin.{Origin}
use Rattle.dpc_queue.specs.Queue.{raised, origin_put, work_put, queued, accepted, withdrawn}
use Rattle.dpc_work.specs.Work as words
use Rattle.dpc_work.specs.WorkAnswer as start
use Rattle.model.specs.Lists.{Mem}
use Rattle.model.specs.State.{Limits, State}
use Rattle.agreement_chains.specs.Chains.{Same, Holds}
use Rattle.agreement_chains.proofs.Frames.{set-outside, pushed-other}
use Rattle.agreement.specs.Records.{numbers_in}
use Rattle.agreement.specs.Agree.{Agree, Agreeing}
use Rattle.agreement.proofs.Places.{Unlinked}
use Rattle.agreement.proofs.Rows.{written-outside}
use Rattle.agreement.proofs.Frames.{numbers-standing}
use Rattle.agreement.proofs.Lookups.{queue-chain-is}
use Rattle.agreement.proofs.Dpcs.{work_stores, put-work, work-stores}
use Rattle.agreement_past.specs.Past.{Beyond}
use Rattle.agreement_past.proofs.Kept.{unless-kept, same}
use Rattle.agreement_past.proofs.Words.{Low, spot-kept, Sized, sized, number-spot, number-most, pushed-kept, unlinked-kept, queue-strung}
use Rattle.agreement_past.proofs.Steps.{set-most, find-most, first-most, last-most}

-- a DPC's record stands behind the words that the header keeps
pub number-high : (w : List ℕ) (n : ℕ) → at.unused ≤ dpcs_base w → at.unused ≤ place_at w n
unfolding place_at entry_at
number-high w n h = go (eqb n 0) (ltb 4096 n) (leb (dpcs_base w) 1000000) (leb (n - 1) 8192)
  where
    go : (b c d e : Bool) → at.unused ≤ cond b at.unused (cond c at.unused (cond d (cond e (dpcs_base w + 32 * (n - 1)) at.unused) at.unused))
    go true c d e = omega arith
    go false true d e = omega arith
    go false false true true = omega arith
    go false false true false = omega arith
    go false false false e = omega arith

-- the places of the queue stand behind the words of the limits and counts
queue-end : (w : List ℕ) → (queue_chain w).last ≡ at.queue_last
unfolding queue_chain
queue-end w = refl

queue-link : (l : Limits) (w : List ℕ) → Sized l w → (m : ℕ) → 6 ≤ link_at (queue_chain w) m
unfolding link_at queue_chain
queue-link l w z m = go (eqb m 0) (leb m 4096)
  where
    go : (b t : Bool) → 6 ≤ cond b at.queue_first (cond t (dpcs_base w - at.queue_link_before + at.record_size * m) at.queue_first)
    go true t = omega arith
    go false true = omega (arith, z.dpcs-at)
    go false false = omega arith

-- ---- steps, of words that have the limits

module _ (l : Limits) (w : List ℕ) (z : Sized l w) where
  abbrev R : ℕ → Type 0
  R = Beyond l

  pub raised-kept : (i : ℕ) → i < at.header_size → Same (Beyond l) w (raised w i)
  unfolding raised
  raised-kept i h = set-outside R w i ((get_or w i 0 + 1) % 2 ^ 64) (λ r. omega arith)

  module _ (n first second : ℕ) (o : Origin) (le : n ≤ l.dpcs) (last : get_or w at.queue_last 0 ≤ l.dpcs) where
    place : ℕ
    place = place_at w n

    work : List ℕ
    work = origin_put (work_put w (place_at w n) ((get_or w at.accepted 0 + 1) % 2 ^ 64) first second) (place_at w n) o

    work-outside : (Q : ℕ → Type 0) → ((k : ℕ) → k < 32 → Q (place_at w n + k) → ⊥) → Same Q w work
    unfolding work
    work-outside Q out =
        subst (λ (v : List ℕ). Same Q w v) (sym (put-work w (place_at w n) ((get_or w at.accepted 0 + 1) % 2 ^ 64) first second o))
        (written-outside Q Unlinked w (place_at w n) (work_stores ((get_or w at.accepted 0 + 1) % 2 ^ 64) first second o) (work-stores ((get_or w at.accepted 0 + 1) % 2 ^ 64) first second o) (λ k d. out k d.small))

    pub accepted-kept : Same (Beyond l) w (accepted w n first second o)
    unfolding accepted work queue_chain
    accepted-kept j r =
        let high = number-high w n (omega (arith, z.dpcs-at)) in
        set-outside R (pushed work (queue_chain w) n) at.accepted ((get_or w at.accepted 0 + 1) % 2 ^ 64) (λ r. omega arith) j r
        ∙ pushed-kept l (queue_chain w) l.dpcs (queue-strung l w z) work n le
        (subst (λ (m : ℕ). m ≤ l.dpcs) (sym (work-outside (λ (i : ℕ). i ≡ at.queue_last) (λ k h q. omega arith) at.queue_last refl)) last) j r
        ∙ work-outside R (λ k h q. omega (arith, (number-spot l w z n le).inside)) j r

    -- the words of the limits and counts stay, and the queue's last is one that there is
    pub accepted-low : Same Low w (accepted w n first second o)
    unfolding accepted work
    accepted-low j r =
        set-outside Low (pushed work (queue_chain w) n) at.accepted ((get_or w at.accepted 0 + 1) % 2 ^ 64) (λ r. omega arith) j r
        ∙ pushed-other work (queue_chain w) n j (λ e. omega (arith, queue-link l w z n)) (λ e. omega (arith, queue-link l w z (get_or work (queue_chain w).last 0))) (λ e. omega (arith, queue-end w))
        ∙ work-outside Low (λ k h q. omega (arith, number-high w n (omega (arith, z.dpcs-at)))) j r

    pub accepted-last : get_or (accepted w n first second o) at.queue_last 0 ≤ l.dpcs
    unfolding accepted work pushed queue_chain
    accepted-last =
        subst (λ (m : ℕ). m ≤ l.dpcs)
        (sym (set-outside (λ (i : ℕ). i ≡ at.queue_last) (pushed work (queue_chain w) n) at.accepted ((get_or w at.accepted 0 + 1) % 2 ^ 64) (λ e. omega arith) at.queue_last refl))
        (set-most x₂ at.queue_last n at.queue_last l.dpcs le
        (set-most x₁ (link_at (queue_chain w) (get_or work at.queue_last 0)) n at.queue_last l.dpcs le
        (set-most work (link_at (queue_chain w) n) 0 at.queue_last l.dpcs (omega arith)
        (subst (λ (m : ℕ). m ≤ l.dpcs) (sym (work-outside (λ (i : ℕ). i ≡ at.queue_last) (λ k h q. omega (arith, number-high w n (omega (arith, z.dpcs-at)))) at.queue_last refl)) last))))
      where
        x₁ : List ℕ
        x₁ = set work (link_at (queue_chain w) n) 0

        x₂ : List ℕ
        x₂ = set (set work (link_at (queue_chain w) n) 0) (link_at (queue_chain w) (get_or work at.queue_last 0)) n

  pub withdrawn-kept : (n : ℕ) → n ≤ l.dpcs → find_before w (queue_chain w) n ≤ l.dpcs → Same (Beyond l) w (withdrawn w n)
  unfolding withdrawn raised removed
  withdrawn-kept n le before j r =
      let w₁ = unlinked w (queue_chain w) (find_before w (queue_chain w) n) n in
      let w₂ = set w₁ (place_at w n + at.phase) 0 in
      set-outside R w₂ at.removed ((get_or w₂ at.removed 0 + 1) % 2 ^ 64) (λ r. omega arith) j r
      ∙ spot-kept l w₁ (place_at w n) at.phase 0 (number-spot l w z n le) (omega arith) j r
      ∙ unlinked-kept l (queue_chain w) l.dpcs (queue-strung l w z) w (find_before w (queue_chain w) n) n before j r

-- ---- the numbers that the queue's words hold

module _ (w : List ℕ) (s : State) (holder : ℕ → ℕ) (active : ℕ) (a : Agreeing w s holder active) where
  holds : Holds w (queue_chain w) (numbers_in s.dpcs.table s.dpcs.queue)
  holds = subst (λ c. Holds w c (numbers_in s.dpcs.table s.dpcs.queue)) (sym (queue-chain-is w s holder active a)) a.work

  within : (y : ℕ) → Mem y (numbers_in s.dpcs.table s.dpcs.queue) → y ≤ s.limits.dpcs
  within y m = omega (arith, ((numbers-standing s.dpcs.table s.dpcs.queue a.shape.dpcs).within y m).1, a.shape.sizes.dpcs_fit)

  pub queue-last : get_or w at.queue_last 0 ≤ s.limits.dpcs
  queue-last = subst (λ (n : ℕ). n ≤ s.limits.dpcs) (sym a.work.last) (last-most 0 s.limits.dpcs (numbers_in s.dpcs.table s.dpcs.queue) (omega arith) within)

  pub queue-before : (n : ℕ) → find_before w (queue_chain w) n ≤ s.limits.dpcs
  queue-before n = find-most w (queue_chain w) s.limits.dpcs (numbers_in s.dpcs.table s.dpcs.queue) holds.chain within n

  pub queue-first : first_of w (queue_chain w) ≤ s.limits.dpcs
  queue-first = first-most w (queue_chain w) s.limits.dpcs (numbers_in s.dpcs.table s.dpcs.queue) holds.chain within

-- ---- the calls

module _ (w : List ℕ) (s : State) (a : Agree w s) where
  abbrev Q : ℕ → Type 0
  Q = Beyond s.limits

  z : Sized s.limits w
  z = sized w s _ _ a

  pub configured-kept : (first second : ℕ) → Same (Beyond s.limits) w (words.configured w first second).words
  unfolding words.configured words.policy_set
  configured-kept first second = unless-kept Q w (words.configure_refusal w first second) _
      (λ e j r. set-outside Q (set (set w at.policy 1) at.timer_argument first) at.timer_argument2 second (λ r. omega arith) j r
      ∙ set-outside Q (set w at.policy 1) at.timer_argument first (λ r. omega arith) j r ∙ set-outside Q w at.policy 1 (λ r. omega arith) j r)

  pub inserted-kept : (address first second : ℕ) → Same (Beyond s.limits) w (words.queue_inserted w address first second).words
  unfolding words.queue_inserted
  inserted-kept address first second = unless-kept Q w (words.insert_refusal w address) _ (λ e. go (queued w (number_of w address)))
    where
      go : (b : Bool) → Same (Beyond s.limits) w (cond b (outcome (answer.Flag false) (raised w at.duplicates)) (outcome (answer.Flag true) (accepted w (number_of w address) first second words.caller_origin))).words
      go true = raised-kept s.limits w z at.duplicates (omega arith)
      go false = accepted-kept s.limits w z (number_of w address) first second words.caller_origin (number-most s.limits w z address) (queue-last w s _ _ a)

  pub removed-kept : (address : ℕ) → Same (Beyond s.limits) w (words.queue_removed w address).words
  unfolding words.queue_removed
  removed-kept address = unless-kept Q w (words.remove_refusal w address) _ (λ e. go (queued w (number_of w address)))
    where
      go : (b : Bool) → Same (Beyond s.limits) w (cond b (outcome (answer.Flag true) (withdrawn w (number_of w address))) (outcome (answer.Flag false) w)).words
      go true = withdrawn-kept s.limits w z (number_of w address) (number-most s.limits w z address) (queue-before w s _ _ a (number_of w address))
      go false = same Q w

  pub started-kept : (address : ℕ) → Same (Beyond s.limits) w (words.work_started w address).words
  unfolding words.work_started words.head_started raised
  started-kept address = go (eqb (words.start_refusal w address) 0)
    where
      n : ℕ
      n = first_of w (queue_chain w)

      w₁ : List ℕ
      w₁ = unlinked w (queue_chain w) 0 (first_of w (queue_chain w))

      w₂ : List ℕ
      w₂ = set (unlinked w (queue_chain w) 0 (first_of w (queue_chain w))) (place_at w (first_of w (queue_chain w)) + at.phase) 2

      go : (b : Bool) → Same (Beyond s.limits) w (cond b (words.start_outcome (start.Work (work_at w (place_at w (first_of w (queue_chain w))))) (words.head_started w (first_of w (queue_chain w)) address)) (words.start_outcome (start.Refused (words.start_refusal w address)) w)).words
      go true j r =
          set-outside Q (set w₂ at.started ((get_or w₂ at.started 0 + 1) % 2 ^ 64)) at.active address (λ r. omega arith) j r
          ∙ set-outside Q w₂ at.started ((get_or w₂ at.started 0 + 1) % 2 ^ 64) (λ r. omega arith) j r
          ∙ spot-kept s.limits w₁ (place_at w n) at.phase 2 (number-spot s.limits w z n (queue-first w s _ _ a)) (omega arith) j r
          ∙ unlinked-kept s.limits (queue_chain w) s.limits.dpcs (queue-strung s.limits w z) w 0 n (omega arith) j r
      go false j r = refl

  pub returned-kept : (address sequence : ℕ) → Same (Beyond s.limits) w (words.work_returned w address sequence).words
  unfolding words.work_returned words.returning raised
  returned-kept address sequence = unless-kept Q w (words.returned_refusal w address sequence) _
      (λ e j r. let n = number_of w address in let w₁ = set w (place_at w n + at.phase) 3 in
      set-outside Q w₁ at.returned ((get_or w₁ at.returned 0 + 1) % 2 ^ 64) (λ r. omega arith) j r
      ∙ spot-kept s.limits w (place_at w n) at.phase 3 (number-spot s.limits w z n (number-most s.limits w z address)) (omega arith) j r)

  pub restored-kept : (address sequence : ℕ) → Same (Beyond s.limits) w (words.work_restored w address sequence).words
  unfolding words.work_restored words.idle raised
  restored-kept address sequence = unless-kept Q w (words.restored_refusal w address sequence) _
      (λ e j r. let n = number_of w address in let w₁ = set w (place_at w n + at.phase) 0 in let w₂ = set w₁ at.restored ((get_or w₁ at.restored 0 + 1) % 2 ^ 64) in
      set-outside Q w₂ at.active 0 (λ r. omega arith) j r ∙ set-outside Q w₁ at.restored ((get_or w₁ at.restored 0 + 1) % 2 ^ 64) (λ r. omega arith) j r
      ∙ spot-kept s.limits w (place_at w n) at.phase 0 (number-spot s.limits w z n (number-most s.limits w z address)) (omega arith) j r)
