-- Threads that are given a priority, yield or are dispatched.
use Prim.Native.Nat.{ℕ, ◌≤◌}
use mathlib.Core.List.{List, [], ◌∷◌}
use mathlib.Core.Bool.{Bool, true, false, cond}
use mathlib.Core.Path.{◌≡◌, refl, sym, ap, ◌∙◌, subst}
use native.Mathlib.Omega.{arith}
use borrow.Author.Tests.{eqb-false}
use lib.Dec.{eqb, ltb}
use lib.ListN.{get_or, set, length}
use Rattle.words.specs.Word.{top_bit}
use Rattle.std.specs.Prelude.{is_some, unwrap_or}
use Rattle.words.specs.Layout as at
use Rattle.answers.specs.declared.Answer.TheVariants as answer
use Rattle.answers.specs.Outcome.{outcome}
use Rattle.chains.specs.Chain.{first_of, find_before}
use Rattle.chains.specs.Ready.{ready_chain, placed_last, unplaced}
use Rattle.threads.specs.declared.Thread as stored
use Rattle.threads.specs.Thread.{thread_of, put_thread}
use Rattle.threading.specs.Thread as words
use Rattle.dispatcher.specs.Dispatch.{ran, told}
use Rattle.dispatcher.specs.Dispatched.{dispatched}
use Rattle.dispatcher.specs.TimerDue.{next_time}
use Rattle.dispatcher.specs.Dispatch as dispatch
use Rattle.model.specs.Lists.{Mem, is_empty, largest}
use Rattle.model.specs.State.{State}
use Rattle.model.specs.Threads as log
use Rattle.model.specs.Valid.{Valid}
use Rattle.model.specs.Step.{with_dispatcher}
use Rattle.model.specs.Refusal.{priority_refusal, not_priority}
use Rattle.model.proofs.SoundLaws.{thread-is}
use Rattle.model.proofs.KeepLaws.{current-known, next-placed}
use Rattle.agreement_chains.specs.Chains.{Same, Holds}
use Rattle.agreement_chains.proofs.Frames.{set-outside}
use Rattle.agreement_chains.proofs.Placed.{in-queue}
use Rattle.agreement.specs.Chains.{queues_of}
use Rattle.agreement.specs.Agree.{Agree, Agreeing}
use Rattle.agreement.proofs.Headers.{with_current, sim-current}
use Rattle.agreement.proofs.Chains.{sim-unplace}
use Rattle.agreement.proofs.Lookups as lookups
use Rattle.agreement_threads.proofs.Statuses.{number-ready, ready-is, ready-placed}
use Rattle.agreement_threads.proofs.Ran.{top-bit-is}
use Rattle.agreement_threads.proofs.Create.{priority-range}
use Rattle.agreement_threads.proofs.Priority.{priority-refusal}
use Rattle.agreement_past.specs.Past.{Beyond}
use Rattle.agreement_past.proofs.Kept.{unless-kept, same}
use Rattle.agreement_past.proofs.Words.{ready-strung}
use Rattle.agreement_past.proofs.Steps.{find-most, first-most, last-most, placed-kept, unplaced-kept, thread-kept, thread-header, ready-kept}

-- the numbers of threads that the words of the queues hold
module _ (w : List ℕ) (s : State) (holder : ℕ → ℕ) (active : ℕ) (a : Agreeing w s holder active) where
  module _ (p : ℕ) (one : 1 ≤ p) (small : p ≤ 31) where
    abbrev queue : List ℕ
    queue = queues_of s.dispatcher.threads s.dispatcher.placed p

    holds : Holds w (ready_chain p) (queues_of s.dispatcher.threads s.dispatcher.placed p)
    holds = a.queues.queues p one small

    within : (y : ℕ) → Mem y (queues_of s.dispatcher.threads s.dispatcher.placed p) → y ≤ s.limits.threads
    within y m = omega (arith, (a.shape.ready_standing.within y (in-queue (λ x. (log.thread_at s.dispatcher.threads x).priority) s.dispatcher.placed p y m).0).1, a.shape.sizes.threads_fit)

    pub ready-last : get_or w (ready_chain p).last 0 ≤ s.limits.threads
    ready-last = subst (λ (n : ℕ). n ≤ s.limits.threads) (sym holds.last) (last-most 0 s.limits.threads queue (omega arith) within)

    pub ready-before : (id : ℕ) → find_before w (ready_chain p) id ≤ s.limits.threads
    ready-before id = find-most w (ready_chain p) s.limits.threads queue holds.chain within id

    pub ready-first : first_of w (ready_chain p) ≤ s.limits.threads
    ready-first = first-most w (ready_chain p) s.limits.threads queue holds.chain within

  -- of a thread that there is
  module _ (id : ℕ) (first : 1 ≤ id) (le : id ≤ length s.dispatcher.threads) where
    pub own-last : get_or w (ready_chain (thread_of w id).priority).last 0 ≤ s.limits.threads
    own-last = subst (λ (t : stored.Thread). get_or w (ready_chain t.priority).last 0 ≤ s.limits.threads) (sym (lookups.thread-is w s holder active a id first le))
        (let f = a.shape.fit id first le in ready-last (log.thread_at s.dispatcher.threads id).priority f.one f.small)

    pub own-before : find_before w (ready_chain (thread_of w id).priority) id ≤ s.limits.threads
    own-before = subst (λ (t : stored.Thread). find_before w (ready_chain t.priority) id ≤ s.limits.threads) (sym (lookups.thread-is w s holder active a id first le))
        (let f = a.shape.fit id first le in ready-before (log.thread_at s.dispatcher.threads id).priority f.one f.small id)

-- ---- the calls

module _ (w : List ℕ) (s : State) (a : Agree w s) (v : Valid s) where
  abbrev R : ℕ → Type 0
  R = Beyond s.limits

  most : s.limits.threads ≤ at.most_threads
  most = a.shape.sizes.limits.threads

  fit : length s.dispatcher.threads ≤ s.limits.threads
  fit = a.shape.sizes.threads_fit

  -- yield_current
  pub yielded-kept : Same (Beyond s.limits) w (words.yielded w).words
  unfolding words.yielded words.yielded_words
  yielded-kept = go (eqb (get_or w at.current 0) 0) refl
    where
      c : ℕ
      c = get_or w at.current 0

      is : get_or w at.current 0 ≡ s.dispatcher.current
      is = a.numbers at.current s.dispatcher.current refl

      made : (s.dispatcher.current ≡ 0 → ⊥) → Same (Beyond s.limits) w (words.yielded_words w (get_or w at.current 0))
      made n j r =
          let k = current-known s v n in
          ready-kept s.limits (set w at.current 0) c (thread_of w c).result (omega (arith, is, k.0)) (omega (arith, is, k.1, fit)) most
          (own-last (set w at.current 0) (with_dispatcher s (with_current s.dispatcher 0)) _ _ (sim-current w s _ _ a 0) c (omega (arith, is, k.0)) (omega (arith, is, k.1))) j r
          ∙ set-outside R w at.current 0 (λ r. omega arith) j r

      go : (b : Bool) → eqb (get_or w at.current 0) 0 ≡ b → Same (Beyond s.limits) w (cond b (outcome (answer.Refused 3) w) (outcome answer.Done (words.yielded_words w (get_or w at.current 0)))).words
      go true e = same R w
      go false e = made (λ z. eqb-false c 0 e (is ∙ z))

  -- priority
  pub prioritized-kept : (id p : ℕ) → Same (Beyond s.limits) w (words.prioritized w id p).words
  unfolding words.prioritized
  prioritized-kept id p = unless-kept R w (words.priority_refusal w id p) _ (λ e. given (sym (priority-refusal w s a v id p) ∙ e))
    where
      moved-kept : 1 ≤ id → id ≤ length s.dispatcher.threads → 1 ≤ p → p ≤ 31 → Same (Beyond s.limits) w (words.moved w id p)
      moved-kept one le from to = unfold words.moved words.with_priority in go (eqb (thread_of w id).state 2) refl
        where
          t : stored.Thread
          t = thread_of w id

          x : stored.Thread
          x = record { priority = p; state = (thread_of w id).state; result = (thread_of w id).result; status = (thread_of w id).status }

          w₁ : List ℕ
          w₁ = unplaced w (thread_of w id).priority id

          -- taken out of its queue: the last of the other is one that there is
          b₁ : Mem id s.dispatcher.placed → get_or (unplaced w (thread_of w id).priority id) (ready_chain p).last 0 ≤ s.limits.threads
          b₁ m = subst (λ (y : stored.Thread). get_or (unplaced w y.priority id) (ready_chain p).last 0 ≤ s.limits.threads) (sym (lookups.thread-is w s _ _ a id one le))
              (ready-last _ _ _ _ (sim-unplace w s _ _ a id m) p from to)

          go : (b : Bool) → eqb (thread_of w id).state 2 ≡ b → Same (Beyond s.limits) w (cond b (placed_last (put_thread (unplaced w (thread_of w id).priority id) id x) p id) (put_thread w id x))
          go false e j r = thread-kept s.limits w id x (omega (arith, le, fit)) most j r
          go true e j r =
              placed-kept s.limits (put_thread w₁ id x) p id (omega (arith, le, fit))
              (subst (λ (n : ℕ). n ≤ s.limits.threads) (sym (thread-header w₁ id x (ready_chain p).last one (omega (arith, le, fit, most)) (ready-strung s.limits p).last)) (b₁ (ready-placed s v id (ready-is (log.status_of s.dispatcher id) (sym (number-ready (log.status_of s.dispatcher id)) ∙ ap (λ (y : stored.Thread). eqb y.state 2) (sym (lookups.thread-is w s _ _ a id one le)) ∙ e))))) j r
              ∙ thread-kept s.limits w₁ id x (omega (arith, le, fit)) most j r
              ∙ unplaced-kept s.limits w (thread_of w id).priority id (own-before w s _ _ a id one le) j r

      given : priority_refusal s id p ≡ 0 → Same (Beyond s.limits) w (words.moved w id p)
      given = unfold priority_refusal in go (not_priority p) (log.is_thread s.dispatcher id) refl refl
        where
          go : (b c : Bool) → not_priority p ≡ b → log.is_thread s.dispatcher id ≡ c → ◌≡◌ {A = ℕ} (cond b 1 (cond c (cond (log.has_exited (log.status_of s.dispatcher id)) 11 0) 2)) 0 → Same (Beyond s.limits) w (words.moved w id p)
          go true c q r e = absurd (omega arith)
          go false true q r e = let k = priority-range p q in let h = thread-is s.dispatcher id r in moved-kept h.0 h.1 k.0 k.1
          go false false q r e = absurd (omega arith)

  -- the first of a queue made current
  ran-kept : (p : ℕ) → 1 ≤ p → p ≤ 31 → Same (Beyond s.limits) w (dispatch.ran w p).words
  unfolding dispatch.ran
  ran-kept p one small j r =
      set-outside R (put_thread (unplaced w p id) id x) at.current id (λ r. omega arith) j r
      ∙ thread-kept s.limits (unplaced w p id) id x (ready-first w s _ _ a p one small) most j r
      ∙ unplaced-kept s.limits w p id (ready-before w s _ _ a p one small id) j r
    where
      id : ℕ
      id = first_of w (ready_chain p)

      x : stored.Thread
      x = record { priority = (thread_of w (first_of w (ready_chain p))).priority; state = 1; result = (thread_of w (first_of w (ready_chain p))).result; status = (thread_of w (first_of w (ready_chain p))).status }

  -- the highest priority that has a thread is one of the 31
  top-range : (top_bit (get_or w at.ready 0) ≡ 0 → ⊥) → (1 ≤ top_bit (get_or w at.ready 0)) × (top_bit (get_or w at.ready 0) ≤ 31)
  top-range n =
      let top = top-bit-is w s a in
      let k = next-placed s v (nonempty s.dispatcher.placed (λ z. n (top ∙ z))) in
      let h = a.shape.ready_standing.within (log.next s.dispatcher) k.0 in
      let f = a.shape.fit (log.next s.dispatcher) h.0 h.1 in
      (omega (arith, top, k.1, f.one), omega (arith, top, k.1, f.small))
    where
      nonempty : (l : List ℕ) → (largest (log.priority_of s.dispatcher) l ≡ 0 → ⊥) → is_empty l ≡ false
      nonempty [] n = absurd (n refl)
      nonempty (x ∷ l) n = refl

  pub dispatched-kept : (out : List ℕ) → Same (Beyond s.limits) w (dispatched w out).words
  unfolding dispatched
  dispatched-kept out =
      go (ltb (length out) (get_or w at.thread_limit 0)) (eqb (get_or w at.current 0) 0) (eqb (top_bit (get_or w at.ready 0)) 0) (is_some (next_time w)) (eqb (dispatch.listed_to w) 0) refl
    where
      p : ℕ
      p = top_bit (get_or w at.ready 0)

      go : (short none idle timed empty : Bool) → eqb (top_bit (get_or w at.ready 0)) 0 ≡ idle
          → Same (Beyond s.limits) w (cond short (told (answer.Refused 27) w out)
          (cond none
          (cond idle
          (cond timed (told (answer.AdvanceTo (unwrap_or (next_time w) 0)) w out)
          (cond empty (told answer.Finished w (dispatch.listed w out)) (told (answer.Deadlocked (dispatch.listed_to w)) w (dispatch.listed w out))))
          (told (ran w (top_bit (get_or w at.ready 0))).answer (ran w (top_bit (get_or w at.ready 0))).words out))
          (told (answer.Run (get_or w at.current 0)) w out))).words
      go true none idle timed empty e j r = refl
      go false false idle timed empty e j r = refl
      go false true false timed empty e j r = let k = top-range (eqb-false p 0 e) in ran-kept p k.0 k.1 j r
      go false true true true empty e j r = refl
      go false true true false true e j r = refl
      go false true true false false e j r = refl
