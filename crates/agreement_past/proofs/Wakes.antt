-- The wake pass, and the calls that run it.
use Prim.Native.Nat.{ℕ, zero, suc, ◌+◌, ◌≤◌}
use mathlib.Core.List.{List, [], ◌∷◌, ◌++◌}
use mathlib.Core.Bool.{Bool, true, false, cond}
use mathlib.Core.Logic.{inl, inr}
use mathlib.Core.Path.{◌≡◌, refl, sym, ap, ◌∙◌, subst}
use native.Mathlib.Omega.{arith}
use borrow.Author.Tests.{ne_eqb}
use lib.Dec.{eqb}
use lib.ListN.{get_or, length}
use Rattle.chains.specs.Chain.{next_of, unlinked}
use Rattle.chains.specs.Ready.{waiters_chain, ready_chain}
use Rattle.threads.specs.Thread.{thread_of, all_of, count_of, places_at}
use Rattle.waits.specs.Lists.{met_in, index_in, takes_own}
use Rattle.wakes.specs.Wake.{made_ready, awoken, grantable, visited, visited_to, passed, awake}
use Rattle.model.specs.Lists.{Mem, Distinct, is_empty, first, without}
use Rattle.model.specs.State.{State, Dispatcher, Wait, WaitResult, satisfied, Named}
use Rattle.model.specs.Threads.{with_objects}
use Rattle.model.specs.Waits.{is_met, index, takes, can_wake}
use Rattle.model.specs.Valid.{Standing}
use Rattle.model.specs.Step.{with_dispatcher, with_table}
use Rattle.model.proofs.ListLaws.{not-both, mem-member, append-mem-left, append-mem-right}
use Rattle.agreement_chains.specs.Chains.{Same, Linked, last_from}
use Rattle.agreement_chains.proofs.Links.{last_snoc, prior_to, prior-split, without-split, not-before, linked-next}
use Rattle.agreement_chains.proofs.Frames.{standing-length, first-is}
use Rattle.agreement.specs.Records.{flag}
use Rattle.agreement.specs.Agree.{Agreeing}
use Rattle.agreement.proofs.Headers.{threads-few}
use Rattle.agreement.proofs.Lookups.{count-is, all-is}
use Rattle.agreement.proofs.Chains.{with_waiters, sim-unlink}
use Rattle.agreement_wakes.proofs.Lists.{met-in, index_in_lem}
use Rattle.agreement_wakes.proofs.Takes.{places_row_lem, sim-takes-own}
use Rattle.agreement_wakes.proofs.Woken.{Blocked, is-blocked, blocked-still, woken-waiters, sim-woken}
use Rattle.agreement_wakes.proofs.Wake.{granted}
use Rattle.agreement_past.specs.Past.{Beyond}
use Rattle.agreement_past.proofs.Words.{sized, clear-beyond, unlinked-kept, waiters-strung}
use Rattle.agreement_past.proofs.Steps.{last-most, ready-kept}
use Rattle.agreement_past.proofs.Running.{own-last}
use Rattle.agreement_past.proofs.Waiting.{takes-own-kept}

-- only who waits for objects that are available can be woken
met : (d : Dispatcher) (x : Wait) → can_wake d x ≡ true → is_met d x.objects x.all ≡ true
met d x e = go (is_empty x.objects) e
  where
    go : (b : Bool) → cond b false (is_met d x.objects x.all) ≡ true → is_met d x.objects x.all ≡ true
    go true q = absurd (not-both (sym q))
    go false q = q

-- ---- one visit

module _ (w : List ℕ) (s : State) (holder : ℕ → ℕ) (active : ℕ) (a : Agreeing w s holder active) (id : ℕ) (one : 1 ≤ id) (le : id ≤ length s.dispatcher.threads)
    (b : Blocked s.dispatcher id) where
  abbrev x : Wait
  x = b.for

  grantable-is : grantable w id ≡ can_wake s.dispatcher b.for
  unfolding grantable
  grantable-is =
      ap (λ (n : ℕ). cond (eqb n 0) false (met_in w w (places_at id) n (all_of w id))) (count-is w s holder active a id one le x b.waits)
      ∙ ap (λ (n : ℕ). cond (eqb (length x.objects) 0) false (met_in w w (places_at id) (length x.objects) n)) (all-is w s holder active a id one le x b.waits)
      ∙ ap (λ (t : Bool). cond (eqb (length x.objects) 0) false t)
      (met-in w s holder active a w (places_at id) x.objects x.all (places_row_lem w s holder active a id one le x b.waits))
      ∙ ap (λ (t : Bool). cond t false (is_met s.dispatcher x.objects x.all)) (empty x.objects)
    where
      empty : (l : List Named) → eqb (length l) 0 ≡ is_empty l
      empty [] = refl
      empty (n ∷ l) = ne_eqb (length (n ∷ l)) 0 (λ q. omega arith)

  -- the thread takes its objects, leaves the chain and becomes ready
  sim-awoken : (before : ℕ) → Mem id s.dispatcher.waiters → before ≡ prior_to 0 s.dispatcher.waiters id → is_met s.dispatcher b.for.objects b.for.all ≡ true
      → Agreeing (awoken w before id) (with_dispatcher s (granted s.dispatcher id b.for)) holder active
  unfolding awoken
  sim-awoken before m e can =
      subst (λ (n : ℕ). Agreeing (words n (all_of w id) (index_in w w (places_at id) n (all_of w id))) after holder active) (sym (count-is w s holder active a id one le x b.waits))
      (subst (λ (n : ℕ). Agreeing (words (length x.objects) n (index_in w w (places_at id) (length x.objects) n)) after holder active) (sym (all-is w s holder active a id one le x b.waits))
      (subst (λ (i : ℕ). Agreeing (words (length x.objects) (flag x.all) i) after holder active)
      (sym (index_in_lem w s holder active a w (places_at id) x.objects x.all (places_row_lem w s holder active a id one le x b.waits)))
      (sim-woken (unlinked took waiters_chain before id) s₁ holder active id (satisfied i) (sim-unlink took s₁ holder active (sim-takes-own w s holder active a id x one le b.waits can) before id m e)
      one le (record { for = x; waits = b.waits; unplaced = b.unplaced; idle = b.idle }))))
    where
      words : ℕ → ℕ → ℕ → List ℕ
      words n all i = made_ready (unlinked (takes_own w id (places_at id) n all) waiters_chain before id) id (i + 2)

      i : ℕ
      i = index s.dispatcher x.objects x.all

      took : List ℕ
      took = takes_own w id (places_at id) (length x.objects) (flag x.all)

      s₁ : State
      s₁ = with_table s (takes s.dispatcher id x.objects x.all)

      after : State
      after = with_dispatcher s (granted s.dispatcher id x)

  -- and that stays within the words
  took-is : takes_own w id (places_at id) (count_of w id) (all_of w id) ≡ takes_own w id (places_at id) (length b.for.objects) (flag b.for.all)
  took-is =
      ap (λ (n : ℕ). takes_own w id (places_at id) n (all_of w id)) (count-is w s holder active a id one le x b.waits)
      ∙ ap (λ (n : ℕ). takes_own w id (places_at id) (length x.objects) n) (all-is w s holder active a id one le x b.waits)

  awoken-kept : (before : ℕ) → before ≤ s.limits.threads → Mem id s.dispatcher.waiters → before ≡ prior_to 0 s.dispatcher.waiters id → is_met s.dispatcher b.for.objects b.for.all ≡ true
      → Same (Beyond s.limits) w (awoken w before id)
  unfolding awoken
  awoken-kept before small m e can j r =
      ready-kept s.limits (unlinked taken waiters_chain before id) id (index_in w w (places_at id) (count_of w id) (all_of w id) + 2) one (omega (arith, le, a.shape.sizes.threads_fit)) a.shape.sizes.limits.threads last j r
      ∙ unlinked-kept s.limits waiters_chain s.limits.threads (waiters-strung s.limits) taken before id small j r
      ∙ takes-own-kept s.limits (Beyond s.limits) (clear-beyond s.limits) w (sized w s holder active a) id (places_at id) (count_of w id) (all_of w id) j r
    where
      taken : List ℕ
      taken = takes_own w id (places_at id) (count_of w id) (all_of w id)

      took : List ℕ
      took = takes_own w id (places_at id) (length b.for.objects) (flag b.for.all)

      s₁ : State
      s₁ = with_table s (takes s.dispatcher id b.for.objects b.for.all)

      last : get_or (unlinked taken waiters_chain before id) (ready_chain (thread_of (unlinked taken waiters_chain before id) id).priority).last 0 ≤ s.limits.threads
      last =
          subst (λ (u : List ℕ). get_or (unlinked u waiters_chain before id) (ready_chain (thread_of (unlinked u waiters_chain before id) id).priority).last 0 ≤ s.limits.threads) (sym took-is)
          (own-last (unlinked took waiters_chain before id) (with_dispatcher s₁ (with_waiters s₁.dispatcher (without id s₁.dispatcher.waiters))) holder active
          (sim-unlink took s₁ holder active (sim-takes-own w s holder active a id x one le b.waits can) before id m e) id one le)

-- ---- the pass

-- one that stands behind `ys` does not stand again behind itself
once-behind : (ys : List ℕ) (x : ℕ) (xs : List ℕ) → Distinct (ys ++ (x ∷ xs)) → Mem x xs → ⊥
once-behind [] x xs d = d.0
once-behind (y ∷ ys) x xs d = once-behind ys x xs d.1

append-one : (ys : List ℕ) (x : ℕ) (xs : List ℕ) → ys ++ (x ∷ xs) ≡ (ys ++ (x ∷ [])) ++ xs
append-one [] x xs = refl
append-one (y ∷ ys) x xs = ap (λ (l : List ℕ). y ∷ l) (append-one ys x xs)

-- the threads `xs` are still to be visited; those before them stay
kept-pass : (holder : ℕ → ℕ) (active : ℕ) (xs : List ℕ) (k : ℕ) (w : List ℕ) (s : State) → Agreeing w s holder active → (ys : List ℕ) → s.dispatcher.waiters ≡ ys ++ xs → length xs ≤ k
    → ((i : ℕ) → Mem i xs → Blocked s.dispatcher i) → Same (Beyond s.limits) w (passed k w (last_from 0 ys) (first xs))
unfolding passed visited visited_to next_of
kept-pass holder active [] zero w s a ys e h b j r = refl
kept-pass holder active [] (suc k) w s a ys e h b j r = refl
kept-pass holder active (x ∷ xs) zero w s a ys e h b j r = absurd (omega arith)
kept-pass holder active (x ∷ xs) (suc k) w s a ys e h b j r =
    subst (λ (t : Bool). get_or (cond t w (passed k (visited w before x) (visited_to w before x) (next_of w waiters_chain x))) j 0 ≡ get_or w j 0) (sym (ne_eqb x 0 (λ q. omega (arith, range.0))))
    (subst (λ (n : ℕ). get_or (passed k (visited w before x) (visited_to w before x) n) j 0 ≡ get_or w j 0) (sym next)
    (go (can_wake d c.for) refl (kept-pass holder active xs k)))
  where
    d : Dispatcher
    d = s.dispatcher

    before : ℕ
    before = last_from 0 ys

    c : Blocked s.dispatcher x
    c = b x (inl refl)

    m : Mem x s.dispatcher.waiters
    m = subst (λ (l : List ℕ). Mem x l) (sym e) (append-mem-right x ys (x ∷ xs) (inl refl))

    range : (1 ≤ x) × (x ≤ length s.dispatcher.threads)
    range = a.shape.waiting_standing.within x m

    once : Distinct (ys ++ (x ∷ xs))
    once = subst Distinct e a.shape.waiting_standing.once

    next : next_of w waiters_chain x ≡ first xs
    next = linked-next w waiters_chain 0 ys x xs (subst (λ (l : List ℕ). Linked w waiters_chain 0 l) e a.waiters.chain)

    prior : last_from 0 ys ≡ prior_to 0 s.dispatcher.waiters x
    prior = sym (ap (λ (l : List ℕ). prior_to 0 l x) e ∙ prior-split 0 ys x xs (not-before ys x xs once))

    small : last_from 0 ys ≤ s.limits.threads
    small = last-most 0 s.limits.threads ys (omega arith)
        (λ y n. omega (arith, (a.shape.waiting_standing.within y (subst (λ (l : List ℕ). Mem y l) (sym e) (append-mem-left y ys (x ∷ xs) n))).1, a.shape.sizes.threads_fit))

    Visited : Bool → Type 0
    Visited t = get_or (passed k (cond t (awoken w before x) w) (cond t before x) (first xs)) j 0 ≡ get_or w j 0

    -- with the rest of the pass given for any words that agree
    go : (t : Bool) → can_wake s.dispatcher c.for ≡ t
        → ((w : List ℕ) (s : State) → Agreeing w s holder active → (ys : List ℕ) → s.dispatcher.waiters ≡ ys ++ xs → length xs ≤ k
        → ((i : ℕ) → Mem i xs → Blocked s.dispatcher i) → Same (Beyond s.limits) w (passed k w (last_from 0 ys) (first xs)))
        → get_or (passed k (visited w before x) (visited_to w before x) (first xs)) j 0 ≡ get_or w j 0
    go true q rest =
        subst Visited (sym (grantable-is w s holder active a x range.0 range.1 c ∙ q))
        (rest (awoken w before x) (with_dispatcher s (granted d x c.for)) (sim-awoken w s holder active a x range.0 range.1 c before m prior (met d c.for q)) ys
        (woken-waiters d₁ x r₁ ∙ ap (without x) e ∙ without-split ys x xs once) (omega arith)
        (λ i n. blocked-still d₁ x r₁ (taken x c) i (λ z. once-behind ys x xs once (subst (λ (j : ℕ). Mem j xs) z n)) (taken i (b i (inr n)))) j r
        ∙ awoken-kept w s holder active a x range.0 range.1 c before small m prior (met d c.for q) j r)
      where
        d₁ : Dispatcher
        d₁ = with_objects d (takes d x c.for.objects c.for.all)

        r₁ : WaitResult
        r₁ = satisfied (index d c.for.objects c.for.all)

        taken : (i : ℕ) → Blocked d i → Blocked d₁ i
        taken i z = record { for = z.for; waits = z.waits; unplaced = z.unplaced; idle = z.idle }
    go false q rest =
        subst Visited (sym (grantable-is w s holder active a x range.0 range.1 c ∙ q))
        (subst (λ (z : ℕ). get_or (passed k w z (first xs)) j 0 ≡ get_or w j 0) (last_snoc 0 ys x)
        (rest w s a (ys ++ (x ∷ [])) (e ∙ append-one ys x xs) (omega arith) (λ i n. b i (inr n)) j r))

-- the whole pass, where the threads stand as their statuses say
pub awake-kept : (w : List ℕ) (s : State) (holder : ℕ → ℕ) (active : ℕ) → Agreeing w s holder active
    → Standing s.dispatcher.threads s.dispatcher.placed s.dispatcher.waiters s.dispatcher.current s.dispatcher.sequence → Same (Beyond s.limits) w (awake w)
unfolding awake
awake-kept w s holder active a st j r =
    subst (λ (i : ℕ). get_or (passed 4096 w 0 i) j 0 ≡ get_or w j 0) (sym (first-is w waiters_chain s.dispatcher.waiters a.waiters))
    (kept-pass holder active s.dispatcher.waiters 4096 w s a [] refl
    (omega (arith, standing-length (length s.dispatcher.threads) s.dispatcher.waiters a.shape.waiting_standing, threads-few w s holder active a))
    (λ i m. is-blocked s.dispatcher st i (sym (st.waiters_waiting i) ∙ mem-member i s.dispatcher.waiters m)) j r)
