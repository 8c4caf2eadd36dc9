-- The wake pass: the words follow the chain and carry the one before; the log goes through the list of waiters.
use Prim.Native.Nat.{ℕ, zero, suc, ◌+◌, ◌≤◌}
use mathlib.Core.List.{List, [], ◌∷◌, ◌++◌}
use mathlib.Core.Bool.{Bool, true, false, cond}
use mathlib.Core.Logic.{inl, inr}
use mathlib.Core.Path.{◌≡◌, refl, sym, ap, ◌∙◌, subst}
use native.Mathlib.Omega.{arith}
use borrow.Author.Tests.{ne_eqb}
use lib.Dec.{eqb}
use lib.ListN.{length}
use Rattle.chains.specs.Chain.{next_of, unlinked}
use Rattle.chains.specs.Ready.{waiters_chain}
use Rattle.threads.specs.Thread.{all_of, places_at}
use Rattle.waits.specs.Lists.{met_in, index_in, takes_own}
use Rattle.wakes.specs.Wake.{made_ready, awoken, grantable, visited, visited_to, passed, awake}
use Rattle.model.specs.Lists.{Mem, Distinct, is_empty, first, without}
use Rattle.model.specs.State.{State, Dispatcher, Status, waiting, Wait, WaitResult, satisfied, Named}
use Rattle.model.specs.Threads.{status_of, wait_of, with_objects, woken}
use Rattle.model.specs.Waits.{is_met, index, takes, can_wake, wake_one, pass, wake}
use Rattle.model.specs.Valid.{Standing}
use Rattle.model.specs.Step.{with_dispatcher, with_table}
use Rattle.model.proofs.ListLaws.{not-both, mem-member, append-mem-right}
use Rattle.agreement_chains.specs.Chains.{Linked, last_from}
use Rattle.agreement_chains.proofs.Links.{last_snoc, prior_to, prior-split, without-split, not-before, linked-next}
use Rattle.agreement_chains.proofs.Frames.{standing-length, first-is}
use Rattle.agreement.specs.Records.{flag}
use Rattle.agreement.specs.Agree.{Agreeing}
use Rattle.agreement.proofs.Headers.{threads-few}
use Rattle.agreement.proofs.Lookups.{count-is, all-is}
use Rattle.agreement.proofs.Chains.{sim-unlink}
use Rattle.agreement_wakes.proofs.Lists.{met-in, index_in_lem}
use Rattle.agreement_wakes.proofs.Takes.{places_row_lem, sim-takes-own}
use Rattle.agreement_wakes.proofs.Woken.{Blocked, is-blocked, blocked-still, woken-waiters, sim-woken}

-- ---- one visit, in the log

abbrev pub granted : Dispatcher → ℕ → Wait → Dispatcher
granted d id x = woken (with_objects d (takes d id x.objects x.all)) id (satisfied (index d x.objects x.all))

pub wake-one : (d : Dispatcher) (id : ℕ) (x : Wait) (b : Bool) → status_of d id ≡ waiting x → can_wake d x ≡ b → wake_one d id ≡ cond b (granted d id x) d
unfolding wake_one
wake-one d id x b e c =
    ap (λ (y : Status). cond (can_wake d (wait_of y)) (granted d id (wait_of y)) d) e ∙ ap (λ (t : Bool). cond t (granted d id x) d) c

-- only who waits for objects that are available can be woken
met : (d : Dispatcher) (x : Wait) → can_wake d x ≡ true → is_met d x.objects x.all ≡ true
met d x e = go (is_empty x.objects) e
  where
    go : (b : Bool) → cond b false (is_met d x.objects x.all) ≡ true → is_met d x.objects x.all ≡ true
    go true q = absurd (not-both (sym q))
    go false q = q

-- ---- one visit, on the words

module _ (w : List ℕ) (s : State) (holder : ℕ → ℕ) (active : ℕ) (a : Agreeing w s holder active) (id : ℕ) (one : 1 ≤ id) (le : id ≤ length s.dispatcher.threads)
    (b : Blocked s.dispatcher id) where
  abbrev x : Wait
  x = b.for

  grantable-is : grantable w id ≡ can_wake s.dispatcher b.for
  unfolding grantable
  grantable-is =
      ap (λ (n : ℕ). cond (eqb n 0) false (met_in w w (places_at id) n (all_of w id))) (count-is w s holder active a id one le x b.waits)
      ∙ ap (λ (n : ℕ). cond (eqb (length x.objects) 0) false (met_in w w (places_at id) (length x.objects) n)) (all-is w s holder active a id one le x b.waits)
      ∙ ap (λ (t : Bool). cond (eqb (length x.objects) 0) false t)
      (met-in w s holder active a w (places_at id) x.objects x.all (places_row_lem w s holder active a id one le x b.waits))
      ∙ ap (λ (t : Bool). cond t false (is_met s.dispatcher x.objects x.all)) (empty x.objects)
    where
      empty : (l : List Named) → eqb (length l) 0 ≡ is_empty l
      empty [] = refl
      empty (n ∷ l) = ne_eqb (length (n ∷ l)) 0 (λ q. omega arith)

  -- the thread takes its objects, leaves the chain and becomes ready
  sim-awoken : (before : ℕ) → Mem id s.dispatcher.waiters → before ≡ prior_to 0 s.dispatcher.waiters id → is_met s.dispatcher b.for.objects b.for.all ≡ true
      → Agreeing (awoken w before id) (with_dispatcher s (granted s.dispatcher id b.for)) holder active
  unfolding awoken
  sim-awoken before m e can =
      subst (λ (n : ℕ). Agreeing (words n (all_of w id) (index_in w w (places_at id) n (all_of w id))) after holder active) (sym (count-is w s holder active a id one le x b.waits))
      (subst (λ (n : ℕ). Agreeing (words (length x.objects) n (index_in w w (places_at id) (length x.objects) n)) after holder active) (sym (all-is w s holder active a id one le x b.waits))
      (subst (λ (i : ℕ). Agreeing (words (length x.objects) (flag x.all) i) after holder active)
      (sym (index_in_lem w s holder active a w (places_at id) x.objects x.all (places_row_lem w s holder active a id one le x b.waits)))
      (sim-woken (unlinked took waiters_chain before id) s₁ holder active id (satisfied i) (sim-unlink took s₁ holder active (sim-takes-own w s holder active a id x one le b.waits can) before id m e)
      one le (record { for = x; waits = b.waits; unplaced = b.unplaced; idle = b.idle }))))
    where
      words : ℕ → ℕ → ℕ → List ℕ
      words n all i = made_ready (unlinked (takes_own w id (places_at id) n all) waiters_chain before id) id (i + 2)

      i : ℕ
      i = index s.dispatcher x.objects x.all

      took : List ℕ
      took = takes_own w id (places_at id) (length x.objects) (flag x.all)

      s₁ : State
      s₁ = with_table s (takes s.dispatcher id x.objects x.all)

      after : State
      after = with_dispatcher s (granted s.dispatcher id x)

-- ---- the pass

-- one that stands behind `ys` does not stand again behind itself
once-behind : (ys : List ℕ) (x : ℕ) (xs : List ℕ) → Distinct (ys ++ (x ∷ xs)) → Mem x xs → ⊥
once-behind [] x xs d = d.0
once-behind (y ∷ ys) x xs d = once-behind ys x xs d.1

append-one : (ys : List ℕ) (x : ℕ) (xs : List ℕ) → ys ++ (x ∷ xs) ≡ (ys ++ (x ∷ [])) ++ xs
append-one [] x xs = refl
append-one (y ∷ ys) x xs = ap (λ (l : List ℕ). y ∷ l) (append-one ys x xs)

-- the threads `xs` are still to be visited; those before them stay
sim-pass : (holder : ℕ → ℕ) (active : ℕ) (xs : List ℕ) (k : ℕ) (w : List ℕ) (s : State) → Agreeing w s holder active → (ys : List ℕ) → s.dispatcher.waiters ≡ ys ++ xs → length xs ≤ k
    → ((i : ℕ) → Mem i xs → Blocked s.dispatcher i) → Agreeing (passed k w (last_from 0 ys) (first xs)) (with_dispatcher s (pass s.dispatcher xs)) holder active
unfolding passed visited visited_to next_of
sim-pass holder active [] zero w s a ys e h b = a
sim-pass holder active [] (suc k) w s a ys e h b = a
sim-pass holder active (x ∷ xs) zero w s a ys e h b = absurd (omega arith)
sim-pass holder active (x ∷ xs) (suc k) w s a ys e h b =
    subst (λ (t : Bool). Agreeing (cond t w (passed k (visited w before x) (visited_to w before x) (next_of w waiters_chain x))) after holder active) (sym (ne_eqb x 0 (λ q. omega (arith, range.0))))
    (subst (λ (n : ℕ). Agreeing (passed k (visited w before x) (visited_to w before x) n) after holder active) (sym next)
    (go (can_wake d c.for) refl (sim-pass holder active xs k)))
  where
    d : Dispatcher
    d = s.dispatcher

    before : ℕ
    before = last_from 0 ys

    after : State
    after = with_dispatcher s (pass s.dispatcher (x ∷ xs))

    c : Blocked s.dispatcher x
    c = b x (inl refl)

    m : Mem x s.dispatcher.waiters
    m = subst (λ (l : List ℕ). Mem x l) (sym e) (append-mem-right x ys (x ∷ xs) (inl refl))

    range : (1 ≤ x) × (x ≤ length s.dispatcher.threads)
    range = a.shape.waiting_standing.within x m

    once : Distinct (ys ++ (x ∷ xs))
    once = subst Distinct e a.shape.waiting_standing.once

    next : next_of w waiters_chain x ≡ first xs
    next = linked-next w waiters_chain 0 ys x xs (subst (λ (l : List ℕ). Linked w waiters_chain 0 l) e a.waiters.chain)

    prior : last_from 0 ys ≡ prior_to 0 s.dispatcher.waiters x
    prior = sym (ap (λ (l : List ℕ). prior_to 0 l x) e ∙ prior-split 0 ys x xs (not-before ys x xs once))

    Visited : Bool → Type 0
    Visited t = Agreeing (passed k (cond t (awoken w before x) w) (cond t before x) (first xs)) after holder active

    -- with the rest of the pass given for any words that agree
    go : (t : Bool) → can_wake s.dispatcher c.for ≡ t
        → ((w : List ℕ) (s : State) → Agreeing w s holder active → (ys : List ℕ) → s.dispatcher.waiters ≡ ys ++ xs → length xs ≤ k
        → ((i : ℕ) → Mem i xs → Blocked s.dispatcher i) → Agreeing (passed k w (last_from 0 ys) (first xs)) (with_dispatcher s (pass s.dispatcher xs)) holder active)
        → Agreeing (passed k (visited w before x) (visited_to w before x) (first xs)) after holder active
    go true q rest =
        subst Visited (sym (grantable-is w s holder active a x range.0 range.1 c ∙ q))
        (subst (λ (z : Dispatcher). Agreeing (passed k (awoken w before x) before (first xs)) (with_dispatcher s (pass z xs)) holder active) (sym (wake-one d x c.for true c.waits q))
        (rest (awoken w before x) (with_dispatcher s (granted d x c.for)) (sim-awoken w s holder active a x range.0 range.1 c before m prior (met d c.for q)) ys
        (woken-waiters d₁ x r ∙ ap (without x) e ∙ without-split ys x xs once) (omega arith)
        (λ i n. blocked-still d₁ x r (taken x c) i (λ z. once-behind ys x xs once (subst (λ (j : ℕ). Mem j xs) z n)) (taken i (b i (inr n))))))
      where
        d₁ : Dispatcher
        d₁ = with_objects d (takes d x c.for.objects c.for.all)

        r : WaitResult
        r = satisfied (index d c.for.objects c.for.all)

        taken : (i : ℕ) → Blocked d i → Blocked d₁ i
        taken i z = record { for = z.for; waits = z.waits; unplaced = z.unplaced; idle = z.idle }
    go false q rest =
        subst Visited (sym (grantable-is w s holder active a x range.0 range.1 c ∙ q))
        (subst (λ (z : Dispatcher). Agreeing (passed k w x (first xs)) (with_dispatcher s (pass z xs)) holder active) (sym (wake-one d x c.for false c.waits q))
        (subst (λ (z : ℕ). Agreeing (passed k w z (first xs)) (with_dispatcher s (pass d xs)) holder active) (last_snoc 0 ys x)
        (rest w s a (ys ++ (x ∷ [])) (e ∙ append-one ys x xs) (omega arith) (λ i n. b i (inr n)))))

module _ (w : List ℕ) (s : State) (holder : ℕ → ℕ) (active : ℕ) (a : Agreeing w s holder active) where
  -- where the threads stand as their statuses say, as in every valid state and in the midst of a call; the objects may be as they will
  pub sim-wake : Standing s.dispatcher.threads s.dispatcher.placed s.dispatcher.waiters s.dispatcher.current s.dispatcher.sequence
      → Agreeing (awake w) (with_dispatcher s (wake s.dispatcher)) holder active
  unfolding awake wake
  sim-wake st =
      subst (λ (i : ℕ). Agreeing (passed 4096 w 0 i) (with_dispatcher s (pass s.dispatcher s.dispatcher.waiters)) holder active)
      (sym (first-is w waiters_chain s.dispatcher.waiters a.waiters))
      (sim-pass holder active s.dispatcher.waiters 4096 w s a [] refl
      (omega (arith, standing-length (length s.dispatcher.threads) s.dispatcher.waiters a.shape.waiting_standing, threads-few w s holder active a))
      (λ i m. is-blocked s.dispatcher st i (sym (st.waiters_waiting i) ∙ mem-member i s.dispatcher.waiters m)))
