-- The timeouts of an advance.
use Prim.Native.Nat.{ℕ, suc, ◌+◌, ◌≤◌}
use mathlib.Core.List.{List, [], ◌∷◌}
use mathlib.Core.Bool.{Bool, true, false, cond}
use mathlib.Core.Option.{some}
use mathlib.Core.Path.{◌≡◌, refl, sym, ap, ◌∙◌, subst}
use native.Mathlib.Omega.{arith}
use lib.ListN.{get_or, length}
use Rattle.chains.specs.Chain.{find_before, removed}
use Rattle.chains.specs.Ready.{waiters_chain}
use Rattle.wakes.specs.Wake.{made_ready}
use Rattle.advancing.specs.Advance.{overdue, expired, expired_in, expired_all}
use Rattle.model.specs.Lists.{Mem, without}
use Rattle.model.specs.State.{State, Dispatcher, Thread, Status, running, ready, waiting, exited, timeout}
use Rattle.model.specs.Threads.{thread_at, thread_of, status_of, is_waiting, wait_of, ready_again, becomes, woken}
use Rattle.model.specs.Waits.{reached, is_overdue}
use Rattle.model.specs.Valid.{Standing}
use Rattle.model.specs.Step.{with_dispatcher}
use Rattle.model.proofs.ListLaws.{not-both, member-mem, without-mem}
use Rattle.model.proofs.ThreadLaws.{change-other}
use Rattle.agreement_chains.specs.Chains.{Same}
use Rattle.agreement.specs.Agree.{Agreeing}
use Rattle.agreement.proofs.Lookups.{thread-count-is}
use Rattle.agreement.proofs.Chains.{with_waiters, sim-unblock}
use Rattle.agreement_wakes.proofs.Woken.{Blocked, is-blocked, blocked-still, woken-waiters, woken-count, sim-woken}
use Rattle.agreement_wakes.proofs.Timeouts.{overdue-is, Left}
use Rattle.agreement_past.specs.Past.{Beyond}
use Rattle.agreement_past.proofs.Words.{unlinked-kept, waiters-strung}
use Rattle.agreement_past.proofs.Steps.{find-most, ready-kept}
use Rattle.agreement_past.proofs.Running.{own-last}

overdue-waits : (time : ℕ) (x : Status) → reached (wait_of x).deadline time ≡ true → is_waiting x ≡ true
overdue-waits time running e = absurd (not-both (sym e))
overdue-waits time ready e = absurd (not-both (sym e))
overdue-waits time (waiting x) e = refl
overdue-waits time (exited n) e = absurd (not-both (sym e))

left-next : (d : Dispatcher) (n : ℕ) (t : Thread) (ts : List Thread) → Left d n (t ∷ ts) → Left d (suc n) ts
left-next d n t ts l = record {
  all = omega (arith, l.all);
  same = λ i h. l.same (suc i) (omega arith) ∙ ap (thread_at d.threads) (let e : n + suc i ≡ suc n + i = omega arith in e);
  blocked = λ i h. l.blocked i (omega arith);
  listed = λ i h. l.listed i (omega arith);
}

other-status : (d : Dispatcher) (x i : ℕ) → (i ≡ x → ⊥) → thread_at (woken d x timeout).threads i ≡ thread_at d.threads i
unfolding woken becomes
other-status d x i ne = change-other d.threads x (ready_again (thread_of d x) (some timeout)) i ne

left-woken : (d : Dispatcher) (n : ℕ) (ts : List Thread) → Blocked d n → Left d (suc n) ts → Left (woken d n timeout) (suc n) ts
left-woken d n ts b l = record {
  all = omega (arith, l.all, woken-count d n timeout);
  same = λ i h. l.same i h ∙ sym (other-status d n (suc n + i) (λ e. omega arith));
  blocked = λ i h e. blocked-still d n timeout b i (λ q. omega arith) (l.blocked i h (back i h e));
  listed = λ i h e. subst (λ (m : List ℕ). Mem i m) (sym (woken-waiters d n timeout)) (without-mem i n d.waiters (l.listed i h (back i h e)) (λ q. omega arith));
}
  where
    back : (i : ℕ) → suc n ≤ i → is_waiting (status_of (woken d n timeout) i) ≡ true → is_waiting (status_of d i) ≡ true
    back i h e = ap (λ (t : Thread). is_waiting t.status) (sym (other-status d n i (λ q. omega arith))) ∙ e

-- ---- the walk

-- one that is taken out of the waiters and made ready
out-kept : (w : List ℕ) (s : State) (holder : ℕ → ℕ) (active : ℕ) → Agreeing w s holder active → (n : ℕ) → 1 ≤ n → n ≤ length s.dispatcher.threads → Mem n s.dispatcher.waiters
    → Same (Beyond s.limits) w (made_ready (removed w waiters_chain n) n 1)
unfolding removed
out-kept w s holder active a n one le m j r =
    ready-kept s.limits (removed w waiters_chain n) n 1 one (omega (arith, le, a.shape.sizes.threads_fit)) a.shape.sizes.limits.threads
    (own-last (removed w waiters_chain n) (with_dispatcher s (with_waiters s.dispatcher (without n s.dispatcher.waiters))) holder active (sim-unblock w s holder active a n m) n one le) j r
    ∙ unlinked-kept s.limits waiters_chain s.limits.threads (waiters-strung s.limits) w (find_before w waiters_chain n) n
    (find-most w waiters_chain s.limits.threads s.dispatcher.waiters a.waiters.chain (λ y p. omega (arith, (a.shape.waiting_standing.within y p).1, a.shape.sizes.threads_fit)) n) j r

walk_kept : (holder : ℕ → ℕ) (active time : ℕ) (ts : List Thread) (n : ℕ) → 1 ≤ n → (w : List ℕ) (s : State) → Agreeing w s holder active → Left s.dispatcher n ts
    → Same (Beyond s.limits) w (expired_in (length ts) w n time)
unfolding expired_in expired
walk_kept holder active time [] n one w s a l j r = refl
walk_kept holder active time (t ∷ ts) n one w s a l j r =
    subst (λ (k : ℕ). get_or (expired_in (length ts) (expired w n time) k time) j 0 ≡ get_or w j 0) (let e : suc n ≡ n + 1 = omega arith in e)
    (go (is_overdue time t) refl (walk_kept holder active time ts (suc n) (omega arith)))
  where
    d : Dispatcher
    d = s.dispatcher

    le : n ≤ length s.dispatcher.threads
    le = omega (arith, l.all)

    here : t ≡ thread_of s.dispatcher n
    here = l.same 0 (omega arith) ∙ ap (thread_at d.threads) (let e : n + 0 ≡ n = omega arith in e)

    test : overdue w n time ≡ is_overdue time t
    test = overdue-is w s holder active a n one le time ∙ ap (is_overdue time) (sym here)

    go : (b : Bool) → is_overdue time t ≡ b
        → ((w : List ℕ) (s : State) → Agreeing w s holder active → Left s.dispatcher (suc n) ts → Same (Beyond s.limits) w (expired_in (length ts) w (suc n) time))
        → get_or (expired_in (length ts) (expired w n time) (suc n) time) j 0 ≡ get_or w j 0
    go true q ih =
        let e = overdue-waits time (status_of d n) (ap (is_overdue time) (sym here) ∙ q) in
        let b = l.blocked n (omega arith) e in
        subst (λ (c : Bool). get_or (expired_in (length ts) (cond c (made_ready (removed w waiters_chain n) n 1) w) (suc n) time) j 0 ≡ get_or w j 0) (sym (test ∙ q))
        (ih (made_ready (removed w waiters_chain n) n 1) (with_dispatcher s (woken d n timeout))
        (sim-woken (removed w waiters_chain n) s holder active n timeout (sim-unblock w s holder active a n (l.listed n (omega arith) e)) one le b)
        (left-woken d n ts b (left-next d n t ts l)) j r
        ∙ out-kept w s holder active a n one le (l.listed n (omega arith) e) j r)
    go false q ih =
        subst (λ (c : Bool). get_or (expired_in (length ts) (cond c (made_ready (removed w waiters_chain n) n 1) w) (suc n) time) j 0 ≡ get_or w j 0) (sym (test ∙ q))
        (ih w s a (left-next d n t ts l) j r)

pub timeouts-kept : (w : List ℕ) (s : State) (holder : ℕ → ℕ) (active : ℕ) → Agreeing w s holder active
    → Standing s.dispatcher.threads s.dispatcher.placed s.dispatcher.waiters s.dispatcher.current s.dispatcher.sequence → (time : ℕ) → Same (Beyond s.limits) w (expired_all w time)
unfolding expired_all
timeouts-kept w s holder active a st time j r =
    subst (λ (n : ℕ). get_or (expired_in n w 1 time) j 0 ≡ get_or w j 0) (sym (thread-count-is w s holder active a))
    (walk_kept holder active time s.dispatcher.threads 1 (omega arith) w s a (record {
      all = omega arith;
      same = λ i h. ap (thread_at s.dispatcher.threads) (let e : suc i ≡ 1 + i = omega arith in e);
      blocked = λ i h e. is-blocked s.dispatcher st i e;
      listed = λ i h e. member-mem i s.dispatcher.waiters (st.waiters_waiting i ∙ e);
    }) j r)
