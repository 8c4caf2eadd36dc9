-- The timeouts: the words go through the threads one by one, the log through those that were overdue at the start.
use Prim.Native.Nat.{ℕ, suc, ◌+◌, ◌≤◌, ◌<◌}
use mathlib.Core.List.{List, [], ◌∷◌}
use mathlib.Core.Bool.{Bool, true, false, cond}
use mathlib.Core.Option.{Option, none, some}
use mathlib.Core.Path.{◌≡◌, refl, sym, ap, ◌∙◌, subst}
use native.Mathlib.Omega.{arith}
use lib.Dec.{eqb, leb}
use lib.ListN.{get_or, length}
use Rattle.words.specs.Layout as at
use Rattle.chains.specs.Chain.{removed}
use Rattle.chains.specs.Ready.{waiters_chain}
use Rattle.wakes.specs.Wake.{made_ready}
use Rattle.advancing.specs.Advance.{overdue, expired, expired_in, expired_all}
use Rattle.model.specs.Lists.{Mem}
use Rattle.model.specs.State.{State, Dispatcher, Thread, Status, running, ready, waiting, exited, Wait, timeout}
use Rattle.model.specs.Threads.{no_one, thread_at, thread_of, status_of, is_waiting, wait_of, ready_again, becomes, woken, numbers_of}
use Rattle.model.specs.Waits.{reached, is_overdue, time_out_each, time_out}
use Rattle.model.specs.Valid.{Standing}
use Rattle.model.specs.Step.{with_dispatcher}
use Rattle.model.proofs.ListLaws.{not-both, member-mem, without-mem}
use Rattle.model.proofs.ThreadLaws.{change-other}
use Rattle.agreement.specs.Records.{status_number, timed}
use Rattle.agreement.specs.Agree.{Agreeing}
use Rattle.agreement.proofs.Lookups.{thread-count-is, thread-word-is, timed-is, deadline-is}
use Rattle.agreement.proofs.Chains.{sim-unblock}
use Rattle.agreement_wakes.proofs.Woken.{Blocked, is-blocked, blocked-still, woken-waiters, woken-count, sim-woken}

-- ---- who is overdue

module _ (w : List ℕ) (s : State) (holder : ℕ → ℕ) (active : ℕ) (a : Agreeing w s holder active) (id : ℕ) (one : 1 ≤ id) (le : id ≤ length s.dispatcher.threads) (time : ℕ) where
  pub overdue-is : overdue w id time ≡ is_overdue time (thread_of s.dispatcher id)
  unfolding overdue
  overdue-is =
      ap (λ (k : ℕ). test k) (thread-word-is w s holder active a id one le 1 (status_number (status_of s.dispatcher id)) refl) ∙ go (status_of s.dispatcher id) refl
    where
      test : ℕ → Bool
      test k = cond (eqb k 3) (cond (eqb (get_or w (at.thread_at id + at.has_deadline) 0) 0) false (leb (get_or w (at.thread_at id + at.deadline) 0) time)) false

      late : Status → Bool
      late y = reached (wait_of y).deadline time

      by : (x : Wait) → status_of s.dispatcher id ≡ waiting x → (o : Option ℕ) → x.deadline ≡ o
          → cond (eqb (timed o) 0) false (leb (get_or w (at.thread_at id + at.deadline) 0) time) ≡ reached o time
      by x e none q = refl
      by x e (some t) q = ap (λ (v : ℕ). leb v time) (deadline-is w s holder active a id one le x e t q)

      go : (y : Status) → status_of s.dispatcher id ≡ y → test (status_number (status_of s.dispatcher id)) ≡ is_overdue time (thread_of s.dispatcher id)
      go running e = ap (λ (y : Status). test (status_number y)) e ∙ sym (ap (λ (y : Status). late y) e)
      go ready e = ap (λ (y : Status). test (status_number y)) e ∙ sym (ap (λ (y : Status). late y) e)
      go (waiting x) e =
          ap (λ (y : Status). test (status_number y)) e
          ∙ ap (λ (v : ℕ). cond (eqb v 0) false (leb (get_or w (at.thread_at id + at.deadline) 0) time)) (timed-is w s holder active a id one le x e)
          ∙ by x e x.deadline refl
          ∙ sym (ap (λ (y : Status). late y) e)
      go (exited n) e = ap (λ (y : Status). test (status_number y)) e ∙ sym (ap (λ (y : Status). late y) e)

overdue-waits : (time : ℕ) (x : Status) → reached (wait_of x).deadline time ≡ true → is_waiting x ≡ true
overdue-waits time running e = absurd (not-both (sym e))
overdue-waits time ready e = absurd (not-both (sym e))
overdue-waits time (waiting x) e = refl
overdue-waits time (exited n) e = absurd (not-both (sym e))

-- ---- those still to be looked at: they are as they were at the start, and those of them that wait stand in the chain

pub record Left (d : Dispatcher) (n : ℕ) (ts : List Thread) : Type 0 where
  pub all : n + length ts ≡ suc (length d.threads)
  pub same : (i : ℕ) → i < length ts → get_or ts i no_one ≡ thread_at d.threads (n + i)
  pub blocked : (i : ℕ) → n ≤ i → is_waiting (status_of d i) ≡ true → Blocked d i
  pub listed : (i : ℕ) → n ≤ i → is_waiting (status_of d i) ≡ true → Mem i d.waiters

left-next : (d : Dispatcher) (n : ℕ) (t : Thread) (ts : List Thread) → Left d n (t ∷ ts) → Left d (suc n) ts
left-next d n t ts l = record {
  all = omega (arith, l.all);
  same = λ i h. l.same (suc i) (omega arith) ∙ ap (thread_at d.threads) (let e : n + suc i ≡ suc n + i = omega arith in e);
  blocked = λ i h. l.blocked i (omega arith);
  listed = λ i h. l.listed i (omega arith);
}

other-status : (d : Dispatcher) (x i : ℕ) → (i ≡ x → ⊥) → thread_at (woken d x timeout).threads i ≡ thread_at d.threads i
unfolding woken becomes
other-status d x i ne = change-other d.threads x (ready_again (thread_of d x) (some timeout)) i ne

left-woken : (d : Dispatcher) (n : ℕ) (ts : List Thread) → Blocked d n → Left d (suc n) ts → Left (woken d n timeout) (suc n) ts
left-woken d n ts b l = record {
  all = omega (arith, l.all, woken-count d n timeout);
  same = λ i h. l.same i h ∙ sym (other-status d n (suc n + i) (λ e. omega arith));
  blocked = λ i h e. blocked-still d n timeout b i (λ q. omega arith) (l.blocked i h (back i h e));
  listed = λ i h e. subst (λ (m : List ℕ). Mem i m) (sym (woken-waiters d n timeout)) (without-mem i n d.waiters (l.listed i h (back i h e)) (λ q. omega arith));
}
  where
    back : (i : ℕ) → suc n ≤ i → is_waiting (status_of (woken d n timeout) i) ≡ true → is_waiting (status_of d i) ≡ true
    back i h e = ap (λ (t : Thread). is_waiting t.status) (sym (other-status d n i (λ q. omega arith))) ∙ e

-- ---- the walk

sim-out : (holder : ℕ → ℕ) (active time : ℕ) (ts : List Thread) (n : ℕ) → 1 ≤ n → (w : List ℕ) (s : State) → Agreeing w s holder active → Left s.dispatcher n ts
    → Agreeing (expired_in (length ts) w n time) (with_dispatcher s (time_out_each s.dispatcher (numbers_of (is_overdue time) n ts))) holder active
unfolding expired_in expired
sim-out holder active time [] n one w s a l = a
sim-out holder active time (t ∷ ts) n one w s a l =
    subst (λ (k : ℕ). Agreeing (expired_in (length ts) (expired w n time) k time) after holder active) (let e : suc n ≡ n + 1 = omega arith in e)
    (go (is_overdue time t) refl (sim-out holder active time ts (suc n) (omega arith)))
  where
    d : Dispatcher
    d = s.dispatcher

    after : State
    after = with_dispatcher s (time_out_each s.dispatcher (numbers_of (is_overdue time) n (t ∷ ts)))

    le : n ≤ length s.dispatcher.threads
    le = omega (arith, l.all)

    here : t ≡ thread_of s.dispatcher n
    here = l.same 0 (omega arith) ∙ ap (thread_at d.threads) (let e : n + 0 ≡ n = omega arith in e)

    rest : List ℕ
    rest = numbers_of (is_overdue time) (suc n) ts

    test : overdue w n time ≡ is_overdue time t
    test = overdue-is w s holder active a n one le time ∙ ap (is_overdue time) (sym here)

    go : (b : Bool) → is_overdue time t ≡ b
        → ((w : List ℕ) (s : State) → Agreeing w s holder active → Left s.dispatcher (suc n) ts
        → Agreeing (expired_in (length ts) w (suc n) time) (with_dispatcher s (time_out_each s.dispatcher (numbers_of (is_overdue time) (suc n) ts))) holder active)
        → Agreeing (expired_in (length ts) (expired w n time) (suc n) time) after holder active
    go true q ih =
        let e = overdue-waits time (status_of d n) (ap (is_overdue time) (sym here) ∙ q) in
        let b = l.blocked n (omega arith) e in
        subst (λ (c : Bool). Agreeing (expired_in (length ts) (cond c (made_ready (removed w waiters_chain n) n 1) w) (suc n) time) after holder active) (sym (test ∙ q))
        (subst (λ (c : Bool). Agreeing (expired_in (length ts) (made_ready (removed w waiters_chain n) n 1) (suc n) time) (with_dispatcher s (time_out_each d (cond c (n ∷ rest) rest))) holder active) (sym q)
        (ih (made_ready (removed w waiters_chain n) n 1) (with_dispatcher s (woken d n timeout))
        (sim-woken (removed w waiters_chain n) s holder active n timeout (sim-unblock w s holder active a n (l.listed n (omega arith) e)) one le b)
        (left-woken d n ts b (left-next d n t ts l))))
    go false q ih =
        subst (λ (c : Bool). Agreeing (expired_in (length ts) (cond c (made_ready (removed w waiters_chain n) n 1) w) (suc n) time) after holder active) (sym (test ∙ q))
        (subst (λ (c : Bool). Agreeing (expired_in (length ts) w (suc n) time) (with_dispatcher s (time_out_each d (cond c (n ∷ rest) rest))) holder active) (sym q)
        (ih w s a (left-next d n t ts l)))

module _ (w : List ℕ) (s : State) (holder : ℕ → ℕ) (active : ℕ) (a : Agreeing w s holder active) where
  pub sim-timeouts : Standing s.dispatcher.threads s.dispatcher.placed s.dispatcher.waiters s.dispatcher.current s.dispatcher.sequence
      → (time : ℕ) → Agreeing (expired_all w time) (with_dispatcher s (time_out time s.dispatcher)) holder active
  unfolding expired_all time_out
  sim-timeouts st time =
      subst (λ (n : ℕ). Agreeing (expired_in n w 1 time) (with_dispatcher s (time_out_each s.dispatcher (numbers_of (is_overdue time) 1 s.dispatcher.threads))) holder active)
      (sym (thread-count-is w s holder active a))
      (sim-out holder active time s.dispatcher.threads 1 (omega arith) w s a (record {
        all = omega arith;
        same = λ i h. ap (thread_at s.dispatcher.threads) (let e : suc i ≡ 1 + i = omega arith in e);
        blocked = λ i h e. is-blocked s.dispatcher st i e;
        listed = λ i h e. member-mem i s.dispatcher.waiters (st.waiters_waiting i ∙ e);
      }))

-- ---- the objects are as they were

each-objects : (xs : List ℕ) (d : Dispatcher) → (time_out_each d xs).objects ≡ d.objects
unfolding woken becomes
each-objects [] d = refl
each-objects (x ∷ xs) d = each-objects xs (woken d x timeout)

pub timeout-objects : (time : ℕ) (d : Dispatcher) → (time_out time d).objects ≡ d.objects
unfolding time_out
timeout-objects time d = each-objects (numbers_of (is_overdue time) 1 d.threads) d
