-- When to advance to: the deadlines and the counted timers' dues, as the words walk over them and as the log lists them.
use Prim.Native.Nat.{ℕ, zero, suc, ◌+◌, ◌≤◌}
use mathlib.Core.List.{List, [], ◌∷◌}
use mathlib.Core.Bool.{Bool, true, false, cond}
use mathlib.Core.Option.{Option, none, some}
use mathlib.Core.Logic.{◌⊎◌, inl, inr, ⊎_elim}
use mathlib.Core.Path.{◌≡◌, refl, sym, ap, ◌∙◌, subst}
use native.Mathlib.Omega.{arith}
use borrow.Author.Tests.{ne_eqb}
use lib.ListN.{get_or, length}
use Rattle.words.specs.Layout as at
use Rattle.chains.specs.Chain.{next_of}
use Rattle.chains.specs.Ready.{waiters_chain}
use Rattle.dispatcher.specs.Dispatch.{sooner, due_after, soonest_in, soonest, no_due}
use Rattle.images.specs.declared.Timer.{Timer}
use Rattle.model.specs.Lists.{Mem, member, keep, given}
use Rattle.model.specs.State.{State, Dispatcher, Thread, Status, running, ready, waiting, exited, Object, timer}
use Rattle.model.specs.Threads.{thread_at, status_of, is_waiting, wait_of}
use Rattle.model.specs.Waits.{on_timer, timers_of}
use Rattle.model.specs.Step.{deadlines_of, dues_of, counts}
use Rattle.model.proofs.ListLaws.{not-both, mem-member, member-mem}
use Rattle.model.proofs.TableLaws.{some_same, none-some}
use Rattle.model.proofs.ObjectLaws.{on-timer₂}
use Rattle.agreement_chains.specs.Chains.{along}
use Rattle.agreement_chains.proofs.Walks.{along-is}
use Rattle.agreement.specs.Records.{timed}
use Rattle.agreement.specs.Agree.{Agreeing}
use Rattle.agreement.proofs.Headers.{threads-few}
use Rattle.agreement.proofs.Lookups.{timed-is, deadline-is}
use Rattle.agreement_threads.proofs.Least.{Least, Seen, due_of, least_on, least-perhaps, Among, among-mem, mem-among, least_step, least-stop}

-- ---- the log's lists

abbrev pub thread_deadline : Thread → Option ℕ
thread_deadline t = (wait_of t.status).deadline

-- the due of a timer that counts
abbrev pub counted_due : Dispatcher → Object → Option ℕ
counted_due d = on_timer none (λ t. cond (counts d t) (some t.due) none)

pub deadline-among : (l : List Thread) (x : ℕ) → Mem x (deadlines_of l) → Among thread_deadline l x
deadline-among [] x m = m
deadline-among (t ∷ ts) x m = go (thread_deadline t) refl (deadline-among ts x) m
  where
    go : (o : Option ℕ) → thread_deadline t ≡ o → (Mem x (deadlines_of ts) → Among thread_deadline ts x) → Mem x (given o (deadlines_of ts) (λ y. y ∷ deadlines_of ts)) → Among thread_deadline (t ∷ ts) x
    go none e ih m = inr (ih m)
    go (some y) e ih (inl q) = inl (e ∙ ap some (sym q))
    go (some y) e ih (inr m) = inr (ih m)

pub among-deadline : (l : List Thread) (x : ℕ) → Among thread_deadline l x → Mem x (deadlines_of l)
among-deadline [] x m = m
among-deadline (t ∷ ts) x m = go (thread_deadline t) refl (among-deadline ts x) m
  where
    go : (o : Option ℕ) → thread_deadline t ≡ o → (Among thread_deadline ts x → Mem x (deadlines_of ts)) → Among thread_deadline (t ∷ ts) x → Mem x (given o (deadlines_of ts) (λ y. y ∷ deadlines_of ts))
    go none e ih (inl q) = absurd (none-some x (sym e ∙ q))
    go none e ih (inr m) = ih m
    go (some y) e ih (inl q) = inl (sym (some_same y x (sym e ∙ q)))
    go (some y) e ih (inr m) = inr (ih m)

pub due-among : (d : Dispatcher) (l : List Object) (x : ℕ) → Mem x (dues_of (keep (counts d) (timers_of l))) → Among (counted_due d) l x
due-among d [] x = λ m. m
due-among d (o ∷ l) x = on-timer₂ (λ ts due. Mem x (dues_of (keep (counts d) ts)) → (due ≡ some x) ⊎ Among (counted_due d) l x) o (λ n m. inr (due-among d l x m))
    (λ t q. go t (counts d t) refl (due-among d l x))
  where
    go : (t : Timer) (b : Bool) → counts d t ≡ b → (Mem x (dues_of (keep (counts d) (timers_of l))) → Among (counted_due d) l x)
        → Mem x (dues_of (cond b (t ∷ keep (counts d) (timers_of l)) (keep (counts d) (timers_of l)))) → Among (counted_due d) (timer t ∷ l) x
    go t true e ih (inl q) = inl (ap (λ (b : Bool). cond b (some t.due) none) e ∙ ap some (sym q))
    go t true e ih (inr m) = inr (ih m)
    go t false e ih m = inr (ih m)

pub among-due : (d : Dispatcher) (l : List Object) (x : ℕ) → Among (counted_due d) l x → Mem x (dues_of (keep (counts d) (timers_of l)))
among-due d [] x = λ m. m
among-due d (o ∷ l) x = on-timer₂ (λ ts due. (due ≡ some x) ⊎ Among (counted_due d) l x → Mem x (dues_of (keep (counts d) ts))) o
    (λ n. ⊎_elim (λ e. absurd (none-some x e)) (λ m. among-due d l x m)) (λ t q. go t (counts d t) refl (among-due d l x))
  where
    go : (t : Timer) (b : Bool) → counts d t ≡ b → (Among (counted_due d) l x → Mem x (dues_of (keep (counts d) (timers_of l))))
        → Among (counted_due d) (timer t ∷ l) x → Mem x (dues_of (cond b (t ∷ keep (counts d) (timers_of l)) (keep (counts d) (timers_of l))))
    go t true e ih (inl q) = inl (sym (some_same t.due x (sym (ap (λ (b : Bool). cond b (some t.due) none) e) ∙ q)))
    go t true e ih (inr m) = inr (ih m)
    go t false e ih (inl q) = absurd (none-some x (sym (ap (λ (b : Bool). cond b (some t.due) none) e) ∙ q))
    go t false e ih (inr m) = ih m

-- ---- threads by number

pub thread-mem : (l : List Thread) (i : ℕ) → 1 ≤ i → i ≤ length l → Mem (thread_at l i) l
thread-mem l zero a b = absurd (omega arith)
thread-mem [] (suc i) a b = absurd (omega arith)
thread-mem (t ∷ ts) (suc zero) a b = inl refl
thread-mem (t ∷ ts) (suc (suc i)) a b = inr (thread-mem ts (suc i) (omega arith) (omega arith))

pub mem-thread : (l : List Thread) (t : Thread) → Mem t l → (i : ℕ) × (1 ≤ i) × (thread_at l i ≡ t)
mem-thread [] t m = absurd m
mem-thread (u ∷ us) t (inl e) = (1, omega arith, sym e)
mem-thread (u ∷ us) t (inr m) = let r = mem-thread us t m in go r.0 r.1 r.2
  where
    go : (i : ℕ) → 1 ≤ i → thread_at us i ≡ t → (i : ℕ) × (1 ≤ i) × (thread_at (u ∷ us) i ≡ t)
    go zero a e = absurd (omega arith)
    go (suc i) a e = (suc (suc i), omega arith, e)

-- only a waiting thread has a deadline
deadline-waits : (x : Status) (t : ℕ) → (wait_of x).deadline ≡ some t → is_waiting x ≡ true
deadline-waits running t e = absurd (none-some t e)
deadline-waits ready t e = absurd (none-some t e)
deadline-waits (waiting w) t e = refl
deadline-waits (exited n) t e = absurd (none-some t e)

-- ---- the walk along the waiters

module _ (w : List ℕ) (s : State) (holder : ℕ → ℕ) (active : ℕ) (a : Agreeing w s holder active)
    (exact : (i : ℕ) → member i s.dispatcher.waiters ≡ is_waiting (thread_at s.dispatcher.threads i).status) where
  abbrev l : List Thread
  l = s.dispatcher.threads

  -- the deadline of the thread of a number
  abbrev pub deadline_at : ℕ → Option ℕ
  deadline_at i = thread_deadline (thread_at s.dispatcher.threads i)

  -- a waiter's deadline is looked at, if it has one
  looked : (y : ℕ) → Mem y s.dispatcher.waiters → (d : Seen) → due_after w d y ≡ given (deadline_at y) d (λ t. sooner d 1 t)
  unfolding due_after sooner
  looked y m d = go (status_of s.dispatcher y) refl (sym (exact y) ∙ mem-member y s.dispatcher.waiters m)
    where
      h : (1 ≤ y) × (y ≤ length s.dispatcher.threads)
      h = a.shape.waiting_standing.within y m

      by : (o : Option ℕ) → get_or w (at.thread_at y + at.has_deadline) 0 ≡ timed o → ((t : ℕ) → o ≡ some t → get_or w (at.thread_at y + at.deadline) 0 ≡ t)
          → sooner d (get_or w (at.thread_at y + at.has_deadline) 0) (get_or w (at.thread_at y + at.deadline) 0) ≡ given o d (λ t. sooner d 1 t)
      by none e q = ap (λ (n : ℕ). sooner d n (get_or w (at.thread_at y + at.deadline) 0)) e
      by (some t) e q = ap (λ (n : ℕ). sooner d n (get_or w (at.thread_at y + at.deadline) 0)) e ∙ ap (sooner d 1) (q t refl)

      go : (x : Status) → status_of s.dispatcher y ≡ x → is_waiting x ≡ true → sooner d (get_or w (at.thread_at y + at.has_deadline) 0) (get_or w (at.thread_at y + at.deadline) 0) ≡ given (deadline_at y) d (λ t. sooner d 1 t)
      go running e q = absurd (not-both (sym q))
      go ready e q = absurd (not-both (sym q))
      go (exited n) e q = absurd (not-both (sym q))
      go (waiting x) e q =
          by x.deadline (timed-is w s holder active a y h.0 h.1 x e) (deadline-is w s holder active a y h.0 h.1 x e)
          ∙ ap (λ (z : Status). given (wait_of z).deadline d (λ t. sooner d 1 t)) (sym e)

  walked : (P : ℕ → Type 0) (ys : List ℕ) → ((y : ℕ) → Mem y ys → Mem y s.dispatcher.waiters) → (d : Seen) → Least P (due_of d) → Least (λ x. P x ⊎ Among deadline_at ys x) (due_of (along (due_after w) d ys))
  walked P [] all d h = least-stop deadline_at P (due_of d) h
  walked P (y ∷ ys) all d h =
      least_step deadline_at P y ys (due_of (along (due_after w) (due_after w d y) ys))
      (walked (λ x. P x ⊎ (deadline_at y ≡ some x)) ys (λ z m. all z (inr m)) (due_after w d y)
      (subst (λ (e : Seen). Least (λ x. P x ⊎ (deadline_at y ≡ some x)) (due_of e)) (sym (looked y (all y (inl refl)) d)) (least-perhaps P d (deadline_at y) h)))

  soonest-along : soonest w ≡ along (due_after w) no_due s.dispatcher.waiters
  unfolding soonest soonest_in
  soonest-along =
      along-is w waiters_chain (λ k d y. soonest_in k w d y) (due_after w) (λ d. d) (λ k d. refl)
      (λ k d y h. ap (λ (b : Bool). cond b d (soonest_in k w (due_after w d y) (next_of w waiters_chain y))) (ne_eqb y 0 (λ e. omega arith)))
      (length l) 4096 no_due s.dispatcher.waiters a.shape.waiting_standing a.waiters (omega (arith, threads-few w s holder active a))

  pub least-deadline : Least (λ x. Among deadline_at s.dispatcher.waiters x) (due_of (soonest w))
  unfolding no_due
  least-deadline =
      subst (λ (d : Seen). Least (λ x. Among deadline_at s.dispatcher.waiters x) (due_of d)) (sym soonest-along)
      (least_on (λ x. ⊥ ⊎ Among deadline_at s.dispatcher.waiters x) (λ x. Among deadline_at s.dispatcher.waiters x) out (λ x m. inr m)
      (due_of (along (due_after w) no_due s.dispatcher.waiters))
      (walked (λ x. ⊥) s.dispatcher.waiters (λ y m. m) no_due (λ x e. e)))
    where
      out : (x : ℕ) → ⊥ ⊎ Among deadline_at s.dispatcher.waiters x → Among deadline_at s.dispatcher.waiters x
      out x (inl e) = absurd e
      out x (inr m) = m

  -- the waiters' deadlines are the threads'
  pub waiter-thread : (x : ℕ) → Among deadline_at s.dispatcher.waiters x → Mem x (deadlines_of s.dispatcher.threads)
  waiter-thread x m =
      let r = among-mem deadline_at s.dispatcher.waiters x m in
      let h = a.shape.waiting_standing.within r.0 r.1 in
      among-deadline l x (mem-among thread_deadline l (thread_at l r.0) x (thread-mem l r.0 h.0 h.1) r.2)

  pub thread-waiter : (x : ℕ) → Mem x (deadlines_of s.dispatcher.threads) → Among deadline_at s.dispatcher.waiters x
  thread-waiter x m =
      let r = among-mem thread_deadline l x (deadline-among l x m) in
      let q = mem-thread l r.0 r.1 in
      let e : deadline_at q.0 ≡ some x = ap thread_deadline q.2 ∙ r.2 in
      mem-among deadline_at s.dispatcher.waiters q.0 x
      (member-mem q.0 s.dispatcher.waiters (exact q.0 ∙ deadline-waits (thread_at l q.0).status x e)) e
