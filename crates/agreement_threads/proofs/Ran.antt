-- The first of the highest ready queue made current, on the words and in the log.
use Prim.Native.Nat.{ℕ, ◌≤◌}
use mathlib.Core.List.{List, []}
use mathlib.Core.Bool.{false}
use mathlib.Core.Path.{◌≡◌, refl, sym, ap, ◌∙◌, subst}
use lib.ListN.{get_or, set}
use Rattle.words.specs.Layout as at
use Rattle.answers.specs.Outcome.{outcome}
use Rattle.answers.specs.declared.Answer.TheVariants as answer
use Rattle.words.specs.Word.{top_bit}
use Rattle.threads.specs.declared.Thread as stored
use Rattle.threads.specs.Thread as words-thread
use Rattle.threads.specs.Thread.{put_thread}
use Rattle.chains.specs.Chain.{first_of}
use Rattle.chains.specs.Ready.{ready_chain, unplaced}
use Rattle.dispatcher.specs.Dispatch as words
use Rattle.model.specs.Lists.{Mem, is_empty, without, largest}
use Rattle.model.specs.State.{State, Dispatcher, running, ready}
use Rattle.model.specs.Threads.{thread_of, status_of, priority_of, change_at, with_thread, with_status, next, ran}
use Rattle.model.specs.Answer.{Outcome, Run, gives}
use Rattle.model.specs.Step.{with_dispatcher}
use Rattle.model.specs.Valid.{Valid}
use Rattle.model.proofs.ListLaws.{not-both, without-absent, mem-without}
use Rattle.model.proofs.ChoiceLaws.{right-next}
use Rattle.model.proofs.KeepLaws.{next-placed}
use Rattle.agreement_chains.proofs.Top.{top-is, none-ready, some-ready}
use Rattle.agreement.specs.Records.{exit_status, result_number}
use Rattle.agreement.specs.Agree.{Agree}
use Rattle.agreement.specs.Matches.{Plainly}
use Rattle.agreement.proofs.Headers.{with_current, sim-current}
use Rattle.agreement.proofs.Threads.{stored_of, sim-thread}
use Rattle.agreement.proofs.Lookups.{thread-is}
use Rattle.agreement.proofs.Chains.{with_placed, sim-unplace}
use Rattle.agreement_threads.proofs.Statuses.{becomes-as, ready-unblocked}

module _ (w : List ℕ) (s : State) (a : Agree w s) where
  abbrev top : ℕ
  top = largest (priority_of s.dispatcher) s.dispatcher.placed

  pos : (y : ℕ) → Mem y s.dispatcher.placed → 1 ≤ y
  pos y m = (a.shape.ready_standing.within y m).0

  range : (y : ℕ) → Mem y s.dispatcher.placed → (1 ≤ priority_of s.dispatcher y) × (priority_of s.dispatcher y ≤ 31)
  range y m = let h = a.shape.ready_standing.within y m in let f = a.shape.fit y h.0 h.1 in (f.one, f.small)

  -- the ready word's top bit
  pub top-bit-is : top_bit (get_or w at.ready 0) ≡ largest (priority_of s.dispatcher) s.dispatcher.placed
  top-bit-is = top-is w (priority_of s.dispatcher) s.dispatcher.placed pos range a.queues

  pub top-none : largest (priority_of s.dispatcher) s.dispatcher.placed ≡ 0 → s.dispatcher.placed ≡ []
  top-none = none-ready w (priority_of s.dispatcher) s.dispatcher.placed pos range a.queues

  pub first_ready : (largest (priority_of s.dispatcher) s.dispatcher.placed ≡ 0 → ⊥) → first_of w (ready_chain (largest (priority_of s.dispatcher) s.dispatcher.placed)) ≡ next s.dispatcher
  first_ready n = (some-ready w (priority_of s.dispatcher) s.dispatcher.placed pos range a.queues n).0

  -- a ready thread made current
  module _ (v : Valid s) (id : ℕ) (m : Mem id s.dispatcher.placed) (e : status_of s.dispatcher id ≡ ready) where
    ran-is : ran s.dispatcher id ≡ with_current (with_placed (with_thread s.dispatcher id (with_status (thread_of s.dispatcher id) running)) (without id s.dispatcher.placed)) id
    unfolding ran
    ran-is =
        becomes-as d id (with_status (thread_of d id) running) running refl
        ∙ ap (λ (l : List ℕ). with_waiters' l) (without-absent id d.waiters (ready-unblocked s v id e))
      where
        d : Dispatcher
        d = s.dispatcher

        with_waiters' : List ℕ → Dispatcher
        with_waiters' l = record {
          threads = change_at s.dispatcher.threads id (with_status (thread_of s.dispatcher id) running);
          current = id;
          placed = without id s.dispatcher.placed;
          waiters = l;
          sequence = s.dispatcher.sequence;
          objects = s.dispatcher.objects;
        }

    runs : Agree (set (put_thread (unplaced w (priority_of s.dispatcher id) id) id (stored_of (with_status (thread_of s.dispatcher id) running))) 6 id)
        (with_dispatcher s (with_current (with_placed (with_thread s.dispatcher id (with_status (thread_of s.dispatcher id) running)) (without id s.dispatcher.placed)) id))
    runs =
        let h = a.shape.ready_standing.within id m in
        let f = a.shape.fit id h.0 h.1 in
        let b = sim-unplace w s _ _ a id m in
        sim-current _ _ _ _
        (sim-thread _ (with_dispatcher s (with_placed s.dispatcher (without id s.dispatcher.placed))) _ _ b id (with_status (thread_of s.dispatcher id) running) h.0 h.1
        (record { one = f.one; small = f.small; wait = tt }) (λ q. absurd ((mem-without id id s.dispatcher.placed q).1 refl)) tt) id

    pub ran-words : Agree (set (put_thread (unplaced w (priority_of s.dispatcher id) id) id
        (record { priority = (words-thread.thread_of w id).priority; state = 1; result = (words-thread.thread_of w id).result; status = (words-thread.thread_of w id).status })) 6 id)
        (with_dispatcher s (ran s.dispatcher id))
    ran-words =
        let h = a.shape.ready_standing.within id m in
        subst (λ (x : stored.Thread). Agree (set (put_thread (unplaced w (priority_of s.dispatcher id) id) id (record { priority = x.priority; state = 1; result = x.result; status = x.status })) 6 id)
        (with_dispatcher s (ran s.dispatcher id))) (sym (thread-is w s _ _ a id h.0 h.1))
        (subst (λ (n : ℕ). Agree (set (put_thread (unplaced w (priority_of s.dispatcher id) id) id
        (record { priority = priority_of s.dispatcher id; state = 1; result = result_number (thread_of s.dispatcher id).result; status = n })) 6 id)
        (with_dispatcher s (ran s.dispatcher id))) (sym (ap exit_status e))
        (subst (λ (d : Dispatcher). Agree (set (put_thread (unplaced w (priority_of s.dispatcher id) id) id (stored_of (with_status (thread_of s.dispatcher id) running))) 6 id) (with_dispatcher s d)) (sym ran-is) runs))

  -- the next one
  pub agree-ran : Valid s → is_empty s.dispatcher.placed ≡ false
      → Plainly (words.ran w (largest (priority_of s.dispatcher) s.dispatcher.placed)) (gives (Run (next s.dispatcher)) (with_dispatcher s (ran s.dispatcher (next s.dispatcher))))
  unfolding words.ran
  agree-ran v some =
      subst (λ (i : ℕ). Plainly (outcome (answer.Run i) (set (put_thread (unplaced w top i) i
      (record { priority = (words-thread.thread_of w i).priority; state = 1; result = (words-thread.thread_of w i).result; status = (words-thread.thread_of w i).status })) 6 i)) after)
      (sym (first_ready (λ z. absurd (nonempty z))))
      (subst (λ (p : ℕ). Plainly (outcome (answer.Run (next s.dispatcher)) (set (put_thread (unplaced w p (next s.dispatcher)) (next s.dispatcher)
      (record { priority = t.priority; state = 1; result = t.result; status = t.status })) 6 (next s.dispatcher))) after)
      (next-placed s v some).1
      (record { answers = refl; agree = ran-words v (next s.dispatcher) (next-placed s v some).0 (right-next s v some).is-ready }))
    where
      t : stored.Thread
      t = words-thread.thread_of w (next s.dispatcher)

      after : Outcome
      after = gives (Run (next s.dispatcher)) (with_dispatcher s (ran s.dispatcher (next s.dispatcher)))

      nonempty : largest (priority_of s.dispatcher) s.dispatcher.placed ≡ 0 → ⊥
      nonempty z = not-both (sym (ap is_empty (top-none z)) ∙ some)
