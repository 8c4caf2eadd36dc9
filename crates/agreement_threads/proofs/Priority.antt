-- A thread's priority given: the call on the words and on the log. A ready thread is placed last.
use Prim.Native.Nat.{ℕ, ◌+◌, ◌≤◌}
use mathlib.Core.List.{List, [], ◌∷◌, ◌++◌}
use mathlib.Core.Bool.{Bool, true, false, cond}
use mathlib.Core.Path.{◌≡◌, refl, sym, ap, ◌∙◌, subst}
use native.Mathlib.Omega.{arith}
use borrow.Author.Tests.{ne_eqb}
use lib.ListN.{get_or, length}
use lib.Dec.{eqb}
use Rattle.answers.specs.Outcome.{outcome}
use Rattle.answers.specs.declared.Answer.TheVariants as answer
use Rattle.words.specs.Layout as at
use Rattle.threads.specs.declared.Thread as stored
use Rattle.threads.specs.Thread.{put_thread}
use Rattle.chains.specs.Ready.{placed_last, unplaced}
use Rattle.waits.specs.Object as words-object
use Rattle.opening.specs.Open.{bad_priority}
use Rattle.threading.specs.Thread as words
use Rattle.model.specs.Lists.{Mem, without}
use Rattle.model.specs.State.{State, Dispatcher, Thread, ready}
use Rattle.model.specs.Threads.{becomes, prioritized, change_at, thread_of, status_of, priority_of, is_thread, is_ready, has_exited, with_thread, with_priority}
use Rattle.model.specs.Valid.{Valid}
use Rattle.model.specs.Refusal.{priority_refusal, not_priority}
use Rattle.model.specs.Call as call
use Rattle.model.specs.Step.{step, refusal, effect, with_dispatcher}
use Rattle.model.proofs.ListLaws.{without-absent, mem-without, member-not}
use Rattle.model.proofs.ThreadLaws.{length-change, change-own}
use Rattle.model.proofs.SoundLaws.{thread-is}
use Rattle.agreement.specs.Records.{status_number}
use Rattle.agreement.specs.Agree.{Agree}
use Rattle.agreement.specs.Matches.{Plainly}
use Rattle.agreement.proofs.Threads.{stored_of, sim-thread}
use Rattle.agreement.proofs.Lookups as lookups
use Rattle.agreement.proofs.Lookups.{known_is, thread-word-is}
use Rattle.agreement.proofs.Chains.{with_placed, sim_place, sim-unplace}
use Rattle.agreement.proofs.Matches.{plainly-unless}
use Rattle.agreement_threads.proofs.Statuses.{number-ready, number-exited, ready-is, becomes-as, ready-placed, ready-unblocked, ready-other}
use Rattle.agreement_threads.proofs.Create.{priority-range}

-- a ready thread that is given a priority is placed last
module _ (s : State) (v : Valid s) (id : ℕ) (e : status_of s.dispatcher id ≡ ready) where
  prioritized-ready : 1 ≤ id → (p : ℕ) → becomes s.dispatcher id (with_priority (thread_of s.dispatcher id) p)
      ≡ with_placed (with_thread s.dispatcher id (with_priority (thread_of s.dispatcher id) p)) (without id s.dispatcher.placed ++ (id ∷ []))
  prioritized-ready one p =
      becomes-as d id (with_priority (thread_of d id) p) ready e
      ∙ ap (λ (b : Bool). step₁ (cond b 0 d.current) (without id d.waiters)) (ne_eqb d.current id (ready-other s v id e one))
      ∙ ap (step₁ d.current) (without-absent id d.waiters (ready-unblocked s v id e))
    where
      d : Dispatcher
      d = s.dispatcher

      step₁ : ℕ → List ℕ → Dispatcher
      step₁ current waiters = record {
        threads = change_at s.dispatcher.threads id (with_priority (thread_of s.dispatcher id) p);
        current = current;
        placed = without id s.dispatcher.placed ++ (id ∷ []);
        waiters = waiters;
        sequence = s.dispatcher.sequence;
        objects = s.dispatcher.objects;
      }

-- ---- the call

module _ (w : List ℕ) (s : State) (a : Agree w s) (v : Valid s) (id p : ℕ) where
  pub priority-refusal : words.priority_refusal w id p ≡ priority_refusal s id p
  unfolding words.priority_refusal priority_refusal bad_priority not_priority words-object.exited
  priority-refusal =
      ap (λ (b : Bool). cond (not_priority p) 1 (cond b (cond (cond b (eqb (get_or w (at.thread_at id + at.state) 0) 4) false) 11 0) 2)) (known_is w s _ _ a id) ∙ go (is_thread s.dispatcher id) refl
    where
      go : (b : Bool) → is_thread s.dispatcher id ≡ b
          → ◌≡◌ {A = ℕ} (cond (not_priority p) 1 (cond b (cond (cond b (eqb (get_or w (at.thread_at id + at.state) 0) 4) false) 11 0) 2)) (cond (not_priority p) 1 (cond b (cond (has_exited (status_of s.dispatcher id)) 11 0) 2))
      go true q =
          let k = thread-is s.dispatcher id q in
          ap (λ (b : Bool). cond (not_priority p) 1 (cond b 11 0))
          (ap (λ (n : ℕ). eqb n 4) (thread-word-is w s _ _ a id k.0 k.1 1 (status_number (status_of s.dispatcher id)) refl) ∙ number-exited (status_of s.dispatcher id))
      go false q = refl

  module _ (one : 1 ≤ id) (le : id ≤ length s.dispatcher.threads) (from : 1 ≤ p) (to : p ≤ 31) where
    abbrev t : Thread
    t = with_priority (thread_of s.dispatcher id) p

    -- it stays where it stands
    stays : (Mem id s.dispatcher.placed → ⊥) → Agree (put_thread w id (stored_of (with_priority (thread_of s.dispatcher id) p))) (with_dispatcher s (with_thread s.dispatcher id (with_priority (thread_of s.dispatcher id) p)))
    stays absent = sim-thread w s _ _ a id t one le (record { one = from; small = to; wait = (a.shape.fit id one le).wait }) (λ m. absurd (absent m)) (a.waits.current id one le)

    moves : Mem id s.dispatcher.placed
        → Agree (placed_last (put_thread (unplaced w (priority_of s.dispatcher id) id) id (stored_of (with_priority (thread_of s.dispatcher id) p))) p id)
        (with_dispatcher s (with_placed (with_thread s.dispatcher id (with_priority (thread_of s.dispatcher id) p)) (without id s.dispatcher.placed ++ (id ∷ []))))
    moves m =
        subst (λ (q : ℕ). Agree (placed_last w₂ q id) (with_dispatcher s (with_placed (with_thread s.dispatcher id t) (without id s.dispatcher.placed ++ (id ∷ [])))))
        (ap (λ (x : Thread). x.priority) (change-own s.dispatcher.threads id t one le))
        (sim_place w₂ s₂ _ _ b₂ id one (subst (λ (m : ℕ). id ≤ m) (sym (length-change s.dispatcher.threads id t)) le) gone)
      where
        w₁ : List ℕ
        w₁ = unplaced w (priority_of s.dispatcher id) id

        w₂ : List ℕ
        w₂ = put_thread (unplaced w (priority_of s.dispatcher id) id) id (stored_of (with_priority (thread_of s.dispatcher id) p))

        s₁ : State
        s₁ = with_dispatcher s (with_placed s.dispatcher (without id s.dispatcher.placed))

        s₂ : State
        s₂ = with_dispatcher s (with_placed (with_thread s.dispatcher id (with_priority (thread_of s.dispatcher id) p)) (without id s.dispatcher.placed))

        gone : Mem id (without id s.dispatcher.placed) → ⊥
        gone q = (mem-without id id s.dispatcher.placed q).1 refl

        b₁ : Agree (unplaced w (priority_of s.dispatcher id) id) (with_dispatcher s (with_placed s.dispatcher (without id s.dispatcher.placed)))
        b₁ = sim-unplace w s _ _ a id m

        b₂ : Agree w₂ s₂
        b₂ = sim-thread w₁ s₁ _ _ b₁ id t one le (record { one = from; small = to; wait = (a.shape.fit id one le).wait }) (λ q. absurd (gone q)) (b₁.waits.current id one le)

    agree-moved : Agree (words.moved w id p) (with_dispatcher s (prioritized s.dispatcher id p))
    unfolding words.moved words.with_priority prioritized
    agree-moved =
        subst (λ (x : stored.Thread). Agree (cond (eqb x.state 2)
        (placed_last (put_thread (unplaced w x.priority id) id (record { priority = p; state = x.state; result = x.result; status = x.status })) p id)
        (put_thread w id (record { priority = p; state = x.state; result = x.result; status = x.status }))) (with_dispatcher s (prioritized s.dispatcher id p)))
        (sym (lookups.thread-is w s _ _ a id one le))
        (subst (λ (b : Bool). Agree (cond b (placed_last (put_thread (unplaced w (priority_of s.dispatcher id) id) id (stored_of t)) p id) (put_thread w id (stored_of t)))
        (with_dispatcher s (prioritized s.dispatcher id p))) (sym (number-ready (status_of s.dispatcher id))) (go (is_ready (status_of s.dispatcher id)) refl))
      where
        go : (b : Bool) → is_ready (status_of s.dispatcher id) ≡ b
            → Agree (cond b (placed_last (put_thread (unplaced w (priority_of s.dispatcher id) id) id (stored_of (with_priority (thread_of s.dispatcher id) p))) p id) (put_thread w id (stored_of (with_priority (thread_of s.dispatcher id) p))))
            (with_dispatcher s (cond b (becomes s.dispatcher id (with_priority (thread_of s.dispatcher id) p)) (with_thread s.dispatcher id (with_priority (thread_of s.dispatcher id) p))))
        go true q =
            let e = ready-is (status_of s.dispatcher id) q in
            subst (λ (d : Dispatcher). Agree (placed_last (put_thread (unplaced w (priority_of s.dispatcher id) id) id (stored_of t)) p id) (with_dispatcher s d)) (sym (prioritized-ready s v id e one p))
            (moves (ready-placed s v id e))
        go false q = stays (member-not id s.dispatcher.placed (v.sound.standing.placed_ready id ∙ q))

  agree-given : priority_refusal s id p ≡ 0 → Agree (words.moved w id p) (with_dispatcher s (prioritized s.dispatcher id p))
  unfolding priority_refusal
  agree-given = go (not_priority p) (is_thread s.dispatcher id) refl refl
    where
      go : (b c : Bool) → not_priority p ≡ b → is_thread s.dispatcher id ≡ c → ◌≡◌ {A = ℕ} (cond b 1 (cond c (cond (has_exited (status_of s.dispatcher id)) 11 0) 2)) 0
          → Agree (words.moved w id p) (with_dispatcher s (prioritized s.dispatcher id p))
      go true c q r e = absurd (omega arith)
      go false true q r e =
          let k = priority-range p q in
          let h = thread-is s.dispatcher id r in
          agree-moved h.0 h.1 k.0 k.1
      go false false q r e = absurd (omega arith)

  pub agree-priority : Plainly (words.prioritized w id p) (step (call.Priority id p) s)
  unfolding words.prioritized refusal effect
  agree-priority =
      plainly-unless w s a (call.Priority id p) (words.priority_refusal w id p) (outcome answer.Done (words.moved w id p)) priority-refusal
      (λ e. record { answers = refl; agree = agree-given e })
