-- A thread that becomes ready, with the result of its wait: its record, then its place. Yielding, waking and timing out end so.
use Prim.Native.Nat.{ℕ, ◌≤◌}
use mathlib.Core.List.{List, [], ◌∷◌, ◌++◌}
use mathlib.Core.Option.{Option}
use mathlib.Core.Path.{◌≡◌, refl, sym, ap, ◌∙◌, subst}
use borrow.Author.Tests.{eq-eqb}
use lib.Dec.{eqb}
use lib.ListN.{set, length}
use mathlib.Core.Bool.{Bool, cond}
use Rattle.words.specs.Layout as at
use Rattle.threads.specs.declared.Thread as stored
use Rattle.threads.specs.Thread as words
use Rattle.chains.specs.Ready.{placed_last}
use Rattle.wakes.specs.Wake.{made_ready}
use Rattle.threading.specs.Thread.{yielded_words}
use Rattle.model.specs.Lists.{Mem, without}
use Rattle.model.specs.State.{State, Dispatcher, Thread, running, ready, WaitResult}
use Rattle.model.specs.Threads.{thread_of, status_of, priority_of, change_at, with_thread, with_status, ready_again, becomes, yielded}
use Rattle.model.specs.Step.{with_dispatcher}
use Rattle.model.proofs.ListLaws.{without-absent}
use Rattle.model.proofs.ThreadLaws.{length-change, change-own}
use Rattle.agreement.specs.Records.{result_number, exit_status}
use Rattle.agreement.specs.Agree.{Agreeing}
use Rattle.agreement.proofs.Headers.{with_current, sim-current}
use Rattle.agreement.proofs.Threads.{stored_of, sim-thread}
use Rattle.agreement.proofs.Lookups.{thread-is}
use Rattle.agreement.proofs.Chains.{with_placed, sim_place}

module _ (w : List ℕ) (s : State) (holder : ℕ → ℕ) (active : ℕ) (a : Agreeing w s holder active) where
  pub sim-ready : (id : ℕ) (r : Option WaitResult) → 1 ≤ id → id ≤ length s.dispatcher.threads → exit_status (status_of s.dispatcher id) ≡ 0 → (Mem id s.dispatcher.placed → ⊥)
      → Agreeing (made_ready w id (result_number r))
      (with_dispatcher s (with_placed (with_thread s.dispatcher id (ready_again (thread_of s.dispatcher id) r)) (s.dispatcher.placed ++ (id ∷ [])))) holder active
  unfolding made_ready
  sim-ready id r one le live absent =
      subst (λ (x : stored.Thread). Agreeing (placed_last (words.put_thread w id (record { priority = x.priority; state = 2; result = result_number r; status = x.status })) x.priority id) after holder active)
      (sym (thread-is w s holder active a id one le))
      (subst (λ (v : ℕ). Agreeing (placed_last (words.put_thread w id (record { priority = priority_of s.dispatcher id; state = 2; result = result_number r; status = v })) (priority_of s.dispatcher id) id) after holder active)
      (sym live)
      (subst (λ (p : ℕ). Agreeing (placed_last (words.put_thread w id (stored_of t)) p id) after holder active) (ap (λ (x : Thread). x.priority) (change-own s.dispatcher.threads id t one le))
      (sim_place (words.put_thread w id (stored_of t)) s₁ holder active b id one (subst (λ (m : ℕ). id ≤ m) (sym (length-change s.dispatcher.threads id t)) le) absent)))
    where
      t : Thread
      t = ready_again (thread_of s.dispatcher id) r

      s₁ : State
      s₁ = with_dispatcher s (with_thread s.dispatcher id t)

      after : State
      after = with_dispatcher s (with_placed (with_thread s.dispatcher id (ready_again (thread_of s.dispatcher id) r)) (s.dispatcher.placed ++ (id ∷ [])))

      b : Agreeing (words.put_thread w id (stored_of t)) s₁ holder active
      b = sim-thread w s holder active a id t one le
          (record { one = (a.shape.fit id one le).one; small = (a.shape.fit id one le).small; wait = tt }) (λ m. refl) tt

-- what `becomes` says of a thread that becomes ready and stood in no list
pub becomes-ready : (d : Dispatcher) (id : ℕ) (t : Thread) → (Mem id d.placed → ⊥) → (Mem id d.waiters → ⊥)
    → becomes d id (with_status t ready)
    ≡ record {
      threads = change_at d.threads id (with_status t ready);
      current = cond (eqb d.current id) 0 d.current;
      placed = d.placed ++ (id ∷ []);
      waiters = d.waiters;
      sequence = d.sequence;
      objects = d.objects;
    }
unfolding becomes
becomes-ready d id t unplaced unblocked =
    ap (λ (l : List ℕ). step l (without id d.waiters)) (without-absent id d.placed unplaced) ∙ ap (step d.placed) (without-absent id d.waiters unblocked)
  where
    step : List ℕ → List ℕ → Dispatcher
    step placed waiters = record {
      threads = change_at d.threads id (with_status t ready);
      current = cond (eqb d.current id) 0 d.current;
      placed = placed ++ (id ∷ []);
      waiters = waiters;
      sequence = d.sequence;
      objects = d.objects;
    }

-- ---- `yield_current`, where the current thread runs and stands in no list

module _ (w : List ℕ) (s : State) (holder : ℕ → ℕ) (active : ℕ) (a : Agreeing w s holder active) where
  abbrev id : ℕ
  id = s.dispatcher.current

  abbrev result : Option WaitResult
  result = (thread_of s.dispatcher id).result

  pub agree-yield : 1 ≤ s.dispatcher.current → s.dispatcher.current ≤ length s.dispatcher.threads → status_of s.dispatcher s.dispatcher.current ≡ running
      → (Mem s.dispatcher.current s.dispatcher.placed → ⊥) → (Mem s.dispatcher.current s.dispatcher.waiters → ⊥)
      → Agreeing (yielded_words w s.dispatcher.current) (with_dispatcher s (yielded s.dispatcher)) holder active
  unfolding yielded_words yielded
  agree-yield one le runs unplaced unblocked =
      subst (λ (x : stored.Thread). Agreeing (made_ready (set w at.current 0) id x.result) (with_dispatcher s (yielded s.dispatcher)) holder active) (sym (thread-is w s holder active a id one le))
      (subst (λ (d : Dispatcher). Agreeing (made_ready (set w at.current 0) id (result_number result)) (with_dispatcher s d) holder active) (sym same)
      (sim-ready (set w at.current 0) (with_dispatcher s (with_current s.dispatcher 0)) holder active (sim-current w s holder active a 0) id result one le (ap exit_status runs) unplaced))
    where
      same : yielded s.dispatcher ≡ with_placed (with_thread (with_current s.dispatcher 0) id (ready_again (thread_of s.dispatcher id) result)) (s.dispatcher.placed ++ (id ∷ []))
      same =
          becomes-ready s.dispatcher id (thread_of s.dispatcher id) unplaced unblocked
          ∙ ap (λ (b : Bool). record { threads = change_at s.dispatcher.threads id (ready_again (thread_of s.dispatcher id) result); current = cond b 0 id; placed = s.dispatcher.placed ++ (id ∷ []); waiters = s.dispatcher.waiters; sequence = s.dispatcher.sequence; objects = s.dispatcher.objects })
          (eq-eqb id id refl)
