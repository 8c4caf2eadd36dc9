-- A waiting thread that becomes ready, woken or timed out: out of the waiters' chain, then its record and its place.
use Prim.Native.Nat.{ℕ, ◌≤◌}
use mathlib.Core.List.{List, [], ◌∷◌, ◌++◌}
use mathlib.Core.Bool.{Bool, true, cond}
use mathlib.Core.Option.{some}
use mathlib.Core.Logic.{⊎_elim}
use mathlib.Core.Path.{◌≡◌, refl, sym, ap, ◌∙◌, subst}
use borrow.Author.Tests.{ne_eqb, eqb-false}
use lib.Dec.{eqb}
use lib.ListN.{length}
use Rattle.wakes.specs.Wake.{made_ready}
use Rattle.model.specs.Lists.{Mem, without}
use Rattle.model.specs.State.{State, Dispatcher, Thread, Status, running, ready, waiting, exited, Wait, WaitResult}
use Rattle.model.specs.Threads.{thread_of, status_of, is_ready, is_waiting, is_running, change_at, with_thread, ready_again, becomes, woken}
use Rattle.model.specs.Valid.{Standing}
use Rattle.model.specs.Step.{with_dispatcher}
use Rattle.model.proofs.ListLaws.{not-both, mem-member, mem-last, without-absent}
use Rattle.model.proofs.ThreadLaws.{change-other, length-change, stands-somewhere}
use Rattle.agreement.specs.Records.{result_number, exit_status}
use Rattle.agreement.specs.Agree.{Agreeing}
use Rattle.agreement.proofs.Chains.{with_placed, with_waiters}
use Rattle.agreement.proofs.Ready.{sim-ready}

-- ---- what is asked of a thread that is woken

pub record Blocked (d : Dispatcher) (i : ℕ) : Type 0 where
  pub for : Wait
  pub waits : status_of d i ≡ waiting for
  pub unplaced : Mem i d.placed → ⊥
  pub idle : i ≡ d.current → ⊥

waits-for : (x : Status) → is_waiting x ≡ true → (w : Wait) × (x ≡ waiting w)
waits-for running e = absurd (not-both (sym e))
waits-for ready e = absurd (not-both (sym e))
waits-for (waiting w) e = (w, refl)
waits-for (exited n) e = absurd (not-both (sym e))

-- a waiting thread of a state in order
pub is-blocked : (d : Dispatcher) → Standing d.threads d.placed d.waiters d.current d.sequence → (i : ℕ) → is_waiting (status_of d i) ≡ true → Blocked d i
is-blocked d st i e =
    let x = waits-for (status_of d i) e in
    record {
      for = x.0;
      waits = x.1;
      unplaced = λ m. not-both (sym (mem-member i d.placed m) ∙ st.placed_ready i ∙ ap is_ready x.1);
      idle = eqb-false i d.current (st.current_runs i (stands-somewhere d.threads i is_waiting refl e).0 ∙ ap is_running x.1);
    }

-- ---- the log

-- who is woken leaves the waiters and is placed last; nobody else moves
pub woken-is : (d : Dispatcher) (id : ℕ) (r : WaitResult) → Blocked d id
    → woken d id r ≡ with_placed (with_thread (with_waiters d (without id d.waiters)) id (ready_again (thread_of d id) (some r))) (d.placed ++ (id ∷ []))
unfolding woken becomes
woken-is d id r b =
    ap (λ (l : List ℕ). moved l (cond (eqb d.current id) 0 d.current)) (without-absent id d.placed b.unplaced)
    ∙ ap (λ (c : Bool). moved d.placed (cond c 0 d.current)) (ne_eqb d.current id (λ e. b.idle (sym e)))
  where
    moved : List ℕ → ℕ → Dispatcher
    moved placed current = record {
      threads = change_at d.threads id (ready_again (thread_of d id) (some r));
      current = current;
      placed = placed ++ (id ∷ []);
      waiters = without id d.waiters;
      sequence = d.sequence;
      objects = d.objects;
    }

-- another that waits still waits
pub blocked-still : (d : Dispatcher) (id : ℕ) (r : WaitResult) → Blocked d id → (i : ℕ) → (i ≡ id → ⊥) → Blocked d i → Blocked (woken d id r) i
blocked-still d id r b i ne c = subst (λ (e : Dispatcher). Blocked e i) (sym (woken-is d id r b)) (record {
  for = c.for;
  waits = ap (λ (t : Thread). t.status) (change-other d.threads id (ready_again (thread_of d id) (some r)) i ne) ∙ c.waits;
  unplaced = λ m. ⊎_elim (λ (q : Mem i d.placed). c.unplaced q) (λ (q : i ≡ id). ne q) (mem-last i d.placed id m);
  idle = c.idle;
})

pub woken-waiters : (d : Dispatcher) (id : ℕ) (r : WaitResult) → (woken d id r).waiters ≡ without id d.waiters
unfolding woken becomes
woken-waiters d id r = refl

pub woken-count : (d : Dispatcher) (id : ℕ) (r : WaitResult) → length (woken d id r).threads ≡ length d.threads
unfolding woken becomes
woken-count d id r = length-change d.threads id (ready_again (thread_of d id) (some r))

-- ---- the words

-- of words that have taken it out of the chain
pub sim-woken : (w : List ℕ) (s : State) (holder : ℕ → ℕ) (active id : ℕ) (r : WaitResult) → Agreeing w (with_dispatcher s (with_waiters s.dispatcher (without id s.dispatcher.waiters))) holder active
    → 1 ≤ id → id ≤ length s.dispatcher.threads → Blocked s.dispatcher id → Agreeing (made_ready w id (result_number (some r))) (with_dispatcher s (woken s.dispatcher id r)) holder active
sim-woken w s holder active id r a one le b =
    subst (λ (d : Dispatcher). Agreeing (made_ready w id (result_number (some r))) (with_dispatcher s d) holder active) (sym (woken-is s.dispatcher id r b))
    (sim-ready w (with_dispatcher s (with_waiters s.dispatcher (without id s.dispatcher.waiters))) holder active a id (some r) one le (ap exit_status b.waits) b.unplaced)
