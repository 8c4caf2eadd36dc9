-- What a thread's status says: its number, what becomes of it, and where a ready or running one stands.
use Prim.Native.Nat.{ℕ, ◌≤◌}
use mathlib.Core.Bool.{true}
use mathlib.Core.Path.{◌≡◌, refl, sym, ap, ◌∙◌}
use borrow.Author.Tests.{eq-eqb}
use lib.Dec.{eqb}
use Rattle.model.specs.Lists.{Mem}
use Rattle.model.specs.State.{State, Dispatcher, Thread, Status, running, ready, waiting, exited}
use Rattle.model.specs.Threads.{becomes, change_at, current_as, placed_as, waiters_as, status_of, is_ready, is_running, is_waiting, has_exited}
use Rattle.model.specs.Valid.{Valid}
use Rattle.model.proofs.ListLaws.{not-both, member-mem, member-not}
use Rattle.agreement.specs.Records.{status_number}

-- ---- status numbers

pub number-ready : (x : Status) → eqb (status_number x) 2 ≡ is_ready x
number-ready running = refl
number-ready ready = refl
number-ready (waiting w) = refl
number-ready (exited n) = refl

pub number-exited : (x : Status) → eqb (status_number x) 4 ≡ has_exited x
number-exited running = refl
number-exited ready = refl
number-exited (waiting w) = refl
number-exited (exited n) = refl

pub number-waiting : (x : Status) → eqb (status_number x) 3 ≡ is_waiting x
number-waiting running = refl
number-waiting ready = refl
number-waiting (waiting w) = refl
number-waiting (exited n) = refl

pub ready-is : (x : Status) → is_ready x ≡ true → x ≡ ready
ready-is running e = absurd (not-both (sym e))
ready-is ready e = refl
ready-is (waiting w) e = absurd (not-both (sym e))
ready-is (exited n) e = absurd (not-both (sym e))

-- ---- the log

-- what becomes of a thread by its status
pub becomes-as : (d : Dispatcher) (id : ℕ) (t : Thread) (x : Status) → t.status ≡ x
    → becomes d id t
    ≡ record {
      threads = change_at d.threads id t;
      current = current_as x id d.current;
      placed = placed_as x id d.placed;
      waiters = waiters_as x id d.waiters;
      sequence = d.sequence;
      objects = d.objects;
    }
unfolding becomes
becomes-as d id t x e = ap by e
  where
    by : Status → Dispatcher
    by x = record {
      threads = change_at d.threads id t;
      current = current_as x id d.current;
      placed = placed_as x id d.placed;
      waiters = waiters_as x id d.waiters;
      sequence = d.sequence;
      objects = d.objects;
    }

-- a ready thread is not current and stands in no chain of waiters
module _ (s : State) (v : Valid s) (id : ℕ) (e : status_of s.dispatcher id ≡ ready) where
  pub ready-placed : Mem id s.dispatcher.placed
  ready-placed = member-mem id s.dispatcher.placed (v.sound.standing.placed_ready id ∙ ap is_ready e)

  pub ready-unblocked : Mem id s.dispatcher.waiters → ⊥
  ready-unblocked = member-not id s.dispatcher.waiters (v.sound.standing.waiters_waiting id ∙ ap is_waiting e)

  pub ready-other : 1 ≤ id → s.dispatcher.current ≡ id → ⊥
  ready-other one q = not-both (sym (eq-eqb id s.dispatcher.current (sym q)) ∙ v.sound.standing.current_runs id one ∙ ap is_running e)

-- a running thread stands in no list
module _ (s : State) (v : Valid s) (id : ℕ) (e : status_of s.dispatcher id ≡ running) where
  pub runs-unplaced : Mem id s.dispatcher.placed → ⊥
  runs-unplaced = member-not id s.dispatcher.placed (v.sound.standing.placed_ready id ∙ ap is_ready e)

  pub runs-unblocked : Mem id s.dispatcher.waiters → ⊥
  runs-unblocked = member-not id s.dispatcher.waiters (v.sound.standing.waiters_waiting id ∙ ap is_waiting e)
