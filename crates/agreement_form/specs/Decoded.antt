-- The state that words tell: threads, objects and DPCs from their records, queues and waiters from their chains.
use Rattle.std.specs.Prelude.{ℕ, zero, suc, ◌+◌, ◌-◌, ◌*◌, List, [], ◌∷◌, ◌++◌, map, cond, not, get_or, eqb}
use Rattle.std.proofs.Math.Option.{Option, none, some}
use Rattle.words.specs.Layout as at
use Rattle.images.specs.declared.Dpc.{Dpc}
use Rattle.chains.specs.declared.Chain.{Chain}
use Rattle.chains.specs.Chain.{first_of, next_of}
use Rattle.chains.specs.Ready.{ready_chain, waiters_chain}
use Rattle.timers.specs.Record.{timer_at}
use Rattle.dpcs.specs.Record.{dpc_at}
use Rattle.model.specs.State.{State, Limits, Dispatcher, Thread, Status, running, ready, waiting, exited, Wait, WaitResult, satisfied, timeout, Named, Object, mutex, event, timer, Dpcs, Counters, Policy, unselected, cpu0_dispatch}
use Rattle.agreement.specs.Chains.{queue_from}
use Rattle.agreement.specs.Agree.{objects_from, dpcs_from}

-- what `f` makes of the `m` numbers from `i` on
module _ {A : Type 0} (f : ℕ → A) where
  abbrev pub each : ℕ → ℕ → List A
  each zero i = []
  each (suc m) i = f i ∷ each m (i + 1)

module _ (w : List ℕ) where
  abbrev pub limits_of : Limits
  limits_of = record { threads = get_or w at.thread_limit 0; objects = get_or w at.object_limit 0; dpcs = get_or w at.dpc_limit 0 }

  -- ---- threads

  abbrev pub named_at : ℕ → ℕ → Named
  named_at place k = record { kind = get_or w (place + 2 * k) 0; key = get_or w (place + (2 * k + 1)) 0 }

  abbrev pub deadline_at : ℕ → Option ℕ
  deadline_at i = cond (eqb (get_or w (at.thread_word at.has_deadline i) 0) 0) none (some (get_or w (at.thread_word at.deadline i) 0))

  abbrev pub wait_at : ℕ → Wait
  wait_at i =
      record {
        objects = each (named_at (at.thread_word at.wait_places i)) (get_or w (at.thread_word at.wait_count i) 0) 0;
        all = not (eqb (get_or w (at.thread_word at.wait_all i) 0) 0);
        deadline = deadline_at i;
        sequence = get_or w (at.thread_word at.wait_sequence i) 0;
      }

  -- a state that is none of the first three is exited
  abbrev pub status_by : ℕ → ℕ → Status
  status_by i n = cond (eqb n 1) running (cond (eqb n 2) ready (cond (eqb n 3) (waiting (wait_at i)) (exited (get_or w (at.thread_word at.status i) 0))))

  abbrev pub result_by : ℕ → Option WaitResult
  result_by n = cond (eqb n 0) none (cond (eqb n 1) (some timeout) (some (satisfied (n - 2))))

  abbrev pub thread_by : ℕ → Thread
  thread_by i = record { priority = get_or w (at.thread_from i) 0; status = status_by i (get_or w (at.thread_word at.state i) 0); result = result_by (get_or w (at.thread_word at.result i) 0) }

  abbrev pub threads_of : List Thread
  threads_of = each thread_by (get_or w at.threads 0) 1

  -- ---- chains

  -- at most `k` records from `next` on
  unfoldable pub chain_from : ℕ → Chain → ℕ → List ℕ
  chain_from zero c next = []
  chain_from (suc k) c next = cond (eqb next 0) [] (next ∷ chain_from k c (next_of w c next))

  abbrev pub chain_of : ℕ → Chain → List ℕ
  chain_of k c = chain_from k c (first_of w c)

  -- the ready threads of the priorities `p` to 1, those of the highest first
  unfoldable pub ready_to : ℕ → List ℕ
  ready_to zero = []
  ready_to (suc p) = chain_of 4096 (ready_chain (suc p)) ++ ready_to p

  -- ---- objects and DPCs

  -- a kind that is neither a mutex nor an event is a timer
  abbrev pub object_by : ℕ → ℕ → Object
  object_by place kind =
      cond (eqb kind 0) (mutex (record { key = get_or w place 0; owner = get_or w (place + at.owner) 0 }))
      (cond (eqb kind 1) (event (record { key = get_or w place 0; manual = not (eqb (get_or w (place + at.manual) 0) 0); signaled = not (eqb (get_or w (place + at.signaled) 0) 0) }))
      (timer (timer_at w place)))

  abbrev pub object_of : ℕ → Object
  object_of i = object_by (objects_from limits_of + 32 * i) (get_or w (objects_from limits_of + 32 * i + at.kind) 0)

  abbrev pub objects_of : List Object
  objects_of = each object_of (get_or w at.objects 0) 0

  abbrev pub dpc_of : ℕ → Dpc
  dpc_of i = dpc_at w (dpcs_from limits_of + 32 * i)

  abbrev pub table_of : List Dpc
  table_of = each dpc_of (get_or w at.dpcs 0) 0

  -- DPC `n` has record `n - 1`
  abbrev pub address_at : ℕ → ℕ
  address_at n = get_or w (dpcs_from limits_of + 32 * (n - 1)) 0

  abbrev pub numbers_of : List ℕ
  numbers_of = chain_of 4097 (queue_from (dpcs_from limits_of))

  -- ---- all of it

  abbrev pub policy_by : ℕ → Policy
  policy_by n = cond (eqb n 0) unselected (cpu0_dispatch (get_or w at.timer_argument 0) (get_or w at.timer_argument2 0))

  abbrev pub counters_of : Counters
  counters_of = record { accepted = get_or w at.accepted 0; duplicates = get_or w at.duplicates 0; removed = get_or w at.removed 0; started = get_or w at.started 0; returned = get_or w at.returned 0; restored = get_or w at.restored 0 }

  -- the ready threads by priority, the highest first, and in each priority by its queue
  abbrev pub dispatcher_of : Dispatcher
  dispatcher_of =
      record {
        threads = threads_of;
        current = get_or w at.current 0;
        placed = ready_to 31;
        waiters = chain_of 4096 waiters_chain;
        sequence = get_or w at.sequence 0;
        objects = objects_of;
      }

  abbrev pub dpcs_of : Dpcs
  dpcs_of = record { table = table_of; queue = map address_at numbers_of; counters = counters_of }

  abbrev pub decoded : State
  decoded =
      record {
        limits = limits_of;
        dispatcher = dispatcher_of;
        dpcs = dpcs_of;
        now = get_or w at.now 0;
        policy = policy_by (get_or w at.policy 0);
        timer_initializations = get_or w at.timer_initializations 0;
        dpc_initializations = get_or w at.dpc_initializations 0;
      }
