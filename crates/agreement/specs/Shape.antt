-- What holds of a state in the midst of a call too: sizes, ranges, who stands in lists. It is all that a primitive asks; `Valid` holds
-- between calls.
use Rattle.std.specs.Prelude.{ℕ, ◌≤◌, List, true, ◌≡◌, length}
use Rattle.images.specs.declared.Dpc.{Dpc}
use Rattle.model.specs.Lists.{Mem, Distinct, present}
use Rattle.model.specs.Table.{Rising}
use Rattle.model.specs.State.{Limits, Thread, Status, running, ready, waiting, exited, Wait, Named, Object}
use Rattle.model.specs.Threads.{thread_at}
use Rattle.model.specs.Waits.{key_of, on_timer}
use Rattle.model.specs.Dpcs.{address_of, dpc_at}
use Rattle.model.specs.Timers.{most}
use Rattle.model.specs.Valid.{LimitsValid, Each}
use Rattle.agreement_chains.specs.Chains.{Standing}

-- as many of each as the limits allow
pub record Sizes (l : Limits) (threads objects dpcs : ℕ) : Type 0 where
  pub limits : LimitsValid l
  pub threads_fit : threads ≤ l.threads
  pub objects_fit : objects ≤ l.objects
  pub dpcs_fit : dpcs ≤ l.dpcs

-- a wait list of at most 64, of kinds 0 to 3
pub record WaitFits (x : Wait) : Type 0 where
  pub few : length x.objects ≤ 64
  pub kinds : (n : Named) → Mem n x.objects → n.kind ≤ 3

abbrev pub StatusFits : Status → Type 0
StatusFits running = Unit
StatusFits ready = Unit
StatusFits (waiting x) = WaitFits x
StatusFits (exited n) = Unit

-- a priority, and a wait that fits
pub record ThreadFits (t : Thread) : Type 0 where
  pub one : 1 ≤ t.priority
  pub small : t.priority ≤ 31
  pub wait : StatusFits t.status

abbrev pub ThreadsFit : List Thread → Type 0
ThreadsFit l = (i : ℕ) → 1 ≤ i → i ≤ length l → ThreadFits (thread_at l i)

-- an arm count and a due that have not passed 2^64 − 1: the code looks for the end itself
abbrev pub ObjectFits : Object → Type 0
ObjectFits = on_timer Unit (λ t. (t.arm_generation ≤ most) × (t.due ≤ most))

-- no DPC stands at 0; addresses rise; the queue is of DPCs, none twice
pub record DpcsFit (table : List Dpc) (queue : List ℕ) : Type 0 where
  pub rising : Rising address_of table
  pub placed : (d : Dpc) → Mem d table → d.address ≡ 0 → ⊥
  pub queued : (a : ℕ) → Mem a queue → present (dpc_at table a) ≡ true
  pub once : Distinct queue

-- of the pieces that it speaks of, so that a change elsewhere leaves it as it is
pub record Shape (l : Limits) (threads : List Thread) (placed waiters : List ℕ) (objects : List Object) (table : List Dpc) (queue : List ℕ) (duplicates : ℕ) : Type 0 where
  pub sizes : Sizes l (length threads) (length objects) (length table)
  pub fit : ThreadsFit threads
  pub ready_standing : Standing (length threads) placed
  pub waiting_standing : Standing (length threads) waiters
  pub rising : Rising key_of objects
  pub bounded : Each key_of objects ObjectFits
  pub dpcs : DpcsFit table queue
  pub counted : duplicates ≤ most
