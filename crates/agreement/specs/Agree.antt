-- When the words and a state of the log tell the same: one component for each region of the words. A component speaks of the pieces of
-- the state that its region holds, so that a change elsewhere leaves its statement as it is.
use Rattle.std.specs.Prelude.{ℕ, ◌+◌, ◌*◌, ◌≤◌, ◌<◌, List, ◌≡◌, get_or, length}
use Rattle.std.proofs.Math.Option.{Option, some}
use Rattle.words.specs.Layout as at
use Rattle.images.specs.declared.Dpc.{Dpc}
use Rattle.chains.specs.Ready.{waiters_chain}
use Rattle.model.specs.Lists.{nth}
use Rattle.model.specs.State.{State, Limits, Thread, Status, running, ready, waiting, exited, Wait, Object}
use Rattle.model.specs.Threads.{thread_at}
use Rattle.agreement_chains.specs.Chains.{Holds}
use Rattle.agreement_chains.specs.Ready.{ReadyQueues}
use Rattle.agreement.specs.Row.{Row}
use Rattle.agreement.specs.Records.{header, active_address, thread_row, terms_row, places_row, object_row, dpc_row, holder_of, numbers_in}
use Rattle.agreement.specs.Chains.{queues_of, queue_from}
use Rattle.agreement.specs.Shape.{Shape}

-- ---- where tables begin

abbrev pub objects_from : Limits → ℕ
objects_from l = at.header_size + at.thread_size * l.threads

abbrev pub dpcs_from : Limits → ℕ
dpcs_from l = at.header_size + at.thread_size * l.threads + at.record_size * l.objects

-- the words are enough for the limits
abbrev pub Enough : List ℕ → Limits → Type 0
Enough w l = at.header_size + at.thread_size * l.threads + at.record_size * (l.objects + l.dpcs) ≤ length w

-- ---- the header's numbers

abbrev pub header_of : State → ℕ → List (Option ℕ)
header_of s active =
    header s.limits (length s.dispatcher.threads) (length s.dispatcher.objects) (length s.dpcs.table)
    s.dispatcher.current s.dispatcher.sequence s.now s.policy s.dpcs.counters
    s.timer_initializations s.dpc_initializations active

-- ---- threads: record i is thread i

abbrev pub Threads : List ℕ → List Thread → Type 0
Threads w l = (i : ℕ) → 1 ≤ i → i ≤ length l → Row w (at.thread_from i) (thread_row (thread_at l i))

-- ---- waits

-- what a waiting thread waits for
pub record WaitIs (w : List ℕ) (i : ℕ) (x : Wait) : Type 0 where
  pub terms : Row w (at.thread_word at.wait_all i) (terms_row x)
  pub places : Row w (at.thread_word at.wait_places i) (places_row x.objects)

-- The log keeps a wait only while the thread waits; the words keep the last one after it has ended. So a wait is said of waiting
-- threads alone.
abbrev pub WaitOf : List ℕ → ℕ → Status → Type 0
WaitOf w i running = Unit
WaitOf w i ready = Unit
WaitOf w i (waiting x) = WaitIs w i x
WaitOf w i (exited n) = Unit

-- Of the words of every thread, the wait that it has or had last: it has the form of one, for the form check looks at it.
pub record WaitKept (w : List ℕ) (i : ℕ) : Type 0 where
  pub all : get_or w (at.thread_word at.wait_all i) 0 ≤ 1
  pub timed : get_or w (at.thread_word at.has_deadline i) 0 ≤ 1
  pub count : get_or w (at.thread_word at.wait_count i) 0 ≤ 64
  pub kinds : (k : ℕ) → k < get_or w (at.thread_word at.wait_count i) 0 → get_or w (at.thread_word at.wait_places i + 2 * k) 0 ≤ 3

pub record Waits (w : List ℕ) (l : List Thread) : Type 0 where
  pub kept : (i : ℕ) → 1 ≤ i → i ≤ length l → WaitKept w i
  pub current : (i : ℕ) → 1 ≤ i → i ≤ length l → WaitOf w i (thread_at l i).status

-- ---- tables: record i is the i-th of the list

abbrev pub Objects : List ℕ → ℕ → List Object → Type 0
Objects w base l = (i : ℕ) (x : Object) → nth l i ≡ some x → Row w (base + at.record_size * i) (object_row x)

-- a DPC's record names the inserted timer that has it
abbrev pub DpcTable : List ℕ → ℕ → (ℕ → ℕ) → List Dpc → Type 0
DpcTable w base holder table = (i : ℕ) (d : Dpc) → nth table i ≡ some d → Row w (base + at.record_size * i) (dpc_row (holder d.address) d)

-- ---- all of it

abbrev pub ShapeOf : State → Type 0
ShapeOf s =
    Shape s.limits s.dispatcher.threads s.dispatcher.placed s.dispatcher.waiters s.dispatcher.objects s.dpcs.table s.dpcs.queue
    s.dpcs.counters.duplicates

-- The words keep two things that the log works out: which inserted timer has a DPC, and where the active DPC stands. In the midst of a
-- call they lag behind the tables, so they are arguments here.
pub record Agreeing (w : List ℕ) (s : State) (holder : ℕ → ℕ) (active : ℕ) : Type 0 where
  pub enough : Enough w s.limits
  pub numbers : Row w 0 (header_of s active)
  pub threads : Threads w s.dispatcher.threads
  pub waits : Waits w s.dispatcher.threads
  pub queues : ReadyQueues w (queues_of s.dispatcher.threads s.dispatcher.placed)
  pub waiters : Holds w waiters_chain s.dispatcher.waiters
  pub objects : Objects w (objects_from s.limits) s.dispatcher.objects
  pub dpcs : DpcTable w (dpcs_from s.limits) holder s.dpcs.table
  pub work : Holds w (queue_from (dpcs_from s.limits)) (numbers_in s.dpcs.table s.dpcs.queue)
  pub shape : ShapeOf s

-- the words and the state tell the same
abbrev pub Agree : List ℕ → State → Type 0
Agree w s = Agreeing w s (holder_of s.dispatcher.objects) (active_address s.dpcs.table)
