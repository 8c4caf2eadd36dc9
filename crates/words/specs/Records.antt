-- The records that the words hold, for given limits: which there are, and which words each of them has.
use Rattle.std.specs.Prelude.{ℕ, ◌+◌, ◌≤◌, ◌<◌, List, [], ◌∷◌, Bool, ◌&&◌, leb}
use Rattle.words.specs.Layout as at
use Rattle.words.specs.Layout.{thread_at, objects_at, entry_at}

pub data Record : Type 0 where
  header : Record
  thread object dpc : ℕ → Record

-- threads are numbered from 1 on, objects and DPCs by their positions from 0 on
abbrev pub Among : ℕ → ℕ → ℕ → Record → Type 0
Among t o d header = Unit
Among t o d (thread id) = (1 ≤ id) × (id ≤ t)
Among t o d (object i) = i < o
Among t o d (dpc i) = i < d

-- where a record begins
abbrev pub from : ℕ → ℕ → Record → ℕ
from t o header = 0
from t o (thread id) = thread_at id
from t o (object i) = entry_at (objects_at t) i
from t o (dpc i) = entry_at (entry_at (objects_at t) o) i

abbrev pub size_of : Record → ℕ
size_of header = at.header_size
size_of (thread id) = at.thread_size
size_of (object i) = at.record_size
size_of (dpc i) = at.record_size

-- word `j` is one of the record
pub record Has (t o : ℕ) (r : Record) (j : ℕ) : Type 0 where
  pub begins : from t o r ≤ j
  pub ends : j < from t o r + size_of r

-- one behind the last word of the last record
abbrev pub end_of : ℕ → ℕ → ℕ → ℕ
end_of t o d = entry_at (entry_at (objects_at t) o) d

-- ---- fields: the word of its record where each begins, and how many it has

pub record Field : Type 0 where
  pub word : ℕ
  pub many : ℕ

abbrev pub one : ℕ → Field
one k = record { word = k; many = 1 }

abbrev pub some_at : ℕ → ℕ → Field
some_at k n = record { word = k; many = n }

-- each begins where those before it have ended, `done` words in, and the last ends in the record
unfoldable pub stand : ℕ → List Field → ℕ → Bool
stand done [] size = leb done size
stand done (f ∷ fs) size = leb done f.word && stand (f.word + f.many) fs size

-- a first and a last for each of the 31 priorities
abbrev pub header_fields : List Field
header_fields =
    one at.thread_limit ∷ one at.object_limit ∷ one at.dpc_limit ∷ one at.threads ∷ one at.objects ∷ one at.dpcs ∷ one at.current ∷ one at.sequence
    ∷ one at.now ∷ one at.ready ∷ one at.policy ∷ one at.timer_argument ∷ one at.timer_argument2 ∷ one at.accepted ∷ one at.duplicates ∷ one at.removed
    ∷ one at.started ∷ one at.returned ∷ one at.restored ∷ one at.timer_initializations ∷ one at.dpc_initializations ∷ one at.waiters_first
    ∷ one at.waiters_last ∷ one at.queue_first ∷ one at.queue_last ∷ one at.active ∷ some_at (at.ready_first + 1) 31 ∷ some_at (at.ready_last + 1) 31 ∷ []

-- a kind and a key for each of 64 objects at most
abbrev pub thread_fields : List Field
thread_fields =
    one at.priority ∷ one at.state ∷ one at.next_ready ∷ one at.next_waiter ∷ one at.result ∷ one at.status ∷ one at.wait_all ∷ one at.has_deadline
    ∷ one at.deadline ∷ one at.wait_sequence ∷ one at.wait_count ∷ some_at at.wait_places 128 ∷ []

-- of a timer, which has the most
abbrev pub object_fields : List Field
object_fields =
    one at.key ∷ one at.kind ∷ one at.manual ∷ one at.signaled ∷ one at.owner ∷ one at.inserted ∷ one at.due ∷ one at.period ∷ one at.timer_dpc
    ∷ one at.absolute ∷ one at.arm ∷ one at.initialization ∷ one at.timer_architecture ∷ one at.timer_backing ∷ one at.timer_base ∷ one at.timer_size
    ∷ one at.timer_mapped ∷ []

abbrev pub dpc_fields : List Field
dpc_fields =
    one at.address ∷ one at.phase ∷ one at.next_queued ∷ one at.named_by ∷ one at.dpc_architecture ∷ one at.dpc_backing ∷ one at.dpc_base ∷ one at.dpc_size
    ∷ one at.dpc_mapped ∷ one at.routine ∷ one at.context ∷ one at.work_sequence ∷ one at.work_argument ∷ one at.work_argument2 ∷ one at.origin
    ∷ one at.origin_timer ∷ one at.origin_arm ∷ one at.origin_initialization ∷ one at.origin_deadline ∷ one at.origin_observed ∷ one at.origin_periodic
    ∷ one at.new_number ∷ []
