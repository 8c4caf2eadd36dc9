-- Where things stand in the words: the code's constants under the same names, and the places of records.
use Rattle.std.specs.Prelude.{cond, ℕ, ◌+◌, ◌*◌, leb}

-- ---- sizes

-- of the header
abbrev pub header_size : ℕ
header_size = 256

-- of a thread's record
abbrev pub thread_size : ℕ
thread_size = 160

-- of an object's or a DPC's record
abbrev pub record_size : ℕ
record_size = 32

-- the largest number of a thread
abbrev pub most_threads : ℕ
most_threads = 256

-- ---- words of the header

abbrev pub thread_limit : ℕ
thread_limit = 0

abbrev pub object_limit : ℕ
object_limit = 1

abbrev pub dpc_limit : ℕ
dpc_limit = 2

abbrev pub threads : ℕ
threads = 3

abbrev pub objects : ℕ
objects = 4

abbrev pub dpcs : ℕ
dpcs = 5

abbrev pub current : ℕ
current = 6

abbrev pub sequence : ℕ
sequence = 7

abbrev pub now : ℕ
now = 8

abbrev pub ready : ℕ
ready = 9

abbrev pub policy : ℕ
policy = 10

abbrev pub timer_argument : ℕ
timer_argument = 11

abbrev pub timer_argument2 : ℕ
timer_argument2 = 12

abbrev pub accepted : ℕ
accepted = 13

abbrev pub duplicates : ℕ
duplicates = 14

abbrev pub removed : ℕ
removed = 15

abbrev pub started : ℕ
started = 16

abbrev pub returned : ℕ
returned = 17

abbrev pub restored : ℕ
restored = 18

abbrev pub timer_initializations : ℕ
timer_initializations = 19

abbrev pub dpc_initializations : ℕ
dpc_initializations = 20

abbrev pub waiters_first : ℕ
waiters_first = 21

abbrev pub waiters_last : ℕ
waiters_last = 22

abbrev pub queue_first : ℕ
queue_first = 23

abbrev pub queue_last : ℕ
queue_last = 24

abbrev pub active : ℕ
active = 25

-- those of the ready threads of priority p stand p words behind these
abbrev pub ready_first : ℕ
ready_first = 32

abbrev pub ready_last : ℕ
ready_last = 64

-- ---- words of a thread's record; a kind and a key for each object that it waits for stand from `wait_places` on

abbrev pub priority : ℕ
priority = 0

abbrev pub state : ℕ
state = 1

abbrev pub next_ready : ℕ
next_ready = 2

abbrev pub next_waiter : ℕ
next_waiter = 3

abbrev pub result : ℕ
result = 4

abbrev pub status : ℕ
status = 5

abbrev pub wait_all : ℕ
wait_all = 7

abbrev pub has_deadline : ℕ
has_deadline = 8

abbrev pub deadline : ℕ
deadline = 9

abbrev pub wait_sequence : ℕ
wait_sequence = 10

abbrev pub wait_count : ℕ
wait_count = 11

abbrev pub wait_places : ℕ
wait_places = 32

-- ---- words of an object's record

abbrev pub key : ℕ
key = 0

abbrev pub kind : ℕ
kind = 1

abbrev pub manual : ℕ
manual = 2

abbrev pub signaled : ℕ
signaled = 3

abbrev pub owner : ℕ
owner = 4

-- ---- words of a timer's record, behind those of every object

abbrev pub inserted : ℕ
inserted = 5

abbrev pub due : ℕ
due = 6

abbrev pub period : ℕ
period = 7

abbrev pub timer_dpc : ℕ
timer_dpc = 8

abbrev pub absolute : ℕ
absolute = 9

abbrev pub arm : ℕ
arm = 10

abbrev pub initialization : ℕ
initialization = 11

abbrev pub timer_architecture : ℕ
timer_architecture = 12

abbrev pub timer_backing : ℕ
timer_backing = 13

abbrev pub timer_base : ℕ
timer_base = 14

abbrev pub timer_size : ℕ
timer_size = 15

abbrev pub timer_mapped : ℕ
timer_mapped = 16

-- ---- words of a DPC's record

abbrev pub address : ℕ
address = 0

abbrev pub phase : ℕ
phase = 1

abbrev pub next_queued : ℕ
next_queued = 2

abbrev pub named_by : ℕ
named_by = 3

abbrev pub dpc_architecture : ℕ
dpc_architecture = 4

abbrev pub dpc_backing : ℕ
dpc_backing = 5

abbrev pub dpc_base : ℕ
dpc_base = 6

abbrev pub dpc_size : ℕ
dpc_size = 7

abbrev pub dpc_mapped : ℕ
dpc_mapped = 8

abbrev pub routine : ℕ
routine = 9

abbrev pub context : ℕ
context = 10

-- its work

abbrev pub work_sequence : ℕ
work_sequence = 11

abbrev pub work_argument : ℕ
work_argument = 12

abbrev pub work_argument2 : ℕ
work_argument2 = 13

abbrev pub origin : ℕ
origin = 14

abbrev pub origin_timer : ℕ
origin_timer = 15

abbrev pub origin_arm : ℕ
origin_arm = 16

abbrev pub origin_initialization : ℕ
origin_initialization = 17

abbrev pub origin_deadline : ℕ
origin_deadline = 18

abbrev pub origin_observed : ℕ
origin_observed = 19

abbrev pub origin_periodic : ℕ
origin_periodic = 20

-- what its number becomes when the table is closed up

abbrev pub new_number : ℕ
new_number = 21

-- ---- places of records

-- the record that thread 0 would have; words of the header that nothing keeps
abbrev pub unused : ℕ
unused = 96

-- where thread `id` stands, and word `k` of its record
abbrev pub thread_from : ℕ → ℕ
thread_from id = unused + thread_size * id

abbrev pub thread_word : ℕ → ℕ → ℕ
thread_word k id = unused + k + thread_size * id

-- the link of thread n in its ready queue, or among the waiters, stands n records behind these
abbrev pub ready_link : ℕ
ready_link = unused + next_ready

abbrev pub waiters_link : ℕ
waiters_link = unused + next_waiter

-- the link of DPC n in the queue stands n records behind the place that is so far before the first DPC
abbrev pub queue_link_before : ℕ
queue_link_before = 30

-- a number past the largest is no thread's
unfoldable pub thread_at : ℕ → ℕ
thread_at id = cond (leb id most_threads) (thread_from id) unused

unfoldable pub objects_at : ℕ → ℕ
objects_at t = cond (leb t most_threads) (header_size + thread_size * t) header_size

unfoldable pub entry_at : ℕ → ℕ → ℕ
entry_at base i = cond (leb base 1000000) (cond (leb i 8192) (base + record_size * i) unused) unused
