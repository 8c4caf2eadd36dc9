-- The words that a script names things by, each as its bytes.
use Rattle.std.specs.Prelude.{List, ℕ}
use Rattle.script_lex.specs.Text.{bytes_of}

abbrev pub opens : List ℕ
opens = bytes_of "open"

abbrev pub event : List ℕ
event = bytes_of "event"

abbrev pub create : List ℕ
create = bytes_of "create"

abbrev pub wait : List ℕ
wait = bytes_of "wait"

abbrev pub dispatch : List ℕ
dispatch = bytes_of "dispatch"

abbrev pub set : List ℕ
set = bytes_of "set"

abbrev pub yield : List ℕ
yield = bytes_of "yield"

abbrev pub current : List ℕ
current = bytes_of "current"

abbrev pub require_event_release : List ℕ
require_event_release = bytes_of "require_event_release"

abbrev pub retire_event_backing : List ℕ
retire_event_backing = bytes_of "retire_event_backing"

abbrev pub mutex_owner : List ℕ
mutex_owner = bytes_of "mutex_owner"

abbrev pub adopt_mutex : List ℕ
adopt_mutex = bytes_of "adopt_mutex"

abbrev pub mutex_waiters : List ℕ
mutex_waiters = bytes_of "mutex_waiters"

abbrev pub priority : List ℕ
priority = bytes_of "priority"

abbrev pub initialize_mutex : List ℕ
initialize_mutex = bytes_of "initialize_mutex"

abbrev pub delay_until : List ℕ
delay_until = bytes_of "delay_until"

abbrev pub advance_to : List ℕ
advance_to = bytes_of "advance_to"

abbrev pub release_mutex : List ℕ
release_mutex = bytes_of "release_mutex"

abbrev pub reset_event : List ℕ
reset_event = bytes_of "reset_event"

abbrev pub terminate : List ℕ
terminate = bytes_of "terminate"

abbrev pub clock : List ℕ
clock = bytes_of "clock"

abbrev pub new : List ℕ
new = bytes_of "new"

abbrev pub instruction : List ℕ
instruction = bytes_of "instruction"

abbrev pub advance_microseconds : List ℕ
advance_microseconds = bytes_of "advance_microseconds"

abbrev pub advance100ns : List ℕ
advance100ns = bytes_of "advance_100ns"

abbrev pub advance_milliseconds : List ℕ
advance_milliseconds = bytes_of "advance_milliseconds"

abbrev pub flush_cycles : List ℕ
flush_cycles = bytes_of "flush_cycles"

abbrev pub observe : List ℕ
observe = bytes_of "observe"

abbrev pub qpc : List ℕ
qpc = bytes_of "qpc"

abbrev pub tick64 : List ℕ
tick64 = bytes_of "tick64"

abbrev pub tsc : List ℕ
tsc = bytes_of "tsc"

abbrev pub timer_initializations : List ℕ
timer_initializations = bytes_of "timer_initializations"

abbrev pub dpc_initializations : List ℕ
dpc_initializations = bytes_of "dpc_initializations"

abbrev pub timer_read_overlap : List ℕ
timer_read_overlap = bytes_of "timer_read_overlap"

abbrev pub timer_metadata_overlap : List ℕ
timer_metadata_overlap = bytes_of "timer_metadata_overlap"

abbrev pub initialize_timer : List ℕ
initialize_timer = bytes_of "initialize_timer"

abbrev pub initialize_dpc : List ℕ
initialize_dpc = bytes_of "initialize_dpc"

abbrev pub set_timer : List ℕ
set_timer = bytes_of "set_timer"

abbrev pub cancel_timer : List ℕ
cancel_timer = bytes_of "cancel_timer"

abbrev pub require_timer_release : List ℕ
require_timer_release = bytes_of "require_timer_release"

abbrev pub retire_timer_backing : List ℕ
retire_timer_backing = bytes_of "retire_timer_backing"

abbrev pub configure_dpc_dispatch : List ℕ
configure_dpc_dispatch = bytes_of "configure_dpc_dispatch"

abbrev pub queued_dpcs : List ℕ
queued_dpcs = bytes_of "queued_dpcs"

abbrev pub insert_queue_dpc : List ℕ
insert_queue_dpc = bytes_of "insert_queue_dpc"

abbrev pub remove_queue_dpc : List ℕ
remove_queue_dpc = bytes_of "remove_queue_dpc"

abbrev pub start_dpc : List ℕ
start_dpc = bytes_of "start_dpc"

abbrev pub returned_dpc : List ℕ
returned_dpc = bytes_of "returned_dpc"

abbrev pub restored_dpc : List ℕ
restored_dpc = bytes_of "restored_dpc"

abbrev pub x64 : List ℕ
x64 = bytes_of "x64"

abbrev pub x86 : List ℕ
x86 = bytes_of "x86"

abbrev pub image : List ℕ
image = bytes_of "image"

abbrev pub pool : List ℕ
pool = bytes_of "pool"

abbrev pub any : List ℕ
any = bytes_of "any"

abbrev pub all : List ℕ
all = bytes_of "all"

abbrev pub never : List ℕ
never = bytes_of "never"

abbrev pub none : List ℕ
none = bytes_of "none"

abbrev pub mutex : List ℕ
mutex = bytes_of "mutex"

abbrev pub timer : List ℕ
timer = bytes_of "timer"

abbrev pub thread : List ℕ
thread = bytes_of "thread"
