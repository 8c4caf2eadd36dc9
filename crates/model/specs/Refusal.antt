-- Document 01's table, "Checked in this order": a definition for each row, read downwards. 0 is: not refused.
use Rattle.std.specs.Prelude.{ℕ, suc, ◌+◌, ◌*◌, ◌%◌, List, [], ◌∷◌, Bool, true, false, cond, not, ◌&&◌, ◌||◌, length, eqb, leb, ltb, ℤ, pos, negsuc}
use Rattle.std.proofs.Math.Option.{Option, none, some}
use Rattle.arch.specs.declared.Architecture.{Architecture}
use Rattle.images.specs.declared.TimerBacking.{TimerBacking}
use Rattle.images.specs.declared.Timer.{Timer}
use Rattle.images.specs.declared.Dpc.{Dpc}
use Rattle.images.specs.declared.DpcWork.{DpcWork}
use Rattle.images.specs.declared.DpcPhase.{DpcPhase}
use Rattle.images.specs.declared.DpcPhase.TheVariants.{Idle, Queued, Running, Returning}
use Rattle.images.specs.Place.{overlaps, location_refusal, timer_size, dpc_size}
use Rattle.model.specs.Lists.{any, is_empty, present, given}
use Rattle.model.specs.State.{most_threads, State, Dispatcher, Named, Mutex, Event, Object, Policy, unselected, cpu0_dispatch}
use Rattle.model.specs.Threads.{count, is_thread, is_live, has_exited, status_of}
use Rattle.model.specs.Waits.{kind_of, object_at, mutex_at, event_at, timer_at, timers_of, events_of, mutexes_of, listed, exists, waits_on, is_met, reached}
use Rattle.model.specs.Dpcs.{dpc_at, phase_at, is_busy, is_queued, is_caller, is_periodic_of, work_of, active_dpc}
use Rattle.model.specs.Timers.{most, lifetime, due_timers, refusal_of_each, is_named, is_named_by_other, Expired}

-- ---- open (`new`): 1 priority outside 1–31; 27 bad limits or short memory

unfoldable pub not_priority : ℕ → Bool
not_priority p = cond (ltb p 1) true (ltb 31 p)

-- "threads T 1–256, objects O 0–4096, DPCs D 0–4096"
unfoldable pub bad_limits : ℕ → ℕ → ℕ → Bool
bad_limits t o d = cond (ltb t 1) true (cond (ltb most_threads t) true (cond (ltb 4096 o) true (ltb 4096 d)))

-- "at most 256 + 160 T + 32 (O + D)": here exactly that
abbrev pub words_needed : ℕ → ℕ → ℕ → ℕ
words_needed t o d = 256 + 160 * t + 32 * (o + d)

unfoldable pub open_refusal : ℕ → ℕ → ℕ → ℕ → ℕ → ℕ
open_refusal words p t o d = cond (not_priority p) 1 (cond (bad_limits t o d) 27 (cond (ltb words (words_needed t o d)) 27 0))

-- ---- `create_thread`: 1; 4 thread table full

unfoldable pub create_refusal : State → ℕ → ℕ
create_refusal s p = cond (not_priority p) 1 (cond (leb s.limits.threads (count s.dispatcher)) 4 0)

-- ---- `priority`: 1; 2 unknown thread; 11 exited

unfoldable pub priority_refusal : State → ℕ → ℕ → ℕ
priority_refusal s id p =
    cond (not_priority p) 1 (cond (is_thread s.dispatcher id) (cond (has_exited (status_of s.dispatcher id)) 11 0) 2)

-- ---- `initialize_mutex`: 5 key held by another kind (event, timer, DPC); 4 key 0, or new key with mutexes + events + timers at
-- the limit; 6 owned or waited on

unfoldable pub collides : State → ℕ → ℕ → Bool
collides s kind key =
    cond (present (dpc_at s.dpcs.table key)) true
    (given (object_at s.dispatcher.objects key) false (λ o. not (eqb (kind_of o) kind)))

-- a new key with the objects at the limit
unfoldable pub is_full : State → ℕ → Bool
is_full s key =
    cond (present (object_at s.dispatcher.objects key)) false (leb s.limits.objects (length s.dispatcher.objects))

-- the mutex has an owner
abbrev pub is_owned : List Object → ℕ → Bool
is_owned l key = given (mutex_at l key) false (λ (m : Mutex). not (eqb m.owner 0))

-- some thread waits for the object of that kind and key
abbrev pub is_waited_on : State → ℕ → ℕ → Bool
is_waited_on s kind key = waits_on s.dispatcher (record { kind = kind; key = key })

unfoldable pub mutex_refusal : State → ℕ → ℕ
mutex_refusal s key =
    cond (collides s 0 key) 5
    (cond (eqb key 0) 4
    (cond (is_full s key) 4
    (cond (is_owned s.dispatcher.objects key) 6
    (cond (is_waited_on s 0 key) 6 0))))

-- ---- `initialize_event`: 5; 4; 6 waited on

unfoldable pub event_refusal : State → ℕ → ℕ
event_refusal s key = cond (collides s 1 key) 5 (cond (eqb key 0) 4 (cond (is_full s key) 4 (cond (is_waited_on s 1 key) 6 0)))

-- ---- `adopt_mutex`: 10 owner not a live thread; 10 known mutex with another owner; a new key as `initialize_mutex`

-- the owner as a mutex keeps it: 0 for none
abbrev pub owner_number : Option ℕ → ℕ
owner_number none = 0
owner_number (some id) = id

-- an owner that is not a live thread
abbrev pub bad_owner : Dispatcher → Option ℕ → Bool
bad_owner d none = false
bad_owner d (some id) = not (is_live d id)

unfoldable pub adopt_refusal : State → ℕ → Option ℕ → ℕ
adopt_refusal s key owner =
    cond (bad_owner s.dispatcher owner) 10
    (given (mutex_at s.dispatcher.objects key) (mutex_refusal s key) (λ (m : Mutex). cond (eqb m.owner (owner_number owner)) 0 10))

-- ---- `mutex_owner`: 2

unfoldable pub owner_refusal : State → ℕ → ℕ
owner_refusal s key = cond (present (mutex_at s.dispatcher.objects key)) 0 2

-- ---- `release_mutex`: 3 no current thread; 2; 10 not the owner

unfoldable pub release_refusal : State → ℕ → ℕ
release_refusal s key =
    cond (eqb s.dispatcher.current 0) 3
    (given (mutex_at s.dispatcher.objects key) 2 (λ (m : Mutex). cond (eqb m.owner s.dispatcher.current) 0 10))

-- ---- `set_event`, `reset_event`: 2

unfoldable pub signal_refusal : State → ℕ → ℕ
signal_refusal s key = cond (present (event_at s.dispatcher.objects key)) 0 2

-- ---- event release, `retire_event_backing`: 23 base + size passes 2^64 − 1, size or layout 0, some event's key + layout passes
-- 2^64 − 1, an event is split or, when overlapped, waited on

-- the event is not wholly in the released memory
abbrev pub is_split : ℕ → ℕ → ℕ → ℕ → Bool
is_split base end from to = ltb from base || ltb end to

-- an event that forbids the release
unfoldable pub event_held : State → ℕ → ℕ → ℕ → Event → Bool
event_held s base end layout e =
    cond (ltb most (e.key + layout)) true
    (cond (ltb e.key end && ltb base (e.key + layout))
    (is_split base end e.key (e.key + layout) || is_waited_on s 1 e.key)
    false)

unfoldable pub event_release_refusal : State → ℕ → ℕ → ℕ → ℕ
event_release_refusal s base size layout =
    cond (ltb most (base + size)) 23
    (cond (eqb size 0) 23
    (cond (eqb layout 0) 23
    (cond (any (event_held s base (base + size) layout) (events_of s.dispatcher.objects)) 23 0)))

-- ---- `wait`: 3; 7 list of 0, over 64, duplicate, odd length or kind over 3; 2; 8 a listed mutex is the caller's own; then grant
-- or timeout; 9 IRQL over 1; 24 wait sequence at 2^64 − 1

-- "The list is pairs kind, key"; a kind without a key is dropped here, and the odd length refused
abbrev pub pairs : List ℕ → List Named
pairs [] = []
pairs (kind ∷ []) = []
pairs (kind ∷ key ∷ l) = record { kind = kind; key = key } ∷ pairs l

-- an object stands in the list twice
abbrev pub has_duplicate : List Named → Bool
has_duplicate [] = false
has_duplicate (n ∷ ns) = cond (listed n ns) true (has_duplicate ns)

-- 7
unfoldable pub bad_list : List ℕ → Bool
bad_list l =
    cond (is_empty (pairs l)) true
    (cond (ltb 64 (length (pairs l))) true
    (cond (has_duplicate (pairs l)) true
    (cond (eqb (length l % 2) 1) true
    (any (λ (n : Named). ltb 3 n.kind) (pairs l)))))

-- a mutex that is the caller's own
abbrev pub is_own : Dispatcher → Named → Bool
is_own d n = cond (eqb n.kind 0) (given (mutex_at d.objects n.key) false (λ (m : Mutex). eqb m.owner d.current)) false

-- 24
unfoldable pub sequence_refusal : State → ℕ
sequence_refusal s = cond (leb most s.dispatcher.sequence) 24 0

unfoldable pub wait_refusal : State → List ℕ → Bool → Option ℕ → ℕ → ℕ
wait_refusal s l all deadline irql =
    cond (eqb s.dispatcher.current 0) 3
    (cond (bad_list l) 7
    (cond (any (λ (n : Named). not (exists s.dispatcher n)) (pairs l)) 2
    (cond (any (is_own s.dispatcher) (pairs l)) 8
    (cond (is_met s.dispatcher (pairs l) all) 0
    (cond (reached deadline s.now) 0
    (cond (ltb 1 irql) 9
    (sequence_refusal s)))))))

-- ---- `delay_until`: 9; 3; then timeout; 24

unfoldable pub delay_refusal : State → ℕ → ℕ → ℕ
delay_refusal s deadline irql =
    cond (ltb 1 irql) 9
    (cond (eqb s.dispatcher.current 0) 3
    (cond (leb deadline s.now) 0
    (sequence_refusal s)))

-- ---- `yield_current`: 3

unfoldable pub yield_refusal : State → ℕ
yield_refusal s = cond (eqb s.dispatcher.current 0) 3 0

-- ---- `terminate`: 3; 10 owns a mutex

-- a mutex of the thread's
abbrev pub owns_mutex : List Object → ℕ → Bool
owns_mutex l id = any (λ (m : Mutex). eqb m.owner id) (mutexes_of l)

unfoldable pub terminate_refusal : State → ℕ
terminate_refusal s =
    cond (eqb s.dispatcher.current 0) 3 (cond (owns_mutex s.dispatcher.objects s.dispatcher.current) 10 0)

-- ---- `advance_to`: 12 time goes back; then the expiry rules

-- what an expiry changes, before it
abbrev pub unexpired : State → Expired
unexpired s = record { objects = s.dispatcher.objects; dpcs = s.dpcs }

unfoldable pub advance_refusal : State → ℕ → ℕ
advance_refusal s time =
    cond (ltb time s.now) 12
    (refusal_of_each s.policy time (unexpired s) (due_timers s.policy time s.dispatcher.objects))

-- ---- `initialize_timer`: 5; 4 (limit only); 14 after 65,536 successes; 6 inserted or waited on; 15 location; 16 overlap

-- "16 assumes 24 bytes per event and 56 per mutex"; a record that is replaced is not in its own way
unfoldable pub is_overlapped : State → ℕ → ℕ → Bool
is_overlapped s address size =
    cond (any (λ (t : Timer). not (eqb t.address address) && overlaps address size t.address (timer_size t.architecture)) (timers_of s.dispatcher.objects)) true
    (cond (any (λ (d : Dpc). not (eqb d.address address) && overlaps address size d.address (dpc_size d.architecture)) s.dpcs.table) true
    (cond (any (λ (e : Event). overlaps address size e.key 24) (events_of s.dispatcher.objects)) true
    (any (λ (m : Mutex). overlaps address size m.key 56) (mutexes_of s.dispatcher.objects))))

-- 15, then 16
unfoldable pub place_refusal : State → ℕ → ℕ → Architecture → TimerBacking → ℕ
place_refusal s address size a b = cond (eqb (location_refusal address size a b) 0) (cond (is_overlapped s address size) 16 0) 15

-- the timer is inserted
abbrev pub is_inserted : List Object → ℕ → Bool
is_inserted l address = given (timer_at l address) false (λ (t : Timer). t.inserted)

unfoldable pub timer_refusal : State → ℕ → Architecture → TimerBacking → ℕ
timer_refusal s address a b =
    cond (collides s 2 address) 5
    (cond (is_full s address) 4
    (cond (leb lifetime s.timer_initializations) 14
    (cond (is_inserted s.dispatcher.objects address) 6
    (cond (is_waited_on s 2 address) 6
    (place_refusal s address (timer_size a) a b)))))

-- ---- `initialize_dpc`: 5; 4 DPC table full; 14; 19 busy; 19 named by an inserted timer; 15; 16

unfoldable pub dpc_refusal : State → ℕ → Architecture → TimerBacking → ℕ
dpc_refusal s address a b =
    cond (present (object_at s.dispatcher.objects address)) 5
    (cond (cond (present (dpc_at s.dpcs.table address)) false (leb s.limits.dpcs (length s.dpcs.table))) 4
    (cond (leb lifetime s.dpc_initializations) 14
    (cond (is_busy (phase_at s.dpcs.table address)) 19
    (cond (is_named s.dispatcher.objects address) 19
    (place_refusal s address (dpc_size a) a b)))))

-- ---- `set_timer`: 17 negative period; unless the DPC is 0, 2 for it, 18 another inserted timer has it, 19 it is busy; 19 the
-- timer's former DPC busy; 2 timer; 24 arm count at its end

-- "17 negative period"
abbrev pub is_negative : ℤ → Bool
is_negative (pos n) = false
is_negative (negsuc n) = true

-- the timer's former DPC is busy
abbrev pub former_busy : State → Timer → Bool
former_busy s t = cond (eqb t.dpc 0) false (is_busy (phase_at s.dpcs.table t.dpc))

-- 19 for the timer's former DPC, 2 timer, 24
unfoldable pub arm_refusal : State → ℕ → ℕ
arm_refusal s address =
    given (timer_at s.dispatcher.objects address) 2
    (λ (t : Timer). cond (former_busy s t) 19 (cond (leb most t.arm_generation) 24 0))

unfoldable pub set_refusal : State → ℕ → ℤ → ℕ → ℕ
set_refusal s address period dpc =
    cond (is_negative period) 17
    (cond (eqb dpc 0) (arm_refusal s address)
    (cond (present (dpc_at s.dpcs.table dpc))
    (cond (is_named_by_other s.dispatcher.objects address dpc) 18
    (cond (is_busy (phase_at s.dpcs.table dpc)) 19
    (arm_refusal s address)))
    2))

-- "Added: a signed due v .. 17 first, then 13 past 2^64 − 1, then `set_timer`."

-- "Negative means now plus its magnitude, relative; otherwise due v, absolute."
abbrev pub signed_due : ℕ → ℤ → ℕ
signed_due now (pos n) = n
signed_due now (negsuc n) = now + suc n

unfoldable pub set_signed_refusal : State → ℕ → ℤ → ℤ → ℕ → ℕ
set_signed_refusal s address v period dpc =
    cond (is_negative period) 17
    (cond (is_negative v && ltb most (signed_due s.now v)) 13
    (set_refusal s address period dpc))

-- ---- `cancel_timer`, `timer`, `dpc`, images, `remove_queue_dpc`: 2

unfoldable pub unknown_timer : State → ℕ → ℕ
unknown_timer s address = cond (present (timer_at s.dispatcher.objects address)) 0 2

-- the same for a DPC
unfoldable pub unknown_dpc : State → ℕ → ℕ
unknown_dpc s address = cond (present (dpc_at s.dpcs.table address)) 0 2

-- ---- timer release, `retire_timer_backing`: 23 an overlapped timer is inserted, waited on, or periodic origin of the active
-- work; or an overlapped DPC is busy or named by an inserted timer

-- "periodic origin of the active work"
abbrev pub is_periodic_origin : List Dpc → ℕ → Bool
is_periodic_origin l a =
    given (active_dpc l) false (λ (d : Dpc). given (work_of d.phase) false (λ (w : DpcWork). is_periodic_of a w.origin))

-- the timer, or the DPC, overlaps the released memory
abbrev pub timer_overlapped : ℕ → ℕ → Timer → Bool
timer_overlapped address size t = overlaps address size t.address (timer_size t.architecture)

-- the DPC overlaps the released memory
abbrev pub dpc_overlapped : ℕ → ℕ → Dpc → Bool
dpc_overlapped address size d = overlaps address size d.address (dpc_size d.architecture)

-- a timer, or a DPC, that forbids the release
unfoldable pub timer_held : State → ℕ → ℕ → Timer → Bool
timer_held s address size t =
    cond (timer_overlapped address size t)
    (cond t.inserted true (cond (is_waited_on s 2 t.address) true (is_periodic_origin s.dpcs.table t.address)))
    false

-- "or an overlapped DPC is busy or named by an inserted timer"
unfoldable pub dpc_held : State → ℕ → ℕ → Dpc → Bool
dpc_held s address size d =
    cond (dpc_overlapped address size d) (cond (is_busy d.phase) true (is_named s.dispatcher.objects d.address)) false

unfoldable pub timer_release_refusal : State → ℕ → ℕ → ℕ
timer_release_refusal s address size =
    cond (any (timer_held s address size) (timers_of s.dispatcher.objects)) 23
    (cond (any (dpc_held s address size) s.dpcs.table) 23 0)

-- ---- `configure_dpc_dispatch`: 20 unless no policy is set, thread 1 is the only one and current, wait sequence, now and
-- acceptances are 0, and no event, mutex, timer or DPC exists; 20 an argument 0 or both equal

-- "no policy is set"
abbrev pub is_unselected : Policy → Bool
is_unselected unselected = true
is_unselected (cpu0_dispatch first second) = false

-- nothing has happened yet but the `open`
unfoldable pub is_untouched : State → Bool
is_untouched s =
    is_unselected s.policy && eqb (count s.dispatcher) 1 && eqb s.dispatcher.current 1 && eqb s.dispatcher.sequence 0
    && eqb s.now 0 && eqb s.dpcs.counters.accepted 0 && is_empty s.dispatcher.objects && is_empty s.dpcs.table

unfoldable pub configure_refusal : State → ℕ → ℕ → ℕ
configure_refusal s first second =
    cond (is_untouched s) (cond (eqb first 0 || eqb second 0 || eqb first second) 20 0) 20

-- ---- `insert_queue_dpc`: 18 named by an inserted timer; 20 no policy; 2; 21 queued from another origin; 24 duplicates at
-- 2^64 − 1; 19 running or returning; 14 after 65,536 acceptances

-- what the DPC's phase refuses: 21 and 24 for queued work, 19 for active work, 14 else
abbrev pub insert_in_phase : State → DpcPhase → ℕ
insert_in_phase s Idle = cond (leb lifetime s.dpcs.counters.accepted) 14 0
insert_in_phase s (Queued w) = cond (is_caller w.origin) (cond (leb most s.dpcs.counters.duplicates) 24 0) 21
insert_in_phase s (Running w) = 19
insert_in_phase s (Returning w) = 19

unfoldable pub insert_refusal : State → ℕ → ℕ
insert_refusal s address =
    cond (is_named s.dispatcher.objects address) 18
    (cond (is_unselected s.policy) 20
    (cond (present (dpc_at s.dpcs.table address)) (insert_in_phase s (phase_at s.dpcs.table address)) 2))

-- ---- `start_dpc`: 22 not the head, or one active

-- the head of the queue
abbrev pub is_head : ℕ → List ℕ → Bool
is_head a [] = false
is_head a (x ∷ xs) = eqb x a

unfoldable pub start_refusal : State → ℕ → ℕ
start_refusal s address =
    cond (present (active_dpc s.dpcs.table)) 22
    (cond (is_head address s.dpcs.queue && is_queued (phase_at s.dpcs.table address)) 0 22)

-- ---- `returned_dpc`, `restored_dpc`: 2; 22 phase or sequence differs

-- running, with the work of that sequence
abbrev pub runs_with : ℕ → DpcPhase → Bool
runs_with n Idle = false
runs_with n (Queued w) = false
runs_with n (Running w) = eqb w.sequence n
runs_with n (Returning w) = false

-- returning, with the work of that sequence
abbrev pub returns_with : ℕ → DpcPhase → Bool
returns_with n Idle = false
returns_with n (Queued w) = false
returns_with n (Running w) = false
returns_with n (Returning w) = eqb w.sequence n

unfoldable pub returned_refusal : State → ℕ → ℕ → ℕ
returned_refusal s address n =
    cond (present (dpc_at s.dpcs.table address)) (cond (runs_with n (phase_at s.dpcs.table address)) 0 22) 2

unfoldable pub restored_refusal : State → ℕ → ℕ → ℕ
restored_refusal s address n =
    cond (present (dpc_at s.dpcs.table address)) (cond (returns_with n (phase_at s.dpcs.table address)) 0 22) 2

-- ---- every call: 27, before all else, "an output slice under T words (deadlocked list) or 64 bytes (image)"

unfoldable pub dispatch_refusal : State → ℕ → ℕ
dispatch_refusal s out = cond (ltb out s.limits.threads) 27 0

-- 27, then 2
unfoldable pub timer_image_refusal : State → ℕ → ℕ → ℕ
timer_image_refusal s address out = cond (ltb out 64) 27 (unknown_timer s address)

-- the same for a DPC's image
unfoldable pub dpc_image_refusal : State → ℕ → ℕ → ℕ
dpc_image_refusal s address out = cond (ltb out 64) 27 (unknown_dpc s address)
