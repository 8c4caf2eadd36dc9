-- A line that is read means a call whose arguments fit their types.
use Prim.Native.Nat.{ℕ, zero, suc, ◌+◌, ◌%◌, ◌≤◌}
use mathlib.Core.List.{List, [], ◌∷◌}
use mathlib.Core.Bool.{Bool, true, false, cond}
use mathlib.Core.Path.{◌≡◌, refl}
use native.Mathlib.Omega.{arith}
use lib.Dec.{eqb, ltb}
use lib.IntN.{ℤ, pos, neg_ℤ}
use Rattle.std.specs.Prelude.{Option, Some, None}
use lib.ListN.{length, get_or, set, take, drop}
use Rattle.arch.specs.declared.Architecture.{Architecture}
use Rattle.images.specs.declared.TimerBacking.{TimerBacking}
use Rattle.script_lex.specs.declared.location.Location.{Location}
use Rattle.script_lex.specs.declared.command.Command.{Command}
use Rattle.script_lex.specs.declared.command.Command.TheVariants as command
use Rattle.script_lex.specs.Names as name
use Rattle.script_lex.specs.Words.{first, others, none, same, words_of}
use Rattle.script_lex.specs.Numbers.{number_of, signed_of, plus, minus}
use Rattle.script_lex.specs.Arguments.{most, flag_of, one_of, join_two, two_of, join_three, three_of, with_one, with_two, with_three, bare_line}
use Rattle.script_lex.specs.Location.{architecture_of, image_of, pool_of, image_line, pool_line, backing_of, placed, location_of, behind_location, with_location}
use Rattle.script_timers.specs.Timers.{manual_of, manual_behind, initialize_timer_line, set_of, set_behind, set_timer_line, timer_memory_line, timer_line}
use Rattle.script_timers.specs.Dpc.{routine_behind, initialize_dpc_line, dpc_work_line, dpc_line}
use Rattle.script_timers.specs.Clock.{new_of, new_behind, new_line, advance_line, clock_line}
use Rattle.script.specs.Scheduler.{with_flags, flagged, event_line, owned_by, adopt_line, thread_line, events_line, mutex_line, short_line}
use Rattle.script.specs.Wait as wait
use Rattle.script.specs.Wait.{Taken, taken, Paired, paired, item_of, kind_of, pairs_of, is_read, wait_command, with_irql, wait_from, with_deadline, wait_until, wait_line}
use Rattle.script.specs.Line.{text_length, text_line, read_line}
use Rattle.script_lex.proofs.NumberLaws.{within}
use Rattle.model.specs.Fits.{U64s, U64?, I32, BackingFits}
use Rattle.model.specs.Call as call
use Rattle.commands.specs.Commands.{argument, nothing, calls, asked}
use Rattle.program.specs.Script.{AskedFits}

-- ---- what is read of a word is within its limits, or nothing is read

abbrev NumberOk : ℕ → Option ℕ → Type 0
NumberOk limit None = Unit
NumberOk limit (Some n) = n ≤ limit

abbrev SignedOk : Option ℤ → Type 0
SignedOk None = Unit
SignedOk (Some z) = I32 z

abbrev TwoOk : ℕ → ℕ → Option (ℕ × ℕ) → Type 0
TwoOk a b None = Unit
TwoOk a b (Some (m, n)) = (m ≤ a) × (n ≤ b)

abbrev ThreeOk : Option (ℕ × ℕ × ℕ) → Type 0
ThreeOk None = Unit
ThreeOk (Some (k, m, n)) = (k ≤ most) × (m ≤ most) × (n ≤ most)

abbrev BackingOk : Option TimerBacking → Type 0
BackingOk None = Unit
BackingOk (Some b) = BackingFits b

abbrev LocationOk : Option Location → Type 0
LocationOk None = Unit
LocationOk (Some x) = (x.address ≤ most) × BackingFits x.backing

number_ok : (limit : ℕ) (w : List ℕ) → NumberOk limit (number_of limit w)
number_ok limit w = go (number_of limit w) refl
  where
    go : (x : Option ℕ) → x ≡ number_of limit w → NumberOk limit x
    go None e = tt
    go (Some n) e = within limit n w e

one_ok : (limit : ℕ) (ws : List (List ℕ)) → NumberOk limit (one_of limit ws)
unfolding one_of
one_ok limit ws = go (none (others ws))
  where
    go : (b : Bool) → NumberOk limit (cond b (number_of limit (first ws)) None)
    go true = number_ok limit (first ws)
    go false = tt

two_ok : (a b : ℕ) (ws : List (List ℕ)) → TwoOk a b (two_of a b ws)
unfolding two_of join_two
two_ok a b ws = go (number_of a (first ws)) (one_of b (others ws)) (number_ok a (first ws)) (one_ok b (others ws))
  where
    go : (x y : Option ℕ) → NumberOk a x → NumberOk b y → TwoOk a b (join_two x y)
    go (Some m) (Some n) h k = (h, k)
    go (Some m) None h k = tt
    go None y h k = tt

three-ok : (ws : List (List ℕ)) → ThreeOk (three_of ws)
unfolding three_of join_three
three-ok ws = go (number_of most (first ws)) (two_of most most (others ws)) (number_ok most (first ws)) (two_ok most most (others ws))
  where
    go : (x : Option ℕ) (y : Option (ℕ × ℕ)) → NumberOk most x → TwoOk most most y → ThreeOk (join_three x y)
    go (Some k) (Some (m, n)) h q = (h, q.0, q.1)
    go (Some k) None h q = tt
    go None y h q = tt

below : (n : ℕ) → n ≤ 2147483648 → I32 (neg_ℤ (pos n))
below zero h = omega arith
below (suc n) h = omega arith

signed-ok : (w : List ℕ) → SignedOk (signed_of w)
unfolding signed_of plus minus
signed-ok w = go (eqb (get_or w 0 0) 45)
  where
    down : (x : Option ℕ) → NumberOk 2147483648 x → SignedOk (minus x)
    down None h = tt
    down (Some n) h = below n h

    up : (x : Option ℕ) → NumberOk 2147483647 x → SignedOk (plus x)
    up None h = tt
    up (Some n) h = h

    go : (b : Bool) → SignedOk (cond b (minus (number_of 2147483648 (drop 1 w))) (plus (number_of 2147483647 w)))
    go true = down (number_of 2147483648 (drop 1 w)) (number_ok 2147483648 (drop 1 w))
    go false = up (number_of 2147483647 w) (number_ok 2147483647 w)

image-ok : (x y : Option ℕ) → NumberOk most x → NumberOk most y → BackingOk (image_of x y)
unfolding image_of
image-ok (Some m) (Some n) h k = (h, k)
image-ok (Some m) None h k = tt
image-ok None y h k = tt

pool-ok : (x y z : Option ℕ) → NumberOk most x → NumberOk most y → NumberOk most z → BackingOk (pool_of x y z)
unfolding pool_of
pool-ok (Some l) (Some m) (Some n) h k q = (h, k, q)
pool-ok (Some l) (Some m) None h k q = tt
pool-ok (Some l) None z h k q = tt
pool-ok None y z h k q = tt

backing-ok : (ws : List (List ℕ)) → BackingOk (backing_of ws)
unfolding backing_of image_line pool_line
backing-ok ws = go (same (first ws) name.image) (same (first ws) name.pool)
  where
    go : (a b : Bool) → BackingOk (cond a (image_line (others ws)) (cond b (pool_line (others ws)) None))
    go true b = image-ok _ _ (number_ok most (first (others ws))) (number_ok most (first (others (others ws))))
    go false true = pool-ok _ _ _ (number_ok most (first (others ws))) (number_ok most (first (others (others ws)))) (number_ok most (first (others (others (others ws)))))
    go false false = tt

location-ok : (ws : List (List ℕ)) → LocationOk (location_of ws)
unfolding location_of placed
location-ok ws = go (number_of most (first ws)) (architecture_of (first (others ws))) (backing_of (others (others ws))) (number_ok most (first ws)) (backing-ok (others (others ws)))
  where
    go : (x : Option ℕ) (y : Option Architecture) (z : Option TimerBacking) → NumberOk most x → BackingOk z → LocationOk (placed x y z)
    go (Some n) (Some a) (Some b) h k = (h, k)
    go (Some n) (Some a) None h k = tt
    go (Some n) None z h k = tt
    go None y z h k = tt

-- ---- commands

-- whatever numbers stand in the list, the call that the command means has arguments that fit
record Fit (c : Option Command) : Type 0 where
  fits : (l : List ℕ) → U64s l → AskedFits (asked l c)

-- and, but for a wait, it is the same call
pub record Ok (c : Option Command) : Type 0 where
  pub fits : (l : List ℕ) → U64s l → AskedFits (asked l c)
  pub alike : (l m : List ℕ) → asked l c ≡ asked m c

either : (b : Bool) (x y : Option Command) → Ok x → Ok y → Ok (cond b x y)
either true x y h k = h
either false x y h k = k

pub unread : Ok None
unfolding asked
unread = record { fits = λ l u. tt; alike = λ l m. refl }

alone : (c : Command) (ws : List (List ℕ)) → Ok (Some c) → Ok (bare_line c ws)
unfolding bare_line
alone c ws h = either (none ws) (Some c) None h unread

with-one : (f : ℕ → Option Command) (limit : ℕ) (x : Option ℕ) → NumberOk limit x → ((n : ℕ) → n ≤ limit → Ok (f n)) → Ok (with_one f x)
unfolding with_one
with-one f limit None k h = unread
with-one f limit (Some n) k h = h n k

with_two_lem : (f : ℕ → ℕ → Option Command) (a b : ℕ) (x : Option (ℕ × ℕ)) → TwoOk a b x → ((m n : ℕ) → m ≤ a → n ≤ b → Ok (f m n)) → Ok (with_two f x)
unfolding with_two
with_two_lem f a b None k h = unread
with_two_lem f a b (Some (m, n)) k h = h m n k.0 k.1

with-three : (f : ℕ → ℕ → ℕ → Option Command) (x : Option (ℕ × ℕ × ℕ)) → ThreeOk x → ((k m n : ℕ) → k ≤ most → m ≤ most → n ≤ most → Ok (f k m n)) → Ok (with_three f x)
unfolding with_three
with-three f None q h = unread
with-three f (Some (k, m, n)) q h = h k m n q.0 q.1 q.2

with-location : (f : ℕ → Architecture → TimerBacking → Option Command) (x : Option Location) → LocationOk x
    → ((address : ℕ) (a : Architecture) (b : TimerBacking) → address ≤ most → BackingFits b → Ok (f address a b)) → Ok (with_location f x)
unfolding with_location
with-location f None k h = unread
with-location f (Some x) k h = h x.address x.architecture x.backing k.0 k.1

one : (f : ℕ → Option Command) (limit : ℕ) (ws : List (List ℕ)) → ((n : ℕ) → n ≤ limit → Ok (f n)) → Ok (with_one f (one_of limit ws))
one f limit ws h = with-one f limit (one_of limit ws) (one_ok limit ws) h

two-words : (f : ℕ → ℕ → Option Command) (a b : ℕ) (ws : List (List ℕ)) → ((m n : ℕ) → m ≤ a → n ≤ b → Ok (f m n)) → Ok (with_two f (two_of a b ws))
two-words f a b ws h = with_two_lem f a b (two_of a b ws) (two_ok a b ws) h

three-words : (f : ℕ → ℕ → ℕ → Option Command) (ws : List (List ℕ)) → ((k m n : ℕ) → k ≤ most → m ≤ most → n ≤ most → Ok (f k m n)) → Ok (with_three f (three_of ws))
three-words f ws h = with-three f (three_of ws) (three-ok ws) h

-- ---- single commands

manual-ok : (address : ℕ) (a : Architecture) (b : TimerBacking) → address ≤ most → BackingFits b → (f : Option Bool) (ws : List (List ℕ)) → Ok (manual_of address a b f ws)
unfolding manual_of asked
manual-ok address a b h k (Some manual) ws = alone (command.InitializeTimer address a b manual) ws (record { fits = λ l u. (h, k); alike = λ l m. refl })
manual-ok address a b h k None ws = unread

set-ok : (address due : ℕ) → address ≤ most → due ≤ most → (f : Option Bool) (x : Option ℤ) (y : Option ℕ) → SignedOk x → NumberOk most y → Ok (set_of address due f x y)
unfolding set_of asked
set-ok address due h k (Some absolute) (Some period) (Some dpc) p q = record { fits = λ l u. (h, k, p, q); alike = λ l m. refl }
set-ok address due h k (Some absolute) (Some period) None p q = unread
set-ok address due h k (Some absolute) None y p q = unread
set-ok address due h k None x y p q = unread

new_ok : (utc uptime : ℕ) (x : Option ℤ) (y : Option ℕ) → Ok (new_of utc uptime x y)
unfolding new_of asked
new_ok utc uptime (Some offset) (Some mhz) = record { fits = λ l u. tt; alike = λ l m. refl }
new_ok utc uptime (Some offset) None = unread
new_ok utc uptime None y = unread

flags-ok : (key : ℕ) → key ≤ most → (x y : Option Bool) (ws : List (List ℕ)) → Ok (with_flags key x y ws)
unfolding with_flags asked
flags-ok key h (Some manual) (Some signaled) ws = alone (command.Event key manual signaled) ws (record { fits = λ l u. h; alike = λ l m. refl })
flags-ok key h (Some manual) None ws = unread
flags-ok key h None y ws = unread

-- ---- DPCs

dpc-work-ok : (ws : List (List ℕ)) → Ok (dpc_work_line ws)
unfolding dpc_work_line asked
dpc-work-ok ws =
    either (same (first ws) name.insert_queue_dpc) _ _ (three-words (λ k m n. Some (command.InsertQueueDpc k m n)) (others ws) (λ k m n a b c. record { fits = λ l u. (a, b, c); alike = λ l m. refl }))
    (either (same (first ws) name.remove_queue_dpc) _ _ (one (λ n. Some (command.RemoveQueueDpc n)) most (others ws) (λ n a. record { fits = λ l u. a; alike = λ l m. refl }))
    (either (same (first ws) name.start_dpc) _ _ (one (λ n. Some (command.StartDpc n)) most (others ws) (λ n a. record { fits = λ l u. a; alike = λ l m. refl }))
    (either (same (first ws) name.returned_dpc) _ _ (two-words (λ m n. Some (command.ReturnedDpc m n)) most most (others ws) (λ m n a b. record { fits = λ l u. (a, b); alike = λ l m. refl }))
    (either (same (first ws) name.restored_dpc) _ _ (two-words (λ m n. Some (command.RestoredDpc m n)) most most (others ws) (λ m n a b. record { fits = λ l u. (a, b); alike = λ l m. refl })) unread))))

initialize-dpc-ok : (ws : List (List ℕ)) → Ok (initialize_dpc_line ws)
unfolding initialize_dpc_line routine_behind asked
initialize-dpc-ok ws =
    with-location (λ address a b. routine_behind address a b (behind_location ws)) (location_of ws) (location-ok ws)
    (λ address a b h k. two-words (λ m n. Some (command.InitializeDpc address a b m n)) most most (behind_location ws) (λ m n p q. record { fits = λ l u. (h, k, p, q); alike = λ l m. refl }))

dpc-ok : (ws : List (List ℕ)) → Ok (dpc_line ws)
unfolding dpc_line asked
dpc-ok ws =
    either (same (first ws) name.initialize_dpc) _ _ (initialize-dpc-ok (others ws))
    (either (same (first ws) name.dpc_initializations) _ _ (alone command.DpcInitializations (others ws) (record { fits = λ l u. tt; alike = λ l m. refl }))
    (either (same (first ws) name.configure_dpc_dispatch) _ _ (two-words (λ m n. Some (command.ConfigureDpcDispatch m n)) most most (others ws) (λ m n a b. record { fits = λ l u. (a, b); alike = λ l m. refl }))
    (either (same (first ws) name.queued_dpcs) _ _ (one (λ n. Some (command.QueuedDpcs n)) most (others ws) (λ n a. record { fits = λ l u. tt; alike = λ l m. refl })) (dpc-work-ok ws))))

-- ---- timers

initialize-timer-ok : (ws : List (List ℕ)) → Ok (initialize_timer_line ws)
unfolding initialize_timer_line manual_behind
initialize-timer-ok ws =
    with-location (λ address a b. manual_behind address a b (behind_location ws)) (location_of ws) (location-ok ws)
    (λ address a b h k. manual-ok address a b h k (flag_of (first (behind_location ws))) (others (behind_location ws)))

set-timer-ok : (ws : List (List ℕ)) → Ok (set_timer_line ws)
unfolding set_timer_line set_behind
set-timer-ok ws =
    with-one _ most (number_of most (first ws)) (number_ok most (first ws)) (λ address h.
    with-one _ most (number_of most (first (others ws))) (number_ok most (first (others ws))) (λ due k.
    set-ok address due h k (flag_of (first (others (others ws)))) (signed_of (first (others (others (others ws))))) (one_of most (others (others (others (others ws)))))
    (signed-ok (first (others (others (others ws))))) (one_ok most (others (others (others (others ws)))))))

timer-memory-ok : (ws : List (List ℕ)) → Ok (timer_memory_line ws)
unfolding timer_memory_line asked
timer-memory-ok ws =
    either (same (first ws) name.timer_read_overlap) _ _ (two-words (λ m n. Some (command.TimerReadOverlap m n)) most most (others ws) (λ m n a b. record { fits = λ l u. tt; alike = λ l m. refl }))
    (either (same (first ws) name.timer_metadata_overlap) _ _ (two-words (λ m n. Some (command.TimerMetadataOverlap m n)) most most (others ws) (λ m n a b. record { fits = λ l u. tt; alike = λ l m. refl }))
    (either (same (first ws) name.require_timer_release) _ _ (two-words (λ m n. Some (command.RequireTimerRelease m n)) most most (others ws) (λ m n a b. record { fits = λ l u. tt; alike = λ l m. refl }))
    (either (same (first ws) name.retire_timer_backing) _ _ (two-words (λ m n. Some (command.RetireTimerBacking m n)) most most (others ws) (λ m n a b. record { fits = λ l u. (a, b); alike = λ l m. refl })) (dpc-ok ws))))

timer-ok : (ws : List (List ℕ)) → Ok (timer_line ws)
unfolding timer_line asked
timer-ok ws =
    either (same (first ws) name.initialize_timer) _ _ (initialize-timer-ok (others ws))
    (either (same (first ws) name.set_timer) _ _ (set-timer-ok (others ws))
    (either (same (first ws) name.cancel_timer) _ _ (one (λ n. Some (command.CancelTimer n)) most (others ws) (λ n a. record { fits = λ l u. a; alike = λ l m. refl }))
    (either (same (first ws) name.timer_initializations) _ _ (alone command.TimerInitializations (others ws) (record { fits = λ l u. tt; alike = λ l m. refl })) (timer-memory-ok ws))))

-- ---- the clock: every number of its calls is as it may be

clock-ok : (ws : List (List ℕ)) → Ok (clock_line ws)
unfolding clock_line new_line new_behind advance_line asked
clock-ok ws =
    either (same (first ws) name.new) _ _
    (with-one _ most (number_of most (first (others ws))) (number_ok most (first (others ws))) (λ utc h.
    with-one _ most (number_of most (first (others (others ws)))) (number_ok most (first (others (others ws)))) (λ uptime k.
    new_ok utc uptime (signed_of (first (others (others (others ws))))) (one_of 4294967295 (others (others (others (others ws))))))))
    (either (same (first ws) name.instruction) _ _ (alone command.ClockInstruction (others ws) (record { fits = λ l u. tt; alike = λ l m. refl }))
    (either (same (first ws) name.flush_cycles) _ _ (alone command.ClockFlushCycles (others ws) (record { fits = λ l u. tt; alike = λ l m. refl }))
    (either (same (first ws) name.observe) _ _ (alone command.ClockObserve (others ws) (record { fits = λ l u. tt; alike = λ l m. refl }))
    (either (same (first ws) name.qpc) _ _ (alone command.ClockQpc (others ws) (record { fits = λ l u. tt; alike = λ l m. refl }))
    (either (same (first ws) name.tick64) _ _ (alone command.ClockTick64 (others ws) (record { fits = λ l u. tt; alike = λ l m. refl }))
    (either (same (first ws) name.tsc) _ _ (alone command.ClockTsc (others ws) (record { fits = λ l u. tt; alike = λ l m. refl }))
    (either (same (first ws) name.advance_microseconds) _ _ (one (λ n. Some (command.ClockAdvanceMicroseconds n)) most (others ws) (λ n a. record { fits = λ l u. tt; alike = λ l m. refl }))
    (either (same (first ws) name.advance100ns) _ _ (one (λ n. Some (command.ClockAdvance100ns n)) most (others ws) (λ n a. record { fits = λ l u. tt; alike = λ l m. refl }))
    (either (same (first ws) name.advance_milliseconds) _ _ (one (λ n. Some (command.ClockAdvanceMilliseconds n)) 4294967295 (others ws) (λ n a. record { fits = λ l u. tt; alike = λ l m. refl })) unread)))))))))

-- ---- threads, events, mutexes

thread-ok : (ws : List (List ℕ)) → Ok (thread_line ws)
unfolding thread_line asked
thread-ok ws =
    either (same (first ws) name.current) _ _ (alone command.Current (others ws) (record { fits = λ l u. tt; alike = λ l m. refl }))
    (either (same (first ws) name.priority) _ _ (two-words (λ m n. Some (command.Priority m n)) most 255 (others ws) (λ m n a b. record { fits = λ l u. (a, omega arith); alike = λ l m. refl }))
    (either (same (first ws) name.terminate) _ _ (one (λ n. Some (command.Terminate n)) 4294967295 (others ws) (λ n a. record { fits = λ l u. a; alike = λ l m. refl }))
    (either (same (first ws) name.delay_until) _ _ (two-words (λ m n. Some (command.DelayUntil m n)) most 255 (others ws) (λ m n a b. record { fits = λ l u. (a, b); alike = λ l m. refl }))
    (either (same (first ws) name.advance_to) _ _ (one (λ n. Some (command.AdvanceTo n)) most (others ws) (λ n a. record { fits = λ l u. a; alike = λ l m. refl }))
    (either (same (first ws) name.clock) _ _ (clock-ok (others ws)) (timer-ok ws))))))

events-ok : (ws : List (List ℕ)) → Ok (events_line ws)
unfolding events_line asked
events-ok ws =
    either (same (first ws) name.reset_event) _ _ (one (λ n. Some (command.ResetEvent n)) most (others ws) (λ n a. record { fits = λ l u. a; alike = λ l m. refl }))
    (either (same (first ws) name.require_event_release) _ _ (three-words (λ k m n. Some (command.RequireEventRelease k m n)) (others ws) (λ k m n a b c. record { fits = λ l u. tt; alike = λ l m. refl }))
    (either (same (first ws) name.retire_event_backing) _ _ (three-words (λ k m n. Some (command.RetireEventBacking k m n)) (others ws) (λ k m n a b c. record { fits = λ l u. (a, b, c); alike = λ l m. refl })) (thread-ok ws)))

adopt-ok : (ws : List (List ℕ)) → Ok (adopt_line ws)
unfolding adopt_line owned_by asked
adopt-ok ws =
    with-one _ most (number_of most (first ws)) (number_ok most (first ws)) (λ key h.
    either (same (first (others ws)) name.none) _ _ (alone (command.AdoptMutex key None) (others (others ws)) (record { fits = λ l u. (h, tt); alike = λ l m. refl }))
    (one (λ owner. Some (command.AdoptMutex key (Some owner))) most (others ws) (λ n a. record { fits = λ l u. (h, a); alike = λ l m. refl })))

mutex-ok : (ws : List (List ℕ)) → Ok (mutex_line ws)
unfolding mutex_line asked
mutex-ok ws =
    either (same (first ws) name.initialize_mutex) _ _ (one (λ n. Some (command.InitializeMutex n)) most (others ws) (λ n a. record { fits = λ l u. a; alike = λ l m. refl }))
    (either (same (first ws) name.adopt_mutex) _ _ (adopt-ok (others ws))
    (either (same (first ws) name.mutex_owner) _ _ (one (λ n. Some (command.MutexOwner n)) most (others ws) (λ n a. record { fits = λ l u. tt; alike = λ l m. refl }))
    (either (same (first ws) name.mutex_waiters) _ _ (one (λ n. Some (command.MutexWaiters n)) most (others ws) (λ n a. record { fits = λ l u. tt; alike = λ l m. refl }))
    (either (same (first ws) name.release_mutex) _ _ (one (λ n. Some (command.ReleaseMutex n)) most (others ws) (λ n a. record { fits = λ l u. a; alike = λ l m. refl })) (events-ok ws)))))

event-ok : (ws : List (List ℕ)) → Ok (event_line ws)
unfolding event_line flagged
event-ok ws =
    with-one _ most (number_of most (first ws)) (number_ok most (first ws)) (λ key h.
    flags-ok key h (flag_of (first (others ws))) (flag_of (first (others (others ws)))) (others (others (others ws))))

pub short_ok : (ws : List (List ℕ)) → Ok (short_line ws)
unfolding short_line asked
short_ok ws =
    either (same (first ws) name.opens) _ _ (one (λ n. Some (command.Open n)) 255 (others ws) (λ n a. record { fits = λ l u. (omega arith, omega arith, omega arith, omega arith); alike = λ l m. refl }))
    (either (same (first ws) name.event) _ _ (event-ok (others ws))
    (either (same (first ws) name.create) _ _ (one (λ n. Some (command.Create n)) 255 (others ws) (λ n a. record { fits = λ l u. omega arith; alike = λ l m. refl }))
    (either (same (first ws) name.dispatch) _ _ (alone command.Dispatch (others ws) (record { fits = λ l u. tt; alike = λ l m. refl }))
    (either (same (first ws) name.set) _ _ (one (λ n. Some (command.Set n)) most (others ws) (λ n a. record { fits = λ l u. a; alike = λ l m. refl }))
    (either (same (first ws) name.yield) _ _ (alone command.Yield (others ws) (record { fits = λ l u. tt; alike = λ l m. refl })) (mutex-ok ws))))))

-- ---- waits, with the list that their kinds and keys go into

put-fits : (l : List ℕ) (i n : ℕ) → n ≤ most → U64s l → U64s (set l i n)
put-fits [] i n h u = u
put-fits (x ∷ l) zero n h u = (h, u.1)
put-fits (x ∷ l) (suc i) n h u = (u.0, put-fits l i n h u.1)

take-fits : (k : ℕ) (l : List ℕ) → U64s l → U64s (take k l)
take-fits zero l u = tt
take-fits (suc k) [] u = tt
take-fits (suc k) (x ∷ l) u = (u.0, take-fits k l u.1)

item_ok : (i : ℕ) (w : List ℕ) → NumberOk most (item_of i w)
unfolding item_of kind_of
item_ok i w = go (eqb (i % 2) 0) (same w name.mutex) (same w name.event) (same w name.timer) (same w name.thread)
  where
    go : (z a b c d : Bool) → NumberOk most (cond z (cond a (Some 0) (cond b (Some 1) (cond c (Some 2) (cond d (Some 3) None)))) (number_of most w))
    go true true b c d = omega arith
    go true false true c d = omega arith
    go true false false true d = omega arith
    go true false false false true = omega arith
    go true false false false false = tt
    go false a b c d = number_ok most w

told-fits : (x : Option ℕ) → NumberOk most x → wait.told x ≤ most
unfolding wait.told
told-fits None h = omega arith
told-fits (Some n) h = h

pairs-fit : (ws : List (List ℕ)) (i : ℕ) (l : List ℕ) → U64s l → U64s (pairs_of ws i l).list
unfolding pairs_of
pairs-fit [] i l u = u
pairs-fit (w ∷ ws) i l u = go (ltb i (length l)) (is_read (item_of i w)) (pairs-fit ws (i + 1) (set l i (wait.told (item_of i w))) (put-fits l i (wait.told (item_of i w)) (told-fits (item_of i w) (item_ok i w)) u))
  where
    go : (a b : Bool) → U64s (pairs_of ws (i + 1) (set l i (wait.told (item_of i w)))).list
        → U64s (cond a (cond b (pairs_of ws (i + 1) (set l i (wait.told (item_of i w)))) (paired None l)) (paired None l)).list
    go true true k = k
    go true false k = u
    go false b k = u

-- a command that is read, and numbers in the list that fit
record TakenOk (t : Taken) : Type 0 where
  command : Fit t.command
  list : U64s t.list

taken-either : (b : Bool) (x y : Taken) → TakenOk x → TakenOk y → TakenOk (cond b x y)
taken-either true x y h k = h
taken-either false x y h k = k

module _ (l : List ℕ) (u : U64s l) where
  no-wait : TakenOk (taken None l)
  no-wait = record { command = record { fits = unread.fits }; list = u }

  deadline-fits : (deadline : Option ℕ) → NumberOk most deadline → U64? (argument deadline)
  deadline-fits (Some deadline) h = h
  deadline-fits None h = tt

  wait-ok : (all : Bool) (deadline : Option ℕ) (irql : ℕ) → NumberOk most deadline → irql ≤ 255 → (p : Option ℕ) → Fit (wait_command all deadline irql p)
  unfolding wait_command asked
  wait-ok all deadline irql h k None = record { fits = unread.fits }
  wait-ok all deadline irql h k (Some n) = record { fits = λ m v. go m v (ltb (length m) n) }
    where
      go : (m : List ℕ) → U64s m → (b : Bool) → AskedFits (cond b nothing (calls (call.Wait (take n m) all (argument deadline) irql) tt))
      go m v true = tt
      go m v false = (take-fits n m v, deadline-fits deadline h, k)

  irql-ok : (all : Bool) (deadline : Option ℕ) → NumberOk most deadline → (x : Option ℕ) → NumberOk 255 x → (ws : List (List ℕ)) → TakenOk (with_irql all deadline x ws l)
  unfolding with_irql
  irql-ok all deadline h None k ws = no-wait
  irql-ok all deadline h (Some irql) k ws = record { command = wait-ok all deadline irql h k (pairs_of ws 0 l).count; list = pairs-fit ws 0 l u }

  from-ok : (all : Bool) (deadline : Option ℕ) → NumberOk most deadline → (ws : List (List ℕ)) → TakenOk (wait_from all deadline ws l)
  unfolding wait_from
  from-ok all deadline h ws = irql-ok all deadline h (number_of 255 (first ws)) (number_ok 255 (first ws)) (others ws)

  deadline-ok : (all : Bool) (x : Option ℕ) → NumberOk most x → (ws : List (List ℕ)) → TakenOk (with_deadline all x ws l)
  unfolding with_deadline
  deadline-ok all None k ws = no-wait
  deadline-ok all (Some n) k ws = from-ok all (Some n) k ws

  until-ok : (all : Bool) (ws : List (List ℕ)) → TakenOk (wait_until all ws l)
  unfolding wait_until
  until-ok all ws =
      taken-either (same (first ws) name.never) _ _ (from-ok all None tt (others ws)) (deadline-ok all (number_of most (first ws)) (number_ok most (first ws)) (others ws))

  line_ok : (ws : List (List ℕ)) → TakenOk (wait_line ws l)
  unfolding wait_line
  line_ok ws =
      taken-either (same (first ws) name.any) _ _ (until-ok false (others ws)) (taken-either (same (first ws) name.all) _ _ (until-ok true (others ws)) no-wait)

  text-ok : (ws : List (List ℕ)) → TakenOk (text_line ws l)
  unfolding text_line
  text-ok ws = taken-either (same (first ws) name.wait) _ _ (line_ok (others ws)) (record { command = record { fits = (short_ok ws).fits }; list = u })

  read_ok : (s : List ℕ) → TakenOk (read_line s l)
  unfolding read_line
  read_ok s = taken-either (ltb 4096 (length s)) _ _ no-wait (text-ok (words_of (take (text_length s) s)))

  -- what a line is read as fits, and so does the list after it
  pub read_fits : (s : List ℕ) → AskedFits (asked (read_line s l).list (read_line s l).command) × U64s (read_line s l).list
  read_fits s = let k = read_ok s in (k.command.fits (read_line s l).list k.list, k.list)
