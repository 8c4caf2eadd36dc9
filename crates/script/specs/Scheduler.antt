-- The lines of the scheduler's calls.
use Rattle.std.specs.Prelude.{Bool, cond, List, ℕ, Option, Some, None}
use Rattle.script_lex.specs.declared.command.Command.{Command}
use Rattle.script_lex.specs.declared.command.Command.TheVariants as command
use Rattle.script_lex.specs.Names as name
use Rattle.script_lex.specs.Words.{first, others, same}
use Rattle.script_lex.specs.Numbers.{number_of}
use Rattle.script_lex.specs.Arguments.{most, flag_of, one_of, two_of, three_of, with_one, with_two, with_three, bare_line}
use Rattle.script_timers.specs.Clock.{clock_line}
use Rattle.script_timers.specs.Timers.{timer_line}

-- ---- the words behind the name of a line

unfoldable pub with_flags : ℕ → Option Bool → Option Bool → List (List ℕ) → Option Command
with_flags key (Some manual) (Some signaled) ws = bare_line (command.Event key manual signaled) ws
with_flags key (Some manual) None ws = None
with_flags key None f ws = None

-- behind the key
unfoldable pub flagged : ℕ → List (List ℕ) → Option Command
flagged key ws = with_flags key (flag_of (first ws)) (flag_of (first (others ws))) (others (others ws))

unfoldable pub event_line : List (List ℕ) → Option Command
event_line ws = with_one (λ key. flagged key (others ws)) (number_of most (first ws))

-- behind the key
unfoldable pub owned_by : ℕ → List (List ℕ) → Option Command
owned_by key ws =
    cond (same (first ws) name.none) (bare_line (command.AdoptMutex key None) (others ws)) (with_one (λ owner. Some (command.AdoptMutex key (Some owner))) (one_of most ws))

unfoldable pub adopt_line : List (List ℕ) → Option Command
adopt_line ws = with_one (λ key. owned_by key (others ws)) (number_of most (first ws))

-- ---- lines by their first word

unfoldable pub thread_line : List (List ℕ) → Option Command
thread_line ws =
    cond (same (first ws) name.current) (bare_line command.Current (others ws))
    (cond (same (first ws) name.priority) (with_two (λ a b. Some (command.Priority a b)) (two_of most 255 (others ws)))
    (cond (same (first ws) name.terminate) (with_one (λ n. Some (command.Terminate n)) (one_of 4294967295 (others ws)))
    (cond (same (first ws) name.delay_until) (with_two (λ a b. Some (command.DelayUntil a b)) (two_of most 255 (others ws)))
    (cond (same (first ws) name.advance_to) (with_one (λ n. Some (command.AdvanceTo n)) (one_of most (others ws)))
    (cond (same (first ws) name.clock) (clock_line (others ws)) (timer_line ws))))))

unfoldable pub events_line : List (List ℕ) → Option Command
events_line ws =
    cond (same (first ws) name.reset_event) (with_one (λ n. Some (command.ResetEvent n)) (one_of most (others ws)))
    (cond (same (first ws) name.require_event_release) (with_three (λ a b c. Some (command.RequireEventRelease a b c)) (three_of (others ws)))
    (cond (same (first ws) name.retire_event_backing) (with_three (λ a b c. Some (command.RetireEventBacking a b c)) (three_of (others ws))) (thread_line ws)))

unfoldable pub mutex_line : List (List ℕ) → Option Command
mutex_line ws =
    cond (same (first ws) name.initialize_mutex) (with_one (λ n. Some (command.InitializeMutex n)) (one_of most (others ws)))
    (cond (same (first ws) name.adopt_mutex) (adopt_line (others ws))
    (cond (same (first ws) name.mutex_owner) (with_one (λ n. Some (command.MutexOwner n)) (one_of most (others ws)))
    (cond (same (first ws) name.mutex_waiters) (with_one (λ n. Some (command.MutexWaiters n)) (one_of most (others ws)))
    (cond (same (first ws) name.release_mutex) (with_one (λ n. Some (command.ReleaseMutex n)) (one_of most (others ws))) (events_line ws)))))

unfoldable pub short_line : List (List ℕ) → Option Command
short_line ws =
    cond (same (first ws) name.opens) (with_one (λ n. Some (command.Open n)) (one_of 255 (others ws)))
    (cond (same (first ws) name.event) (event_line (others ws))
    (cond (same (first ws) name.create) (with_one (λ n. Some (command.Create n)) (one_of 255 (others ws)))
    (cond (same (first ws) name.dispatch) (bare_line command.Dispatch (others ws))
    (cond (same (first ws) name.set) (with_one (λ n. Some (command.Set n)) (one_of most (others ws)))
    (cond (same (first ws) name.yield) (bare_line command.Yield (others ws)) (mutex_line ws))))))
