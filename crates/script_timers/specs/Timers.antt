-- The lines of the calls on timers.
use Rattle.std.specs.Prelude.{Bool, cond, List, ℕ, ℤ, Option, Some, None}
use Rattle.arch.specs.declared.Architecture.{Architecture}
use Rattle.images.specs.declared.TimerBacking.{TimerBacking}
use Rattle.script_lex.specs.declared.command.Command.{Command}
use Rattle.script_lex.specs.declared.command.Command.TheVariants as command
use Rattle.script_lex.specs.Names as name
use Rattle.script_lex.specs.Words.{first, others, same}
use Rattle.script_lex.specs.Numbers.{number_of, signed_of}
use Rattle.script_lex.specs.Arguments.{most, flag_of, one_of, two_of, with_one, with_two, bare_line}
use Rattle.script_lex.specs.Location.{location_of, behind_location, with_location}
use Rattle.script_timers.specs.Dpc.{dpc_line}

-- ---- the words behind the name of a line

unfoldable pub manual_of : ℕ → Architecture → TimerBacking → Option Bool → List (List ℕ) → Option Command
manual_of address a b (Some manual) ws = bare_line (command.InitializeTimer address a b manual) ws
manual_of address a b None ws = None

-- behind the location
unfoldable pub manual_behind : ℕ → Architecture → TimerBacking → List (List ℕ) → Option Command
manual_behind address a b ws = manual_of address a b (flag_of (first ws)) (others ws)

unfoldable pub initialize_timer_line : List (List ℕ) → Option Command
initialize_timer_line ws = with_location (λ address a b. manual_behind address a b (behind_location ws)) (location_of ws)

unfoldable pub set_of : ℕ → ℕ → Option Bool → Option ℤ → Option ℕ → Option Command
set_of address due (Some absolute) (Some period) (Some dpc) = Some (command.SetTimer address due absolute period dpc)
set_of address due (Some absolute) (Some period) None = None
set_of address due (Some absolute) None dpc = None
set_of address due None period dpc = None

-- behind the due time
unfoldable pub set_behind : ℕ → ℕ → List (List ℕ) → Option Command
set_behind address due ws = set_of address due (flag_of (first ws)) (signed_of (first (others ws))) (one_of most (others (others ws)))

unfoldable pub set_timer_line : List (List ℕ) → Option Command
set_timer_line ws =
    with_one (λ address. with_one (λ due. set_behind address due (others (others ws))) (number_of most (first (others ws)))) (number_of most (first ws))

-- ---- lines by their first word

unfoldable pub timer_memory_line : List (List ℕ) → Option Command
timer_memory_line ws =
    cond (same (first ws) name.timer_read_overlap) (with_two (λ a b. Some (command.TimerReadOverlap a b)) (two_of most most (others ws)))
    (cond (same (first ws) name.timer_metadata_overlap) (with_two (λ a b. Some (command.TimerMetadataOverlap a b)) (two_of most most (others ws)))
    (cond (same (first ws) name.require_timer_release) (with_two (λ a b. Some (command.RequireTimerRelease a b)) (two_of most most (others ws)))
    (cond (same (first ws) name.retire_timer_backing) (with_two (λ a b. Some (command.RetireTimerBacking a b)) (two_of most most (others ws))) (dpc_line ws))))

unfoldable pub timer_line : List (List ℕ) → Option Command
timer_line ws =
    cond (same (first ws) name.initialize_timer) (initialize_timer_line (others ws))
    (cond (same (first ws) name.set_timer) (set_timer_line (others ws))
    (cond (same (first ws) name.cancel_timer) (with_one (λ n. Some (command.CancelTimer n)) (one_of most (others ws)))
    (cond (same (first ws) name.timer_initializations) (bare_line command.TimerInitializations (others ws)) (timer_memory_line ws))))
