-- The lines of the calls on DPCs.
use Rattle.std.specs.Prelude.{cond, List, ℕ, Option, Some, None}
use Rattle.arch.specs.declared.Architecture.{Architecture}
use Rattle.images.specs.declared.TimerBacking.{TimerBacking}
use Rattle.script_lex.specs.declared.command.Command.{Command}
use Rattle.script_lex.specs.declared.command.Command.TheVariants as command
use Rattle.script_lex.specs.Names as name
use Rattle.script_lex.specs.Words.{first, others, same}
use Rattle.script_lex.specs.Arguments.{most, one_of, two_of, three_of, with_one, with_two, with_three, bare_line}
use Rattle.script_lex.specs.Location.{location_of, behind_location, with_location}

-- behind the location
unfoldable pub routine_behind : ℕ → Architecture → TimerBacking → List (List ℕ) → Option Command
routine_behind address a b ws = with_two (λ routine context. Some (command.InitializeDpc address a b routine context)) (two_of most most ws)

unfoldable pub initialize_dpc_line : List (List ℕ) → Option Command
initialize_dpc_line ws = with_location (λ address a b. routine_behind address a b (behind_location ws)) (location_of ws)

-- ---- lines by their first word

unfoldable pub dpc_work_line : List (List ℕ) → Option Command
dpc_work_line ws =
    cond (same (first ws) name.insert_queue_dpc) (with_three (λ a b c. Some (command.InsertQueueDpc a b c)) (three_of (others ws)))
    (cond (same (first ws) name.remove_queue_dpc) (with_one (λ n. Some (command.RemoveQueueDpc n)) (one_of most (others ws)))
    (cond (same (first ws) name.start_dpc) (with_one (λ n. Some (command.StartDpc n)) (one_of most (others ws)))
    (cond (same (first ws) name.returned_dpc) (with_two (λ a b. Some (command.ReturnedDpc a b)) (two_of most most (others ws)))
    (cond (same (first ws) name.restored_dpc) (with_two (λ a b. Some (command.RestoredDpc a b)) (two_of most most (others ws))) None))))

unfoldable pub dpc_line : List (List ℕ) → Option Command
dpc_line ws =
    cond (same (first ws) name.initialize_dpc) (initialize_dpc_line (others ws))
    (cond (same (first ws) name.dpc_initializations) (bare_line command.DpcInitializations (others ws))
    (cond (same (first ws) name.configure_dpc_dispatch) (with_two (λ a b. Some (command.ConfigureDpcDispatch a b)) (two_of most most (others ws)))
    (cond (same (first ws) name.queued_dpcs) (with_one (λ n. Some (command.QueuedDpcs n)) (one_of most (others ws))) (dpc_work_line ws))))
