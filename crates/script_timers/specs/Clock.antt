-- The lines of the clock's calls, from the word behind `clock` on.
use Rattle.std.specs.Prelude.{cond, List, ℕ, ℤ, Option, Some, None}
use Rattle.script_lex.specs.declared.command.Command.{Command}
use Rattle.script_lex.specs.declared.command.Command.TheVariants as command
use Rattle.script_lex.specs.Names as name
use Rattle.script_lex.specs.Words.{first, others, same}
use Rattle.script_lex.specs.Numbers.{number_of, signed_of}
use Rattle.script_lex.specs.Arguments.{most, one_of, with_one, bare_line}

unfoldable pub new_of : ℕ → ℕ → Option ℤ → Option ℕ → Option Command
new_of utc uptime (Some offset) (Some mhz) = Some (command.ClockNew utc uptime offset mhz)
new_of utc uptime (Some offset) None = None
new_of utc uptime None n = None

-- behind the two times
unfoldable pub new_behind : ℕ → ℕ → List (List ℕ) → Option Command
new_behind utc uptime ws = new_of utc uptime (signed_of (first ws)) (one_of 4294967295 (others ws))

unfoldable pub new_line : List (List ℕ) → Option Command
new_line ws =
    with_one (λ utc. with_one (λ uptime. new_behind utc uptime (others (others ws))) (number_of most (first (others ws)))) (number_of most (first ws))

unfoldable pub advance_line : List (List ℕ) → Option Command
advance_line ws =
    cond (same (first ws) name.advance_microseconds) (with_one (λ n. Some (command.ClockAdvanceMicroseconds n)) (one_of most (others ws)))
    (cond (same (first ws) name.advance100ns) (with_one (λ n. Some (command.ClockAdvance100ns n)) (one_of most (others ws)))
    (cond (same (first ws) name.advance_milliseconds) (with_one (λ n. Some (command.ClockAdvanceMilliseconds n)) (one_of 4294967295 (others ws))) None))

unfoldable pub clock_line : List (List ℕ) → Option Command
clock_line ws =
    cond (same (first ws) name.new) (new_line (others ws))
    (cond (same (first ws) name.instruction) (bare_line command.ClockInstruction (others ws))
    (cond (same (first ws) name.flush_cycles) (bare_line command.ClockFlushCycles (others ws))
    (cond (same (first ws) name.observe) (bare_line command.ClockObserve (others ws))
    (cond (same (first ws) name.qpc) (bare_line command.ClockQpc (others ws))
    (cond (same (first ws) name.tick64) (bare_line command.ClockTick64 (others ws))
    (cond (same (first ws) name.tsc) (bare_line command.ClockTsc (others ws)) (advance_line ws)))))))
