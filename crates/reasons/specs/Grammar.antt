-- The lines of a script: names and forms take turns. A form has a letter for each word behind the name:
--
--   n   a number of 64 bits                  f   0 or 1
--   b   a number of 8 bits                   a   an architecture
--   w   a number of 32 bits                  m   a backing: of the numbers behind it `pool` has all, `image` all but the first
--   i   a signed number of 32 bits           s   any or all
--   t   a time, or never                     kv  pairs of a kind of objects and a key, to the line's end
--   o   an owner, or none                    .   no word
use Rattle.std.specs.Prelude.{List, [], ◌∷◌, ℕ}
use Rattle.script_lex.specs.Text.{bytes_of}
use Rattle.script_lex.specs.Names as name

unfoldable pub grammar : List (List ℕ)
grammar =
    name.wait ∷ bytes_of "stbkv"
    ∷ name.opens ∷ bytes_of "b"
    ∷ name.event ∷ bytes_of "nff"
    ∷ name.create ∷ bytes_of "b"
    ∷ name.dispatch ∷ bytes_of "."
    ∷ name.set ∷ bytes_of "n"
    ∷ name.yield ∷ bytes_of "."
    ∷ name.initialize_mutex ∷ bytes_of "n"
    ∷ name.adopt_mutex ∷ bytes_of "no"
    ∷ name.mutex_owner ∷ bytes_of "n"
    ∷ name.mutex_waiters ∷ bytes_of "n"
    ∷ name.release_mutex ∷ bytes_of "n"
    ∷ name.reset_event ∷ bytes_of "n"
    ∷ name.require_event_release ∷ bytes_of "nnn"
    ∷ name.retire_event_backing ∷ bytes_of "nnn"
    ∷ name.current ∷ bytes_of "."
    ∷ name.priority ∷ bytes_of "nb"
    ∷ name.terminate ∷ bytes_of "w"
    ∷ name.delay_until ∷ bytes_of "nb"
    ∷ name.advance_to ∷ bytes_of "n"
    ∷ name.initialize_timer ∷ bytes_of "namnnnf"
    ∷ name.set_timer ∷ bytes_of "nnfin"
    ∷ name.cancel_timer ∷ bytes_of "n"
    ∷ name.timer_initializations ∷ bytes_of "."
    ∷ name.timer_read_overlap ∷ bytes_of "nn"
    ∷ name.timer_metadata_overlap ∷ bytes_of "nn"
    ∷ name.require_timer_release ∷ bytes_of "nn"
    ∷ name.retire_timer_backing ∷ bytes_of "nn"
    ∷ name.initialize_dpc ∷ bytes_of "namnnnnn"
    ∷ name.dpc_initializations ∷ bytes_of "."
    ∷ name.configure_dpc_dispatch ∷ bytes_of "nn"
    ∷ name.queued_dpcs ∷ bytes_of "n"
    ∷ name.insert_queue_dpc ∷ bytes_of "nnn"
    ∷ name.remove_queue_dpc ∷ bytes_of "n"
    ∷ name.start_dpc ∷ bytes_of "n"
    ∷ name.returned_dpc ∷ bytes_of "nn"
    ∷ name.restored_dpc ∷ bytes_of "nn"
    ∷ []

-- behind `clock`
unfoldable pub clock_grammar : List (List ℕ)
clock_grammar =
    name.new ∷ bytes_of "nniw"
    ∷ name.instruction ∷ bytes_of "."
    ∷ name.flush_cycles ∷ bytes_of "."
    ∷ name.observe ∷ bytes_of "."
    ∷ name.qpc ∷ bytes_of "."
    ∷ name.tick64 ∷ bytes_of "."
    ∷ name.tsc ∷ bytes_of "."
    ∷ name.advance_microseconds ∷ bytes_of "n"
    ∷ name.advance100ns ∷ bytes_of "n"
    ∷ name.advance_milliseconds ∷ bytes_of "w"
    ∷ []
