-- Document 01's example script, computed from its bytes to the bytes of the log's answers; other lines to their calls.
use mathlib.Core.Path.{◌≡◌, refl}
use Rattle.script_lex.specs.Words.{blank, grown, pieces, full, words_of, first, others, none, same}
use Rattle.script_lex.specs.Numbers.{all_digits, value, number_from, number_of, plus, minus, signed_of}
use Rattle.script_lex.specs.Arguments.{flag_of, one_of, join_two, two_of, join_three, three_of, with_one, with_two, with_three, bare_line}
use Rattle.script_lex.specs.Location.{architecture_of, image_of, pool_of, image_line, pool_line, backing_of, behind_backing, placed, location_of, behind_location, with_location}
use Rattle.script_timers.specs.Dpc.{routine_behind, initialize_dpc_line, dpc_work_line, dpc_line}
use Rattle.script_timers.specs.Timers.{set_of, set_behind, set_timer_line, timer_memory_line, timer_line}
use Rattle.script_timers.specs.Clock.{clock_line}
use Rattle.script.specs.Wait.{kind_of, item_of, is_read, told, pairs_of, wait_command, with_irql, wait_from, with_deadline, wait_until, wait_line}
use Rattle.script.specs.Scheduler.{with_flags, flagged, event_line, thread_line, events_line, mutex_line, short_line}
use Rattle.script.specs.Line.{text_length, text_line, read_line}
use Rattle.script_lex.specs.Text.{bytes_of}
use Rattle.script_print.specs.Print.{decimal_in, flag_text}
use Rattle.model.specs.State.{State}
use Rattle.model.specs.Threads as threads
use Rattle.model.specs.Waits as waits
use Rattle.model.specs.Refusal as row
use Rattle.model.specs.Step.{refusal, effect, step}
use Rattle.model.specs.Step as does
use Rattle.commands.specs.Commands.{asked}
use Rattle.runner.specs.Session.{begin}
use Rattle.program.specs.Script.{when_open, when_closed, log_answers}
use Rattle.program.specs.Bytes.{cut, meant, meanings, lines_of, answer_text, text_from}
use Rattle.program.specs.Example.{script, printed, lines, silent, silent_calls}

pub example : (st : State) → text_from 1 (log_answers begin st (meanings (lines_of script))) ≡ printed
unfolding script printed cut meant answer_text decimal_in flag_text begin asked when_open when_closed blank grown pieces full words_of first others none same all_digits value number_from number_of flag_of one_of with_one bare_line kind_of item_of is_read told pairs_of wait_command with_irql wait_from with_deadline wait_until wait_line with_flags flagged event_line short_line text_length text_line read_line step refusal effect row.open_refusal row.not_priority row.bad_limits does.opened row.event_refusal row.collides row.is_full row.create_refusal threads.created threads.becomes row.wait_refusal row.bad_list row.sequence_refusal does.waited does.blocks does.granted does.timed_out threads.blocked row.dispatch_refusal does.dispatched does.idle_answer does.counts threads.ran row.signal_refusal does.event_set waits.wake waits.wake_one threads.woken row.yield_refusal threads.yielded
example st = refl

pub cut-lines : lines_of (bytes_of "set 1\n\nyield") ≡ lines
unfolding cut lines
cut-lines = refl

pub silent-calls : meanings silent ≡ silent_calls
unfolding meant silent silent_calls asked blank grown pieces full words_of first others none same all_digits value number_from number_of plus minus signed_of flag_of one_of join_two two_of join_three three_of with_one with_two with_three bare_line architecture_of image_of pool_of image_line pool_line backing_of behind_backing placed location_of behind_location with_location routine_behind initialize_dpc_line dpc_work_line dpc_line set_of set_behind set_timer_line timer_memory_line timer_line clock_line thread_line events_line mutex_line short_line text_length text_line read_line
silent-calls = refl
