-- Lines read, among them those of document 01's script.
use mathlib.Core.Path.{◌≡◌, refl}
use mathlib.Core.Bool.{true, false}
use mathlib.Core.List.{[], ◌∷◌}
use lib.IntN.{pos, negsuc}
use Rattle.std.specs.Prelude.{Some, None}
use Rattle.arch.specs.declared.Architecture.TheVariants as architecture
use Rattle.images.specs.declared.TimerBacking.TheVariants as memory
use Rattle.script_lex.specs.declared.command.Command.TheVariants as command
use Rattle.script_lex.specs.Text.{bytes_of}
use Rattle.script_lex.specs.Words.{blank, grown, pieces, full, words_of, first, others, none, same}
use Rattle.script_lex.specs.Numbers.{all_digits, value, number_from, number_of, plus, minus, signed_of}
use Rattle.script_lex.specs.Arguments.{flag_of, one_of, join_two, two_of, join_three, three_of, with_one, with_two, with_three, bare_line}
use Rattle.script.specs.Wait.{kind_of, item_of, is_read, told, pairs_of, taken, wait_command, with_irql, wait_from, with_deadline, wait_until, wait_line}
use Rattle.script_timers.specs.Clock.{new_of, new_behind, new_line, advance_line, clock_line}
use Rattle.script_lex.specs.Location.{architecture_of, image_of, pool_of, image_line, pool_line, backing_of, behind_backing, placed, location_of, behind_location, with_location}
use Rattle.script_timers.specs.Dpc.{routine_behind, initialize_dpc_line, dpc_work_line, dpc_line}
use Rattle.script_timers.specs.Timers.{manual_of, manual_behind, initialize_timer_line, set_of, set_behind, set_timer_line, timer_memory_line, timer_line}
use Rattle.script.specs.Scheduler.{with_flags, flagged, event_line, owned_by, adopt_line, thread_line, events_line, mutex_line, short_line}
use Rattle.script.specs.Line.{text_length, text_line, read_line}

reads :
    (read_line (bytes_of "open 8") ([]) ≡ taken (Some (command.Open 8)) ([]))
    × (read_line (bytes_of "event 4096 0 0") ([]) ≡ taken (Some (command.Event 4096 false false)) ([]))
    × (read_line (bytes_of "create 9") ([]) ≡ taken (Some (command.Create 9)) ([]))
    × (read_line (bytes_of "wait any never 0 event 4096") (0 ∷ 0 ∷ 0 ∷ []) ≡ taken (Some (command.Wait false None 0 2)) (1 ∷ 4096 ∷ 0 ∷ []))
    × (read_line (bytes_of "dispatch") ([]) ≡ taken (Some command.Dispatch) ([]))
    × (read_line (bytes_of "set 4096") ([]) ≡ taken (Some (command.Set 4096)) ([]))
    × (read_line (bytes_of "yield") ([]) ≡ taken (Some command.Yield) ([]))
    × (read_line (bytes_of "\t open  008 \r") ([]) ≡ taken (Some (command.Open 8)) ([]))
    × (read_line (bytes_of "wait all 100 2") (7 ∷ 7 ∷ 7 ∷ []) ≡ taken (Some (command.Wait true (Some 100) 2 0)) (7 ∷ 7 ∷ 7 ∷ []))
    × (read_line (bytes_of "wait any never 0 thread") (7 ∷ 7 ∷ 7 ∷ []) ≡ taken (Some (command.Wait false None 0 1)) (3 ∷ 7 ∷ 7 ∷ []))
    × (read_line (bytes_of "adopt_mutex 5 none") ([]) ≡ taken (Some (command.AdoptMutex 5 None)) ([]))
    × (read_line (bytes_of "adopt_mutex 5 1") ([]) ≡ taken (Some (command.AdoptMutex 5 (Some 1))) ([]))
    × (read_line (bytes_of "terminate 4294967295") ([]) ≡ taken (Some (command.Terminate 4294967295)) ([]))
    × (read_line (bytes_of "clock new 1 2 -840 3000") ([]) ≡ taken (Some (command.ClockNew 1 2 (negsuc 839) 3000)) ([]))
    × (read_line (bytes_of "clock tsc") ([]) ≡ taken (Some command.ClockTsc) ([]))
    × (read_line (bytes_of "set 18446744073709551615") ([]) ≡ taken (Some (command.Set 18446744073709551615)) ([]))
    × (read_line (bytes_of "set 18446744073709551616") ([]) ≡ taken None ([]))
    × (read_line (bytes_of "open 256") ([]) ≡ taken None ([]))
    × (read_line (bytes_of "open +8") ([]) ≡ taken None ([]))
    × (read_line (bytes_of "open 0x8") ([]) ≡ taken None ([]))
    × (read_line (bytes_of "open -8") ([]) ≡ taken None ([]))
    × (read_line (bytes_of "open") ([]) ≡ taken None ([]))
    × (read_line (bytes_of "open 8 8") ([]) ≡ taken None ([]))
    × (read_line (bytes_of "event 4096 00 0") ([]) ≡ taken None ([]))
    × (read_line (bytes_of "set_event 4096") ([]) ≡ taken None ([]))
    × (read_line (bytes_of "clock new 1 2 -2147483649 3000") ([]) ≡ taken None ([]))
    × (read_line ([]) ([]) ≡ taken None ([]))
unfolding blank grown pieces full words_of first others none same all_digits value number_from number_of plus minus signed_of flag_of one_of join_two two_of join_three three_of with_one with_two with_three bare_line kind_of item_of is_read told pairs_of wait_command with_irql wait_from with_deadline wait_until wait_line new_of new_behind new_line advance_line clock_line with_flags flagged event_line owned_by adopt_line thread_line events_line mutex_line short_line text_length text_line read_line routine_behind initialize_dpc_line dpc_work_line dpc_line manual_of manual_behind initialize_timer_line set_of set_behind set_timer_line timer_memory_line timer_line
reads = (refl, refl, refl, refl, refl, refl, refl, refl, refl, refl, refl, refl, refl, refl, refl, refl, refl, refl, refl, refl, refl, refl, refl, refl, refl, refl, refl)

-- the lines of timers and DPCs
timer_reads :
    (read_line (bytes_of "initialize_timer 4096 x64 image 4096 8192 1") ([]) ≡ taken (Some (command.InitializeTimer 4096 architecture.X64 (memory.Image 4096 8192) true)) ([]))
    × (read_line (bytes_of "initialize_timer 4096 x86 pool 4096 64 8192 0") ([]) ≡ taken (Some (command.InitializeTimer 4096 architecture.X86 (memory.NonpagedPool 4096 64 8192) false)) ([]))
    × (read_line (bytes_of "initialize_dpc 8192 x86 image 8192 4096 7 9") ([]) ≡ taken (Some (command.InitializeDpc 8192 architecture.X86 (memory.Image 8192 4096) 7 9)) ([]))
    × (read_line (bytes_of "initialize_dpc 8192 x64 pool 8192 64 4096 7 0") ([]) ≡ taken (Some (command.InitializeDpc 8192 architecture.X64 (memory.NonpagedPool 8192 64 4096) 7 0)) ([]))
    × (read_line (bytes_of "set_timer 4096 100 1 50 8192") ([]) ≡ taken (Some (command.SetTimer 4096 100 true (pos 50) 8192)) ([]))
    × (read_line (bytes_of "set_timer 4096 18446744073709551615 0 -2147483648 0") ([]) ≡ taken (Some (command.SetTimer 4096 18446744073709551615 false (negsuc 2147483647) 0)) ([]))
    × (read_line (bytes_of "cancel_timer 4096") ([]) ≡ taken (Some (command.CancelTimer 4096)) ([]))
    × (read_line (bytes_of "timer_initializations") ([]) ≡ taken (Some command.TimerInitializations) ([]))
    × (read_line (bytes_of "dpc_initializations") ([]) ≡ taken (Some command.DpcInitializations) ([]))
    × (read_line (bytes_of "timer_read_overlap 1 2") ([]) ≡ taken (Some (command.TimerReadOverlap 1 2)) ([]))
    × (read_line (bytes_of "timer_metadata_overlap 1 2") ([]) ≡ taken (Some (command.TimerMetadataOverlap 1 2)) ([]))
    × (read_line (bytes_of "require_timer_release 1 2") ([]) ≡ taken (Some (command.RequireTimerRelease 1 2)) ([]))
    × (read_line (bytes_of "retire_timer_backing 1 2") ([]) ≡ taken (Some (command.RetireTimerBacking 1 2)) ([]))
    × (read_line (bytes_of "configure_dpc_dispatch 1 2") ([]) ≡ taken (Some (command.ConfigureDpcDispatch 1 2)) ([]))
    × (read_line (bytes_of "queued_dpcs 0") ([]) ≡ taken (Some (command.QueuedDpcs 0)) ([]))
    × (read_line (bytes_of "insert_queue_dpc 8192 1 2") ([]) ≡ taken (Some (command.InsertQueueDpc 8192 1 2)) ([]))
    × (read_line (bytes_of "remove_queue_dpc 8192") ([]) ≡ taken (Some (command.RemoveQueueDpc 8192)) ([]))
    × (read_line (bytes_of "start_dpc 8192") ([]) ≡ taken (Some (command.StartDpc 8192)) ([]))
    × (read_line (bytes_of "returned_dpc 8192 1") ([]) ≡ taken (Some (command.ReturnedDpc 8192 1)) ([]))
    × (read_line (bytes_of "restored_dpc 8192 1") ([]) ≡ taken (Some (command.RestoredDpc 8192 1)) ([]))
    × (read_line (bytes_of "initialize_timer 4096 x32 image 4096 8192 1") ([]) ≡ taken None ([]))
    × (read_line (bytes_of "initialize_timer 4096 x64 image 4096 8192 16 1") ([]) ≡ taken None ([]))
    × (read_line (bytes_of "initialize_timer 4096 x64 pool 4096 64 1") ([]) ≡ taken None ([]))
    × (read_line (bytes_of "initialize_timer 4096 x64 heap 4096 8192 1") ([]) ≡ taken None ([]))
    × (read_line (bytes_of "initialize_timer 4096 x64 image 4096 8192") ([]) ≡ taken None ([]))
    × (read_line (bytes_of "initialize_dpc 8192 x64 image 8192 4096 7") ([]) ≡ taken None ([]))
    × (read_line (bytes_of "initialize_dpc 8192 x64 image 8192 4096 7 9 1") ([]) ≡ taken None ([]))
    × (read_line (bytes_of "set_timer 4096 100 1 2147483648 0") ([]) ≡ taken None ([]))
    × (read_line (bytes_of "set_timer 4096 100 1 -2147483649 0") ([]) ≡ taken None ([]))
    × (read_line (bytes_of "set_timer 4096 -100 1 0 0") ([]) ≡ taken None ([]))
    × (read_line (bytes_of "set_timer 4096 100 2 0 0") ([]) ≡ taken None ([]))
    × (read_line (bytes_of "timer_initializations 1") ([]) ≡ taken None ([]))
    × (read_line (bytes_of "insert_queue_dpc 8192 1") ([]) ≡ taken None ([]))
    × (read_line (bytes_of "queued_dpcs") ([]) ≡ taken None ([]))
    × (read_line (bytes_of "timer 4096") ([]) ≡ taken None ([]))
    × (read_line (bytes_of "dpc 8192") ([]) ≡ taken None ([]))
    × (read_line (bytes_of "next_dpc") ([]) ≡ taken None ([]))
unfolding blank grown pieces full words_of first others none same all_digits value number_from number_of plus minus signed_of flag_of one_of join_two two_of join_three three_of with_one with_two with_three bare_line kind_of item_of is_read told pairs_of wait_command with_irql wait_from with_deadline wait_until wait_line new_of new_behind new_line advance_line clock_line with_flags flagged event_line owned_by adopt_line thread_line events_line mutex_line short_line text_length text_line read_line architecture_of image_of pool_of image_line pool_line backing_of behind_backing placed location_of behind_location with_location routine_behind initialize_dpc_line dpc_work_line dpc_line manual_of manual_behind initialize_timer_line set_of set_behind set_timer_line timer_memory_line timer_line
timer_reads = (refl, refl, refl, refl, refl, refl, refl, refl, refl, refl, refl, refl, refl, refl, refl, refl, refl, refl, refl, refl, refl, refl, refl, refl, refl, refl, refl, refl, refl, refl, refl, refl, refl, refl, refl, refl, refl)
