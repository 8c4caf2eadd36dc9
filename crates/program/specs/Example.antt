-- Document 01's example script, and what it prints, byte by byte; and lines of which no answer of a script tells the arguments.
use Rattle.std.specs.Prelude.{ℕ, List, [], ◌∷◌, true, negsuc}
use Rattle.arch.specs.declared.Architecture.TheVariants.{X86}
use Rattle.images.specs.declared.TimerBacking.TheVariants.{Image}
use Rattle.script_lex.specs.Text.{bytes_of}
use Rattle.commands.specs.Commands.{Asked, calls}
use Rattle.model.specs.Call as call

unfoldable pub script : List ℕ
script = bytes_of "open 8\nevent 4096 0 0\ncreate 9\nwait any never 0 event 4096\ndispatch\nset 4096\nyield\ndispatch\n"

unfoldable pub printed : List ℕ
printed = bytes_of "1 ok\n2 ok\n3 thread 2\n4 blocked\n5 run 2\n6 no\n7 ok\n8 run 2\n"

-- a line ends where the next begins, also an empty one; a last one without a newline counts
unfoldable pub lines : List (List ℕ)
lines = bytes_of "set 1" ∷ bytes_of "" ∷ bytes_of "yield" ∷ []

-- ---- a thread's exit status, what a DPC is given, and how a timer is set

unfoldable pub silent : List (List ℕ)
silent =
    bytes_of "terminate 5"
    ∷ bytes_of "initialize_dpc 8192 x86 image 8192 4096 7 9"
    ∷ bytes_of "configure_dpc_dispatch 1 2"
    ∷ bytes_of "insert_queue_dpc 8192 3 4"
    ∷ bytes_of "set_timer 4096 500 1 -6 8192"
    ∷ []

-- exit status 5; routine 7, context 9; a timer's work has 1 first and 2 second; this work 3 first and 4 second; due 500 absolute, period -6
unfoldable pub silent_calls : List Asked
silent_calls =
    calls (call.Terminate 5) tt
    ∷ calls (call.InitializeDpc 8192 X86 (Image 8192 4096) 7 9) tt
    ∷ calls (call.ConfigureDpcDispatch 1 2) tt
    ∷ calls (call.InsertQueueDpc 8192 3 4) tt
    ∷ calls (call.SetTimer 4096 500 true (negsuc 5) 8192) tt
    ∷ []
