-- "Bench samples" of document 01 as one list of tests; its example script, its readings to rule out, and waits for "all", as lists of calls.
use Rattle.std.specs.Prelude.{ℕ, zero, suc, ◌+◌, ◌-◌, ◌*◌, ◌^◌, List, [], ◌∷◌, ◌++◌, Bool, true, false, ◌&&◌, eqb, pos, negsuc}
use Rattle.std.proofs.Math.Option.{none, some}
use Rattle.arch.specs.declared.Architecture.TheVariants.{X64}
use Rattle.images.specs.declared.TimerBacking.TheVariants.{Image}
use Rattle.clock.specs.Samples.{p7, p8}
use Rattle.model.specs.State.{State}
use Rattle.model.specs.Answer.{Answer, Refused, Done, None, ThreadNumber, Flag, Number, Satisfied, Timeout, Blocked, Run, Deadlocked, Finished, ThreadIs, ObjectIs, EventIs, TimerIs, DpcIs, WorkIs, PolicyIs, CountersAre, ImageIs}
use Rattle.model.specs.Answer as answer
use Rattle.model.specs.Call.{Call, Open, CreateThread, InitializeEvent, Wait, DelayUntil, YieldCurrent, AdvanceTo, Dispatch, SetEvent, InitializeTimer, InitializeDpc, SetTimer, SetTimerSigned, CancelTimer, ConfigureDpcDispatch, Reads, EventState, TimerAt}
use Rattle.model.specs.Step.{step, after, answers, opened}

-- ---- tests of an answer, by a code that tells the four apart that the samples ask for: refused, timed out, blocked, a timer's due

unfoldable pub told : Answer → ℕ × ℕ
told (Refused n) = (1, n)
told Done = (0, 0)
told None = (0, 0)
told (ThreadNumber n) = (0, 0)
told (Flag b) = (0, 0)
told (Number n) = (0, 0)
told (Satisfied i) = (0, 0)
told Timeout = (2, 0)
told Blocked = (3, 0)
told (Run n) = (0, 0)
told (answer.AdvanceTo n) = (0, 0)
told (Deadlocked l) = (0, 0)
told Finished = (0, 0)
told (ThreadIs n t) = (0, 0)
told (ObjectIs n) = (0, 0)
told (EventIs e) = (0, 0)
told (TimerIs t) = (4, t.due)
told (DpcIs d) = (0, 0)
told (WorkIs w) = (0, 0)
told (PolicyIs p) = (0, 0)
told (CountersAre c) = (0, 0)
told (ImageIs size bytes) = (0, 0)

-- the answer is of that sort, with that number
unfoldable pub is_told : ℕ → ℕ → Answer → Bool
is_told what n a = eqb (told a).0 what && eqb (told a).1 n

-- the call refused by that number, timed out, blocked
unfoldable pub refuses : ℕ → Call → State → Bool
refuses n c s = is_told 1 n (step c s).answer

unfoldable pub times_out : Call → State → Bool
times_out c s = is_told 2 0 (step c s).answer

unfoldable pub blocks_at : Call → State → Bool
blocks_at c s = is_told 3 0 (step c s).answer

-- the timer at 4096 is due then
unfoldable pub due_is : ℕ → State → Bool
due_is n s = is_told 4 n (step (Reads (TimerAt 4096)) s).answer

-- ---- the samples

-- a scheduler just opened
unfoldable pub begun : State
begun = opened 8 16 128 64

-- a timer at 4096
unfoldable pub with_timer : List Call
with_timer = InitializeTimer 4096 X64 (Image 4096 64) false ∷ []

-- due 100, 1 ms, then the time
unfoldable pub periodic : ℕ → State
periodic now = after (with_timer ++ (SetTimer 4096 100 true (pos 1) 0 ∷ AdvanceTo now ∷ [])) begun

-- P1 now 100, P2 now 20,099, P3 now 20,100
unfoldable pub p1 : Bool
p1 = due_is 10100 (periodic 100)

unfoldable pub p2 : Bool
p2 = due_is 20100 (periodic 20099)

unfoldable pub p3 : Bool
p3 = due_is 30100 (periodic 20100)

-- `n` events, and a list of them
unfoldable pub events : ℕ → List Call
events zero = []
events (suc n) = InitializeEvent (4096 + 64 * n) false false ∷ events n

unfoldable pub list_of : ℕ → List ℕ
list_of zero = []
list_of (suc n) = 1 ∷ (4096 + 64 * n) ∷ list_of n

-- 64 objects pass, 65 give 7
unfoldable pub p4 : Bool
p4 = blocks_at (Wait (list_of 64) false none 0) (after (events 65) begun) && refuses 7 (Wait (list_of 65) false none 0) (after (events 65) begun)

-- deadline = now: timeout, IRQL 2 allowed
unfoldable pub p5 : Bool
p5 = times_out (Wait (list_of 1) false (some 10) 2) (after (events 1 ++ (AdvanceTo 10 ∷ [])) begun)

-- `delay_until` past at IRQL 2: 9
unfoldable pub p6 : Bool
p6 = refuses 9 (DelayUntil 5 2) (after (AdvanceTo 10 ∷ []) begun)

-- v = −2^63 at time 0: due 2^63
unfoldable pub p9 : Bool
p9 = due_is (2 ^ 63) (after (with_timer ++ (SetTimerSigned 4096 (negsuc (2 ^ 63 - 1)) (pos 0) 0 ∷ [])) begun)

-- P1 to P9
unfoldable pub samples : List Bool
samples = p1 ∷ p2 ∷ p3 ∷ p4 ∷ p5 ∷ p6 ∷ p7 ∷ p8 ∷ p9 ∷ []

-- ---- the example script: limits 16, 64, 64

unfoldable pub script : List Call
script =
    Open (256 + 160 * 16 + 32 * 128) 8 16 64 64
    ∷ InitializeEvent 4096 false false
    ∷ CreateThread 9
    ∷ Wait (1 ∷ 4096 ∷ []) false none 0
    ∷ Dispatch 16
    ∷ SetEvent 4096
    ∷ YieldCurrent
    ∷ Dispatch 16
    ∷ []

-- what it prints
unfoldable pub printed : List Answer
printed = Done ∷ Done ∷ ThreadNumber 2 ∷ Blocked ∷ Run 2 ∷ Flag false ∷ Done ∷ Run 2 ∷ []

-- ---- "Readings to rule out", but for the clock's: a state each, and what a call then answers

-- "Refusing a wait at IRQL 2 that is granted."
unfoldable pub granted_at2 : List Call
granted_at2 = InitializeEvent 4096 true true ∷ Wait (1 ∷ 4096 ∷ []) false none 2 ∷ []

-- "Running timeouts before object wakes.": a timer and the deadline of the thread that waits for it come at one time; the thread
-- takes the timer, so that thread 2 finds it unsignaled and times out
unfoldable pub wakes_first : List Call
wakes_first =
    InitializeTimer 4096 X64 (Image 4096 64) false
    ∷ CreateThread 9
    ∷ SetTimer 4096 100 true (pos 0) 0
    ∷ Wait (2 ∷ 4096 ∷ []) false (some 100) 0
    ∷ Dispatch 16
    ∷ AdvanceTo 100
    ∷ Wait (2 ∷ 4096 ∷ []) false (some 100) 0
    ∷ []

-- "Ending a periodic cancel with 'no' because its DPC is queued."
unfoldable pub cancels_queued : List Call
cancels_queued =
    ConfigureDpcDispatch 1 2
    ∷ InitializeTimer 4096 X64 (Image 4096 64) false
    ∷ InitializeDpc 8192 X64 (Image 8192 64) 0 0
    ∷ SetTimer 4096 100 true (pos 1) 8192
    ∷ AdvanceTo 100
    ∷ CancelTimer 4096
    ∷ []

unfoldable pub readings : List (List Answer)
readings = answers granted_at2 begun ∷ answers wakes_first begun ∷ answers cancels_queued begun ∷ []

unfoldable pub ruled : List (List Answer)
ruled =
    (Done ∷ Satisfied 0 ∷ [])
    ∷ (Done ∷ ThreadNumber 2 ∷ Flag false ∷ Blocked ∷ Run 2 ∷ Done ∷ Timeout ∷ [])
    ∷ (Done ∷ Done ∷ Done ∷ Flag false ∷ Done ∷ Flag true ∷ [])
    ∷ []

-- ---- "'all' takes every one or none and answers 0"

-- two auto-reset events, the first signaled; a wait for both; what they are then
unfoldable pub both_waited : Bool → List Call
both_waited second =
    InitializeEvent 4096 false true
    ∷ InitializeEvent 8192 false second
    ∷ Wait (1 ∷ 4096 ∷ 1 ∷ 8192 ∷ []) true none 0
    ∷ Reads (EventState 4096)
    ∷ Reads (EventState 8192)
    ∷ []

-- an auto-reset event
unfoldable pub event_is : ℕ → Bool → Answer
event_is key signaled = EventIs (record { key = key; manual = false; signaled = signaled })

-- the second not signaled, and signaled
unfoldable pub all_waits : List (List Answer)
all_waits = answers (both_waited false) begun ∷ answers (both_waited true) begun ∷ []

unfoldable pub every_or_none : List (List Answer)
every_or_none =
    (Done ∷ Done ∷ Blocked ∷ event_is 4096 true ∷ event_is 8192 false ∷ [])
    ∷ (Done ∷ Done ∷ Satisfied 0 ∷ event_is 4096 false ∷ event_is 8192 false ∷ [])
    ∷ []
