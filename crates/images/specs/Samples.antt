-- A DPC and a timer of each architecture, and their bytes as document 01 places them.
use Rattle.std.specs.Prelude.{ℕ, true, false, List, [], ◌∷◌, ◌++◌, replicate}
use Rattle.arch.specs.declared.Architecture.TheVariants.{X64, X86}
use Rattle.images.specs.declared.TimerBacking.TheVariants.{Image, NonpagedPool}
use Rattle.images.specs.declared.Timer.{Timer}
use Rattle.images.specs.declared.Dpc.{Dpc}
use Rattle.images.specs.declared.DpcOrigin.TheVariants.{Caller}
use Rattle.images.specs.declared.DpcPhase.TheVariants.{Queued, Running}

-- the bytes that an image is written over
unfoldable pub room : List ℕ
room = replicate 64 255

-- ---- a DPC: 0x13 0x01; 24/12 the routine and its context; 40/20 the arguments. 64/32 bytes

-- routine 0x1817161514131211, context 0x2827262524232221, arguments 0x3837363534333231 and 0x4847464544434241
unfoldable pub dpc_x64 : Dpc
dpc_x64 =
    record {
      address = 4096;
      architecture = X64;
      backing = Image 4096 64;
      routine = 1735880461161533969;
      context = 2893323226570760737;
      phase = Queued (record { sequence = 1; first = 4050765991979987505; second = 5208208757389214273; origin = Caller });
    }

unfoldable pub dpc_x64_bytes : List ℕ
dpc_x64_bytes =
    (19 ∷ 1 ∷ replicate 22 0)
    ++ (17 ∷ 18 ∷ 19 ∷ 20 ∷ 21 ∷ 22 ∷ 23 ∷ 24 ∷ [])
    ++ (33 ∷ 34 ∷ 35 ∷ 36 ∷ 37 ∷ 38 ∷ 39 ∷ 40 ∷ [])
    ++ (49 ∷ 50 ∷ 51 ∷ 52 ∷ 53 ∷ 54 ∷ 55 ∷ 56 ∷ [])
    ++ (65 ∷ 66 ∷ 67 ∷ 68 ∷ 69 ∷ 70 ∷ 71 ∷ 72 ∷ [])
    ++ replicate 8 0

-- routine 0x14131211, context 0x24232221, arguments 0x34333231 and 0x44434241
unfoldable pub dpc_x86 : Dpc
dpc_x86 =
    record {
      address = 4096;
      architecture = X86;
      backing = NonpagedPool 4096 32 4096;
      routine = 336794129;
      context = 606282273;
      phase = Running (record { sequence = 1; first = 875770417; second = 1145258561; origin = Caller });
    }

-- and what is behind it stays
unfoldable pub dpc_x86_bytes : List ℕ
dpc_x86_bytes =
    (19 ∷ 1 ∷ replicate 10 0)
    ++ (17 ∷ 18 ∷ 19 ∷ 20 ∷ [])
    ++ (33 ∷ 34 ∷ 35 ∷ 36 ∷ [])
    ++ (49 ∷ 50 ∷ 51 ∷ 52 ∷ [])
    ++ (65 ∷ 66 ∷ 67 ∷ 68 ∷ [])
    ++ replicate 4 0
    ++ replicate 32 255

-- ---- a timer: its head; 8 two links to address + 8; 24/16 the due; 48/32 the DPC; in the last four bytes the period. 64/40 bytes

-- address 0x1817161514131210, due 0x2827262524232221, DPC 0x3837363534333230, period 0x44434241
unfoldable pub timer_x64 : Timer
timer_x64 =
    record {
      address = 1735880461161533968;
      architecture = X64;
      backing = Image 1735880461161533968 64;
      manual_reset = true;
      signaled = true;
      inserted = true;
      due = 2893323226570760737;
      period_ms = 1145258561;
      dpc = 4050765991979987504;
      absolute = true;
      arm_generation = 1;
      initialization = 1;
    }

unfoldable pub timer_x64_bytes : List ℕ
timer_x64_bytes =
    (8 ∷ 1 ∷ 16 ∷ 64 ∷ 1 ∷ 0 ∷ 0 ∷ 0 ∷ [])
    ++ (24 ∷ 18 ∷ 19 ∷ 20 ∷ 21 ∷ 22 ∷ 23 ∷ 24 ∷ [])
    ++ (24 ∷ 18 ∷ 19 ∷ 20 ∷ 21 ∷ 22 ∷ 23 ∷ 24 ∷ [])
    ++ (33 ∷ 34 ∷ 35 ∷ 36 ∷ 37 ∷ 38 ∷ 39 ∷ 40 ∷ [])
    ++ replicate 16 0
    ++ (48 ∷ 50 ∷ 51 ∷ 52 ∷ 53 ∷ 54 ∷ 55 ∷ 56 ∷ [])
    ++ replicate 4 0
    ++ (65 ∷ 66 ∷ 67 ∷ 68 ∷ [])

-- address 0x14131210, due 0x2827262524232221, DPC 0x34333230, period 0x44434241
unfoldable pub timer_x86 : Timer
timer_x86 =
    record {
      address = 336794128;
      architecture = X86;
      backing = Image 336794128 40;
      manual_reset = false;
      signaled = false;
      inserted = false;
      due = 2893323226570760737;
      period_ms = 1145258561;
      dpc = 875770416;
      absolute = false;
      arm_generation = 1;
      initialization = 1;
    }

unfoldable pub timer_x86_bytes : List ℕ
timer_x86_bytes =
    (9 ∷ 0 ∷ 10 ∷ 0 ∷ 0 ∷ 0 ∷ 0 ∷ 0 ∷ [])
    ++ (24 ∷ 18 ∷ 19 ∷ 20 ∷ [])
    ++ (24 ∷ 18 ∷ 19 ∷ 20 ∷ [])
    ++ (33 ∷ 34 ∷ 35 ∷ 36 ∷ 37 ∷ 38 ∷ 39 ∷ 40 ∷ [])
    ++ replicate 8 0
    ++ (48 ∷ 50 ∷ 51 ∷ 52 ∷ [])
    ++ (65 ∷ 66 ∷ 67 ∷ 68 ∷ [])
    ++ replicate 24 255
