-- The bytes of a timer and of a DPC in the guest's memory, for any architecture: fields laid over bytes 0.
use Rattle.std.specs.Prelude.{ℕ, ◌+◌, ◌-◌, ◌/◌, cond, List, [], ◌∷◌, ◌++◌, length, replicate, nat_lt}
use Rattle.arch.specs.declared.Architecture.{Architecture}
use Rattle.arch.specs.Width.{width_of}
use Rattle.images.specs.declared.Timer.{Timer}
use Rattle.images.specs.declared.Dpc.{Dpc}
use Rattle.images.specs.declared.DpcWork.{DpcWork}
use Rattle.images.specs.declared.DpcPhase.{DpcPhase}
use Rattle.images.specs.declared.DpcPhase.TheVariants.{Idle, Queued, Running, Returning}
use Rattle.images.specs.Place.{timer_size, due_at, timer_dpc_at, dpc_size, routine_at, arguments_at}
use Rattle.images.specs.Field.{Field, placed, laid, holds}

-- the fields over `size` bytes 0, the rest as it was; nothing where there is no room
unfoldable pub image : ℕ → List Field → List ℕ → List ℕ
image size fields out = cond (nat_lt (length out) size) out (laid fields (placed 0 (replicate size 0) out))

-- ---- a timer

-- its kind (8 manual, 9 automatic reset), absolute, its size in fours of bytes, inserted, signaled
unfoldable pub timer_head : Timer → List Field
timer_head t =
    holds 0 1 (cond t.manual_reset 8 9)
    ∷ holds 1 1 (cond t.absolute 1 0)
    ∷ holds 2 1 (timer_size t.architecture / 4)
    ∷ holds 3 1 (cond t.inserted 64 0)
    ∷ holds 4 4 (cond t.signaled 1 0)
    ∷ []

-- the list of those who wait, kept elsewhere, is empty here: both its links are its own address
unfoldable pub timer_links : Timer → List Field
timer_links t =
    let width = width_of t.architecture in
    holds 8 width (t.address + 8) ∷ holds (8 + width) width (t.address + 8) ∷ []

unfoldable pub timer_times : Timer → List Field
timer_times t =
    let a = t.architecture in
    holds (due_at a) 8 t.due
    ∷ holds (timer_dpc_at a) (width_of a) t.dpc
    ∷ holds (timer_size a - 4) 4 t.period_ms
    ∷ []

unfoldable pub timer_fields : Timer → List Field
timer_fields t = timer_head t ++ (timer_links t ++ timer_times t)

unfoldable pub timer_image : Timer → List ℕ → List ℕ
timer_image t out = image (timer_size t.architecture) (timer_fields t) out

-- ---- a DPC

-- the bytes 0x13 0x01 that open it
unfoldable pub dpc_head : List ℕ
dpc_head = 19 ∷ 1 ∷ []

-- two numbers of the guest's width, one behind the other
unfoldable pub two_words : Architecture → ℕ → ℕ → ℕ → List Field
two_words a at first second = holds at (width_of a) first ∷ holds (at + width_of a) (width_of a) second ∷ []

unfoldable pub work_fields : Architecture → DpcWork → List Field
work_fields a w = two_words a (arguments_at a) w.first w.second

-- the arguments of its work, if it has any
unfoldable pub phase_fields : Architecture → DpcPhase → List Field
phase_fields a Idle = []
phase_fields a (Queued w) = work_fields a w
phase_fields a (Running w) = work_fields a w
phase_fields a (Returning w) = work_fields a w

unfoldable pub dpc_fields : Dpc → List Field
dpc_fields d =
    let a = d.architecture in
    record { place = 0; bytes = dpc_head } ∷ (two_words a (routine_at a) d.routine d.context ++ phase_fields a d.phase)

unfoldable pub dpc_image : Dpc → List ℕ → List ℕ
dpc_image d out = image (dpc_size d.architecture) (dpc_fields d) out
