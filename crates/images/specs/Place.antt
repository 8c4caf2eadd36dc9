-- Where a timer or a DPC may stand: document 01's rules, in ℕ.
use Rattle.std.specs.Prelude.{ℕ, ◌+◌, ◌%◌, ◌^◌, Bool, true, false, cond, ◌==◌, nat_le, nat_lt}
use Rattle.arch.specs.declared.Architecture.{Architecture}
use Rattle.arch.specs.declared.Architecture.TheVariants.{X64, X86}
use Rattle.arch.specs.Width.{width_of}
use Rattle.images.specs.declared.TimerBacking.{TimerBacking}
use Rattle.images.specs.declared.TimerBacking.TheVariants.{Image, NonpagedPool}

abbrev pub architecture_number : Architecture → ℕ
architecture_number X64 = 0
architecture_number X86 = 1

unfoldable pub architecture_of : ℕ → Architecture
architecture_of n = cond (n == 0) X64 X86

abbrev pub backing_kind : TimerBacking → ℕ
backing_kind (Image base size) = 0
backing_kind (NonpagedPool base requested mapped) = 1

abbrev pub backing_base : TimerBacking → ℕ
backing_base (Image base size) = base
backing_base (NonpagedPool base requested mapped) = base

abbrev pub backing_size : TimerBacking → ℕ
backing_size (Image base size) = size
backing_size (NonpagedPool base requested mapped) = requested

abbrev pub backing_mapped : TimerBacking → ℕ
backing_mapped (Image base size) = 0
backing_mapped (NonpagedPool base requested mapped) = mapped

unfoldable pub backing_of : ℕ → ℕ → ℕ → ℕ → TimerBacking
backing_of kind base size mapped = cond (kind == 0) (Image base size) (NonpagedPool base size mapped)

-- a pool that more bytes are asked of than it has mapped
abbrev pub is_short : TimerBacking → Bool
is_short (Image base size) = false
is_short (NonpagedPool base requested mapped) = nat_lt mapped requested

-- ---- sizes in bytes, and where the fields stand whose place depends on more than the width

abbrev pub timer_size : Architecture → ℕ
timer_size X64 = 64
timer_size X86 = 40

abbrev pub due_at : Architecture → ℕ
due_at X64 = 24
due_at X86 = 16

abbrev pub timer_dpc_at : Architecture → ℕ
timer_dpc_at X64 = 48
timer_dpc_at X86 = 32

abbrev pub dpc_size : Architecture → ℕ
dpc_size X64 = 64
dpc_size X86 = 32

abbrev pub routine_at : Architecture → ℕ
routine_at X64 = 24
routine_at X86 = 12

abbrev pub arguments_at : Architecture → ℕ
arguments_at X64 = 40
arguments_at X86 = 20

-- ---- ranges of addresses

-- the n bytes at a and the m bytes at b: neither range is empty, and each starts before the other ends
unfoldable pub overlaps : ℕ → ℕ → ℕ → ℕ → Bool
overlaps a n b m =
    cond (n == 0) false
    (cond (m == 0) false
    (cond (nat_lt b (a + n)) (nat_lt a (b + m)) false))

-- an end that the addresses of a guest do not reach
abbrev pub ends_past : ℕ → Architecture → Bool
ends_past end X64 = false
ends_past end X86 = nat_lt (2 ^ 32) end

-- not within the memory of a backing, or its end is past 2^64 - 1
unfoldable pub is_outside : ℕ → ℕ → TimerBacking → Bool
is_outside address end b =
    let limit = backing_base b + backing_size b in
    cond (nat_lt address (backing_base b)) true
    (cond (nat_le (2 ^ 64) limit) true (nat_lt limit end))

-- "15: address 0, end or backing end past 2^64 − 1, not aligned to width w (8 for x64, 4 for x86), outside backing (pool: its requested
-- bytes), x86 end above 2^32, or pool requested over mapped"
unfoldable pub location_refusal : ℕ → ℕ → Architecture → TimerBacking → ℕ
location_refusal address size a b =
    let end = address + size in
    cond (address == 0) 15
    (cond (nat_le (2 ^ 64) end) 15
    (cond (is_short b) 15
    (cond (address % width_of a == 0) (cond (ends_past end a) 15 (cond (is_outside address end b) 15 0)) 15)))
