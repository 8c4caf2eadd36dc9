-- Bytes at places of an image: each field is a place and the bytes that stand from there on.
use Rattle.std.specs.Prelude.{ℕ, zero, suc, ◌+◌, ◌*◌, ◌/◌, ◌%◌, List, [], ◌∷◌, slice_index, slice_set}

-- the bytes from `at` on; what would stand past the end is dropped
unfoldable pub placed : ℕ → List ℕ → List ℕ → List ℕ
placed at [] out = out
placed at (b ∷ bs) out = placed (suc at) bs (slice_set out at b)

-- the lowest `count` bytes of n, the lowest first
unfoldable pub little : ℕ → ℕ → List ℕ
little zero n = []
little (suc count) n = n % 256 ∷ little count (n / 256)

-- the number that `count` bytes from `at` on stand for, the lowest first
unfoldable pub number : ℕ → ℕ → List ℕ → ℕ
number zero at out = 0
number (suc count) at out = slice_index out at + 256 * number count (suc at) out

pub record Field : Type 0 where
  pub place : ℕ
  pub bytes : List ℕ

-- each field in turn
unfoldable pub laid : List Field → List ℕ → List ℕ
laid [] out = out
laid (f ∷ fs) out = laid fs (placed f.place f.bytes out)

-- a number in `count` bytes
abbrev pub holds : ℕ → ℕ → ℕ → Field
holds at count n = record { place = at; bytes = little count n }
