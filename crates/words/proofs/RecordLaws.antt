-- The records stand one behind another with no word between them, each field in a place of its own.
use Prim.Native.Nat.{ℕ, ◌+◌, ◌-◌, ◌*◌, ◌/◌, ◌≤◌, ◌<◌}
use mathlib.Core.Bool.{true}
use mathlib.Core.Path.{◌≡◌, refl, ap}
use native.Mathlib.Omega.{arith}
use native.Mathlib.Decide.{dec_lt}
use borrow.Author.Tests.{le-leb}
use Rattle.words.specs.Layout as at
use Rattle.words.specs.Layout.{thread_at, objects_at, entry_at}
use Rattle.words.specs.Records.{Record, header, thread, object, dpc, Among, Has, end_of, stand, header_fields, thread_fields, object_fields, dpc_fields}

thread-from : (id : ℕ) → id ≤ at.most_threads → thread_at id ≡ at.thread_from id
unfolding thread_at
thread-from id h = simp (le-leb id at.most_threads h)

objects-from : (t : ℕ) → t ≤ at.most_threads → objects_at t ≡ at.header_size + at.thread_size * t
unfolding objects_at
objects-from t h = simp (le-leb t at.most_threads h)

entry-from : (base i : ℕ) → base ≤ 1000000 → i ≤ 8192 → entry_at base i ≡ base + at.record_size * i
unfolding entry_at
entry-from base i h k = simp (le-leb base 1000000 h, le-leb i 8192 k)

module _ (t o d : ℕ) (threads : t ≤ at.most_threads) (objects : o ≤ 4096) (dpcs : d ≤ 4096) where
  object-from : (i : ℕ) → i ≤ 4096 → entry_at (objects_at t) i ≡ at.header_size + at.thread_size * t + at.record_size * i
  object-from i h =
      let base = objects-from t threads in
      let e = entry-from (objects_at t) i (omega arith) (omega arith) in
      omega arith

  pub dpc-from : (i : ℕ) → i ≤ 4096 → entry_at (entry_at (objects_at t) o) i ≡ at.header_size + at.thread_size * t + at.record_size * o + at.record_size * i
  dpc-from i h =
      let base = object-from o objects in
      let e = entry-from (entry_at (objects_at t) o) i (omega arith) (omega arith) in
      omega arith

  -- every record ends before the end
  pub within : (r : Record) (j : ℕ) → Among t o d r → Has t o r j → j < end_of t o d
  within header j a h = omega (arith, dpc-from d dpcs)
  within (thread id) j a h = omega (arith, thread-from id (omega arith), dpc-from d dpcs)
  within (object i) j a h = omega (arith, object-from i (omega arith), dpc-from d dpcs)
  within (dpc i) j a h = omega (arith, dpc-from i (omega arith), dpc-from d dpcs)

  -- no word is one of two records
  pub apart : (r s : Record) (j : ℕ) → Among t o d r → Among t o d s → Has t o r j → Has t o s j → r ≡ s
  apart header header j a b h k = refl
  apart header (thread id) j a b h k = absurd (omega (arith, thread-from id (omega arith)))
  apart header (object i) j a b h k = absurd (omega (arith, object-from i (omega arith)))
  apart header (dpc i) j a b h k = absurd (omega (arith, dpc-from i (omega arith)))
  apart (thread id) header j a b h k = absurd (omega (arith, thread-from id (omega arith)))
  apart (thread id) (thread id') j a b h k = ap thread (omega (arith, thread-from id (omega arith), thread-from id' (omega arith)))
  apart (thread id) (object i) j a b h k = absurd (omega (arith, thread-from id (omega arith), object-from i (omega arith)))
  apart (thread id) (dpc i) j a b h k = absurd (omega (arith, thread-from id (omega arith), dpc-from i (omega arith)))
  apart (object i) header j a b h k = absurd (omega (arith, object-from i (omega arith)))
  apart (object i) (thread id) j a b h k = absurd (omega (arith, thread-from id (omega arith), object-from i (omega arith)))
  apart (object i) (object i') j a b h k = ap object (omega (arith, object-from i (omega arith), object-from i' (omega arith)))
  apart (object i) (dpc i') j a b h k = absurd (omega (arith, object-from i (omega arith), dpc-from i' (omega arith)))
  apart (dpc i) header j a b h k = absurd (omega (arith, dpc-from i (omega arith)))
  apart (dpc i) (thread id) j a b h k = absurd (omega (arith, thread-from id (omega arith), dpc-from i (omega arith)))
  apart (dpc i) (object i') j a b h k = absurd (omega (arith, object-from i' (omega arith), dpc-from i (omega arith)))
  apart (dpc i) (dpc i') j a b h k = ap dpc (omega (arith, dpc-from i (omega arith), dpc-from i' (omega arith)))

  -- every word before the end is one of some record
  pub covered : (j : ℕ) → j < end_of t o d → (r : Record) × Among t o d r × Has t o r j
  covered j h = go (dec_lt j at.header_size) (dec_lt j (at.header_size + at.thread_size * t)) (dec_lt j (at.header_size + at.thread_size * t + at.record_size * o))
    where
      last : end_of t o d ≡ at.header_size + at.thread_size * t + at.record_size * o + at.record_size * d
      last = dpc-from d dpcs

      go : Dec (j < at.header_size) → Dec (j < at.header_size + at.thread_size * t) → Dec (j < at.header_size + at.thread_size * t + at.record_size * o) → (r : Record) × Among t o d r × Has t o r j
      go (yes a) b c = (header, tt, record { begins = omega arith; ends = omega arith })
      go (no a) (yes b) c =
          let id = (j - at.unused) / at.thread_size in
          let here = thread-from id (omega arith) in
          (thread id, omega arith, record { begins = omega arith; ends = omega arith })
      go (no a) (no b) (yes c) =
          let i = (j - (at.header_size + at.thread_size * t)) / at.record_size in
          let here = object-from i (omega arith) in
          (object i, omega arith, record { begins = omega arith; ends = omega arith })
      go (no a) (no b) (no c) =
          let inside : j < at.header_size + at.thread_size * t + at.record_size * o + at.record_size * d = omega (arith, last) in
          let i = (j - (at.header_size + at.thread_size * t + at.record_size * o)) / at.record_size in
          let here = dpc-from i (omega arith) in
          (dpc i, omega arith, record { begins = omega arith; ends = omega arith })

-- each field of a record has words of its own in it
pub header-fields : stand 0 header_fields at.header_size ≡ true
unfolding stand
header-fields = refl

pub thread-fields : stand 0 thread_fields at.thread_size ≡ true
unfolding stand
thread-fields = refl

pub object-fields : stand 0 object_fields at.record_size ≡ true
unfolding stand
object-fields = refl

pub dpc-fields : stand 0 dpc_fields at.record_size ≡ true
unfolding stand
dpc-fields = refl
