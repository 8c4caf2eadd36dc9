-- What a read of the clock gives: its number, and its value in word 0 of the output.
use Rattle.std.proofs.Common.{◌≡◌, ℕ, ◌≤◌, List, length, get_or, Result, Ok, Err}
use mathlib.Core.Path.{refl}
use native.Mathlib.Omega.{arith}
use borrow.Author.Tests.{le-ltb, lt-ltb}
use lib.Seq.{get_or-set_other, get_or-set_same}
use Rattle.clock.specs.declared.ClockError.{ClockError}
use Rattle.clock.specs.Numbers.{error_number}
use Rattle.clock_words.specs.ClockWords.{returned, placed, answered}

module _ (out : List ℕ) (room : 1 ≤ length out) where
  -- 0, the value in word 0, and every other word as it was
  pub read-gives : (value : ℕ) → let r = answered out (Ok value) in (r.number ≡ 0) × (get_or r.words 0 0 ≡ value) × ((j : ℕ) → 1 ≤ j → get_or r.words j 0 ≡ get_or out j 0)
  unfolding answered placed
  read-gives value = simp (le-ltb (length out) 1 room) (refl, get_or-set_same out 0 value 0 room, λ j h. get_or-set_other out 0 j value 0 (λ e. omega arith))

  -- a refusal's number, and the output as it was
  pub refused-gives : (why : ClockError) → answered out (Err why) ≡ returned (error_number why) out
  unfolding answered placed
  refused-gives why = simp (le-ltb (length out) 1 room)

-- no room: 27 before all else
pub short-gives : (out : List ℕ) (r : Result ℕ ClockError) → length out ≡ 0 → answered out r ≡ returned 27 out
unfolding answered
short-gives out r e = simp (lt-ltb (length out) 1 (omega (arith, e)))
