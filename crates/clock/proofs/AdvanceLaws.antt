-- An advance that is accepted, as plain ranges.
use Rattle.std.proofs.Common.{◌≡◌, ℕ, ◌+◌, ◌/◌, ◌^◌, ◌<◌, ◌≤◌, true, false, Bool, Option, Some, None, SomeIff, Ok, Err, ok_or, cond, ltb, arith, ltb-true, lt-ltb, le-ltb, leb-true, le-leb, ap, refl}
use mathlib.Core.Bool.{false≢true}
use Rattle.clock.specs.declared.GuestClock.{GuestClock}
use Rattle.clock.specs.declared.ClockError.TheVariants.{Overflow}
use Rattle.clock.specs.Clock.{most_uptime, fraction, advances, done, if_fits, fitted}
use Rattle.clock.proofs.FormLaws.{both}

pub record Advances (c : GuestClock) (ticks : ℕ) : Type 0 where
  pub utc-fits : c.utc_filetime + ticks < 2 ^ 64
  pub fraction-fits : fraction c ticks < 2 ^ 64
  pub uptime-most : c.uptime_ms + fraction c ticks / 10000 ≤ most_uptime

pub advance-facts : (c : GuestClock) (ticks : ℕ) → advances c ticks ≡ true → Advances c ticks
unfolding advances
advance-facts c ticks e =
    let (utc, e₁) = both _ _ e in
    let (part, uptime) = both _ _ e₁ in
    record { utc-fits = ltb-true _ _ utc; fraction-fits = ltb-true _ _ part; uptime-most = leb-true _ _ uptime }

pub facts-advance : (c : GuestClock) (ticks : ℕ) → Advances c ticks → advances c ticks ≡ true
unfolding advances
facts-advance c ticks a = simp (lt-ltb _ _ a.utc-fits, lt-ltb _ _ a.fraction-fits, le-leb _ _ a.uptime-most)

-- the outcome of a clock after that there is only where it fits
pub fitted-is : (fits : Bool) (after c : GuestClock) (r : Option GuestClock) → SomeIff r (fits ≡ true) after → fitted r c ≡ if_fits fits after c
fitted-is true after c None h = absurd (h refl)
fitted-is false after c None h = refl
fitted-is true after c (Some found) h = ap done h.1
fitted-is false after c (Some found) h = absurd (false≢true h.0)

-- a reading of a sum that there is only where it fits
pub reading_is : (r : Option ℕ) (n : ℕ) → SomeIff r (n < 2 ^ 64) n → ok_or r Overflow ≡ cond (ltb n (2 ^ 64)) (Ok n) (Err Overflow)
reading_is None n h = simp (le-ltb n (2 ^ 64) (omega (arith, h)))
reading_is (Some m) n h = simp (lt-ltb n (2 ^ 64) h.0, h.1)
