-- A clock in form, as plain ranges.
use Rattle.std.proofs.Common.{◌≡◌, ℕ, ◌<◌, ◌≤◌, Bool, true, false, cond, not, ◌&&◌, ltb, leb, ℤ, pos, negsuc, sym, refl, ◌∙◌, ltb-false, ltb-true, lt-ltb, le-leb, leb-true, Result, Err}
use mathlib.Core.Bool.{false≢true}
use lib.Signed.{lt_z, le_z}
use borrow.Author.Tests.{lt-leb}
use Rattle.clock.specs.declared.GuestClock.{GuestClock}
use Rattle.clock.specs.declared.ClockError.TheVariants.{OutOfForm}
use Rattle.clock.specs.declared.Outcome.{Outcome}
use Rattle.clock.specs.declared.ClockError.{ClockError}
use Rattle.clock.specs.Clock.{most_uptime, offset_in_range, in_range, in_form, refused, when_in_form, read_in_form}

pub both : (a b : Bool) → (a && b) ≡ true → (a ≡ true) × (b ≡ true)
both true b e = (refl, e)
both false b e = absurd (false≢true e)

pub record InForm (c : GuestClock) : Type 0 where
  pub ticks-most : c.submillisecond_100ns < 10000
  pub countdown-least : 1 ≤ c.until_flush
  pub countdown-most : c.until_flush ≤ 1000
  pub mhz-least : 1 ≤ c.base_mhz
  pub mhz-most : c.base_mhz ≤ 100000
  pub uptime-most : c.uptime_ms ≤ most_uptime
  pub offset : offset_in_range c.utc_offset_minutes ≡ true

pub form-facts : (c : GuestClock) → in_form c ≡ true → InForm c
unfolding in_form in_range
form-facts c e =
    let (ticks, e₁) = both _ _ e in
    let (least, e₂) = both _ _ e₁ in
    let (most, e₃) = both _ _ e₂ in
    let (slow, e₄) = both _ _ e₃ in
    let (fast, e₅) = both _ _ e₄ in
    let (uptime, offset) = both _ _ e₅ in
    record {
      ticks-most = ltb-true _ _ ticks;
      countdown-least = leb-true _ _ least;
      countdown-most = leb-true _ _ most;
      mhz-least = leb-true _ _ slow;
      mhz-most = leb-true _ _ fast;
      uptime-most = leb-true _ _ uptime;
      offset = offset;
    }

pub facts-form : (c : GuestClock) → InForm c → in_form c ≡ true
unfolding in_form in_range
facts-form c f =
    simp (
      lt-ltb _ _ f.ticks-most,
      le-leb _ _ f.countdown-least,
      le-leb _ _ f.countdown-most,
      le-leb _ _ f.mhz-least,
      le-leb _ _ f.mhz-most,
      le-leb _ _ f.uptime-most,
      f.offset,
    )

-- the two sides of a test, of what the call ensures of its result
pub held : {r test : Bool} → r ≡ test → r ≡ true → test ≡ true
held e t = sym e ∙ t

pub failed : {r test : Bool} → r ≡ test → r ≡ false → test ≡ false
failed e t = sym e ∙ t

-- and of the test of a clock's form
module _ (c : GuestClock) {r : Bool} (e : r ≡ in_form c) where
  pub form_of : r ≡ true → InForm c
  form_of t = form-facts c (held e t)

  pub kept_out : {x : Outcome} (o : Outcome) → r ≡ false → x ≡ refused c OutOfForm → x ≡ when_in_form c o
  unfolding when_in_form
  kept_out o t p = simp (failed e t) p

  pub let-in : {x o : Outcome} → r ≡ true → x ≡ o → x ≡ when_in_form c o
  unfolding when_in_form
  let-in t p = simp (held e t) p

  pub read_out : (x : Result ℕ ClockError) → r ≡ false → Err OutOfForm ≡ read_in_form c x
  unfolding read_in_form
  read_out x t = simp (failed e t)

  pub read-in : {x y : Result ℕ ClockError} → r ≡ true → x ≡ y → x ≡ read_in_form c y
  unfolding read_in_form
  read-in t p = simp (held e t) p

-- the outcome of a call by that test
pub ended-is : (c : GuestClock) {x o : Outcome} → (in_form c ≡ false → x ≡ refused c OutOfForm) → (in_form c ≡ true → x ≡ o) → x ≡ when_in_form c o
unfolding when_in_form
ended-is c {x} {o} = go (in_form c)
  where
    go : (b : Bool) → (b ≡ false → x ≡ refused c OutOfForm) → (b ≡ true → x ≡ o) → x ≡ cond b o (refused c OutOfForm)
    go true out ended = ended refl
    go false out ended = out refl
