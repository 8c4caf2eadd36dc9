-- What every call keeps: a clock in form stays in form, its ticks never fall, and a refused call changes nothing, but for `instruction`.
use Rattle.std.proofs.Common.{◌≡◌, ℕ, ◌+◌, ◌-◌, ◌*◌, ◌/◌, ◌%◌, ◌^◌, ◌≤◌, Bool, true, false, cond, ◌&&◌, eqb, ltb, ℤ, refl, true≢false, le_trans, le_refl, arith, lit≤, Ok, Err}
use borrow.Author.Tests.{eqb-false}
use Rattle.clock.specs.declared.GuestClock.{GuestClock}
use Rattle.clock.specs.declared.ClockError.{ClockError}
use Rattle.clock.specs.declared.ClockError.TheVariants.{InvalidConfiguration, Overflow, OutOfForm}
use Rattle.clock.specs.declared.Outcome.{Outcome}
use Rattle.clock.specs.Clock.{offset_in_range, in_range, in_form, refused, done, if_fits, is_ok, when_in_form, read_in_form, started, created}
use Rattle.clock.specs.Clock.{advances, moved, advanced, advanced_microseconds, advance100ns, advance_microseconds, advance_milliseconds}
use Rattle.clock.specs.Clock.{with_cycles, flush_ticks, flushes, flushed, flush, flush_cycles, instructed, instruction, observe, ticks_of, qpc}
use Rattle.clock.specs.Samples.{iterate, stands, of, at_limit, reads, refuses, p7, p8}
use Rattle.clock.specs.Calls.{Atomic, Advance100ns, AdvanceMicroseconds, AdvanceMilliseconds, FlushCycles, Observe, tried, Call, Instruction, Try, called}
use Rattle.clock.proofs.FormLaws.{both, InForm, form-facts, facts-form}
use Rattle.clock.proofs.AdvanceLaws.{advance-facts}

-- a clock, and one after it
pub record Later (c after : GuestClock) : Type 0 where
  pub rises : ticks_of c ≤ ticks_of after
  pub form : InForm c → InForm after

same : (c : GuestClock) → Later c c
same c = record { rises = le_refl _; form = λ f. f }

then : {a b c : GuestClock} → Later a b → Later b c → Later a c
then l m = record { rises = le_trans l.rises m.rises; form = λ f. m.form (l.form f) }

pub moved-ticks : (c : GuestClock) (ticks : ℕ) → ticks_of (moved c ticks) ≡ ticks_of c + ticks
unfolding moved
moved-ticks c ticks = sum c.uptime_ms c.submillisecond_100ns
  where
    sum : (uptime part : ℕ) → (uptime + (part + ticks) / 10000) * 10000 + (part + ticks) % 10000 ≡ uptime * 10000 + part + ticks
    sum uptime part = omega arith

moved_later : (c : GuestClock) (ticks : ℕ) → advances c ticks ≡ true → Later c (moved c ticks)
unfolding moved
moved_later c ticks e =
    record {
      rises = omega (arith, moved-ticks c ticks);
      form = λ f. record {
        ticks-most = omega arith;
        countdown-least = f.countdown-least;
        countdown-most = f.countdown-most;
        mhz-least = f.mhz-least;
        mhz-most = f.mhz-most;
        uptime-most = (advance-facts c ticks e).uptime-most;
        offset = f.offset;
      };
    }

cycles-later : (c : GuestClock) (pending countdown : ℕ) → (InForm c → (1 ≤ countdown) × (countdown ≤ 1000)) → Later c (with_cycles c pending countdown)
cycles-later c pending countdown range =
    record {
      rises = le_refl _;
      form = λ f. record {
        ticks-most = f.ticks-most;
        countdown-least = (range f).0;
        countdown-most = (range f).1;
        mhz-least = f.mhz-least;
        mhz-most = f.mhz-most;
        uptime-most = f.uptime-most;
        offset = f.offset;
      };
    }

-- a call that changes nothing where it is refused
pub record Step (c : GuestClock) (o : Outcome) : Type 0 where
  pub unchanged : is_ok o.answer ≡ false → o.clock ≡ c
  pub later : Later c o.clock

refused-step : (c : GuestClock) (why : ClockError) → Step c (refused c why)
refused-step c why = record { unchanged = λ e. refl; later = same c }

-- either side of a test
either : (b : Bool) (P : Outcome → Type 0) {x y : Outcome} → (b ≡ true → P x) → (b ≡ false → P y) → P (cond b x y)
either true P p q = p refl
either false P p q = q refl

fits-step : (fits : Bool) {c after : GuestClock} → (fits ≡ true → Later c after) → Step c (if_fits fits after c)
fits-step fits {c} l =
    either fits (Step c) (λ e. record { unchanged = λ no. absurd (true≢false no); later = l e }) (λ _. refused-step c Overflow)

in-form-step : (c : GuestClock) (o : Outcome) → Step c o → Step c (when_in_form c o)
unfolding when_in_form
in-form-step c o s = either (in_form c) (Step c) (λ _. s) (λ _. refused-step c OutOfForm)

advanced-step : (c : GuestClock) (ticks : ℕ) → Step c (advanced c ticks)
unfolding advanced
advanced-step c ticks = fits-step (advances c ticks) (moved_later c ticks)

flushed-later : (c : GuestClock) → flushes c ≡ true → Later c (flushed c)
unfolding flushes flushed moved
flushed-later c e = then (moved_later c (flush_ticks c) e) (cycles-later (moved c (flush_ticks c)) _ _ (λ f. (f.countdown-least, f.countdown-most)))

observed-later : (c : GuestClock) → (flushes c && advances (flushed c) 10) ≡ true → Later c (moved (flushed c) 10)
observed-later c e =
    let (first, second) = both _ _ e in
    then (flushed-later c first) (moved_later (flushed c) 10 second)

step : (k : Atomic) (c : GuestClock) → Step c (tried k c)
unfolding tried advance100ns advanced_microseconds advance_microseconds advance_milliseconds flush_cycles observe
step (Advance100ns ticks) c = in-form-step c _ (advanced-step c ticks)
step (AdvanceMicroseconds amount) c = in-form-step c _ (advanced-step c (amount * 10))
step (AdvanceMilliseconds amount) c = in-form-step c _ (advanced-step c (amount * 1000 * 10))
step FlushCycles c = in-form-step c _ (fits-step (flushes c) (flushed-later c))
step Observe c = in-form-step c _ (fits-step (flushes c && advances (flushed c) 10) (observed-later c))

abbrev Ends : GuestClock → Outcome → Type 0
Ends c o = Later c o.clock

-- where the flush is refused the cycles stay added and the countdown is 1000: a later clock, too
instructed-later : (c : GuestClock) → InForm c → Ends c (instructed c)
unfolding instructed
instructed-later c f =
    either (ltb (c.pending_cycles + 100) (2 ^ 64)) (Ends c) (λ _. counted) (λ _. same c)
  where
    added : (countdown : ℕ) → GuestClock
    added countdown = with_cycles c (c.pending_cycles + 100) countdown

    counted : Ends c (cond (eqb c.until_flush 1) (flush (added 1000)) (done (added (c.until_flush - 1))))
    counted =
        either (eqb c.until_flush 1) (Ends c)
        (λ _. then (cycles-later c _ 1000 (λ _. (lit≤ tt, lit≤ tt))) (fits-step (flushes (added 1000)) (flushed-later (added 1000))).later)
        (λ e. let left = eqb-false c.until_flush 1 e in cycles-later c _ (c.until_flush - 1) (λ _. (omega arith, omega arith)))

later : (k : Call) (c : GuestClock) → Ends c (called k c)
unfolding called instruction when_in_form
later Instruction c = either (in_form c) (Ends c) (λ e. instructed-later c (form-facts c e)) (λ _. same c)
later (Try k) c = (step k c).later

pub qpc-rises : (k : Call) (c : GuestClock) → ticks_of c ≤ ticks_of (called k c).clock
qpc-rises k c = (later k c).rises

pub form-kept : (k : Call) (c : GuestClock) → in_form c ≡ true → in_form (called k c).clock ≡ true
form-kept k c e = facts-form _ ((later k c).form (form-facts c e))

-- with `form-kept`: from an accepted `new` on, a clock is always in form
pub new-in-form : (utc uptime : ℕ) (offset : ℤ) (mhz : ℕ) (c : GuestClock) → created utc uptime offset mhz ≡ Ok c → in_form c ≡ true
unfolding created started in_form
new-in-form utc uptime offset mhz c = go (in_range uptime offset mhz) refl
  where
    go : (b : Bool) → in_range uptime offset mhz ≡ b → cond b (Ok (started utc uptime offset mhz)) (Err InvalidConfiguration) ≡ Ok c → in_form c ≡ true
    go true e q =
        let same-clock : c ≡ started utc uptime offset mhz = cc in
        simp (same-clock, e)
    go false e q = absurd (let z : ◌≡◌ {A = ℕ} 0 1 = cc in omega arith)

pub refused-unchanged : (k : Atomic) (c : GuestClock) → is_ok (tried k c).answer ≡ false → (tried k c).clock ≡ c
refused-unchanged k c = (step k c).unchanged

-- document 01's samples, computed
pub instructions-p7 : p7 ≡ true
unfolding p7 of stands iterate started created in_range offset_in_range in_form instruction when_in_form instructed flushes flushed flush_ticks advances moved
instructions-p7 = refl

pub limit-p8 : p8 ≡ true
unfolding p8 at_limit reads refuses qpc read_in_form in_form in_range offset_in_range
limit-p8 = refl
