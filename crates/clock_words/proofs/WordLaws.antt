-- Words in form are those of their clock. So a refused call other than `instruction` changes no word, and calls keep the words in form.
use Rattle.std.proofs.Common.{◌≡◌, ℕ, ◌+◌, ◌<◌, ◌≤◌, Bool, true, false, cond, eqb, ltb, leb, List, [], ◌∷◌, length, get_or, ℤ, Result, Ok, Err, OkIff}
use Rattle.std.specs.Prelude.{⊤}
use Rattle.std.specs.Result.{result_unwrap_or}
use mathlib.Core.Path.{refl, ap, ◌∙◌}
use native.Mathlib.Omega.{arith}
use lib.ListN.{get_or-eq_default}
use lib.Seq.{set-get_or}
use native.Mathlib.Decide.{dec_lt}
use borrow.Author.Tests.{le-leb, lt-leb, ltb-false}
use Rattle.clock.specs.declared.GuestClock.{GuestClock}
use Rattle.clock.specs.declared.ClockError.{ClockError}
use Rattle.clock.specs.declared.ClockError.TheVariants.{InvalidConfiguration, Overflow, OutOfForm}
use Rattle.clock.specs.Numbers.{error_number, refusal_number}
use Rattle.clock.specs.Clock.{in_form, created, is_ok, when_in_form, advance100ns, advance_microseconds, advance_milliseconds, flush_cycles, observe}
use Rattle.clock.specs.Calls.{Atomic, Advance100ns, AdvanceMicroseconds, AdvanceMilliseconds, FlushCycles, Observe, tried, Call, called}
use Rattle.clock.proofs.FormLaws.{form-facts}
use Rattle.clock.proofs.ClockLaws.{refused-unchanged, new-in-form, form-kept}
use Rattle.clock_words.specs.ClockWords.{fitted, offset_at, offset_word, clock_at, put_clock, returned, opened, ended, changed, placed, answered, read_into}
use Rattle.clock_words.proofs.OffsetLaws.{word-of-offset, offset-of-word}

-- a conversion that a value out of form stands in for
pub converted-is : {E : Type 0} (most word other : ℕ) (r : Result ℕ E) → OkIff r (word < most + 1) word → result_unwrap_or r other ≡ fitted most word other
unfolding fitted
converted-is most word other (Ok found) h = simp (le-leb word most (omega (arith, h.0)), h.1)
converted-is most word other (Err why) h = simp (lt-leb word most (omega (arith, h)))

pub fitted-word : (most word other : ℕ) → (fitted most word other ≡ other → ⊥) → fitted most word other ≡ word
unfolding fitted
fitted-word most word other = go (leb word most)
  where
    go : (b : Bool) → (cond b word other ≡ other → ⊥) → cond b word other ≡ word
    go true n = refl
    go false n = absurd (n refl)

pub same-words : (w : List ℕ) → in_form (clock_at w) ≡ true → put_clock w (clock_at w) ≡ w
unfolding put_clock clock_at
same-words w e =
    let f = form-facts (clock_at w) e in
    let ticks : fitted 4294967295 (get_or w 2 0) 10000 ≡ get_or w 2 0 = fitted-word _ _ _ (λ q. omega arith) in
    let offset : offset_word (offset_at (get_or w 3 0)) ≡ get_or w 3 0 = word-of-offset _ f.offset in
    let mhz : fitted 4294967295 (get_or w 4 0) 0 ≡ get_or w 4 0 = fitted-word _ _ _ (λ q. omega arith) in
    let countdown : fitted 65535 (get_or w 6 0) 0 ≡ get_or w 6 0 = fitted-word _ _ _ (λ q. omega arith) in
    simp (ticks, offset, mhz, countdown, set-get_or)

pub not-ok : (a : Result ⊤ ClockError) → (refusal_number a ≡ 0 → ⊥) → is_ok a ≡ false
not-ok (Ok done) n = absurd (n refl)
not-ok (Err why) n = refl

out_of_form : (k : Atomic) (c : GuestClock) → in_form c ≡ false → refusal_number (tried k c).answer ≡ 27
unfolding tried advance100ns advance_microseconds advance_milliseconds flush_cycles observe when_in_form
out_of_form (Advance100ns ticks) c e = simp e
out_of_form (AdvanceMicroseconds amount) c e = simp e
out_of_form (AdvanceMilliseconds amount) c e = simp e
out_of_form FlushCycles c e = simp e
out_of_form Observe c e = simp e

either_way : (b : Bool) (w : List ℕ) → cond b w w ≡ w
either_way true w = refl
either_way false w = refl

pub refused-same : (k : Atomic) (w : List ℕ) → ((changed (tried k) w).number ≡ 0 → ⊥) → (changed (tried k) w).words ≡ w
unfolding changed ended
refused-same k w n = go (in_form (clock_at w)) refl
  where
    go : (b : Bool) → in_form (clock_at w) ≡ b → (changed (tried k) w).words ≡ w
    go true e =
        let unchanged : (tried k (clock_at w)).clock ≡ clock_at w = refused-unchanged k (clock_at w) (not-ok (tried k (clock_at w)).answer n) in
        simp (ap (put_clock w) unchanged ∙ same-words w e) (either_way (eqb (refusal_number (tried k (clock_at w)).answer) 27) w)
    go false e = simp (out_of_form k (clock_at w) e)

pub new-refused-same : (w : List ℕ) (r : Result GuestClock ClockError) → ((opened w r).number ≡ 0 → ⊥) → (opened w r).words ≡ w
unfolding opened
new-refused-same w (Err why) n = refl
new-refused-same w (Ok c) n = go (ltb (length w) 7) n
  where
    go : (b : Bool) → ((cond b (returned 27 w) (returned 0 (put_clock w c))).number ≡ 0 → ⊥) → (cond b (returned 27 w) (returned 0 (put_clock w c))).words ≡ w
    go true n = refl
    go false n = absurd (n refl)

pub read-refused-same : (call : GuestClock → Result ℕ ClockError) (w out : List ℕ) → ((read_into call w out).number ≡ 0 → ⊥) → (read_into call w out).words ≡ out
unfolding read_into answered placed
read-refused-same call w out = go (ltb (length out) 1) (call (clock_at w))
  where
    go : (b : Bool) (r : Result ℕ ClockError) → ((cond b (returned 27 out) (placed out r)).number ≡ 0 → ⊥) → (cond b (returned 27 out) (placed out r)).words ≡ out
    go true r n = refl
    go false (Ok value) n = absurd (n refl)
    go false (Err why) n = refl

-- Form

fits_word : (most word other : ℕ) → word ≤ most → fitted most word other ≡ word
unfolding fitted
fits_word most word other h = simp (le-leb _ _ h)

-- a clock in form, put into seven words or more, is what they hold
pub read_back : (w : List ℕ) (c : GuestClock) → 7 ≤ length w → in_form c ≡ true → clock_at (put_clock w c) ≡ c
unfolding clock_at put_clock
read_back (_ ∷ _ ∷ _ ∷ _ ∷ _ ∷ _ ∷ _ ∷ rest) c h e =
    let f = form-facts c e in
    λ i. record {
      utc_filetime = c.utc_filetime;
      uptime_ms = c.uptime_ms;
      submillisecond_100ns = fits_word 4294967295 c.submillisecond_100ns 10000 (omega arith) i;
      utc_offset_minutes = offset-of-word c.utc_offset_minutes f.offset i;
      base_mhz = fits_word 4294967295 c.base_mhz 0 (omega arith) i;
      pending_cycles = c.pending_cycles;
      until_flush = fits_word 65535 c.until_flush 0 (omega arith) i;
    }
read_back [] c h e = absurd (omega arith)
read_back (_ ∷ []) c h e = absurd (omega arith)
read_back (_ ∷ _ ∷ []) c h e = absurd (omega arith)
read_back (_ ∷ _ ∷ _ ∷ []) c h e = absurd (omega arith)
read_back (_ ∷ _ ∷ _ ∷ _ ∷ []) c h e = absurd (omega arith)
read_back (_ ∷ _ ∷ _ ∷ _ ∷ _ ∷ []) c h e = absurd (omega arith)
read_back (_ ∷ _ ∷ _ ∷ _ ∷ _ ∷ _ ∷ []) c h e = absurd (omega arith)

-- a missing countdown is 0
pub long-enough : (w : List ℕ) → in_form (clock_at w) ≡ true → 7 ≤ length w
unfolding clock_at fitted
long-enough w e = go (dec_lt 6 (length w))
  where
    go : Dec (6 < length w) → 7 ≤ length w
    go (yes h) = h
    go (no h) =
        let none : get_or w 6 0 ≡ 0 = get_or-eq_default w 0 (omega (arith, h)) in
        let least : 1 ≤ 0 = simp none at (form-facts (clock_at w) e).countdown-least in
        omega arith

pub form-stays : (k : Call) (w : List ℕ) → in_form (clock_at w) ≡ true → in_form (clock_at (changed (called k) w).words) ≡ true
unfolding changed ended
form-stays k w e = go (eqb (refusal_number (called k (clock_at w)).answer) 27)
  where
    after : GuestClock
    after = (called k (clock_at w)).clock

    go : (b : Bool) → in_form (clock_at (cond b w (put_clock w after))) ≡ true
    go true = e
    go false = ap in_form (read_back w after (long-enough w e) (form-kept k _ e)) ∙ form-kept k _ e

error-some : (why : ClockError) → error_number why ≡ 0 → ⊥
error-some InvalidConfiguration e = omega arith
error-some Overflow e = omega arith
error-some OutOfForm e = omega arith

pub new-form : (w : List ℕ) (utc uptime : ℕ) (offset : ℤ) (mhz : ℕ) → (opened w (created utc uptime offset mhz)).number ≡ 0 → in_form (clock_at (opened w (created utc uptime offset mhz)).words) ≡ true
unfolding opened
new-form w utc uptime offset mhz = go (created utc uptime offset mhz) refl
  where
    put : (c : GuestClock) → in_form c ≡ true → (b : Bool) → ltb (length w) 7 ≡ b → (cond b (returned 27 w) (returned 0 (put_clock w c))).number ≡ 0 → in_form (clock_at (cond b (returned 27 w) (returned 0 (put_clock w c))).words) ≡ true
    put c e true t z = absurd (omega arith)
    put c e false t z = ap in_form (read_back w c (ltb-false _ _ t) e) ∙ e

    go : (r : Result GuestClock ClockError) → created utc uptime offset mhz ≡ r → (opened w r).number ≡ 0 → in_form (clock_at (opened w r).words) ≡ true
    go (Err why) made z = absurd (error-some why z)
    go (Ok c) made z = put c (new-in-form utc uptime offset mhz c made) (ltb (length w) 7) refl z
