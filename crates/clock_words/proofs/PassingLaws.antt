-- The clock that a call leaves in its words, and so what the reads answer behind it; and the words that a refused instruction leaves.
use Rattle.std.proofs.Common.{◌≡◌, ℕ, ◌+◌, ◌-◌, ◌*◌, ◌^◌, Bool, true, false, cond, ◌&&◌, eqb, ltb, ◌⊎◌, List, get_or, set, Result}
use mathlib.Core.Path.{refl, sym, ap, ◌∙◌}
use mathlib.Core.Logic.{inl, inr}
use native.Mathlib.Omega.{arith}
use lib.Seq.{set-get_or}
use Rattle.clock.specs.declared.GuestClock.{GuestClock}
use Rattle.clock.specs.declared.ClockError.TheVariants.{Overflow}
use Rattle.clock.specs.declared.ClockError.{ClockError}
use Rattle.clock.specs.declared.Outcome.{Outcome}
use Rattle.clock.specs.Numbers.{refusal_number}
use Rattle.clock.specs.Clock.{in_form, refused, done, if_fits, when_in_form, advances, advanced, advanced_microseconds, advance100ns, advance_microseconds, advance_milliseconds}
use Rattle.clock.specs.Clock.{with_cycles, flushes, flushed, flush, flush_cycles, instructed, instruction, observe}
use Rattle.clock.specs.Calls.{Advance100ns, AdvanceMicroseconds, AdvanceMilliseconds, FlushCycles, Observe, tried, Call, Instruction, Try, called}
use Rattle.clock.specs.Passing.{Kept, out_of_form, cycles_pass, flush_passes}
use Rattle.clock.proofs.FormLaws.{form-facts}
use Rattle.clock.proofs.ClockLaws.{form-kept}
use Rattle.clock.proofs.PassingLaws.{refused-instruction}
use Rattle.clock_words.specs.ClockWords.{fitted, offset_at, offset_word, clock_at, put_clock, changed, ended, answered, read_into}
use Rattle.clock_words.proofs.OffsetLaws.{word-of-offset}
use Rattle.clock_words.proofs.WordLaws.{not-ok, same-words, read_back, long-enough, fitted-word}

-- a clock in form is not refused by 27
abbrev In : Outcome → Type 0
In o = eqb (refusal_number o.answer) 27 ≡ false

fits_in : (fits : Bool) (after c : GuestClock) → In (if_fits fits after c)
fits_in true after c = refl
fits_in false after c = refl

instructed-in : (c : GuestClock) → In (instructed c)
unfolding instructed
instructed-in c = go (ltb (c.pending_cycles + 100) (2 ^ 64)) (eqb c.until_flush 1)
  where
    added : ℕ → GuestClock
    added countdown = with_cycles c (c.pending_cycles + 100) countdown

    go : (fits last : Bool) → In (cond fits (cond last (flush (added 1000)) (done (added (c.until_flush - 1)))) (refused c Overflow))
    go true true = fits_in (flushes (added 1000)) (flushed (added 1000)) (added 1000)
    go true false = refl
    go false last = refl

in-form-in : (k : Call) (c : GuestClock) → in_form c ≡ true → In (called k c)
unfolding called tried when_in_form advance100ns advance_microseconds advance_milliseconds advanced_microseconds advanced flush_cycles observe instruction
in-form-in Instruction c e = simp e (instructed-in c)
in-form-in (Try (Advance100ns ticks)) c e = simp e (fits_in (advances c ticks) _ c)
in-form-in (Try (AdvanceMicroseconds amount)) c e = simp e (fits_in (advances c (amount * 10)) _ c)
in-form-in (Try (AdvanceMilliseconds amount)) c e = simp e (fits_in (advances c (amount * 1000 * 10)) _ c)
in-form-in (Try FlushCycles) c e = simp e (fits_in (flushes c) _ c)
in-form-in (Try Observe) c e = simp e (fits_in (flushes c && advances (flushed c) 10) _ c)

module _ (k : Call) (w : List ℕ) (e : in_form (clock_at w) ≡ true) where
  -- the words hold the clock that the call leaves
  pub clock-left : clock_at (changed (called k) w).words ≡ (called k (clock_at w)).clock
  unfolding changed ended
  clock-left = simp (in-form-in k (clock_at w) e) (read_back w (called k (clock_at w)).clock (long-enough w e) (form-kept k _ e))

  -- so a read behind the call answers what it answers of that clock
  pub reads-behind : (read : GuestClock → Result ℕ ClockError) (out : List ℕ) → read_into read (changed (called k) w).words out ≡ answered out (read (called k (clock_at w)).clock)
  unfolding read_into
  reads-behind read out = simp clock-left

-- a clock in form with other cycles: two words differ
cycles-words : (w : List ℕ) (pending countdown : ℕ) → in_form (clock_at w) ≡ true → put_clock w (with_cycles (clock_at w) pending countdown) ≡ set (set w 5 pending) 6 countdown
unfolding put_clock clock_at
cycles-words w pending countdown e =
    let f = form-facts (clock_at w) e in
    let ticks : fitted 4294967295 (get_or w 2 0) 10000 ≡ get_or w 2 0 = fitted-word _ _ _ (λ q. omega arith) in
    let offset : offset_word (offset_at (get_or w 3 0)) ≡ get_or w 3 0 = word-of-offset _ f.offset in
    let mhz : fitted 4294967295 (get_or w 4 0) 0 ≡ get_or w 4 0 = fitted-word _ _ _ (λ q. omega arith) in
    simp (ticks, offset, mhz, set-get_or)

countdown-word : (w : List ℕ) → in_form (clock_at w) ≡ true → (clock_at w).until_flush ≡ get_or w 6 0
unfolding clock_at
countdown-word w e =
    let f = form-facts (clock_at w) e in
    fitted-word _ _ _ (λ q. omega arith)

pending-word : (w : List ℕ) → (clock_at w).pending_cycles ≡ get_or w 5 0
unfolding clock_at
pending-word w = refl

-- what a refused instruction leaves: no word changed; or, where its flush is refused, the 100 cycles in word 5 and the countdown of 1000 in word 6
abbrev Leaves : List ℕ → List ℕ → Type 0
Leaves w after = (after ≡ w) ⊎ ((get_or w 6 0 ≡ 1) × (after ≡ set (set w 5 (get_or w 5 0 + 100)) 6 1000))

kept-words : (w : List ℕ) (after : GuestClock) → in_form (clock_at w) ≡ true → Kept (clock_at w) after → Leaves w (put_clock w after)
kept-words w after e (out_of_form out same) = inl (ap (put_clock w) same ∙ same-words w e)
kept-words w after e (cycles_pass h same) = inl (ap (put_clock w) same ∙ same-words w e)
kept-words w after e (flush_passes last flush same) =
    inr (sym (countdown-word w e) ∙ last, ap (put_clock w) same ∙ (cycles-words w _ 1000 e ∙ ap (λ (n : ℕ). set (set w 5 (n + 100)) 6 1000) (pending-word w)))

pub instruction-refused : (w : List ℕ) → ((changed instruction w).number ≡ 0 → ⊥)
    → ((changed instruction w).words ≡ w) ⊎ ((get_or w 6 0 ≡ 1) × ((changed instruction w).words ≡ set (set w 5 (get_or w 5 0 + 100)) 6 1000))
unfolding changed ended
instruction-refused w n = go (in_form (clock_at w)) refl
  where
    out : in_form (clock_at w) ≡ false → eqb (refusal_number (instruction (clock_at w)).answer) 27 ≡ true
    out e = unfold instruction when_in_form in simp e

    go : (b : Bool) → in_form (clock_at w) ≡ b → Leaves w (changed instruction w).words
    go true e =
        let inside : eqb (refusal_number (instruction (clock_at w)).answer) 27 ≡ false = unfold called in in-form-in Instruction (clock_at w) e in
        rw inside (kept-words w (instruction (clock_at w)).clock e (refused-instruction (clock_at w) (not-ok (instruction (clock_at w)).answer n)))
    go false e = inl (rw (out e) refl)
