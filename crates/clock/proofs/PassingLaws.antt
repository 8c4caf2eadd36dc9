-- Of any clock: what an accepted call makes of the reads, and what a refused instruction leaves.
use Rattle.std.proofs.Common.{◌≡◌, ℕ, ◌+◌, ◌-◌, ◌*◌, ◌/◌, ◌%◌, ◌^◌, ◌<◌, ◌≤◌, Bool, true, false, cond, ◌&&◌, eqb, ltb, sym, refl, ap, ◌∙◌, true≢false, div-add-mod', arith, ltb-false, ltb-true, le-ltb, lt-ltb, eqb-true, Result, Ok, Err}
use mathlib.Core.Bool.{false≢true}
use Rattle.clock.specs.declared.GuestClock.{GuestClock}
use Rattle.clock.specs.declared.ClockError.TheVariants.{Overflow, OutOfForm}
use Rattle.clock.specs.declared.ClockError.{ClockError}
use Rattle.clock.specs.declared.Outcome.{Outcome}
use Rattle.clock.specs.Clock.{most_uptime, in_form, refused, done, if_fits, is_ok, when_in_form, read_in_form}
use Rattle.clock.specs.Clock.{advances, moved, advanced, advanced_microseconds, advance100ns, advance_microseconds, advance_milliseconds}
use Rattle.clock.specs.Clock.{with_cycles, flush_ticks, flushes, flushed, flush, flush_cycles, instructed, instruction, observe, ticks_of, qpc, tick64, tsc, on_reading, cycles_at}
use Rattle.clock.specs.Calls.{Advance100ns, AdvanceMicroseconds, AdvanceMilliseconds, FlushCycles, Observe, tried, Call, Instruction, Try, called}
use Rattle.clock.proofs.FormLaws.{InForm, form-facts, facts-form}
use Rattle.clock.proofs.ClockLaws.{moved-ticks, form-kept}
use Rattle.clock.specs.Passing.{microseconds_of, lasts, stamps, Passed, Kept, out_of_form, cycles_pass, flush_passes}

-- What the reads tell

-- a clock in form, its ticks, and whether they fit a word
record Ticks (c : GuestClock) (n : ℕ) : Type 0 where
  form : in_form c ≡ true
  count : ticks_of c ≡ n
  fits : n < 2 ^ 64

counted : (fits : Bool) → ℕ → Result ℕ ClockError
counted fits n = cond fits (Ok n) (Err Overflow)

qpc-form : (c : GuestClock) → in_form c ≡ true → qpc c ≡ counted (ltb (ticks_of c) (2 ^ 64)) (ticks_of c)
unfolding qpc read_in_form counted
qpc-form c e = simp e

qpc-ticks : (c : GuestClock) (n : ℕ) → qpc c ≡ Ok n → Ticks c n
unfolding qpc read_in_form
qpc-ticks c n = go (in_form c) (ltb (ticks_of c) (2 ^ 64)) refl refl
  where
    go : (b t : Bool) → in_form c ≡ b → ltb (ticks_of c) (2 ^ 64) ≡ t → cond b (cond t (Ok (ticks_of c)) (Err Overflow)) (Err OutOfForm) ≡ Ok n → Ticks c n
    go true true e f q =
        let same : ticks_of c ≡ n = cc in
        let room : ticks_of c < 2 ^ 64 = ltb-true _ _ f in
        record { form = e; count = same; fits = omega arith }
    go true false e f q = absurd (let z : ◌≡◌ {A = ℕ} 0 1 = cc in omega arith)
    go false t e f q = absurd (let z : ◌≡◌ {A = ℕ} 0 1 = cc in omega arith)

record Past (c : GuestClock) : Type 0 where
  form : in_form c ≡ true
  past : 2 ^ 64 ≤ ticks_of c

qpc-past : (c : GuestClock) → qpc c ≡ Err Overflow → Past c
unfolding qpc read_in_form
qpc-past c = go (in_form c) (ltb (ticks_of c) (2 ^ 64)) refl refl
  where
    go : (b t : Bool) → in_form c ≡ b → ltb (ticks_of c) (2 ^ 64) ≡ t → cond b (cond t (Ok (ticks_of c)) (Err Overflow)) (Err OutOfForm) ≡ Err Overflow → Past c
    go true true e f q = absurd (let z : ◌≡◌ {A = ℕ} 0 1 = cc in omega arith)
    go true false e f q = record { form = e; past = ltb-false _ _ f }
    go false t e f q = absurd (let z : ◌≡◌ {A = ℕ} 0 1 = cc in omega arith)

module _ (c : GuestClock) (e : in_form c ≡ true) where
  reads-ticks : (n : ℕ) → ticks_of c ≡ n → n < 2 ^ 64 → qpc c ≡ Ok n
  unfolding counted
  reads-ticks n p h = simp (qpc-form c e, p, lt-ltb n (2 ^ 64) h)

  reads-past : 2 ^ 64 ≤ ticks_of c → qpc c ≡ Err Overflow
  unfolding counted
  reads-past h = simp (qpc-form c e, le-ltb (ticks_of c) (2 ^ 64) h)

-- `tick64` reads the last multiple of 16 among the milliseconds of `qpc`
pub tick64-reads : (c : GuestClock) (n : ℕ) → qpc c ≡ Ok n → tick64 c ≡ Ok (n / 160000 * 16)
unfolding tick64 read_in_form
tick64-reads c n q = simp t-form (ap Ok (whole c.uptime_ms c.submillisecond_100ns (form-facts c t-form).ticks-most (qpc-ticks c n q).count))
  where
    t-form : in_form c ≡ true
    t-form = (qpc-ticks c n q).form

    whole : (uptime part : ℕ) → part < 10000 → uptime * 10000 + part ≡ n → uptime / 16 * 16 ≡ n / 160000 * 16
    whole uptime part h p = omega arith

-- and where `qpc` passes a word, that of the longest uptime
pub tick64-past : (c : GuestClock) → qpc c ≡ Err Overflow → tick64 c ≡ Ok 1844674407370944
unfolding tick64 read_in_form
tick64-past c q = simp p.form (ap Ok (last c.uptime_ms c.submillisecond_100ns f.ticks-most f.uptime-most p.past))
  where
    p : Past c
    p = qpc-past c q

    f : InForm c
    f = form-facts c p.form

    last : (uptime part : ℕ) → part < 10000 → uptime ≤ most_uptime → 2 ^ 64 ≤ uptime * 10000 + part → uptime / 16 * 16 ≡ 1844674407370944
    last uptime part h m l = omega arith

-- How time passes

-- a clock, and one that is `ticks` later
record Moves (c after : GuestClock) (ticks : ℕ) : Type 0 where
  count : ticks_of after ≡ ticks_of c + ticks
  utc : after.utc_filetime ≡ c.utc_filetime + ticks

passed : {c after : GuestClock} {ticks : ℕ} → (in_form c ≡ true → in_form after ≡ true) → Moves c after ticks → Passed c after ticks
passed {c} {after} {ticks} form m =
    record {
      reads = λ before q room. let t = qpc-ticks c before q in reads-ticks after (form t.form) (before + ticks) (omega arith) room;
      passes = λ before q past. let t = qpc-ticks c before q in reads-past after (form t.form) (omega arith);
      stays_past = λ q. let p = qpc-past c q in reads-past after (form p.form) (omega arith);
      utc = m.utc;
    }

moved-moves : (c : GuestClock) (ticks : ℕ) → Moves c (moved c ticks) ticks
unfolding moved
moved-moves c ticks = record { count = moved-ticks c ticks; utc = refl }

flushed-moves : (c : GuestClock) → Moves c (flushed c) (10 * microseconds_of c c.pending_cycles)
unfolding flushed flush_ticks moved
flushed-moves c = record { count = omega (arith, moved-ticks c (flush_ticks c)); utc = omega arith }

-- an accepted call is in form, and has the clock that fits
accepted-form : (c : GuestClock) (o : Outcome) → is_ok (when_in_form c o).answer ≡ true → (in_form c ≡ true) × (when_in_form c o ≡ o)
unfolding when_in_form
accepted-form c o = go (in_form c) refl
  where
    go : (b : Bool) → in_form c ≡ b → is_ok (cond b o (refused c OutOfForm)).answer ≡ true → (in_form c ≡ true) × (cond b o (refused c OutOfForm) ≡ o)
    go true e a = (e, refl)
    go false e a = absurd (false≢true a)

accepted-fits : (fits : Bool) (after c : GuestClock) → is_ok (if_fits fits after c).answer ≡ true → (if_fits fits after c).clock ≡ after
accepted-fits true after c a = refl
accepted-fits false after c a = absurd (false≢true a)

-- of a call that is a test with a clock that fits
fits_moves : (fits : Bool) (c after : GuestClock) (ticks : ℕ) → Moves c after ticks → is_ok (when_in_form c (if_fits fits after c)).answer ≡ true → Moves c (when_in_form c (if_fits fits after c)).clock ticks
fits_moves fits c after ticks m a =
    let (form, same) = accepted-form c (if_fits fits after c) a in
    let fit = accepted-fits fits after c (ap (λ (o : Outcome). is_ok o.answer) (sym same) ∙ a) in
    rw (same, fit) m

of_length : {c after : GuestClock} {a b : ℕ} → a ≡ b → Moves c after a → Moves c after b
of_length p m = record { count = omega arith; utc = omega arith }

-- a flush and a microsecond
observed-moves : (c : GuestClock) → Moves c (moved (flushed c) 10) (10 * (microseconds_of c c.pending_cycles + 1))
observed-moves c =
    let first = flushed-moves c in
    let second = moved-moves (flushed c) 10 in
    record { count = omega arith; utc = omega arith }

-- 100 cycles, and the flush with the last of each 1000
instructed-moves : (c : GuestClock) → is_ok (instructed c).answer ≡ true → Moves c (instructed c).clock (lasts Instruction c)
unfolding instructed lasts
instructed-moves c = go (ltb (c.pending_cycles + 100) (2 ^ 64)) (eqb c.until_flush 1)
  where
    added : ℕ → GuestClock
    added countdown = with_cycles c (c.pending_cycles + 100) countdown

    after : Bool → Bool → Outcome
    after fits last = cond fits (cond last (flush (added 1000)) (done (added (c.until_flush - 1)))) (refused c Overflow)

    go : (fits last : Bool) → is_ok (after fits last).answer ≡ true → Moves c (after fits last).clock (cond last (10 * microseconds_of c (c.pending_cycles + 100)) 0)
    go true true a =
        let m = flushed-moves (added 1000) in
        let same = accepted-fits (flushes (added 1000)) (flushed (added 1000)) (added 1000) a in
        rw same (record { count = m.count; utc = m.utc })
    go true false a = record { count = omega arith; utc = omega arith }
    go false last a = absurd (false≢true a)

moves : (k : Call) (c : GuestClock) → is_ok (called k c).answer ≡ true → Moves c (called k c).clock (lasts k c)
unfolding called tried lasts advance100ns advance_microseconds advance_milliseconds advanced_microseconds advanced flush_cycles observe instruction
moves (Try (Advance100ns ticks)) c a = fits_moves (advances c ticks) c (moved c ticks) ticks (moved-moves c ticks) a
moves (Try (AdvanceMicroseconds amount)) c a =
    of_length (let z : amount * 10 ≡ 10 * amount = omega arith in z) (fits_moves (advances c (amount * 10)) c (moved c (amount * 10)) (amount * 10) (moved-moves c (amount * 10)) a)
moves (Try (AdvanceMilliseconds amount)) c a =
    of_length (let z : amount * 1000 * 10 ≡ 10000 * amount = omega arith in z) (fits_moves (advances c (amount * 1000 * 10)) c (moved c (amount * 1000 * 10)) (amount * 1000 * 10) (moved-moves c (amount * 1000 * 10)) a)
moves (Try FlushCycles) c a = fits_moves (flushes c) c (flushed c) _ (flushed-moves c) a
moves (Try Observe) c a = fits_moves (flushes c && advances (flushed c) 10) c (moved (flushed c) 10) _ (observed-moves c) a
moves Instruction c a =
    let (form, same) = accepted-form c (instructed c) a in
    rw same (instructed-moves c (ap (λ (o : Outcome). is_ok o.answer) (sym same) ∙ a))

-- an accepted call makes `qpc` and the wall clock later by as much as it lasts
pub time-passes : (k : Call) (c : GuestClock) → is_ok (called k c).answer ≡ true → Passed c (called k c).clock (lasts k c)
time-passes k c a = passed (form-kept k c) (moves k c a)

-- The time stamp

-- a clock, and one that is some microseconds later with so many cycles more, pending or become time
record Runs (c after : GuestClock) (microseconds more : ℕ) : Type 0 where
  mhz : after.base_mhz ≡ c.base_mhz
  cycles : after.pending_cycles + microseconds * c.base_mhz ≡ c.pending_cycles + more

moved-runs : (c : GuestClock) (ticks microseconds : ℕ) → Runs c (moved c ticks) microseconds (microseconds * c.base_mhz)
unfolding moved
moved-runs c ticks microseconds = record { mhz = refl; cycles = refl }

flushed-runs : (c : GuestClock) → Runs c (flushed c) (microseconds_of c c.pending_cycles) 0
unfolding flushed moved
flushed-runs c = record { mhz = refl; cycles = omega (arith, div-add-mod' c.pending_cycles c.base_mhz) }

fits-runs : (fits : Bool) (c after : GuestClock) (d x : ℕ) → Runs c after d x → is_ok (when_in_form c (if_fits fits after c)).answer ≡ true → Runs c (when_in_form c (if_fits fits after c)).clock d x
fits-runs fits c after d x m a =
    let (form, same) = accepted-form c (if_fits fits after c) a in
    let fit = accepted-fits fits after c (ap (λ (o : Outcome). is_ok o.answer) (sym same) ∙ a) in
    rw (same, fit) m

-- what `tsc` reads is what `qpc` reads in cycles, and the pending ones
tsc-reads : (c : GuestClock) (a : ℕ) → tsc c ≡ Ok a → (n : ℕ) × (qpc c ≡ Ok n) × (cycles_at c n ≡ a)
unfolding tsc on_reading
tsc-reads c a = go (qpc c) refl
  where
    go : (r : Result ℕ ClockError) → qpc c ≡ r → on_reading (cycles_at c) r ≡ Ok a → (n : ℕ) × (qpc c ≡ Ok n) × (cycles_at c n ≡ a)
    go (Ok n) q e = (n, q, cc)
    go (Err why) q e = absurd (let z : ◌≡◌ {A = ℕ} 0 1 = cc in omega arith)

-- cycles that become time, and those added, modulo a word
wraps : (a b p p' x : ℕ) → p' + b ≡ p + x → ((a + b) % 2 ^ 64 + p') % 2 ^ 64 ≡ ((a % 2 ^ 64 + p) % 2 ^ 64 + x) % 2 ^ 64
wraps a b p p' x e = omega arith

cycles-sum : (before d m p p' x : ℕ) → p' + d * m ≡ p + x → ((before + 10 * d) * m / 10 % 2 ^ 64 + p') % 2 ^ 64 ≡ ((before * m / 10 % 2 ^ 64 + p) % 2 ^ 64 + x) % 2 ^ 64
cycles-sum before d m p p' x e =
    let whole : (before + 10 * d) * m / 10 ≡ before * m / 10 + d * m = omega arith in
    rw whole (wraps (before * m / 10) (d * m) p p' x e)

stamped : (c after : GuestClock) (d x a n : ℕ) → Moves c after (10 * d) → Runs c after d x → tsc c ≡ Ok a → qpc after ≡ Ok n → tsc after ≡ Ok ((a + x) % 2 ^ 64)
unfolding tsc on_reading
stamped c after d x a n m r t q =
    let (before, read, told) = tsc-reads c a t in
    let now = qpc-ticks after n q in
    let then = qpc-ticks c before read in
    let later : n ≡ before + 10 * d = omega arith in
    let sum = cycles-sum before d c.base_mhz c.pending_cycles after.pending_cycles x r.cycles in
    let is : cycles_at after n ≡ (a + x) % 2 ^ 64 = rw (later, r.mhz) (sum ∙ ap (λ (y : ℕ). (y + x) % 2 ^ 64) told) in
    simp q (ap Ok is)

-- how many whole microseconds a call lasts, and the cycles that it adds
record Adds (k : Call) (c after : GuestClock) : Type 0 where
  microseconds : ℕ
  length : lasts k c ≡ 10 * microseconds
  runs : Runs c after microseconds (stamps k c)

observed-runs : (c : GuestClock) → Runs c (moved (flushed c) 10) (microseconds_of c c.pending_cycles + 1) c.base_mhz
unfolding moved
observed-runs c =
    let first = flushed-runs c in
    record { mhz = first.mhz; cycles = omega arith }

instructed-runs : (c : GuestClock) → is_ok (instructed c).answer ≡ true → Adds Instruction c (instructed c).clock
unfolding instructed lasts stamps
instructed-runs c = go (ltb (c.pending_cycles + 100) (2 ^ 64)) (eqb c.until_flush 1) refl
  where
    added : ℕ → GuestClock
    added countdown = with_cycles c (c.pending_cycles + 100) countdown

    after : Bool → Bool → Outcome
    after fits last = cond fits (cond last (flush (added 1000)) (done (added (c.until_flush - 1)))) (refused c Overflow)

    go : (fits last : Bool) → eqb c.until_flush 1 ≡ last → is_ok (after fits last).answer ≡ true → Adds Instruction c (after fits last).clock
    go true true e a =
        let m = flushed-runs (added 1000) in
        let same = accepted-fits (flushes (added 1000)) (flushed (added 1000)) (added 1000) a in
        rw same (record { microseconds = microseconds_of c (c.pending_cycles + 100); length = simp e; runs = record { mhz = m.mhz; cycles = omega arith } })
    go true false e a = record { microseconds = 0; length = simp e; runs = record { mhz = refl; cycles = omega arith } }
    go false last e a = absurd (false≢true a)

adds : (k : Call) (c : GuestClock) → lasts k c % 10 ≡ 0 → is_ok (called k c).answer ≡ true → Adds k c (called k c).clock
unfolding called tried lasts stamps advance100ns advance_microseconds advance_milliseconds advanced_microseconds advanced flush_cycles observe instruction
adds (Try (Advance100ns ticks)) c w a =
    record { microseconds = ticks / 10; length = omega arith; runs = fits-runs (advances c ticks) c (moved c ticks) (ticks / 10) _ (moved-runs c ticks (ticks / 10)) a }
adds (Try (AdvanceMicroseconds amount)) c w a =
    record { microseconds = amount; length = refl; runs = fits-runs (advances c (amount * 10)) c (moved c (amount * 10)) amount _ (moved-runs c (amount * 10) amount) a }
adds (Try (AdvanceMilliseconds amount)) c w a =
    record {
      microseconds = 1000 * amount;
      length = omega arith;
      runs = fits-runs (advances c (amount * 1000 * 10)) c (moved c (amount * 1000 * 10)) (1000 * amount) _ (moved-runs c (amount * 1000 * 10) (1000 * amount)) a;
    }
adds (Try FlushCycles) c w a = record { microseconds = microseconds_of c c.pending_cycles; length = refl; runs = fits-runs (flushes c) c (flushed c) _ 0 (flushed-runs c) a }
adds (Try Observe) c w a =
    record {
      microseconds = microseconds_of c c.pending_cycles + 1;
      length = refl;
      runs = fits-runs (flushes c && advances (flushed c) 10) c (moved (flushed c) 10) _ _ (observed-runs c) a;
    }
adds Instruction c w a =
    let (form, same) = accepted-form c (instructed c) a in
    rw same (instructed-runs c (ap (λ (o : Outcome). is_ok o.answer) (sym same) ∙ a))

-- an accepted call that lasts whole microseconds adds its cycles to the time stamp, modulo a word: 100 for an instruction, none for a flush
pub time-stamp : (k : Call) (c : GuestClock) (a n : ℕ) → lasts k c % 10 ≡ 0 → is_ok (called k c).answer ≡ true → tsc c ≡ Ok a → qpc (called k c).clock ≡ Ok n → tsc (called k c).clock ≡ Ok ((a + stamps k c) % 2 ^ 64)
time-stamp k c a n w ok t q =
    let d = adds k c w ok in
    stamped c (called k c).clock d.microseconds (stamps k c) a n (of_length d.length (moves k c ok)) d.runs t q

-- The countdown

instructed-counts : (c : GuestClock) → is_ok (instructed c).answer ≡ true → (instructed c).clock.until_flush ≡ cond (eqb c.until_flush 1) 1000 (c.until_flush - 1)
unfolding instructed flushed
instructed-counts c = go (ltb (c.pending_cycles + 100) (2 ^ 64)) (eqb c.until_flush 1)
  where
    added : ℕ → GuestClock
    added countdown = with_cycles c (c.pending_cycles + 100) countdown

    after : Bool → Bool → Outcome
    after fits last = cond fits (cond last (flush (added 1000)) (done (added (c.until_flush - 1)))) (refused c Overflow)

    go : (fits last : Bool) → is_ok (after fits last).answer ≡ true → (after fits last).clock.until_flush ≡ cond last 1000 (c.until_flush - 1)
    go true true a = rw (accepted-fits (flushes (added 1000)) (flushed (added 1000)) (added 1000) a) refl
    go true false a = refl
    go false last a = absurd (false≢true a)

-- an accepted instruction counts down from 1000 to 1, and from 1 to 1000
pub counts-down : (c : GuestClock) → is_ok (instruction c).answer ≡ true → (instruction c).clock.until_flush ≡ cond (eqb c.until_flush 1) 1000 (c.until_flush - 1)
unfolding instruction
counts-down c a =
    let (form, same) = accepted-form c (instructed c) a in
    rw same (instructed-counts c (ap (λ (o : Outcome). is_ok o.answer) (sym same) ∙ a))

-- A refused instruction

refused-flush : (c : GuestClock) → in_form c ≡ true → c.until_flush ≡ 1 → (fits : Bool) → flushes (with_cycles c (c.pending_cycles + 100) 1000) ≡ fits
    → let counted = with_cycles c (c.pending_cycles + 100) 1000 in is_ok (if_fits fits (flushed counted) counted).answer ≡ false → Kept c (if_fits fits (flushed counted) counted).clock
unfolding flush_cycles when_in_form
refused-flush c e last true t a = absurd (true≢false a)
refused-flush c e last false t a =
    let counted = with_cycles c (c.pending_cycles + 100) 1000 in
    let f = form-facts c e in
    let form : in_form counted ≡ true = facts-form counted (record {
      ticks-most = f.ticks-most;
      countdown-least = omega arith;
      countdown-most = omega arith;
      mhz-least = f.mhz-least;
      mhz-most = f.mhz-most;
      uptime-most = f.uptime-most;
      offset = f.offset;
    }) in
    flush_passes last (simp (form, t)) refl

pub refused-instruction : (c : GuestClock) → is_ok (instruction c).answer ≡ false → Kept c (instruction c).clock
unfolding instruction when_in_form instructed
refused-instruction c = go (in_form c) (ltb (c.pending_cycles + 100) (2 ^ 64)) (eqb c.until_flush 1) refl refl refl
  where
    added : ℕ → GuestClock
    added countdown = with_cycles c (c.pending_cycles + 100) countdown

    after : Bool → Bool → Bool → Outcome
    after form fits last = cond form (cond fits (cond last (flush (added 1000)) (done (added (c.until_flush - 1)))) (refused c Overflow)) (refused c OutOfForm)

    go : (form fits last : Bool) → in_form c ≡ form → ltb (c.pending_cycles + 100) (2 ^ 64) ≡ fits → eqb c.until_flush 1 ≡ last → is_ok (after form fits last).answer ≡ false → Kept c (after form fits last).clock
    go false fits last f l e a = out_of_form f refl
    go true false last f l e a = cycles_pass (ltb-false _ _ l) refl
    go true true false f l e a = absurd (true≢false a)
    go true true true f l e a = refused-flush c f (eqb-true _ _ e) (flushes (added 1000)) refl a
