use Rattle.std.proofs.Common.{arith, rules, to_z-of_z, w32, SFits}
use Rattle.clock.specs.Clock.{moved}
use Rattle.clock.proofs.AdvanceLaws.{advance-facts, facts-advance}
use Rattle.clock.proofs.by_value.moved.Goals as goal

pub returns-in_err-utc_filetime : goal.returns-in_err-utc_filetime
returns-in_err-utc_filetime c = rw c.from_residual.ensures (λ e. c.in_err-utc_filetime.ensures (advance-facts _ _ e).utc-fits)

pub returns-in_err-fraction : goal.returns-in_err-fraction
returns-in_err-fraction c = rw c.from_residual-in_err-fraction.ensures (λ e. c.in_err-fraction.ensures (advance-facts _ _ e).fraction-fits)

pub returns-in_err-uptime_ms : goal.returns-in_err-uptime_ms
returns-in_err-uptime_ms c = rw c.from_residual-in_err-uptime_ms.ensures (λ e. c.in_err-uptime_ms.ensures (omega (arith, (advance-facts _ _ e).uptime-most, c.in_ok-fraction.ensures)))

pub returns-then-uptime_ms-gt-MOST_UPTIME_MS : goal.returns-then-uptime_ms-gt-MOST_UPTIME_MS
returns-then-uptime_ms-gt-MOST_UPTIME_MS c = λ e. omega (arith, (advance-facts _ _ e).uptime-most)

pub returns : goal.returns
unfolding moved
returns c =
    let offset : SFits w32 c.args.c.utc_offset_minutes = search rules in
    let (utc, utc-is) = c.in_ok-utc_filetime.ensures in
    let (part, part-is) = c.in_ok-fraction.ensures in
    let uptime-is = c.in_ok-uptime_ms.ensures.1 in
    (facts-advance _ _ (record { utc-fits = utc; fraction-fits = part; uptime-most = omega arith }), simp (to_z-of_z offset, utc-is, uptime-is, part-is))
