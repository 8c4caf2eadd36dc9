-- The next due by remainder, and where it passes 2^64 - 1.
use Rattle.std.proofs.Common.{◌≡◌, ℕ, ◌+◌, ◌-◌, ◌*◌, ◌/◌, ◌%◌, ◌^◌, ◌<◌, ◌≤◌, sym, ap, ◌∙◌, subst, add-zero, add-mul, one-mul, mul-zero, div-add-mod', arith, lt-ltb, Some, None, is_some, unwrap_or, Bool, true, false, not, cond, ltb, refl, true≢false}
use native.Mathlib.Nat.{zero-div, mod-le}
use Rattle.wide.specs.Checked.{checked}
use Rattle.wide.proofs.CheckedLaws.{passing}
use Rattle.expiry.specs.Next.{next_by, next_due}

-- ---- the next due by remainder

sum-late : (due time p r step : ℕ) → p + r ≡ time - due → due ≤ time → due + (p + step) ≡ time - r + step
sum-late due time p r step e h = omega arith

steps : (q step : ℕ) → (q + 1) * step ≡ q * step + step
steps q step = add-mul q 1 step ∙ ap (λ (n : ℕ). q * step + n) (one-mul step)

pub next-late : (due time step : ℕ) → due ≤ time → next_by due time step ≡ time - (time - due) % step + step
unfolding next_by
next-late due time step h =
    ap (λ (n : ℕ). due + n) (steps ((time - due) / step) step)
    ∙ sum-late due time ((time - due) / step * step) ((time - due) % step) step (div-add-mod' (time - due) step) h

pub next-early : (due time step : ℕ) → time < due → next_by due time step ≡ due + step
unfolding next_by
next-early due time step h =
    ap (λ (n : ℕ). due + (n / step + 1) * step) (let z : time - due ≡ 0 = omega arith in z)
    ∙ ap (λ (n : ℕ). due + (n + 1) * step) (zero-div step) ∙ ap (λ (n : ℕ). due + n) (one-mul step)

-- ---- against 2^64

pub none-is : (n : ℕ) (b : Bool) → is_some (checked n) ≡ not b → b ≡ not (ltb n (2 ^ 64))
unfolding checked
none-is n = go (ltb n (2 ^ 64))
  where
    go : (t b : Bool) → is_some (cond t (Some n) None) ≡ not b → b ≡ not t
    go true true e = absurd (true≢false e)
    go true false e = refl
    go false true e = refl
    go false false e = absurd (true≢false (sym e))

pub value-or : (n other : ℕ) → unwrap_or (checked n) other ≡ cond (ltb n (2 ^ 64)) n other
unfolding checked
value-or n other = go (ltb n (2 ^ 64))
  where
    go : (t : Bool) → unwrap_or (cond t (Some n) None) other ≡ cond t n other
    go true = refl
    go false = refl

-- a timer of period 0 keeps its due
pub one-shot : (due time period : ℕ) → due < 2 ^ 64 → period ≡ 0 → Some due ≡ checked (next_due due time period)
unfolding next_due next_by checked
one-shot due time period h e = sym (simp (e, mul-zero, add-zero, lt-ltb due (2 ^ 64) h))

-- ticks between dues that pass 2^64 - 1 make the next due pass it
pub step-passes : (due time period : ℕ) → 2 ^ 64 ≤ 10000 * period → None ≡ checked (next_due due time period)
unfolding next_due next_by
step-passes due time period h =
    passing _ (λ l. omega (arith, above due ((time - due) / (10000 * period)) (10000 * period) h))
  where
    above : (d q p : ℕ) → 2 ^ 64 ≤ p → 2 ^ 64 ≤ d + (q + 1) * p
    above d q p h = subst (λ (n : ℕ). 2 ^ 64 ≤ d + n) (sym (steps q p)) (let m : (x y z : ℕ) → 2 ^ 64 ≤ z → 2 ^ 64 ≤ x + (y + z) = λ x y z l. omega arith in m d (q * p) p h)

pub rest-most : (due time step : ℕ) → (time - due) % step ≤ time
rest-most due time step = let h : (time - due) % step ≤ time - due = mod-le (time - due) step in omega arith
