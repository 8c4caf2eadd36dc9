-- When a timer is due again.
use Rattle.std.specs.Prelude.{ℕ, ◌+◌, ◌-◌, ◌*◌, ◌/◌, ◌^◌, Bool, cond, not, nat_lt}

-- with `step` ticks between one due and the next: the first of them past `time`
unfoldable pub next_by : ℕ → ℕ → ℕ → ℕ
next_by due time step = due + ((time - due) / step + 1) * step

-- document 01: due + ((now − due) div P + 1) × P, P = 10,000 × period in ms; with period 0, due
unfoldable pub next_due : ℕ → ℕ → ℕ → ℕ
next_due due time period = next_by due time (10000 * period)

-- document 01: the next due passes 2^64 − 1
unfoldable pub passes : ℕ → ℕ → ℕ → Bool
passes due time period = not (nat_lt (next_due due time period) (2 ^ 64))

unfoldable pub later_due : ℕ → ℕ → ℕ → ℕ
later_due due time period = cond (nat_lt (next_due due time period) (2 ^ 64)) (next_due due time period) due
